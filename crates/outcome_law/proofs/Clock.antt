-- A tick, for a unit whose answer is awaited.
use Rattle.std.proofs.Common.{◌≡◌, ◌⊎◌, inl, inr, ℕ, suc, ◌+◌, ◌-◌, ◌%◌, ◌<◌, ◌≤◌, true, false, List, [], ◌∷◌, ◌++◌, length, Some, None, refl, sym, ◌∙◌, ap, subst, arith, append_assoc, length-append}
use Rattle.std.specs.Prelude.{Bool, Option, ◌==◌, ◌&&◌, ◌||◌, nat_le, map, if◌then◌else◌, unwrap_or}
use Rattle.std.proofs.lemmas.Bool.{cases_Bool, cases_lt, false≢true, both_ways, eq-eqb, ne_eqb, eqb-true, and_parts, and_from, leb-true, leb-false, le-leb, lt-leb, or_parts}
use Rattle.std.proofs.lemmas.List.{append-nil}
use Rattle.std.proofs.Math.Nat.{add-mod_right}
use Rattle.bay_core.proofs.Ticking.{some_cons, left_nil, right_nil, bodies, held_bodies, turned, head_of, tail_of, on_none, on_one, turn_word, way_none, way_lone, before_last, missed_not, words_front}
use Rattle.bay_core.specs.Joint.{HoldsAtMost, IsLoneHeld, held_of}
use Rattle.doip_frame.specs.Frame.{stream_of}
use Rattle.flash_base.specs.Lists.{Each}
use Rattle.flash_plan.specs.declared.unit.UnitPlan.{UnitPlan}
use Rattle.run_model.proofs.Hearing.{found_address}
use Rattle.run_model.proofs.Moving.{due_words}
use Rattle.run_model.specs.Connected.{IsConnected}
use Rattle.run_model.specs.Link.{Link, quiet_link}
use Rattle.run_model.specs.Script.{bytes_at}
use Rattle.run_model.specs.Talk.{Talk}
use Rattle.run_model.specs.Ways.{UnitMessage, Reply, AreWholeFrames, messages_from, messages_in, messages_later, messages_held, on_way, ascends_for, has_no_message}
use Rattle.uds_codec.specs.Request.{sid_of}
use Rattle.unit_model.proofs.Units.{SameState, SameIn, raised_same}
use Rattle.unit_model.specs.Feed.{tester_of}
use Rattle.unit_model.specs.Poll.{bytes_due, not_due, is_turn, raises, raised_by, ticked}
use Rattle.unit_model.specs.Step.{is_late, raise_if, pending_bytes}
use Rattle.flash_base.specs.Counts.{one_more}
use Rattle.unit_model.specs.Unit.{ControlUnit}
use Rattle.unit_model.specs.Vehicle.{HeldAnswer, Gateway, Vehicle, unit_at}
use Rattle.outcome_law.proofs.Growing.{VehicleGrows, ticks_up, raises_at}
use Rattle.outcome_law.proofs.Waiting.{IsAwaited, awaits_on, timed_on, heard_on}
use Rattle.outcome_law.specs.Counting.{Kept, KeptIn, IsHeardCounted, IsAwaitCounted, dues, come, IsHeldTimed, IsOnTime}
use Rattle.outcome_law.specs.Rising.{Rose, Grows}

-- ------ held answers of one unit after a tick
pub one_is : (a : ℕ) (held : List HeldAnswer) (x y : HeldAnswer) → held_of a held ≡ x ∷ [] → held_of a held ≡ y ∷ [] → y ≡ x
one_is a held x y e f = ap (head_of x) (sym f ∙ e)

-- ------ what a tick raises
abbrev opt : (ControlUnit → ControlUnit) → Option ControlUnit → Option ControlUnit
opt f None = None
opt f (Some u) = Some (f u)

mapped_at : (f : ControlUnit → ControlUnit) → ((u : ControlUnit) → (f u).address ≡ u.address) → (us : List ControlUnit) (a : ℕ) → unit_at (map f us) a ≡ opt f (unit_at us a)
mapped_at f same [] a = refl
mapped_at f same (u ∷ us) a = elim (cases_Bool (u.address == a)) [
  | inl e ↦ let g : ((f u).address == a) ≡ true = ap (λ (k : ℕ). k == a) (same u) ∙ e in rw (e, g) refl
  | inr e ↦ let g : ((f u).address == a) ≡ false = ap (λ (k : ℕ). k == a) (same u) ∙ e in rw (e, g) (mapped_at f same us a)
]

-- another unit's held answer raises nothing
other_raises : (tick : ℕ) (h : HeldAnswer) (us : List ControlUnit) (a : ℕ) → (h.unit == a) ≡ false → unit_at (map (raises tick h) us) a ≡ unit_at us a
other_raises tick h us a apart = mapped_at (raises tick h) (raises_at tick h) us a ∙ go (unit_at us a) refl
  where
    go : (o : Option ControlUnit) → unit_at us a ≡ o → opt (raises tick h) o ≡ o
    go None is = refl
    go (Some u) is =
        let at : u.address ≡ a = found_address us a u is in
        let no : (u.address == h.unit) ≡ false = ne_eqb u.address h.unit (λ q. both_ways _ apart (eq-eqb h.unit a (sym q ∙ at))) in
        rw no refl

raised_none : (tick a : ℕ) (held : List HeldAnswer) (us : List ControlUnit) → held_of a held ≡ [] → unit_at (raised_by tick held us) a ≡ unit_at us a
raised_none tick a [] us e = refl
raised_none tick a (h ∷ hs) us e = elim (cases_Bool (h.unit == a)) [
  | inl f ↦ absurd (some_cons h (held_of a hs) (rw f at e))
  | inr f ↦ raised_none tick a hs (map (raises tick h) us) (rw f at e) ∙ other_raises tick h us a f
]

raised_one : (tick a : ℕ) (held : List HeldAnswer) (us : List ControlUnit) (one : HeldAnswer) → held_of a held ≡ one ∷ [] → unit_at (raised_by tick held us) a ≡ opt (raises tick one) (unit_at us a)
raised_one tick a [] us one e = absurd (some_cons one [] (sym e))
raised_one tick a (h ∷ hs) us one e = elim (cases_Bool (h.unit == a)) [
  | inl f ↦
      let e2 : h ∷ held_of a hs ≡ one ∷ [] = rw f at e in
      raised_none tick a hs (map (raises tick h) us) (ap tail_of e2) ∙ mapped_at (raises tick h) (raises_at tick h) us a ∙ (λ i. opt (raises tick (head_of h (e2 i))) (unit_at us a))
  | inr f ↦ raised_one tick a hs (map (raises tick h) us) one (rw f at e) ∙ ap (opt (raises tick one)) (other_raises tick h us a f)
]

held_unit : (a : ℕ) (held : List HeldAnswer) (one : HeldAnswer) → held_of a held ≡ one ∷ [] → one.unit ≡ a
held_unit a [] one e = absurd (some_cons one [] (sym e))
held_unit a (h ∷ hs) one e = elim (cases_Bool (h.unit == a)) [
  | inl f ↦ let e2 : h ∷ held_of a hs ≡ one ∷ [] = rw f at e in ap (λ (x : HeldAnswer). x.unit) (sym (ap (head_of h) e2)) ∙ eqb-true h.unit a f
  | inr f ↦ held_unit a hs one (rw f at e)
]

some_is : (u w : ControlUnit) → Some u ≡ Some w → u ≡ w
some_is u w e = ap (λ (o : Option ControlUnit). unwrap_or o u) e

-- the counts of the unit with the held answer
raised_unit : (tick a : ℕ) (held : List HeldAnswer) (us : List ControlUnit) (one : HeldAnswer) (u w : ControlUnit) → held_of a held ≡ one ∷ [] → unit_at us a ≡ Some u → unit_at (raised_by tick held us) a ≡ Some w
    → (w.counts.late ≡ raise_if (nat_le 1000 one.every && tick == one.from + 1000) u.counts.late) × (w.counts.stalled ≡ raise_if (is_turn tick one && one.pending == 200) u.counts.stalled)
raised_unit tick a held us one u w e old new =
    let is : raises tick one u ≡ w = some_is _ _ (ap (opt (raises tick one)) (sym old) ∙ sym (raised_one tick a held us one e) ∙ new) in
    let same : (u.address == one.unit) ≡ true = eq-eqb u.address one.unit (found_address us a u old ∙ sym (held_unit a held one e)) in
    (sym (ap (λ (x : ControlUnit). x.counts.late) is) ∙ rw same refl, sym (ap (λ (x : ControlUnit). x.counts.stalled) is) ∙ rw same refl)

raised_rose : (b : Bool) (first old new : ℕ) → b ≡ true → Grows first old → new ≡ raise_if b old → Rose first new
raised_rose b first old new on grows is = let at : new ≡ one_more old = is ∙ ap (λ (x : Bool). raise_if x old) on in omega (arith, grows, at)

-- ------ the ticks at which messages are due
module _ (tester a : ℕ) where
  abbrev words : List ℕ → List UnitMessage
  words bytes = messages_in tester a (stream_of bytes).frames

  pub dues_none : (queue : List (ℕ × List ℕ)) → messages_later tester a queue ≡ [] → dues tester a queue ≡ []
  dues_none [] e = refl
  dues_none (q ∷ qs) e =
      let here : has_no_message (words q.1) ≡ true = ap has_no_message (left_nil (words q.1) (messages_later tester a qs) e) in
      rw here (dues_none qs (right_nil (words q.1) (messages_later tester a qs) e))

  empty_is : (ws : List UnitMessage) → has_no_message ws ≡ true → ws ≡ []
  empty_is [] e = refl
  empty_is (x ∷ xs) e = absurd (false≢true e)

  pub none_dues : (queue : List (ℕ × List ℕ)) → dues tester a queue ≡ [] → messages_later tester a queue ≡ []
  none_dues [] e = refl
  none_dues (q ∷ qs) e = elim (cases_Bool (has_no_message (words q.1))) [
    | inl f ↦ (λ i. empty_is (words q.1) f i ++ none_dues qs (rw f at e) i)
    | inr f ↦ absurd (some_cons q.0 (dues tester a qs) (rw f at e))
  ]

  all_after : (tick from : ℕ) (queue : List (ℕ × List ℕ)) → tick < from → ascends_for tester a from queue ≡ true → dues tester a (not_due tick queue) ≡ dues tester a queue
  all_after tick from [] lt up = refl
  all_after tick from (q ∷ qs) lt up = elim (cases_Bool (has_no_message (words q.1))) [
    | inl e ↦
        let rest = all_after tick from qs lt (rw e at up) in
        elim (cases_Bool (nat_le q.0 tick)) [ inl d ↦ rw (d, e) rest | inr d ↦ rw d (rw e rest) ]
    | inr e ↦
        let parts = and_parts (nat_le from q.0) (ascends_for tester a q.0 qs) (rw e at up) in
        let after : tick < q.0 = omega (arith, lt, leb-true from q.0 parts.0) in
        let d : nat_le q.0 tick ≡ false = lt-leb q.0 tick after in
        rw d (rw e (ap (λ (ds : List ℕ). q.0 ∷ ds) (all_after tick q.0 qs after parts.1)))
  ]

  tick_dues : (tick p from : ℕ) (queue : List (ℕ × List ℕ)) → Each (λ q. AreWholeFrames q.1) queue → ascends_for tester a from queue ≡ true → Each (λ d. tick < d) (dues tester a queue) → is_late p (dues tester a queue) ≡ false
      → (dues tester a (not_due (tick + 1) queue) ≡ dues tester a queue) ⊎ ((words (bytes_due (tick + 1) queue) ≡ [] → ⊥) × (is_late (tick + 1) (dues tester a (not_due (tick + 1) queue)) ≡ false))
  tick_dues tick p from [] whole up after late = inl refl
  tick_dues tick p from (q ∷ qs) whole up after late = elim (cases_Bool (has_no_message (words q.1))) [
    | inl e ↦
        let rest = tick_dues tick p from qs whole.1 (rw e at up) (rw e at after) (rw e at late) in
        elim (cases_Bool (nat_le q.0 (tick + 1))) [
          | inl d ↦ rw (d, e) (elim rest [
            | inl same ↦ inl same
            | inr (some, on) ↦ inr (λ z. some (right_nil (words q.1) (words (bytes_due (tick + 1) qs)) (sym (words_front tester a q.1 (bytes_due (tick + 1) qs) whole.0) ∙ z)), on)
          ])
          | inr d ↦ rw d (rw e rest)
        ]
    | inr e ↦
        let parts = and_parts (nat_le from q.0) (ascends_for tester a q.0 qs) (rw e at up) in
        let after2 : Each (λ d. tick < d) (q.0 ∷ dues tester a qs) = rw e at after in
        let first : tick < q.0 = after2.0 in
        let late2 = or_parts (nat_le (p + 1000) q.0) (is_late q.0 (dues tester a qs)) (rw e at late) in
        elim (cases_Bool (nat_le q.0 (tick + 1))) [
          | inl d ↦
              let is : q.0 ≡ tick + 1 = omega (arith, first, leb-true q.0 (tick + 1) d) in
              rw d (inr (
                λ z. both_ways _ e (ap has_no_message (left_nil (words q.1) (words (bytes_due (tick + 1) qs)) (sym (words_front tester a q.1 (bytes_due (tick + 1) qs) whole.0) ∙ z))),
                elim (tick_dues tick q.0 q.0 qs whole.1 parts.1 after2.1 late2.1) [
                  | inl same ↦ ap (λ (ds : List ℕ). is_late (tick + 1) ds) same ∙ ap (λ (k : ℕ). is_late k (dues tester a qs)) (sym is) ∙ late2.1
                  | inr (some, on) ↦ on
                ],
              ))
          | inr d ↦ rw d (rw e (inl (ap (λ (ds : List ℕ). q.0 ∷ ds) (all_after (tick + 1) q.0 qs (leb-false q.0 (tick + 1) d) parts.1))))
        ]
  ]

  after_tick : (tick : ℕ) (queue : List (ℕ × List ℕ)) → Each (λ d. tick < d) (dues tester a (not_due tick queue))
  after_tick tick [] = tt
  after_tick tick (q ∷ qs) = elim (cases_Bool (nat_le q.0 tick)) [
    | inl d ↦ rw d (after_tick tick qs)
    | inr d ↦ rw d (elim (cases_Bool (has_no_message (words q.1))) [
      | inl e ↦ rw e (after_tick tick qs)
      | inr e ↦ rw e (leb-false q.0 tick d, after_tick tick qs)
    ])
  ]

-- ------ one unit
no_words : (ws : List UnitMessage) → length ws ≡ 0 → ws ≡ []
no_words [] e = refl
no_words (w ∷ ws) e = absurd (omega (arith, e))

module _ (tester : ℕ) (plan : UnitPlan) (found : ℕ → Bool) (t0 : ℕ) (t : Talk) (l : Link) (first v : Vehicle) (c : IsConnected tester l v.gateway) (none : v.gateway.ready ≡ []) (order : ascends_for tester plan.address v.gateway.tick v.gateway.later ≡ true) where
  abbrev a : ℕ
  a = plan.address

  abbrev next : Gateway
  next = (ticked v).gateway

  abbrev D : List UnitMessage
  D = messages_in tester plan.address (stream_of (bytes_due (v.gateway.tick + 1) v.gateway.later)).frames

  grows : VehicleGrows v (ticked v)
  grows = ticks_up v (ticked v) (record { none = none; becomes = refl })

  same : SameIn (unit_at v.units plan.address) (unit_at (ticked v).units plan.address)
  same = raised_same (v.gateway.tick + 1) v.gateway.held v.units plan.address

  due : D ++ messages_later tester plan.address (not_due (v.gateway.tick + 1) v.gateway.later) ≡ messages_later tester plan.address v.gateway.later
  due = due_words tester plan.address (v.gateway.tick + 1) v.gateway.tick v.gateway.later c.later order

  later_on : messages_later tester plan.address v.gateway.later ≡ [] → messages_later tester plan.address next.later ≡ []
  later_on e = right_nil D _ (due ∙ e)

  -- ------ nothing of the unit is held
  module _ (empty : held_of plan.address v.gateway.held ≡ []) where
    free_way : on_way tester plan.address l.inbox l.rest next ≡ on_way tester plan.address l.inbox l.rest v.gateway
    free_way = way_none tester plan.address l.inbox l v.gateway c none order empty

    free_held : held_of plan.address next.held ≡ []
    free_held = on_none plan.address (v.gateway.tick + 1) v.gateway.held empty

    -- where nothing has come then, nothing had come, and nothing was due
    free_come : come tester plan.address l.inbox l.rest next ≡ [] → (come tester plan.address l.inbox l.rest v.gateway ≡ []) × (D ≡ [])
    free_come e =
        let n : length (come tester plan.address l.inbox l.rest v.gateway) + (length (messages_later tester plan.address v.gateway.later) + 0) ≡ length (come tester plan.address l.inbox l.rest next) + (length (messages_later tester plan.address next.later) + 0) = sizes in
        let m : length D + length (messages_later tester plan.address next.later) ≡ length (messages_later tester plan.address v.gateway.later) = sym (length-append D _) ∙ ap (λ (ws : List UnitMessage). length ws) due in
        let z : length (come tester plan.address l.inbox l.rest next) ≡ 0 = ap (λ (ws : List UnitMessage). length ws) e in
        (no_words _ (omega (arith, n, m, z)), no_words _ (omega (arith, n, m, z)))
      where
        size : (g : Gateway) → held_of plan.address g.held ≡ [] → length (on_way tester plan.address l.inbox l.rest g) ≡ length (come tester plan.address l.inbox l.rest g) + (length (messages_later tester plan.address g.later) + 0)
        size g h =
            ap (λ (ws : List UnitMessage). length ws) (sym (append_assoc (messages_from plan.address l.inbox) (messages_in tester plan.address (stream_of (l.rest ++ g.ready)).frames) (messages_later tester plan.address g.later ++ messages_held plan.address g.held)))
            ∙ length-append (come tester plan.address l.inbox l.rest g) (messages_later tester plan.address g.later ++ messages_held plan.address g.held)
            ∙ ap (λ (n : ℕ). length (come tester plan.address l.inbox l.rest g) + n) (length-append (messages_later tester plan.address g.later) (messages_held plan.address g.held)
            ∙ ap (λ (ws : List UnitMessage). length (messages_later tester plan.address g.later) + length ws) (held_bodies plan.address g.held ∙ ap bodies h))

        sizes : length (come tester plan.address l.inbox l.rest v.gateway) + (length (messages_later tester plan.address v.gateway.later) + 0) ≡ length (come tester plan.address l.inbox l.rest next) + (length (messages_later tester plan.address next.later) + 0)
        sizes = sym (size v.gateway empty) ∙ ap (λ (ws : List UnitMessage). length ws) (sym free_way) ∙ size next free_held

    free_time : (sent : ℕ) → IsOnTime tester plan.address sent l.inbox l.rest v.gateway → IsOnTime tester plan.address sent l.inbox l.rest next
    free_time sent on = elim (tick_dues tester plan.address v.gateway.tick on.last v.gateway.tick v.gateway.later c.later order on.after on.next) [
      | inl is ↦ record {
        last = on.last;
        past = let p : on.last ≤ v.gateway.tick = on.past in omega (arith, p);
        after = after_tick tester plan.address (v.gateway.tick + 1) v.gateway.later;
        taken = λ e. on.taken (free_come e).0;
        next = ap (is_late on.last) is ∙ on.next;
        held = λ one e. absurd (some_cons one [] (sym e ∙ free_held));
      }
      | inr (some, late) ↦ record {
        last = v.gateway.tick + 1;
        past = omega arith;
        after = after_tick tester plan.address (v.gateway.tick + 1) v.gateway.later;
        taken = λ e. absurd (some (free_come e).1);
        next = late;
        held = λ one e. absurd (some_cons one [] (sym e ∙ free_held));
      }
    ]

    free_tick : IsAwaited tester plan found t0 t l first v → IsAwaited tester plan found t0 t (quiet_link l) first (ticked v)
    free_tick is = record {
      awaits = awaits_on plan found t _ _ _ _ _ _ _ same (grows.units plan.address) free_way (λ one e. absurd (some_cons one [] (sym e ∙ free_held))) is.awaits;
      timed = timed_on tester plan.address (t0 + t.since) (t0 + t.since) l.inbox l.inbox l.rest l.rest v.gateway next _ _ _ (grows.units plan.address) later_on (λ f u w x y z on. inr (free_time (t0 + t.since) on)) is.timed;
    }

  -- ------ its one answer is held
  module _ (tester_is : tester_of v.gateway ≡ tester) (lone : IsLoneHeld tester plan.address (sid_of (bytes_at plan t.place)) v.gateway) where
    abbrev one : HeldAnswer
    one = lone.one

    abbrev now : ℕ
    now = v.gateway.tick + 1

    abbrev A : List UnitMessage
    A = messages_from plan.address l.inbox ++ messages_in tester plan.address (stream_of l.rest).frames

    ways : (on_way tester plan.address l.inbox l.rest next ≡ A ++ (turn_word now one ++ (Reply one.body ∷ []))) × (on_way tester plan.address l.inbox l.rest v.gateway ≡ A ++ (Reply one.body ∷ [])) × (messages_later tester plan.address next.later ≡ [])
    ways = way_lone tester plan.address l.inbox l v.gateway c none order one tester_is lone.held lone.later

    lone_held : held_of plan.address next.held ≡ turned now one ∷ []
    lone_held = on_one plan.address now v.gateway.held one lone.held

    no_dues : dues tester plan.address next.later ≡ []
    no_dues = dues_none tester plan.address next.later ways.2

    -- where nothing has come then, nothing had come, and it was not its turn
    lone_come : come tester plan.address l.inbox l.rest next ≡ [] → (A ≡ []) × (turn_word now one ≡ [])
    lone_come e =
        let n : length A + (length (turn_word now one) + 1) ≡ length (come tester plan.address l.inbox l.rest next) + (length (messages_later tester plan.address next.later) + 1) = sizes in
        let z : length (come tester plan.address l.inbox l.rest next) ≡ 0 = ap (λ (ws : List UnitMessage). length ws) e in
        let y : length (messages_later tester plan.address next.later) ≡ 0 = ap (λ (ws : List UnitMessage). length ws) ways.2 in
        (no_words _ (omega (arith, n, z, y)), no_words _ (omega (arith, n, z, y)))
      where
        size : length (on_way tester plan.address l.inbox l.rest next) ≡ length (come tester plan.address l.inbox l.rest next) + (length (messages_later tester plan.address next.later) + 1)
        size =
            ap (λ (ws : List UnitMessage). length ws) (sym (append_assoc (messages_from plan.address l.inbox) (messages_in tester plan.address (stream_of (l.rest ++ next.ready)).frames) (messages_later tester plan.address next.later ++ messages_held plan.address next.held)))
            ∙ length-append (come tester plan.address l.inbox l.rest next) (messages_later tester plan.address next.later ++ messages_held plan.address next.held)
            ∙ ap (λ (n : ℕ). length (come tester plan.address l.inbox l.rest next) + n) (length-append (messages_later tester plan.address next.later) (messages_held plan.address next.held)
            ∙ ap (λ (ws : List UnitMessage). length (messages_later tester plan.address next.later) + length ws) (held_bodies plan.address next.held ∙ ap bodies lone_held))

        sizes : length A + (length (turn_word now one) + 1) ≡ length (come tester plan.address l.inbox l.rest next) + (length (messages_later tester plan.address next.later) + 1)
        sizes = sym (length-append A (turn_word now one ++ (Reply one.body ∷ [])) ∙ ap (λ (n : ℕ). length A + n) (length-append (turn_word now one) (Reply one.body ∷ []))) ∙ ap (λ (ws : List UnitMessage). length ws) (sym ways.0) ∙ size

    was_come : A ≡ [] → come tester plan.address l.inbox l.rest v.gateway ≡ []
    was_come e = ap (λ (x : List ℕ). messages_from plan.address l.inbox ++ messages_in tester plan.address (stream_of (l.rest ++ x)).frames) none ∙ ap (λ (x : List ℕ). messages_from plan.address l.inbox ++ messages_in tester plan.address (stream_of x).frames) (append-nil l.rest) ∙ e

    -- 1,000 ticks of holding are counted
    early_or : (f u w : ControlUnit) → unit_at first.units plan.address ≡ Some f → unit_at v.units plan.address ≡ Some u → unit_at (ticked v).units plan.address ≡ Some w → Kept f u → (one.every < 1000) ⊎ (v.gateway.tick < one.from + 1000)
        → Rose f.counts.late w.counts.late ⊎ ((one.every < 1000) ⊎ (now < one.from + 1000))
    early_or f u w x y z kept (inl few) = inr (inl few)
    early_or f u w x y z kept (inr before) = elim (cases_lt one.every 1000) [
      | inl few ↦ inr (inl few)
      | inr many ↦ elim (cases_lt now (one.from + 1000)) [
        | inl lt ↦ inr (inr lt)
        | inr ge ↦
            let at : now ≡ one.from + 1000 = omega (arith, before, ge) in
            let on : (nat_le 1000 one.every && now == one.from + 1000) ≡ true = and_from _ _ (le-leb 1000 one.every many) (eq-eqb now (one.from + 1000) at) in
            inl (raised_rose (nat_le 1000 one.every && now == one.from + 1000) f.counts.late u.counts.late w.counts.late on kept.counts.late (raised_unit now plan.address v.gateway.held v.units one u w lone.held y z).0)
      ]
    ]

    lone_time : (sent : ℕ) (f u w : ControlUnit) → unit_at first.units plan.address ≡ Some f → unit_at v.units plan.address ≡ Some u → unit_at (ticked v).units plan.address ≡ Some w → Kept f u
        → IsOnTime tester plan.address sent l.inbox l.rest v.gateway → Rose f.counts.late w.counts.late ⊎ IsOnTime tester plan.address sent l.inbox l.rest next
    lone_time sent f u w x y z kept on = elim (early_or f u w x y z kept (on.held one lone.held).early) [
      | inl rose ↦ inl rose
      | inr early ↦ inr (elim (cases_Bool (is_turn now one)) [ inl e ↦ turn e early | inr e ↦ no_turn e early ])
    ]
      where
        was : IsHeldTimed on.last v.gateway.tick one
        was = on.held one lone.held

        after : Each (λ d. now < d) (dues tester plan.address next.later)
        after = after_tick tester plan.address (v.gateway.tick + 1) v.gateway.later

        turn : is_turn now one ≡ true → (one.every < 1000) ⊎ (now < one.from + 1000) → IsOnTime tester plan.address sent l.inbox l.rest next
        turn e early = record {
          last = now;
          past = omega arith;
          after = after_tick tester plan.address (v.gateway.tick + 1) v.gateway.later;
          taken = λ none_come. absurd (some_cons _ _ (sym (turn_is e) ∙ (lone_come none_come).1));
          next = ap (is_late now) no_dues;
          held = λ x h. subst (λ (y : HeldAnswer). IsHeldTimed now now y) (sym (is x h)) (record {
            some = (on.held one lone.held).some;
            from = let a1 : one.from ≤ on.last = (on.held one lone.held).from in let a2 : on.last ≤ v.gateway.tick = on.past in omega (arith, a1, a2);
            turn = eqb-true _ 0 e;
            next = let a1 : 1 ≤ one.every = (on.held one lone.held).some in omega (arith, a1);
            early = early;
          });
        }
          where
            turn_is : is_turn now one ≡ true → turn_word now one ≡ Reply (pending_bytes one.sid) ∷ []
            turn_is e = rw e refl

            is : (x : HeldAnswer) → held_of plan.address next.held ≡ x ∷ [] → x ≡ record one { pending = one.pending + 1 }
            is x h = one_is plan.address next.held _ x (lone_held ∙ (λ i. (if e i then record one { pending = one.pending + 1 } else one) ∷ [])) h

        no_turn : is_turn now one ≡ false → (one.every < 1000) ⊎ (now < one.from + 1000) → IsOnTime tester plan.address sent l.inbox l.rest next
        no_turn e early = record {
          last = on.last;
          past = let p : on.last ≤ v.gateway.tick = on.past in omega (arith, p);
          after = after_tick tester plan.address (v.gateway.tick + 1) v.gateway.later;
          taken = λ none_come. on.taken (was_come (lone_come none_come).0);
          next = ap (is_late on.last) no_dues;
          held = λ x h. subst (λ (y : HeldAnswer). IsHeldTimed on.last now y) (sym (is x h)) (record {
            some = (on.held one lone.held).some;
            from = (on.held one lone.held).from;
            turn = (on.held one lone.held).turn;
            next = before_turn;
            early = early;
          });
        }
          where
            is : (x : HeldAnswer) → held_of plan.address next.held ≡ x ∷ [] → x ≡ one
            is x h = one_is plan.address next.held _ x (lone_held ∙ (λ i. (if e i then record one { pending = one.pending + 1 } else one) ∷ [])) h

            before_turn : now < on.last + one.every
            before_turn = elim (cases_lt now (on.last + one.every)) [
              | inl lt ↦ lt
              | inr ge ↦
                  let a1 : v.gateway.tick < on.last + one.every = (on.held one lone.held).next in
                  let a2 : one.from ≤ on.last = (on.held one lone.held).from in
                  let at : now - one.from ≡ (on.last - one.from) + one.every = omega (arith, a1, a2, ge) in
                  let zero_is : (now - one.from) % one.every ≡ 0 = ap (λ (n : ℕ). n % one.every) at ∙ add-mod_right (on.last - one.from) one.every ∙ (on.held one lone.held).turn in
                  absurd (both_ways _ e (eq-eqb _ 0 zero_is))
            ]

    -- a response pending goes in before the answer
    lone_heard : (f u w : ControlUnit) → unit_at v.units plan.address ≡ Some u → unit_at (ticked v).units plan.address ≡ Some w → Kept f u → SameState u w → Kept u w → is_turn now one ≡ true
        → IsHeardCounted plan found t f (held_of plan.address v.gateway.held) (on_way tester plan.address l.inbox l.rest v.gateway) u → IsHeardCounted plan found t f (held_of plan.address next.held) (on_way tester plan.address l.inbox l.rest next) w
    lone_heard f u w y z kept same_u grew turn h =
        let mid = heard_on plan found t f _ (held_of plan.address v.gateway.held) _ (on_way tester plan.address l.inbox l.rest v.gateway) u w same_u grew refl (λ x e. e) h in
        let before = mid.holding one lone.held in
        let few : t.pendings + mid.pending ≤ one.pending = before.0 in
        let stalled : (one.pending + 1 ≤ 200) ⊎ Rose f.counts.stalled w.counts.stalled = elim before.1 [
          | inr rose ↦ inr rose
          | inl le ↦ elim (cases_Bool (one.pending == 200)) [
            | inl full ↦ inr (raised_rose (is_turn now one && one.pending == 200) f.counts.stalled u.counts.stalled w.counts.stalled (and_from _ _ turn full) kept.counts.stalled (raised_unit now plan.address v.gateway.held v.units one u w lone.held y z).1)
            | inr less ↦ inl (let ne : one.pending ≡ 200 → ⊥ = λ q. both_ways _ less (eq-eqb one.pending 200 q) in grind (arith, ne, le))
          ]
        ] in
        record {
          before = mid.before;
          said = mid.said;
          pending = suc mid.pending;
          state = mid.state;
          takes = mid.takes;
          make = mid.make;
          step = mid.step;
          on_way = ways.0 ∙ (λ i. A ++ ((if turn i then Reply (pending_bytes (lone.service i)) ∷ [] else []) ++ (Reply one.body ∷ []))) ∙ before_last (sid_of (bytes_at plan t.place)) mid.said A (Reply one.body) mid.pending (sym ways.1 ∙ mid.on_way);
          patience = elim stalled [ inl le ↦ inl (omega (arith, few, le)) | inr rose ↦ inr rose ];
          holding = λ x e. subst (λ (y : HeldAnswer). (t.pendings + suc mid.pending ≤ y.pending) × ((y.pending ≤ 200) ⊎ Rose f.counts.stalled w.counts.stalled)) (sym (is x e)) (omega (arith, few), stalled);
        }
      where
        is : (x : HeldAnswer) → held_of plan.address next.held ≡ x ∷ [] → x ≡ record one { pending = one.pending + 1 }
        is x e = one_is plan.address next.held _ x (lone_held ∙ (λ i. (if turn i then record one { pending = one.pending + 1 } else one) ∷ [])) e

    lone_awaits : (fo uo wo : Option ControlUnit) → unit_at v.units plan.address ≡ uo → unit_at (ticked v).units plan.address ≡ wo → KeptIn fo uo → SameIn uo wo → KeptIn uo wo → is_turn now one ≡ true
        → IsAwaitCounted plan found t (held_of plan.address v.gateway.held) (on_way tester plan.address l.inbox l.rest v.gateway) fo uo → IsAwaitCounted plan found t (held_of plan.address next.held) (on_way tester plan.address l.inbox l.rest next) fo wo
    lone_awaits None None wo y z kept s k turn is = absurd (missed_not A one.body 3 (sym ways.1 ∙ is))
    lone_awaits None (Some u) wo y z kept s k turn is = absurd is
    lone_awaits (Some f) None wo y z kept s k turn is = absurd is
    lone_awaits (Some f) (Some u) None y z kept s k turn is = absurd k
    lone_awaits (Some f) (Some u) (Some w) y z kept s k turn (inl m) = absurd (missed_not A one.body m.code (sym ways.1 ∙ m.on_way))
    lone_awaits (Some f) (Some u) (Some w) y z kept s k turn (inr h) = inr (lone_heard f u w y z kept s k turn h)

    lone_tick : KeptIn (unit_at first.units plan.address) (unit_at v.units plan.address) → IsAwaited tester plan found t0 t l first v → IsAwaited tester plan found t0 t (quiet_link l) first (ticked v)
    lone_tick kept is = record {
      awaits = elim (cases_Bool (is_turn now one)) [
        | inl e ↦ lone_awaits _ _ _ refl refl kept same (grows.units plan.address) e is.awaits
        | inr e ↦ awaits_on plan found t _ _ _ _ _ _ _ same (grows.units plan.address) (ways.0 ∙ (λ i. A ++ ((if e i then Reply (pending_bytes one.sid) ∷ [] else []) ++ (Reply one.body ∷ []))) ∙ sym ways.1)
            (λ x h. lone.held ∙ sym (lone_held ∙ (λ i. (if e i then record one { pending = one.pending + 1 } else one) ∷ [])) ∙ h) is.awaits
      ];
      timed = timed_on tester plan.address (t0 + t.since) (t0 + t.since) l.inbox l.inbox l.rest l.rest v.gateway next _ _ _ (grows.units plan.address) later_on
          (λ f u w x y z on. lone_time (t0 + t.since) f u w x y z (kept_some x y) on) is.timed;
    }
      where
        kept_some : {f u : ControlUnit} → unit_at first.units plan.address ≡ Some f → unit_at v.units plan.address ≡ Some u → Kept f u
        kept_some {f} {u} x y = subst (λ (o : Option ControlUnit × Option ControlUnit). KeptIn o.0 o.1) (λ i. (x i, y i)) kept

  pub tick_awaited : tester_of v.gateway ≡ tester → HoldsAtMost tester plan.address (sid_of (bytes_at plan t.place)) v.gateway → KeptIn (unit_at first.units plan.address) (unit_at v.units plan.address) → IsAwaited tester plan found t0 t l first v
      → IsAwaited tester plan found t0 t (quiet_link l) first (ticked v)
  tick_awaited is (inl empty) kept a = free_tick empty a
  tick_awaited is (inr lone) kept a = lone_tick is lone kept a
