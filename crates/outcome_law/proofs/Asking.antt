-- A request that was sent: its unit hears it or misses it, which is counted; the others stay.
use Rattle.outcome_law.specs.Rising.{RoseBy, Rose, Grows, CountsGrow}
use Rattle.outcome_law.proofs.Growing.{counts_then, raised_up, obedient_counts, leaves_counts}
use Rattle.outcome_law.proofs.Clock.{dues_none}
use Rattle.std.proofs.Math.Nat.{zero-mod}
use Rattle.std.proofs.Common.{◌≡◌, ◌⊎◌, inl, inr, ℕ, ◌+◌, ◌-◌, ◌%◌, ◌<◌, ◌≤◌, true, false, List, [], ◌∷◌, ◌++◌, length, Some, None, refl, sym, ◌∙◌, ap, subst, arith, append_assoc}
use Rattle.std.specs.Prelude.{Bool, Option, ◌==◌, ◌&&◌, ◌||◌, not, nat_le, nat_lt, filter, if◌then◌else◌, unwrap_or}
use Rattle.std.proofs.lemmas.Bool.{cases_Bool, false≢true, eq-eqb, ne_eqb, and_parts, leb-true, leb-false, ltb-false, or_parts}
use Rattle.std.proofs.lemmas.List.{append-nil}
use Rattle.bay_core.proofs.Queueing.{said_other, held_filter, nack_words, alike_way, alike_words, timely_held}
use Rattle.bay_core.proofs.Sending.{IsNacked, Refused, Heard, let_out, let_ready, let_whole, let_none, let_lone, answered_alike, active_is, no_X, no_held, no_later, refused_way, let_nothing, let_no_held, held_last, tick_kept}
use Rattle.bay_core.proofs.Ticking.{left_nil, right_nil, bodies, held_bodies, some_cons}
use Rattle.bay_core.specs.Joint.{HoldsAtMost, held_of}
use Rattle.flash_base.specs.Lists.{Each}
use Rattle.doip_frame.specs.Frame.{stream_of, message_bytes, nack_bytes}
use Rattle.flash_plan.specs.declared.unit.UnitPlan.{UnitPlan}
use Rattle.run_model.proofs.Replies.{Timely, said_words, replies_way, timely_of, said_of, queue_reply, queue_replies}
use Rattle.run_model.proofs.Whole.{nack_whole, message_frames}
use Rattle.run_model.specs.Connected.{IsConnected}
use Rattle.run_model.specs.Link.{Link, is_up}
use Rattle.run_model.specs.Script.{bytes_at}
use Rattle.run_model.specs.States.{StateAt, StateIn, SameButCounts}
use Rattle.run_model.specs.Talk.{Talk, talk_sent}
use Rattle.run_model.specs.Ways.{UnitMessage, Reply, Nacked, messages_from, messages_in, messages_later, on_way, has_no_message, pending_messages, final_message}
use Rattle.uds_codec.specs.Request.{sid_of}
use Rattle.unit_model.specs.Feed.{tester_of, waits_for}
use Rattle.unit_model.specs.Step.{CanSend, Obeys, Holds, Departs, Departure, Refuses as declines, Odd, Fails, Mutes, Busies, pendings, last_replies, last_tick, said_by, ascends, is_late, is_stalled, raise_if, raise_code, raised}
use Rattle.flash_base.specs.Counts.{one_more}
use Rattle.unit_model.specs.Unit.{ControlUnit, Counts, obedient, heard_one}
use Rattle.unit_model.specs.Vehicle.{HeldAnswer, Gateway, Vehicle, unit_at}
use Rattle.unit_model.specs.declared.reply.Due.TheVariants.{At, Held}
use Rattle.unit_model.specs.declared.reply.Due.{Due}
use Rattle.unit_model.specs.declared.reply.UnitReply.{UnitReply}
use Rattle.outcome_law.proofs.Waiting.{IsStillOn, IsAwaited}
use Rattle.outcome_law.specs.Counting.{dues, come, Kept, KeptIn, Takes, TakesIn, BusyBy, IsCounted, IsHeardCounted, IsAwaitCounted, IsHeldTimed, IsOnTime, IsTimed}

-- words of another unit are due at no tick of this one
module _ (tester a : ℕ) where
  dues_more : (queue : List (ℕ × List ℕ)) (due : ℕ) (frame : List ℕ) → messages_in tester a (stream_of frame).frames ≡ [] → dues tester a (queue ++ ((due, frame) ∷ [])) ≡ dues tester a queue
  dues_more [] due frame none = let e : has_no_message (messages_in tester a (stream_of frame).frames) ≡ true = ap has_no_message none in rw e refl
  dues_more (q ∷ qs) due frame none = elim (cases_Bool (has_no_message (messages_in tester a (stream_of q.1).frames))) [
    | inl e ↦ rw e (dues_more qs due frame none)
    | inr e ↦ rw e (ap (λ (ds : List ℕ). q.0 ∷ ds) (dues_more qs due frame none))
  ]

  dues_word : (g : Gateway) (unit sid : ℕ) (due : Due) (body : List ℕ) → (unit == a) ≡ false → CanSend body → dues tester a (queue_reply g unit sid due body).later ≡ dues tester a g.later
  dues_word g unit sid (At due) body e can = elim (cases_Bool (nat_le due g.tick)) [
    | inl now ↦ rw now refl
    | inr after ↦ rw after (dues_more g.later due (message_bytes unit (tester_of g) body) (said_other tester a unit (tester_of g) body can e))
  ]
  dues_word g unit sid (Held every watch service) body e can = refl

  dues_words : (unit sid : ℕ) (rs : List UnitReply) (g : Gateway) → (unit == a) ≡ false → Each (λ r. CanSend r.body) rs → dues tester a (queue_replies g unit sid rs).later ≡ dues tester a g.later
  dues_words unit sid [] g e can = refl
  dues_words unit sid (r ∷ rs) g e can = dues_words unit sid rs (queue_reply g unit sid r.due r.body) e can.1 ∙ dues_word g unit sid r.due r.body e can.0

-- the ticks at which replies are due, and those of them that come later
abbrev due_of : Due → ℕ
due_of (At due) = due
due_of (Held every watch service) = 0

abbrev pub ticks_of : List UnitReply → List ℕ
ticks_of [] = []
ticks_of (r ∷ rs) = due_of r.due ∷ ticks_of rs

abbrev pub later_ticks : ℕ → List ℕ → List ℕ
later_ticks tick [] = []
later_ticks tick (t ∷ ts) = if nat_le t tick then later_ticks tick ts else t ∷ later_ticks tick ts

pub ticks_are : (sid : ℕ) (ticks : List ℕ) (final : Option (List ℕ)) (due : ℕ) → ticks_of (pendings sid ticks ++ last_replies final due) ≡ ticks ++ last_tick final due
ticks_are sid [] None due = refl
ticks_are sid [] (Some body) due = refl
ticks_are sid (t ∷ ts) final due = ap (λ (xs : List ℕ). t ∷ xs) (ticks_are sid ts final due)

pub later_each : (tick : ℕ) (ts : List ℕ) → Each (λ d. tick < d) (later_ticks tick ts)
later_each tick [] = tt
later_each tick (t ∷ ts) = elim (cases_Bool (nat_le t tick)) [ inl e ↦ rw e (later_each tick ts) | inr e ↦ rw e (leb-false t tick e, later_each tick ts) ]

pub later_late : (tick p : ℕ) (ts : List ℕ) → tick ≤ p → ascends p ts ≡ true → is_late p ts ≡ false → is_late p (later_ticks tick ts) ≡ false
later_late tick p [] le up late = refl
later_late tick p (t ∷ ts) le up late =
    let parts = and_parts (nat_le p t) (ascends t ts) up in
    let lates = or_parts (nat_le (p + 1000) t) (is_late t ts) late in
    let ge : p ≤ t = leb-true p t parts.0 in
    let on : is_late t (later_ticks tick ts) ≡ false = later_late tick t ts (omega (arith, le, ge)) parts.1 lates.1 in
    elim (cases_Bool (nat_le t tick)) [
      | inl e ↦ let is : t ≡ p = omega (arith, leb-true t tick e, ge, le) in rw e (ap (λ (n : ℕ). is_late n (later_ticks tick ts)) (sym is) ∙ on)
      | inr e ↦ rw e ((λ i. lates.0 i || on i))
    ]

-- the unit's own replies
module _ (tester a sid : ℕ) where
  dues_last : (queue : List (ℕ × List ℕ)) (due : ℕ) (frame : List ℕ) (word : UnitMessage) → messages_in tester a (stream_of frame).frames ≡ word ∷ [] → dues tester a (queue ++ ((due, frame) ∷ [])) ≡ dues tester a queue ++ (due ∷ [])
  dues_last [] due frame word some = let e : has_no_message (messages_in tester a (stream_of frame).frames) ≡ false = ap has_no_message some in rw e refl
  dues_last (q ∷ qs) due frame word some = elim (cases_Bool (has_no_message (messages_in tester a (stream_of q.1).frames))) [
    | inl e ↦ rw e (dues_last qs due frame word some)
    | inr e ↦ rw e (ap (λ (ds : List ℕ). q.0 ∷ ds) (dues_last qs due frame word some))
  ]

  word_here : (g : Gateway) (body : List ℕ) → g.active ≡ Some tester → CanSend body → messages_in tester a (stream_of (message_bytes a (tester_of g) body)).frames ≡ Reply body ∷ []
  word_here g body active can =
      ap (messages_in tester a) (message_frames a (tester_of g) body can)
      ∙ (λ i. (if eq-eqb (tester_of g) tester (ap (λ (o : Option ℕ). unwrap_or o 0) active) i && eq-eqb a a refl i then Reply body ∷ [] else []) ++ [])

  own_dues : (rs : List UnitReply) (from : ℕ) (g : Gateway) → Timely from rs → g.active ≡ Some tester → dues tester a (queue_replies g a sid rs).later ≡ dues tester a g.later ++ later_ticks g.tick (ticks_of rs)
  own_dues [] from g timely active = sym (append-nil (dues tester a g.later))
  own_dues (r ∷ rs) from g (due, is, le, can, more) active =
      ap (λ (d : Due). dues tester a (queue_replies (queue_reply g a sid d r.body) a sid rs).later) is
      ∙ elim (cases_Bool (nat_le due g.tick)) [
        | inl e ↦ rw e (own_dues rs due (record g { ready = g.ready ++ message_bytes a (tester_of g) r.body }) more active ∙ ap (λ (ts : List ℕ). dues tester a g.later ++ ts) (sym (due_dropped e)))
        | inr e ↦ rw e (own_dues rs due (record g { later = g.later ++ ((due, message_bytes a (tester_of g) r.body) ∷ []) }) more active
            ∙ ap (λ (ds : List ℕ). ds ++ later_ticks g.tick (ticks_of rs)) (dues_last g.later due (message_bytes a (tester_of g) r.body) (Reply r.body) (word_here g r.body active can))
            ∙ append_assoc (dues tester a g.later) (due ∷ []) (later_ticks g.tick (ticks_of rs)) ∙ ap (λ (ts : List ℕ). dues tester a g.later ++ ts) (sym (due_kept e)))
      ]
    where
      due_dropped : nat_le due g.tick ≡ true → later_ticks g.tick (due_of r.due ∷ ticks_of rs) ≡ later_ticks g.tick (ticks_of rs)
      due_dropped e = ap (λ (d : Due). later_ticks g.tick (due_of d ∷ ticks_of rs)) is ∙ rw e refl

      due_kept : nat_le due g.tick ≡ false → later_ticks g.tick (due_of r.due ∷ ticks_of rs) ≡ due ∷ later_ticks g.tick (ticks_of rs)
      due_kept e = ap (λ (d : Due). later_ticks g.tick (due_of d ∷ ticks_of rs)) is ∙ rw e refl

-- ------ a request to the unit at t goes on to the gateway
module _ (tester t : ℕ) (bytes : List ℕ) (l : Link) (v w : Vehicle) (c : IsConnected tester l v.gateway) (up : is_up l.phase ≡ true) where
  abbrev sid : ℕ
  sid = sid_of bytes

  abbrev waits : HeldAnswer → Bool
  waits h = waits_for t sid h

  abbrev out : Gateway
  out = let_out tester t bytes l v w c up

  abbrev WasRefused : Type 0
  WasRefused = Refused tester t bytes l v w c up

  abbrev WasHeard : Type 0
  WasHeard = Heard tester t bytes l v w c up

  -- ------ what another unit keeps
  let_come : (a : ℕ) (inbox : List (ℕ × UnitMessage)) → come tester a inbox l.rest out ≡ [] → come tester a inbox l.rest v.gateway ≡ []
  let_come a inbox e =
      let x : messages_from a inbox ≡ [] = left_nil (messages_from a inbox) _ e in
      let y : messages_in tester a (stream_of (l.rest ++ v.gateway.ready)).frames ≡ [] = left_nil (messages_in tester a (stream_of (l.rest ++ v.gateway.ready)).frames) _ (sym (let_ready tester t bytes l v w c up a inbox) ∙ right_nil (messages_from a inbox) _ e) in
      λ i. x i ++ y i

  let_back : (a : ℕ) (inbox : List (ℕ × UnitMessage)) (k : ℕ) → HoldsAtMost tester a k v.gateway → (one : HeldAnswer) → held_of a out.held ≡ one ∷ [] → held_of a v.gateway.held ≡ one ∷ []
  let_back a inbox k most one e = go most
    where
      filtered : held_of a out.held ≡ filter (λ h. not (waits h)) (held_of a v.gateway.held)
      filtered = held_filter tester a (λ h. not (waits h)) v.gateway.held

      kept_one : (x : HeldAnswer) → filter (λ h. not (waits h)) (x ∷ []) ≡ one ∷ [] → x ∷ [] ≡ one ∷ []
      kept_one x f = elim (cases_Bool (waits x)) [
        | inl y ↦ absurd (some_cons one [] (sym (rw y at f)))
        | inr y ↦ rw y at f
      ]

      go : HoldsAtMost tester a k v.gateway → held_of a v.gateway.held ≡ one ∷ []
      go (inl none) = absurd (some_cons one [] (sym (sym (filtered ∙ ap (filter (λ h. not (waits h))) none) ∙ e)))
      go (inr lone) = lone.held ∙ kept_one lone.one (sym (filtered ∙ ap (filter (λ h. not (waits h))) lone.held) ∙ e)

  pub others_on : (a k : ℕ) (inbox : List (ℕ × UnitMessage)) → (a ≡ t → ⊥) → HoldsAtMost tester a k v.gateway → WasRefused ⊎ WasHeard → IsStillOn tester a inbox inbox l.rest l.rest v.gateway w.gateway
  others_on a k inbox apart most (inl r) =
      let not_a : (t == a) ≡ false = ne_eqb t a (λ q. apart (sym q)) in
      let none : messages_in tester a (stream_of (nack_bytes t tester r.code)).frames ≡ [] = nack_words tester a t r.code ∙ (λ i. if not_a i then Nacked r.code ∷ [] else []) in
      let x = answered_alike tester t bytes l v w c up a (nack_bytes t tester r.code) (nack_whole t tester r.code) none in
      subst (λ (g : Gateway). IsStillOn tester a inbox inbox l.rest l.rest v.gateway g) (sym r.gateway) (record {
        way = alike_way tester a inbox l.rest v.gateway _ x;
        came = λ e. (λ i. messages_from a inbox ++ sym x.ready i) ∙ e;
        due = refl;
        later = refl;
        holds = λ one e. e;
        tick = refl;
      })
  others_on a k inbox apart most (inr h) =
      let not_a : (t == a) ≡ false = ne_eqb t a (λ q. apart (sym q)) in
      let x = alike_words tester a l.rest t sid h.replies out not_a (let_whole tester t bytes l v w c up) h.step.sizes in
      subst (λ (g : Gateway). IsStillOn tester a inbox inbox l.rest l.rest v.gateway g) (sym h.gateway) (record {
        way = alike_way tester a inbox l.rest out _ x ∙ way_of most;
        came = λ e. let_come a inbox ((λ i. messages_from a inbox ++ sym x.ready i) ∙ e);
        due = dues_words tester a t sid h.replies out not_a h.step.sizes;
        later = x.later;
        holds = λ one e. let_back a inbox k most one (sym x.held ∙ e);
        tick = x.tick;
      })
    where
      way_of : HoldsAtMost tester a k v.gateway → on_way tester a inbox l.rest out ≡ on_way tester a inbox l.rest v.gateway
      way_of (inl none) = let_none tester t bytes l v w c up a inbox none
      way_of (inr lone) = let_lone tester t bytes l v w c up a inbox lone.one lone.held lone.later

  -- ------ the unit that the request was for: nothing was on the way from it
  module _ (inbox : List (ℕ × UnitMessage)) (nothing : on_way tester t inbox l.rest v.gateway ≡ []) where
    -- nothing is due from it, whatever the answer will be
    no_dues : dues tester t v.gateway.later ≡ []
    no_dues = dues_none tester t v.gateway.later (no_later tester t bytes l v w c up inbox nothing)

    pub record RefusedIt (r : WasRefused) : Type 0 where
      pub way : on_way tester t inbox l.rest w.gateway ≡ Nacked r.code ∷ []
      pub held : held_of t w.gateway.held ≡ []
      pub later : messages_later tester t w.gateway.later ≡ []
      pub tick : w.gateway.tick ≡ v.gateway.tick

    pub refused_it : (r : WasRefused) → RefusedIt r
    refused_it r = record {
      way = refused_way tester t bytes l v w c up inbox nothing r;
      held = ap (λ (g : Gateway). held_of t g.held) r.gateway ∙ no_held tester t bytes l v w c up inbox nothing;
      later = ap (λ (g : Gateway). messages_later tester t g.later) r.gateway ∙ no_later tester t bytes l v w c up inbox nothing;
      tick = ap (λ (g : Gateway). g.tick) r.gateway;
    }

    -- replies with ticks
    pub record SaidIt (h : WasHeard) : Type 0 where
      pub way : on_way tester t inbox l.rest w.gateway ≡ said_words h.replies
      pub held : held_of t w.gateway.held ≡ []
      pub due : dues tester t w.gateway.later ≡ later_ticks v.gateway.tick (ticks_of h.replies)
      pub tick : w.gateway.tick ≡ v.gateway.tick

    pub said_it : (h : WasHeard) → Timely v.gateway.tick h.replies → SaidIt h
    said_it h timely = record {
      way = ap (λ (g : Gateway). on_way tester t inbox l.rest g) h.gateway
          ∙ replies_way tester t sid inbox l.rest h.replies v.gateway.tick out timely
          (record { whole = let_whole tester t bytes l v w c up; active = active_is tester t bytes l v w c up; held = let_no_held tester t bytes l v w c up inbox nothing }) (inl (no_later tester t bytes l v w c up inbox nothing))
          ∙ ap (λ (ws : List UnitMessage). ws ++ said_words h.replies) (let_nothing tester t bytes l v w c up inbox nothing);
      held = ap (λ (g : Gateway). held_of t g.held) h.gateway ∙ ap (held_of t) (timely_held tester t t sid h.replies v.gateway.tick out timely) ∙ held_filter tester t (λ x. not (waits x)) v.gateway.held ∙ ap (filter (λ x. not (waits x))) (no_held tester t bytes l v w c up inbox nothing);
      due = ap (λ (g : Gateway). dues tester t g.later) h.gateway ∙ own_dues tester t sid h.replies v.gateway.tick out timely (active_is tester t bytes l v w c up) ∙ ap (λ (ds : List ℕ). ds ++ later_ticks v.gateway.tick (ticks_of h.replies)) no_dues;
      tick = ap (λ (g : Gateway). g.tick) h.gateway ∙ tick_kept t sid h.replies out;
    }

    -- the answer is held
    pub record HoldsIt (h : WasHeard) (holds : Holds h.old bytes v.gateway.tick h.replies h.new) : Type 0 where
      pub way : on_way tester t inbox l.rest w.gateway ≡ said_words h.replies
      pub held : held_of t w.gateway.held ≡ record { unit = t; sid = sid; body = (obedient h.old bytes).1; every = holds.every; watch = holds.unit; service = holds.sid; from = v.gateway.tick; pending = 0 } ∷ []
      pub later : messages_later tester t w.gateway.later ≡ []
      pub tick : w.gateway.tick ≡ v.gateway.tick

    pub holds_it : (h : WasHeard) (holds : Holds h.old bytes v.gateway.tick h.replies h.new) → HoldsIt h holds
    holds_it h holds =
        let is : w.gateway ≡ record out { held = out.held ++ (record { unit = t; sid = sid; body = (obedient h.old bytes).1; every = holds.every; watch = holds.unit; service = holds.sid; from = v.gateway.tick; pending = 0 } ∷ []) } =
        h.gateway ∙ ap (λ (rs : List UnitReply). queue_replies out t sid rs) holds.gives in
        let one : held_of t (out.held ++ (record { unit = t; sid = sid; body = (obedient h.old bytes).1; every = holds.every; watch = holds.unit; service = holds.sid; from = v.gateway.tick; pending = 0 } ∷ [])) ≡ record { unit = t; sid = sid; body = (obedient h.old bytes).1; every = holds.every; watch = holds.unit; service = holds.sid; from = v.gateway.tick; pending = 0 } ∷ [] =
        held_last tester t bytes l v w c up inbox nothing out.held _ (eq-eqb t t refl) (held_filter tester t (λ x. not (waits x)) v.gateway.held ∙ ap (filter (λ x. not (waits x))) (no_held tester t bytes l v w c up inbox nothing)) in
        record {
          way = ap (λ (g : Gateway). on_way tester t inbox l.rest g) is
              ∙ (λ i. no_X tester t bytes l v w c up inbox nothing i ++ (left_nil (messages_in tester t (stream_of (l.rest ++ out.ready)).frames) _ (right_nil (messages_from t inbox) _ (let_nothing tester t bytes l v w c up inbox nothing)) i ++ (no_later tester t bytes l v w c up inbox nothing i ++ (held_bodies t _ ∙ ap bodies one) i)))
              ∙ sym (ap said_words holds.gives);
          held = ap (λ (g : Gateway). held_of t g.held) is ∙ one;
          later = ap (λ (g : Gateway). messages_later tester t g.later) is ∙ no_later tester t bytes l v w c up inbox nothing;
          tick = ap (λ (g : Gateway). g.tick) is;
        }

-- ------ what is awaited then
module _ (tester : ℕ) (plan : UnitPlan) (found : ℕ → Bool) (talk : Talk) (l : Link) (v w first : Vehicle) (c : IsConnected tester l v.gateway) (up : is_up l.phase ≡ true) (t0 : ℕ) (ticks : v.gateway.tick ≡ t0 + l.ticks) (nothing : on_way tester plan.address l.inbox l.rest v.gateway ≡ []) where
  abbrev asked : List ℕ
  asked = bytes_at plan talk.place

  abbrev now : Talk
  now = talk_sent l.ticks talk

  abbrev RefusedNow : Type 0
  RefusedNow = Refused tester plan.address asked l v w c up

  abbrev HeardNow : Type 0
  HeardNow = Heard tester plan.address asked l v w c up

  -- from now on
  begins : (sent : ℕ) → sent ≡ t0 + l.ticks → w.gateway.tick ≡ v.gateway.tick → (ts : List ℕ) → dues tester plan.address w.gateway.later ≡ later_ticks v.gateway.tick ts → ascends v.gateway.tick ts ≡ true → is_late v.gateway.tick ts ≡ false
      → ((one : HeldAnswer) → held_of plan.address w.gateway.held ≡ one ∷ [] → IsHeldTimed v.gateway.tick w.gateway.tick one) → IsOnTime tester plan.address sent l.inbox l.rest w.gateway
  begins sent at same ts due ascend late held = record {
    last = v.gateway.tick;
    past = omega (arith, same);
    after = subst (λ (x : ℕ × List ℕ). Each (λ d. x.0 < d) x.1) (λ i. (sym same i, sym due i)) (later_each v.gateway.tick ts);
    taken = λ e. omega (arith, at, ticks);
    next = ap (is_late v.gateway.tick) due ∙ later_late v.gateway.tick v.gateway.tick ts (omega arith) ascend late;
    held = held;
  }

  -- it was not delivered
  refused_awaits : (r : RefusedNow) (fo vo wo : Option ControlUnit) → KeptIn fo vo → KeptIn vo wo → IsNacked r.code vo wo → on_way tester plan.address l.inbox l.rest w.gateway ≡ Nacked r.code ∷ [] → IsAwaitCounted plan found now (held_of plan.address w.gateway.held) (on_way tester plan.address l.inbox l.rest w.gateway) fo wo
  refused_awaits r None None None k k2 three way = way ∙ ap (λ (n : ℕ). Nacked n ∷ []) three
  refused_awaits r None None (Some x) k k2 count way = absurd k2
  refused_awaits r None (Some u) wo k k2 count way = absurd k
  refused_awaits r (Some f) None wo k k2 count way = absurd k
  refused_awaits r (Some f) (Some u) None k k2 count way = absurd k2
  refused_awaits r (Some f) (Some u) (Some x) k k2 count way = inl (record {
    code = r.code;
    on_way = way;
    count =
        let grows : Grows (f.counts.nacked r.code) (u.counts.nacked r.code) = k.counts.nacked r.code in
        let here : raise_code r.code u.counts.nacked r.code ≡ one_more (u.counts.nacked r.code) = (let e : (r.code == r.code) ≡ true = eq-eqb r.code r.code refl in rw e refl) in
        let is : x.counts.nacked r.code ≡ one_more (u.counts.nacked r.code) = ap (λ (y : Counts). y.nacked r.code) count ∙ here in
        omega (arith, grows, is);
  })

  refused_times : (r : RefusedNow) (fo wo : Option ControlUnit) → KeptIn fo wo → IsTimed tester plan.address (t0 + l.ticks) l.inbox l.rest w.gateway fo wo
  refused_times r None wo k = (refused_it tester plan.address asked l v w c up l.inbox nothing r).later
  refused_times r (Some f) None k = absurd k
  refused_times r (Some f) (Some x) k =
      let it = refused_it tester plan.address asked l v w c up l.inbox nothing r in
      inr (begins (t0 + l.ticks) refl it.tick [] (dues_none tester plan.address w.gateway.later it.later) refl refl (λ one e. absurd (some_cons one [] (sym e ∙ it.held))))

  pub refused_awaited : RefusedNow → KeptIn (unit_at first.units plan.address) (unit_at v.units plan.address) → KeptIn (unit_at v.units plan.address) (unit_at w.units plan.address) → KeptIn (unit_at first.units plan.address) (unit_at w.units plan.address)
      → IsAwaited tester plan found t0 now l first w
  refused_awaited r k k2 k3 = record {
    awaits = refused_awaits r _ _ _ k k2 r.count (refused_it tester plan.address asked l v w c up l.inbox nothing r).way;
    timed = refused_times r _ _ k3;
  }

  -- it was heard
  record Known (f new : ControlUnit) : Type 0 where
    heard : IsHeardCounted plan found now f (held_of plan.address w.gateway.held) (on_way tester plan.address l.inbox l.rest w.gateway) new
    timed : Rose f.counts.late new.counts.late ⊎ IsOnTime tester plan.address (t0 + l.ticks) l.inbox l.rest w.gateway

  module _ (f old new : ControlUnit) (kept : Kept f old) (busy : RoseBy talk.busies f.counts.busy old.counts.busy) (state : StateAt plan talk.place old) (takes : Takes plan found f talk.place old) where
    counts_too : (o : ControlUnit) (h : ℕ) (cs : Counts) → new ≡ record o { heard = h; counts = cs } → SameButCounts o new
    counts_too o h cs is = record { same = is ∙ (λ i. record o { heard = ap (λ (x : ControlUnit). x.heard) (sym is) i; counts = ap (λ (x : ControlUnit). x.counts) (sym is) i }) }

    patience : (n : ℕ) (ts : List ℕ) (was : ℕ) → Grows f.counts.stalled was → new.counts.stalled ≡ raise_if (is_stalled ts) was → length ts ≡ n → (0 + n ≤ 200) ⊎ Rose f.counts.stalled new.counts.stalled
    patience n ts was grows is at = elim (cases_Bool (nat_lt 200 (length ts))) [
      | inl e ↦ inr (let here : new.counts.stalled ≡ one_more was = is ∙ ap (λ (b : Bool). raise_if b was) e in omega (arith, grows, here))
      | inr e ↦ inl (let le : length ts ≤ 200 = ltb-false 200 (length ts) e in omega (arith, le, at))
    ]

    raised_counts : (kind : Departure) (cs : Counts) (late stalled : Bool) → CountsGrow f.counts cs → RoseBy talk.busies f.counts.busy cs.busy → new.counts ≡ record (raised kind cs) { late = raise_if late (raised kind cs).late; stalled = raise_if stalled (raised kind cs).stalled } → IsCounted kind talk.busies f.counts new.counts
    raised_counts (declines nrc) cs late stalled grows b is =
        let here : raise_code nrc cs.refused nrc ≡ one_more (cs.refused nrc) = (let e : (nrc == nrc) ≡ true = eq-eqb nrc nrc refl in rw e refl) in
        let at : new.counts.refused nrc ≡ one_more (cs.refused nrc) = ap (λ (x : Counts). x.refused nrc) is ∙ here in
        let g : Grows (f.counts.refused nrc) (cs.refused nrc) = grows.refused nrc in
        omega (arith, at, g)
    raised_counts (Odd body) cs late stalled grows b is = let at : new.counts.odd ≡ one_more cs.odd = ap (λ (x : Counts). x.odd) is in let g : Grows f.counts.odd cs.odd = grows.odd in omega (arith, at, g)
    raised_counts (Fails body) cs late stalled grows b is = let at : new.counts.failed ≡ one_more cs.failed = ap (λ (x : Counts). x.failed) is in let g : Grows f.counts.failed cs.failed = grows.failed in omega (arith, at, g)
    raised_counts Mutes cs late stalled grows b is = let at : new.counts.muted ≡ one_more cs.muted = ap (λ (x : Counts). x.muted) is in let g : Grows f.counts.muted cs.muted = grows.muted in omega (arith, at, g)
    raised_counts Busies cs late stalled grows b is = let at : new.counts.busy ≡ one_more cs.busy = ap (λ (x : Counts). x.busy) is in omega (arith, at, b)

    -- a step with these counts, however the answer came
    obeyed_counted : (held : List HeldAnswer) (way : List UnitMessage) (n : ℕ) → SameButCounts (obedient old asked).0 new → way ≡ pending_messages (sid_of asked) n ++ final_message (Some (obedient old asked).1) → (0 + n ≤ 200) ⊎ Rose f.counts.stalled new.counts.stalled
        → ((one : HeldAnswer) → held ≡ one ∷ [] → (0 + n ≤ one.pending) × ((one.pending ≤ 200) ⊎ Rose f.counts.stalled new.counts.stalled)) → IsHeardCounted plan found now f held way new
    obeyed_counted held way n same is few holding = record {
      before = old;
      said = Some (obedient old asked).1;
      pending = n;
      state = state;
      takes = takes;
      make = kept.make;
      step = inl (record { said_is = refl; state = same });
      on_way = is;
      patience = few;
      holding = holding;
    }

    late_or : (ts : List ℕ) (was : ℕ) → Grows f.counts.late was → new.counts.late ≡ raise_if (is_late v.gateway.tick ts) was → (is_late v.gateway.tick ts ≡ false → IsOnTime tester plan.address (t0 + l.ticks) l.inbox l.rest w.gateway)
        → Rose f.counts.late new.counts.late ⊎ IsOnTime tester plan.address (t0 + l.ticks) l.inbox l.rest w.gateway
    late_or ts was grows is on = elim (cases_Bool (is_late v.gateway.tick ts)) [
      | inl e ↦ inl (let here : new.counts.late ≡ one_more was = is ∙ ap (λ (b : Bool). raise_if b was) e in omega (arith, grows, here))
      | inr e ↦ inr (on e)
    ]

    obeys_known : (h : HeardNow) → Obeys old asked v.gateway.tick h.replies new → Known f new
    obeys_known h o =
        let can : Each (λ r. CanSend r.body) (pendings (sid_of asked) o.ticks ++ last_replies (Some (obedient old asked).1) o.due) = subst (λ (rs : List UnitReply). Each (λ r. CanSend r.body) rs) o.gives h.step.sizes in
        let timely : Timely v.gateway.tick h.replies = subst (λ (rs : List UnitReply). Timely v.gateway.tick rs) (sym o.gives) (timely_of (sid_of asked) o.ticks (Some (obedient old asked).1) o.due v.gateway.tick o.ascending can) in
        let it = said_it tester plan.address asked l v w c up l.inbox nothing h timely in
        let is_counts : (obedient old asked).0.counts ≡ old.counts = obedient_counts old asked in
        let stalled_grows : Grows f.counts.stalled (obedient old asked).0.counts.stalled = subst (λ (x : Counts). Grows f.counts.stalled x.stalled) (sym is_counts) kept.counts.stalled in
        let late_grows : Grows f.counts.late (obedient old asked).0.counts.late = subst (λ (x : Counts). Grows f.counts.late x.late) (sym is_counts) kept.counts.late in
        record {
          heard = obeyed_counted _ _ (length o.ticks) (counts_too (obedient old asked).0 _ _ o.becomes) (it.way ∙ ap said_words o.gives ∙ said_of (sid_of asked) o.ticks (Some (obedient old asked).1) o.due)
              (patience (length o.ticks) o.ticks (obedient old asked).0.counts.stalled stalled_grows (ap (λ (x : ControlUnit). x.counts.stalled) o.becomes) refl) (λ one e. absurd (some_cons one [] (sym e ∙ it.held)));
          timed = late_or (o.ticks ++ (o.due ∷ [])) (obedient old asked).0.counts.late late_grows (ap (λ (x : ControlUnit). x.counts.late) o.becomes)
              (λ late. begins (t0 + l.ticks) refl it.tick (o.ticks ++ (o.due ∷ [])) (it.due ∙ ap (λ (rs : List UnitReply). later_ticks v.gateway.tick (ticks_of rs)) o.gives ∙ ap (later_ticks v.gateway.tick) (ticks_are (sid_of asked) o.ticks (Some (obedient old asked).1) o.due)) o.ascending late
              (λ one e. absurd (some_cons one [] (sym e ∙ it.held))));
        }

    holds_known : (h : HeardNow) → h.old ≡ old → h.new ≡ new → Holds h.old asked v.gateway.tick h.replies h.new → Known f new
    holds_known h old_is new_is holds =
        let it = holds_it tester plan.address asked l v w c up l.inbox nothing h holds in
        let same : SameButCounts (obedient old asked).0 new = counts_too (obedient old asked).0 _ _ (sym new_is ∙ holds.becomes ∙ (λ i. heard_one (obedient (old_is i) asked).0)) in
        record {
          heard = obeyed_counted _ _ 0 same (it.way ∙ ap said_words holds.gives ∙ (λ i. Reply (obedient (old_is i) asked).1 ∷ [])) (inl (omega arith))
              (λ one e. subst (λ (x : HeldAnswer). (0 + 0 ≤ x.pending) × ((x.pending ≤ 200) ⊎ Rose f.counts.stalled new.counts.stalled)) (head_is (sym it.held ∙ e)) (omega arith, inl (omega arith)));
          timed = inr (begins (t0 + l.ticks) refl it.tick [] (dues_none tester plan.address w.gateway.later it.later) refl refl
              (λ one e. subst (λ (x : HeldAnswer). IsHeldTimed v.gateway.tick w.gateway.tick x) (head_is (sym it.held ∙ e)) (record {
                some = holds.some;
                from = omega arith;
                turn = (let z : v.gateway.tick - v.gateway.tick ≡ 0 = omega arith in ap (λ (n : ℕ). n % holds.every) z) ∙ zero-mod holds.every;
                next = let s : 1 ≤ holds.every = holds.some in omega (arith, s, it.tick);
                early = inr (omega (arith, it.tick));
              })));
        }
      where
        head_of : HeldAnswer → List HeldAnswer → HeldAnswer
        head_of x [] = x
        head_of x (y ∷ ys) = y

        head_is : {x y : HeldAnswer} → x ∷ [] ≡ y ∷ [] → x ≡ y
        head_is {x} {y} e = ap (head_of x) e

    departs_known : (h : HeardNow) → Departs old asked v.gateway.tick h.replies new → Known f new
    departs_known h d =
        let can : Each (λ r. CanSend r.body) (pendings (sid_of asked) d.ticks ++ last_replies (said_by d.kind (sid_of asked)) d.due) = subst (λ (rs : List UnitReply). Each (λ r. CanSend r.body) rs) d.gives h.step.sizes in
        let timely : Timely v.gateway.tick h.replies = subst (λ (rs : List UnitReply). Timely v.gateway.tick rs) (sym d.gives) (timely_of (sid_of asked) d.ticks (said_by d.kind (sid_of asked)) d.due v.gateway.tick d.ascending can) in
        let it = said_it tester plan.address asked l v w c up l.inbox nothing h timely in
        let is_counts : d.mid.counts ≡ old.counts = leaves_counts old d.mid asked d.leaves in
        let mid_grows : CountsGrow f.counts d.mid.counts = subst (λ (x : Counts). CountsGrow f.counts x) (sym is_counts) kept.counts in
        let grows : CountsGrow f.counts (raised d.kind d.mid.counts) = counts_then _ _ _ mid_grows (raised_up d.kind d.mid.counts) in
        record {
          heard = record {
            before = old;
            said = said_by d.kind (sid_of asked);
            pending = length d.ticks;
            state = state;
            takes = takes;
            make = kept.make;
            step = inr (
              record { kind = d.kind; mid = d.mid; is = d.is; leaves = d.leaves; said_is = refl; state = counts_too d.mid _ _ d.becomes },
              raised_counts d.kind d.mid.counts (is_late v.gateway.tick (d.ticks ++ last_tick (said_by d.kind (sid_of asked)) d.due)) (is_stalled d.ticks) mid_grows (subst (λ (x : Counts). RoseBy talk.busies f.counts.busy x.busy) (sym is_counts) busy) (ap (λ (x : ControlUnit). x.counts) d.becomes),
            );
            on_way = it.way ∙ ap said_words d.gives ∙ said_of (sid_of asked) d.ticks (said_by d.kind (sid_of asked)) d.due;
            patience = patience (length d.ticks) d.ticks (raised d.kind d.mid.counts).stalled grows.stalled (ap (λ (x : ControlUnit). x.counts.stalled) d.becomes) refl;
            holding = λ one e. absurd (some_cons one [] (sym e ∙ it.held));
          };
          timed = late_or (d.ticks ++ last_tick (said_by d.kind (sid_of asked)) d.due) (raised d.kind d.mid.counts).late grows.late (ap (λ (x : ControlUnit). x.counts.late) d.becomes)
              (λ late. begins (t0 + l.ticks) refl it.tick (d.ticks ++ last_tick (said_by d.kind (sid_of asked)) d.due) (it.due ∙ ap (λ (rs : List UnitReply). later_ticks v.gateway.tick (ticks_of rs)) d.gives ∙ ap (later_ticks v.gateway.tick) (ticks_are (sid_of asked) d.ticks (said_by d.kind (sid_of asked)) d.due)) d.ascending late
              (λ one e. absurd (some_cons one [] (sym e ∙ it.held))));
        }

  heard_known : (h : HeardNow) (f : ControlUnit) → Kept f h.old → RoseBy talk.busies f.counts.busy h.old.counts.busy → StateAt plan talk.place h.old → Takes plan found f talk.place h.old → Known f h.new
  heard_known h f kept busy state takes = go h.step.how
    where
      go : Obeys h.old asked v.gateway.tick h.replies h.new ⊎ Holds h.old asked v.gateway.tick h.replies h.new ⊎ Departs h.old asked v.gateway.tick h.replies h.new → Known f h.new
      go (inl o) = obeys_known f h.old h.new kept busy state takes h o
      go (inr (inl o)) = holds_known f h.old h.new kept busy state takes h refl refl o
      go (inr (inr d)) = departs_known f h.old h.new kept busy state takes h d

  pub heard_awaited : (h : HeardNow) (fo : Option ControlUnit) → unit_at first.units plan.address ≡ fo → KeptIn fo (Some h.old) → BusyBy talk.busies fo (Some h.old) → StateIn plan talk.place (Some h.old) → TakesIn plan found fo talk.place (Some h.old) → IsAwaited tester plan found t0 now l first w
  heard_awaited h None is kept busy state takes = absurd kept
  heard_awaited h (Some f) is kept busy state takes =
      let k = heard_known h f kept busy state takes in
      record {
        awaits = subst (λ (x : Option ControlUnit × Option ControlUnit). IsAwaitCounted plan found now (held_of plan.address w.gateway.held) (on_way tester plan.address l.inbox l.rest w.gateway) x.0 x.1) (λ i. (sym is i, sym h.new_at i)) (inr k.heard);
        timed = subst (λ (x : Option ControlUnit × Option ControlUnit). IsTimed tester plan.address (t0 + l.ticks) l.inbox l.rest w.gateway x.0 x.1) (λ i. (sym is i, sym h.new_at i)) k.timed;
      }
