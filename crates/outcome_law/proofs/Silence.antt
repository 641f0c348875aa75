-- 1,000 ticks without an answer: the unit was mute or late, which was counted.
use Rattle.std.proofs.Common.{◌≡◌, ◌⊎◌, inl, inr, ℕ, zero, suc, ◌+◌, ◌<◌, ◌≤◌, true, false, List, [], ◌∷◌, ◌++◌, length, Some, None, refl, sym, ◌∙◌, ap, arith, length-append}
use Rattle.std.specs.Prelude.{Bool, Option, ◌==◌, ◌||◌, is_some}
use Rattle.std.proofs.lemmas.Bool.{cases_Bool, false≢true, leb-false, or_parts}
use Rattle.std.proofs.lemmas.List.{append-nil}
use Rattle.bay_core.proofs.Ticking.{bodies, held_bodies, turned, on_one, some_cons}
use Rattle.bay_core.specs.Joint.{HoldsAtMost, IsLoneHeld, held_of}
use Rattle.doip_frame.proofs.Streams.{split}
use Rattle.doip_frame.specs.Frame.{Stream, stream_of}
use Rattle.doip_frame.specs.declared.frame.Frame.{Frame}
use Rattle.flash_base.specs.Lists.{Each}
use Rattle.flash_plan.specs.declared.unit.UnitPlan.{UnitPlan}
use Rattle.run_model.specs.Connected.{IsConnected}
use Rattle.run_model.specs.Link.{Link, first_message}
use Rattle.run_model.specs.Script.{bytes_at}
use Rattle.run_model.specs.States.{Obeyed, Departed}
use Rattle.run_model.specs.Talk.{Talk}
use Rattle.run_model.specs.Ways.{UnitMessage, Reply, Nacked, messages_in, messages_later, on_way, pending_messages, final_message}
use Rattle.uds_codec.specs.Request.{sid_of}
use Rattle.unit_model.specs.Poll.{is_turn, ticked}
use Rattle.unit_model.specs.Step.{Departure, Refuses, Odd, Fails, Mutes, Busies, said_by, is_late}
use Rattle.unit_model.specs.Unit.{ControlUnit, Counts}
use Rattle.unit_model.specs.Vehicle.{HeldAnswer, Gateway, Vehicle}
use Rattle.flash_plan.specs.declared.outcome.Outcome.TheVariants.{NoAnswer}
use Rattle.outcome_law.proofs.Clock.{none_dues}
use Rattle.outcome_law.proofs.Growing.{rose_then}
use Rattle.outcome_law.specs.Causes.{IsCaused}
use Rattle.outcome_law.specs.Counting.{KeptIn, IsCounted, IsHeardCounted, IsMissedCounted, IsAwaitCounted, dues, come, IsHeldTimed, IsOnTime, IsTimed}
use Rattle.outcome_law.specs.Rising.{Rose}
use Rattle.bay_core.proofs.Takes.{first_none}

-- the rest of a stream has no whole frame
no_frames : (fs gs : List Frame) → fs ≡ fs ++ gs → gs ≡ []
no_frames fs [] e = refl
no_frames fs (g ∷ gs) e = let n : length fs ≡ length fs + suc (length gs) = ap (λ (xs : List Frame). length xs) e ∙ length-append fs (g ∷ gs) in absurd (omega (arith, n))

pub rest_frames : (tester : ℕ) (l : Link) (g : Gateway) → IsConnected tester l g → (stream_of l.rest).frames ≡ []
rest_frames tester l g c = no_frames (stream_of l.got).frames (stream_of l.rest).frames
    (ap (λ (x : List ℕ). (stream_of x).frames) (sym (append-nil l.got)) ∙ ap (λ (s : Stream). s.frames) (split l.got [] c.bad) ∙ ap (λ (x : List ℕ). (stream_of l.got).frames ++ (stream_of x).frames) (append-nil _ ∙ c.rest))

-- nothing said is nothing answered
silent_is : (sid k : ℕ) (said : Option (List ℕ)) → [] ≡ pending_messages sid k ++ final_message said → said ≡ None
silent_is sid zero None e = refl
silent_is sid zero (Some body) e = absurd (some_cons (Reply body) [] (sym e))
silent_is sid (suc k) said e = absurd (some_cons _ _ (sym e))

none_some : (body : List ℕ) → None ≡ Some body → ⊥
none_some body e = false≢true (ap (is_some {T = List ℕ}) e)

muted_kind : (kind : Departure) (sid busies : ℕ) (a b : Counts) → said_by kind sid ≡ None → IsCounted kind busies a b → Rose a.muted b.muted
muted_kind (Refuses nrc) sid busies a b e rose = absurd (none_some _ (sym e))
muted_kind (Odd body) sid busies a b e rose = absurd (none_some _ (sym e))
muted_kind (Fails body) sid busies a b e rose = absurd (none_some _ (sym e))
muted_kind Mutes sid busies a b e rose = rose
muted_kind Busies sid busies a b e rose = absurd (none_some _ (sym e))

one_reply : (body : List ℕ) (code : ℕ) → Reply body ∷ [] ≡ Nacked code ∷ [] → ⊥
one_reply body code e = false≢true (ap is_unheard (ap (head_or (Reply body)) e))
  where
    head_or : UnitMessage → List UnitMessage → UnitMessage
    head_or w [] = w
    head_or w (x ∷ xs) = x

    is_unheard : UnitMessage → Bool
    is_unheard (Reply b) = false
    is_unheard (Nacked n) = true

module _ (tester : ℕ) (plan : UnitPlan) (found : ℕ → Bool) (t0 : ℕ) (t : Talk) (l : Link) (first v : Vehicle) (c : IsConnected tester l v.gateway) (none : v.gateway.ready ≡ []) (no_more : is_some (first_message plan.address l.inbox) ≡ false)
    (ticks : v.gateway.tick ≡ t0 + l.ticks) (over : t.since + 1000 ≤ l.ticks + 1) (most : HoldsAtMost tester plan.address (sid_of (bytes_at plan t.place)) v.gateway) where
  abbrev a : ℕ
  a = plan.address

  nothing : come tester plan.address l.inbox l.rest v.gateway ≡ []
  nothing = λ i. first_none plan.address l.inbox no_more i ++ (ap (λ (x : List ℕ). messages_in tester plan.address (stream_of x).frames) (ap (λ (x : List ℕ). l.rest ++ x) none ∙ append-nil l.rest) ∙ ap (messages_in tester plan.address) (rest_frames tester l v.gateway c)) i

  -- what is on the way is held, where nothing more is due
  way_held : messages_later tester plan.address v.gateway.later ≡ [] → on_way tester plan.address l.inbox l.rest v.gateway ≡ bodies (held_of plan.address v.gateway.held)
  way_held later = λ i. first_none plan.address l.inbox no_more i ++ ((ap (λ (x : List ℕ). messages_in tester plan.address (stream_of x).frames) (ap (λ (x : List ℕ). l.rest ++ x) none ∙ append-nil l.rest) ∙ ap (messages_in tester plan.address) (rest_frames tester l v.gateway c)) i
      ++ (later i ++ held_bodies plan.address v.gateway.held i))

  none_later : (sent : ℕ) → sent ≡ t0 + t.since → IsOnTime tester plan.address sent l.inbox l.rest v.gateway → dues tester plan.address v.gateway.later ≡ []
  none_later sent at on = go (dues tester plan.address v.gateway.later) on.after on.next
    where
      go : (ds : List ℕ) → Each (λ d. v.gateway.tick < d) ds → is_late on.last ds ≡ false → ds ≡ []
      go [] after late = refl
      go (d ∷ ds) after late =
          let soon : d < on.last + 1000 = leb-false (on.last + 1000) d (or_parts _ _ late).0 in
          let past : on.last ≤ sent = on.taken nothing in
          let now : v.gateway.tick < d = after.0 in
          absurd (omega (arith, soon, past, now, at, over, ticks))

  no_reply : (code : ℕ) → on_way tester plan.address l.inbox l.rest v.gateway ≡ bodies (held_of plan.address v.gateway.held) → on_way tester plan.address l.inbox l.rest v.gateway ≡ Nacked code ∷ [] → ⊥
  no_reply code is way = go most
    where
      go : HoldsAtMost tester plan.address (sid_of (bytes_at plan t.place)) v.gateway → ⊥
      go (inl empty) = some_cons _ _ (sym way ∙ is ∙ ap bodies empty)
      go (inr lone) = one_reply lone.one.body code (sym (is ∙ ap bodies lone.held) ∙ way)

  -- it said nothing, and holds nothing
  mute : (f u : ControlUnit) → held_of plan.address v.gateway.held ≡ [] → on_way tester plan.address l.inbox l.rest v.gateway ≡ bodies (held_of plan.address v.gateway.held)
      → IsHeardCounted plan found t f (held_of plan.address v.gateway.held) (on_way tester plan.address l.inbox l.rest v.gateway) u → Rose f.counts.muted u.counts.muted
  mute f u empty is h = go h.step
    where
      said : h.said ≡ None
      said = silent_is (sid_of (bytes_at plan t.place)) h.pending h.said (sym (is ∙ ap bodies empty) ∙ h.on_way)

      go : Obeyed h.before (bytes_at plan t.place) h.said u ⊎ ((d : Departed h.before (bytes_at plan t.place) h.said u) × IsCounted d.kind t.busies f.counts u.counts) → Rose f.counts.muted u.counts.muted
      go (inl o) = absurd (none_some _ (sym said ∙ o.said_is))
      go (inr (d, rose)) = muted_kind d.kind (sid_of (bytes_at plan t.place)) t.busies f.counts u.counts (sym d.said_is ∙ said) rose

  -- it holds its answer for 1,000 ticks
  held_late : (f w : ControlUnit) (sent : ℕ) → sent ≡ t0 + t.since → IsOnTime tester plan.address sent l.inbox l.rest v.gateway → (lone : IsLoneHeld tester plan.address (sid_of (bytes_at plan t.place)) v.gateway)
      → Rose f.counts.late w.counts.late ⊎ IsOnTime tester plan.address sent l.inbox l.rest (ticked v).gateway → Rose f.counts.late w.counts.late
  held_late f w sent at on lone (inl rose) = rose
  held_late f w sent at on lone (inr then_on) =
      let was : IsHeldTimed on.last v.gateway.tick lone.one = on.held lone.one lone.held in
      let past : on.last ≤ sent = on.taken nothing in
      let from : lone.one.from ≤ on.last = was.from in
      let next : v.gateway.tick < on.last + lone.one.every = was.next in
      let now : IsHeldTimed then_on.last (v.gateway.tick + 1) (turned (v.gateway.tick + 1) lone.one) = then_on.held (turned (v.gateway.tick + 1) lone.one) (on_one plan.address (v.gateway.tick + 1) v.gateway.held lone.one lone.held) in
      let same = turned_times (v.gateway.tick + 1) lone.one in
      elim now.early [
        | inl few ↦ (let every : (turned (v.gateway.tick + 1) lone.one).every ≡ lone.one.every = same.0 in absurd (omega (arith, few, every, next, past, at, over, ticks)))
        | inr lt ↦ (let began : (turned (v.gateway.tick + 1) lone.one).from ≡ lone.one.from = same.1 in absurd (omega (arith, lt, began, from, past, at, over, ticks)))
      ]
    where
      turned_times : (tick : ℕ) (h : HeldAnswer) → ((turned tick h).every ≡ h.every) × ((turned tick h).from ≡ h.from)
      turned_times tick h = elim (cases_Bool (is_turn tick h)) [ inl e ↦ rw e (refl, refl) | inr e ↦ rw e (refl, refl) ]

  pub silence : (fo vo wo : Option ControlUnit) (begun : Bool) (sid : ℕ) → KeptIn vo wo
      → IsAwaitCounted plan found t (held_of plan.address v.gateway.held) (on_way tester plan.address l.inbox l.rest v.gateway) fo vo
      → IsTimed tester plan.address (t0 + t.since) l.inbox l.rest v.gateway fo vo → IsTimed tester plan.address (t0 + t.since) l.inbox l.rest (ticked v).gateway fo wo → IsCaused plan begun found fo wo (NoAnswer sid)
  silence None None wo begun sid kept awaits timed after = absurd (no_reply 3 (way_held timed) awaits)
  silence None (Some u) wo begun sid kept awaits timed after = absurd awaits
  silence (Some f) None wo begun sid kept awaits timed after = absurd awaits
  silence (Some f) (Some u) None begun sid kept awaits timed after = absurd kept
  silence (Some f) (Some u) (Some w) begun sid kept awaits (inl rose) after = inr (rose_then 1 _ _ _ rose kept.counts.late)
  silence (Some f) (Some u) (Some w) begun sid kept awaits (inr on) after = go most awaits
    where
      later : messages_later tester plan.address v.gateway.later ≡ []
      later = none_dues tester plan.address v.gateway.later (none_later (t0 + t.since) refl on)

      go : HoldsAtMost tester plan.address (sid_of (bytes_at plan t.place)) v.gateway → IsMissedCounted f (on_way tester plan.address l.inbox l.rest v.gateway) u ⊎ IsHeardCounted plan found t f (held_of plan.address v.gateway.held) (on_way tester plan.address l.inbox l.rest v.gateway) u
          → Rose f.counts.muted w.counts.muted ⊎ Rose f.counts.late w.counts.late
      go x (inl m) = absurd (no_reply m.code (way_held later) m.on_way)
      go (inl empty) (inr h) = inl (rose_then 1 _ _ _ (mute f u empty (way_held later) h) kept.counts.muted)
      go (inr lone) (inr h) = inr (held_late f w (t0 + t.since) refl on lone after)
