-- Each event keeps what is counted of each unit.
use Rattle.std.proofs.Common.{◌≡◌, ◌⊎◌, inl, inr, ℕ, ◌+◌, ◌<◌, ◌≤◌, true, false, List, [], ◌∷◌, ◌++◌, Some, None, refl, sym, ◌∙◌, ap, subst, arith}
use Rattle.std.specs.Prelude.{Bool, Option, ◌==◌, ◌&&◌, ◌||◌, nat_le, nat_lt, is_some, length}
use Rattle.std.proofs.lemmas.Bool.{cases_Bool, false≢true, both_ways, eqb-true, eq-eqb, le-ltb, lt-ltb, leb-true, and_parts, not-true}
use Rattle.std.proofs.Math.Bool.{and-false}
use Rattle.bay_core.proofs.Allowed.{SentFacts, sent_facts, collected_facts, MarkFacts, mark_facts, open_slot, asks_needs}
use Rattle.bay_core.proofs.Links.{Steps}
use Rattle.bay_core.proofs.Piecing.{piece_first, known_address}
use Rattle.bay_core.proofs.Sane.{event_steps}
use Rattle.bay_core.proofs.Sounds.{units_received, units_tended}
use Rattle.bay_core.proofs.Takes.{first_is, take_none}
use Rattle.bay_core.proofs.Ticking.{up_tester}
use Rattle.bay_core.proofs.Ticks.{between, sent_can}
use Rattle.bay_core.specs.Core.{Slot, Core, core_after, with_slot, with_talk, slots_own, recorded_after, link_after, addresses_of}
use Rattle.bay_core.specs.Joint.{IsVehicleJoint, held_of, is_open_slot}
use Rattle.bay_core.specs.Legal.{is_allowed, fits_link, is_mark}
use Rattle.bay_core.specs.Moves.{MovesVehicle, Receives, Tends, FeedsOr, DialsOr, request_frame}
use Rattle.bay_core.specs.declared.event.Event.TheVariants.{Claimed, Began, Sent, Collected, Tended, Marked, Completed, DiskFailed, Ended}
use Rattle.bay_core.specs.declared.event.Event.{Event}
use Rattle.bay_core.specs.declared.event.Heard.TheVariants.{Kept as kept_word, Quiet, Piece, Lost}
use Rattle.bay_core.specs.declared.event.Heard.{Heard}
use Rattle.bay_core.specs.declared.event.Tend.TheVariants.{Dialed, Asked, Said, Polled}
use Rattle.bay_core.specs.declared.event.Tend.{Tend}
use Rattle.doip_frame.specs.Frame.{alive_say_bytes}
use Rattle.flash_base.specs.Lists.{BeginsWith}
use Rattle.flash_plan.specs.Plan.{IsAccepted, plan_of, count_of}
use Rattle.flash_plan.specs.declared.outcome.Entry.TheVariants as entry
use Rattle.flash_plan.specs.declared.outcome.Entry.TheVariants.{Begun}
use Rattle.flash_plan.specs.declared.outcome.Entry.{Entry}
use Rattle.flash_plan.specs.declared.outcome.Outcome.{Outcome}
use Rattle.flash_plan.specs.declared.outcome.Outcome.TheVariants as outcome
use Rattle.flash_plan.specs.declared.outcome.Outcome.TheVariants.{Refused, BadAnswer, CheckFailed, IdentMismatch, Undelivered, NoAnswer, PendingLimit, BusyLimit}
use Rattle.flash_plan.specs.declared.unit.LinkRules.{LinkRules}
use Rattle.flash_plan.specs.declared.unit.Segment.{Segment}
use Rattle.flash_plan.specs.declared.unit.UnitPlan.{UnitPlan}
use Rattle.flash_plan.specs.declared.unit.Wanted.{Wanted}
use Rattle.run_model.proofs.Along.{says}
use Rattle.run_model.proofs.Alike.{weaker}
use Rattle.run_model.proofs.Hearing.{HeardAtMost, sent_heard}
use Rattle.run_model.proofs.Sends.{message_sends, alive_sends}
use Rattle.run_model.specs.Connected.{IsConnected}
use Rattle.flash_plan.specs.Outcomes.{with_entry}
use Rattle.run_model.specs.Entries.{with_mark, marks_of}
use Rattle.run_model.specs.Link.{Link, is_up, is_live, hear_piece, take_message, first_message, without_first, quiet_link}
use Rattle.run_model.specs.Link as phase
use Rattle.run_model.specs.Places.{is_ended, needs_request}
use Rattle.run_model.specs.Script.{Cursor, Place, AtIdent, AtBegin, AtProgram, AtSeed, AtKey, AtErase, AtDownload, AtBlock, AtExit, AtCheck, AtMark, AtFinish, AtReset, AtDone, AtEnd, bytes_at, start_place, idents_from, segments_from, place_marked}
use Rattle.run_model.specs.States.{StateIn}
use Rattle.run_model.specs.Talk.{Talk, talk_start, talk_lost, talk_marked, talk_sent, talk_hears, talk_judged, talk_takes, talk_quiet, keeps_on_loss, sid_at}
use Rattle.run_model.specs.Ways.{UnitMessage, Reply, Nacked, messages_from, messages_in, messages_later, messages_held, on_way}
use Rattle.doip_frame.specs.Frame.{stream_of}
use Rattle.uds_codec.specs.Answer.{Verdict, Pending, Busy, Refusal, Accepted, BadStatus, Malformed, judge}
use Rattle.uds_codec.specs.Request.{sid_of}
use Rattle.unit_model.proofs.Units.{SameIn, SameUnits, same_self}
use Rattle.unit_model.specs.Feed.{Nothing, queue_due}
use Rattle.unit_model.specs.Poll.{Ticks, IsShown, ticked}
use Rattle.unit_model.specs.Unit.{ControlUnit, Counts}
use Rattle.unit_model.specs.Vehicle.{Gateway, Vehicle, unit_at}
use Rattle.unit_session.specs.Left.{left_for, requests_left}
use Rattle.bay_core.proofs.Sending.{came_out, Refused as refused_request, Heard as heard_request, place_goes}
use Rattle.outcome_law.proofs.Asking.{others_on, refused_awaited, heard_awaited}
use Rattle.outcome_law.proofs.Checking.{FinishesIn, finishes_in, finishes_on, has_checked, heard_checked, takes_same}
use Rattle.outcome_law.proofs.Clock.{tick_awaited}
use Rattle.outcome_law.proofs.Growing.{VehicleGrows, vehicle_same, moved_up, feeds_up, part_up, redialed_up, ticks_up, carries_up, misses_up, rose_then, unit_up_then, unit_up_same}
use Rattle.outcome_law.proofs.Silence.{silence}
use Rattle.outcome_law.proofs.Talking.{word_goes, ended_counted, takes_counts}
use Rattle.outcome_law.proofs.Waiting.{IsAwaited, IsStillOn, still_awaited, other_taken, piece_on, own_taken}
use Rattle.outcome_law.specs.Causes.{IsCaused, IsCausedBy}
use Rattle.outcome_law.specs.Counting.{KeptIn, Takes, TakesIn, IsIdentPlace, IsEndCaused, BusyBy, IsTalkCounted, IsAwaitCounted, IsTimed, SameChecked, IsUnitCounted, AreUnitsCounted}
use Rattle.outcome_law.specs.Rising.{CountsGrow}
use Rattle.run_model.proofs.Phases.{up_open, open_live, down_not_up, dialed_not_up, asked_not_up, quiet_up}

-- ------ what the vehicle's counts do
feeds_or : (lost : Bool) (frame : List ℕ) (v w : Vehicle) → FeedsOr lost frame v w → VehicleGrows v w
feeds_or true frame v w did = part_up frame v w did
feeds_or false frame v w did = feeds_up frame v w did

dials_or : (lost : Bool) (v w : Vehicle) → DialsOr lost v w → VehicleGrows v w
dials_or true v w (inl is) = moved_up v v w is (vehicle_same v)
dials_or true v w (inr is) = moved_up v _ w is (redialed_up v)
dials_or false v w is = moved_up v _ w is (redialed_up v)

receives_grow : (h : Heard) (v w : Vehicle) → Receives h v w → VehicleGrows v w
receives_grow kept_word v w is = moved_up v v w is (vehicle_same v)
receives_grow Quiet v w is = ticks_up v w is
receives_grow (Piece bytes) v w is = carries_up bytes v w is.carries
receives_grow Lost v w is = misses_up v w is

pub moves_grow : (rules : LinkRules) (P : List UnitPlan) (c : Core) (e : Event) (v w : Vehicle) → MovesVehicle rules P c e v w → VehicleGrows v w
moves_grow rules P c (Claimed u) v w did = moved_up v v w did (vehicle_same v)
moves_grow rules P c (Began u) v w did = moved_up v v w did (vehicle_same v)
moves_grow rules P c (Sent u place lost) v w did = feeds_or lost _ v w did
moves_grow rules P c (Collected u h) v w did = receives_grow h v w did
moves_grow rules P c (Tended (Dialed lost)) v w did = dials_or lost v w did
moves_grow rules P c (Tended (Asked lost)) v w did = feeds_or lost _ v w did
moves_grow rules P c (Tended (Said lost)) v w did = feeds_or lost _ v w did
moves_grow rules P c (Tended (Polled h)) v w did = receives_grow h v w did
moves_grow rules P c (Marked u s) v w did = moved_up v v w did (vehicle_same v)
moves_grow rules P c (Completed u) v w did = moved_up v v w did (vehicle_same v)
moves_grow rules P c (DiskFailed u entry) v w did = moved_up v v w did (vehicle_same v)
moves_grow rules P c (Ended u why) v w did = moved_up v v w did (vehicle_same v)

-- ------ one conversation
ident_start : (plan : UnitPlan) (begun : Bool) → IsIdentPlace plan begun (start_place plan begun)
ident_start plan true = tt
ident_start plan false = go plan.idents refl
  where
    go : (ws : List Wanted) → ws ≡ plan.idents → IsIdentPlace plan false (idents_from ws)
    go [] is = tt
    go (w ∷ ws) is = (refl, ([], is))

ended_start : (plan : UnitPlan) (begun : Bool) (found : ℕ → Bool) (first now : Option ControlUnit) → IsEndCaused plan begun found first now (start_place plan begun)
ended_start plan true found first now = tt
ended_start plan false found first now = go plan.idents
  where
    go : (ws : List Wanted) → IsEndCaused plan false found first now (idents_from ws)
    go [] = tt
    go (w ∷ ws) = tt

takes_start : (plan : UnitPlan) (begun : Bool) (found : ℕ → Bool) (first now : Option ControlUnit) → TakesIn plan found first (start_place plan begun) now
takes_start plan begun found None now = tt
takes_start plan begun found (Some f) None = tt
takes_start plan true found (Some f) (Some u) = tt
takes_start plan false found (Some f) (Some u) = go plan.idents
  where
    go : (ws : List Wanted) → Takes plan found f (idents_from ws) u
    go [] = tt
    go (w ∷ ws) = tt

busy_start : (first now : Option ControlUnit) → KeptIn first now → BusyBy 0 first now
busy_start None None kept = refl
busy_start None (Some w) kept = refl
busy_start (Some u) None kept = absurd kept
busy_start (Some u) (Some w) kept = kept.counts.busy

-- an attempt begins
pub start_counted : (plan : UnitPlan) (begun : Bool) (found marks : ℕ → Bool) (first now : Option ControlUnit) → KeptIn first now → IsTalkCounted plan begun found first now (talk_start plan begun marks)
start_counted plan begun found marks first now kept = record {
  ident = ident_start plan begun;
  ended = ended_start plan begun found first now;
  busy = busy_start first now kept;
  takes = λ none. takes_start plan begun found first now;
  left = λ e. omega arith;
}

lost_counted : (plan : UnitPlan) (begun : Bool) (found : ℕ → Bool) (first now : Option ControlUnit) (t : Talk) → KeptIn first now → IsTalkCounted plan begun found first now t → IsTalkCounted plan begun found first now (talk_lost plan begun t)
lost_counted plan begun found first now t kept is = elim (cases_Bool (keeps_on_loss t.place)) [ inl e ↦ rw e is | inr e ↦ rw e (start_counted plan begun found t.marks first now kept) ]

-- counts that rise keep a cause
by_counts : (plan : UnitPlan) (begun : Bool) (found : ℕ → Bool) (f : ControlUnit) (a b : Counts) (o : Outcome) → CountsGrow a b → IsCausedBy plan begun found f a o → IsCausedBy plan begun found f b o
by_counts plan begun found f a b (Refused sid nrc) grow (inl rose) = inl (rose_then 1 _ _ _ rose (grow.refused nrc))
by_counts plan begun found f a b (Refused sid nrc) grow (inr unfit) = inr unfit
by_counts plan begun found f a b (BadAnswer sid) grow (inl rose) = inl (rose_then 1 _ _ _ rose grow.odd)
by_counts plan begun found f a b (BadAnswer sid) grow (inr unfit) = inr unfit
by_counts plan begun found f a b (CheckFailed routine segment status) grow (inl rose) = inl (rose_then 1 _ _ _ rose grow.failed)
by_counts plan begun found f a b (CheckFailed routine segment status) grow (inr none) = inr none
by_counts plan begun found f a b (NoAnswer sid) grow (inl rose) = inl (rose_then 1 _ _ _ rose grow.muted)
by_counts plan begun found f a b (NoAnswer sid) grow (inr rose) = inr (rose_then 1 _ _ _ rose grow.late)
by_counts plan begun found f a b (PendingLimit sid) grow rose = rose_then 1 _ _ _ rose grow.stalled
by_counts plan begun found f a b (BusyLimit sid) grow rose = rose_then 21 _ _ _ rose grow.busy
by_counts plan begun found f a b (Undelivered code) grow rose = rose_then 1 _ _ _ rose (grow.nacked code)
by_counts plan begun found f a b (IdentMismatch did) grow other = other
by_counts plan begun found f a b outcome.Complete grow never = absurd never
by_counts plan begun found f a b (outcome.LinkLost times) grow never = absurd never
by_counts plan begun found f a b (outcome.LinkRefused code) grow never = absurd never
by_counts plan begun found f a b (outcome.Blocked by) grow never = absurd never
by_counts plan begun found f a b outcome.DiskFault grow never = absurd never
by_counts plan begun found f a b outcome.NoMemory grow never = absurd never

caused_on : (plan : UnitPlan) (begun : Bool) (found : ℕ → Bool) (first now now2 : Option ControlUnit) (o : Outcome) → KeptIn now now2 → IsCaused plan begun found first now o → IsCaused plan begun found first now2 o
caused_on plan begun found None None None o kept is = is
caused_on plan begun found None None (Some w) o kept is = absurd kept
caused_on plan begun found None (Some u) now2 o kept is = absurd is
caused_on plan begun found (Some f) None now2 o kept is = absurd is
caused_on plan begun found (Some f) (Some u) None o kept is = absurd kept
caused_on plan begun found (Some f) (Some u) (Some w) o kept is = by_counts plan begun found f u.counts w.counts o kept.counts is

ended_on : (plan : UnitPlan) (begun : Bool) (found : ℕ → Bool) (first now now2 : Option ControlUnit) (place : Place) → KeptIn now now2 → IsEndCaused plan begun found first now place → IsEndCaused plan begun found first now2 place
ended_on plan begun found first now now2 (AtEnd o) kept is = caused_on plan begun found first now now2 o kept is
ended_on plan begun found first now now2 (AtIdent w ws) kept is = tt
ended_on plan begun found first now now2 AtBegin kept is = tt
ended_on plan begun found first now now2 AtProgram kept is = tt
ended_on plan begun found first now now2 (AtSeed level) kept is = tt
ended_on plan begun found first now now2 (AtKey level seed) kept is = tt
ended_on plan begun found first now now2 (AtErase c) kept is = tt
ended_on plan begun found first now now2 (AtDownload c) kept is = tt
ended_on plan begun found first now now2 (AtBlock c b) kept is = tt
ended_on plan begun found first now now2 (AtExit c) kept is = tt
ended_on plan begun found first now now2 (AtCheck c) kept is = tt
ended_on plan begun found first now now2 (AtMark c) kept is = tt
ended_on plan begun found first now now2 AtFinish kept is = tt
ended_on plan begun found first now now2 AtReset kept is = tt
ended_on plan begun found first now now2 AtDone kept is = tt

busy_on : (n : ℕ) (first now now2 : Option ControlUnit) → KeptIn now now2 → BusyBy n first now → BusyBy n first now2
busy_on n None now now2 kept is = is
busy_on n (Some f) None now2 kept is = absurd is
busy_on n (Some f) (Some u) None kept is = absurd kept
busy_on n (Some f) (Some u) (Some w) kept is = rose_then n _ _ _ is kept.counts.busy

takes_in : (plan : UnitPlan) (found : ℕ → Bool) (first : Option ControlUnit) (place : Place) (now now2 : Option ControlUnit) → SameIn now now2 → TakesIn plan found first place now → TakesIn plan found first place now2
takes_in plan found None place now now2 same is = tt
takes_in plan found (Some f) place None None same is = tt
takes_in plan found (Some f) place None (Some w) same is = absurd same
takes_in plan found (Some f) place (Some u) None same is = absurd same
takes_in plan found (Some f) place (Some u) (Some w) same is = takes_same plan found f place u w (λ i. (same.same i).checked) (takes_counts place u w (weaker u w same)) is

-- only counts rise
pub moved_talk : (plan : UnitPlan) (begun : Bool) (found : ℕ → Bool) (first now now2 : Option ControlUnit) (t : Talk) → KeptIn now now2 → SameIn now now2 → IsTalkCounted plan begun found first now t → IsTalkCounted plan begun found first now2 t
moved_talk plan begun found first now now2 t kept same is = record {
  ident = is.ident;
  ended = ended_on plan begun found first now now2 t.place kept is.ended;
  busy = busy_on t.busies first now now2 kept is.busy;
  takes = λ none. takes_in plan found first t.place now now2 same (is.takes none);
  left = is.left;
}

sent_counted : (plan : UnitPlan) (begun : Bool) (found : ℕ → Bool) (first now now2 : Option ControlUnit) (tick : ℕ) (t : Talk) → KeptIn now now2 → IsTalkCounted plan begun found first now t → IsTalkCounted plan begun found first now2 (talk_sent tick t)
sent_counted plan begun found first now now2 tick t kept is = record {
  ident = is.ident;
  ended = ended_on plan begun found first now now2 t.place kept is.ended;
  busy = busy_on t.busies first now now2 kept is.busy;
  takes = λ none. absurd (false≢true (sym none));
  left = is.left;
}

-- ------ the segment in hand is marked
-- behind it stands another segment or the whole check, which finds this segment's range
marked_takes : (plan : UnitPlan) (found marks : ℕ → Bool) (done ss : List Segment) (first now : Option ControlUnit) → ((u : ControlUnit) → now ≡ Some u → u.checked ≡ [] → ⊥) → TakesIn plan found first (segments_from marks done ss) now
marked_takes plan found marks done ss None now some = tt
marked_takes plan found marks done ss (Some f) None some = tt
marked_takes plan found marks done ss (Some f) (Some u) some = go done ss
  where
    go : (done ss : List Segment) → Takes plan found f (segments_from marks done ss) u
    go done [] = λ none. absurd (some u refl none)
    go done (s ∷ ss) = elim (cases_Bool (marks (length done))) [ inl e ↦ rw e (go (done ++ (s ∷ [])) ss) | inr e ↦ rw e tt ]

behind_segments : (plan : UnitPlan) (begun : Bool) (found marks : ℕ → Bool) (first now : Option ControlUnit) (done ss : List Segment)
    → IsIdentPlace plan begun (segments_from marks done ss) × IsEndCaused plan begun found first now (segments_from marks done ss)
behind_segments plan begun found marks first now done [] = (tt, tt)
behind_segments plan begun found marks first now done (s ∷ ss) = elim (cases_Bool (marks (length done))) [
  | inl e ↦ rw e (behind_segments plan begun found marks first now (done ++ (s ∷ [])) ss)
  | inr e ↦ rw e (tt, tt)
]

-- segments that are left out make none of it more
left_behind : (plan : UnitPlan) (marks : ℕ → Bool) (done ss : List Segment) → requests_left plan (segments_from marks done ss) ≤ left_for ss
left_behind plan marks done [] = omega arith
left_behind plan marks done (s ∷ ss) = elim (cases_Bool (marks (length done))) [
  | inl e ↦ rw e (omega (arith, left_behind plan marks (done ++ (s ∷ [])) ss))
  | inr e ↦ rw e (omega arith)
]

marked_counted : (plan : UnitPlan) (begun : Bool) (found : ℕ → Bool) (first now : Option ControlUnit) (s : ℕ) (t : Talk) (c : Cursor) → t.place ≡ AtMark c → ((u : ControlUnit) → now ≡ Some u → u.checked ≡ [] → ⊥)
    → IsTalkCounted plan begun found first now t → IsTalkCounted plan begun found first now (talk_marked s t)
marked_counted plan begun found first now s t c at some is =
    let next : place_marked (with_mark s t.marks) t.place ≡ segments_from (with_mark s t.marks) (c.done ++ (c.now ∷ [])) c.left = ap (place_marked (with_mark s t.marks)) at in
    let plain = behind_segments plan begun found (with_mark s t.marks) first now (c.done ++ (c.now ∷ [])) c.left in
    record {
      ident = subst (λ (p : Place). IsIdentPlace plan begun p) (sym next) plain.0;
      ended = subst (λ (p : Place). IsEndCaused plan begun found first now p) (sym next) plain.1;
      busy = is.busy;
      takes = λ none. subst (λ (p : Place). TakesIn plan found first p now) (sym next) (marked_takes plan found (with_mark s t.marks) (c.done ++ (c.now ∷ [])) c.left first now some);
      left = λ e.
          let so_far : t.number + requests_left plan t.place ≤ requests_left plan (start_place plan begun) = is.left (ap is_ended at) in
          let here : requests_left plan t.place ≡ left_for c.left = ap (requests_left plan) at in
          let there : requests_left plan (place_marked (with_mark s t.marks) t.place) ≤ left_for c.left = subst (λ (p : Place). requests_left plan p ≤ left_for c.left) (sym next) (left_behind plan (with_mark s t.marks) (c.done ++ (c.now ∷ [])) c.left) in
          omega (arith, so_far, here, there);
    }

-- ------ the checked ranges
checked_on : (plan : UnitPlan) (found : ℕ → Bool) (first now now2 : Option ControlUnit) → SameIn now now2 → SameChecked plan found first now → SameChecked plan found first now2
checked_on plan found None now now2 same is = tt
checked_on plan found (Some f) None None same is = tt
checked_on plan found (Some f) None (Some w) same is = absurd same
checked_on plan found (Some f) (Some u) None same is = tt
checked_on plan found (Some f) (Some u) (Some w) same is = λ all. (λ i. (same.same i).checked) ∙ is all

-- what was taken is counted from now on
hears_since : (plan : UnitPlan) (tick : ℕ) (w : UnitMessage) (t : Talk) → (talk_hears plan tick w t).awaiting ≡ true → (talk_hears plan tick w t).since ≡ tick
hears_since plan tick (Nacked code) t e = absurd (false≢true e)
hears_since plan tick (Reply body) t e = go (judge (bytes_at plan t.place) body) e
  where
    go : (v : Verdict) → (talk_judged plan tick v t).awaiting ≡ true → (talk_judged plan tick v t).since ≡ tick
    go Pending = elim (cases_Bool (t.pendings == 200)) [ inl f ↦ rw f (λ a. absurd (false≢true a)) | inr f ↦ rw f (λ a. refl) ]
    go Busy = elim (cases_Bool (t.busies == 20)) [ inl f ↦ rw f (λ a. absurd (false≢true a)) | inr f ↦ rw f (λ a. absurd (false≢true a)) ]
    go (Refusal nrc) = λ a. absurd (false≢true a)
    go (Accepted rest) = λ a. absurd (false≢true a)
    go (BadStatus status) = λ a. absurd (false≢true a)
    go Malformed = λ a. absurd (false≢true a)

-- ------ one unit after an event
module _ (rules : LinkRules) (P : List UnitPlan) (found : Entry → Bool) (c : Core) (v first : Vehicle) (t0 : ℕ) (accepted : IsAccepted P) (joint : IsVehicleJoint rules P found c v t0) (counted : AreUnitsCounted rules P found t0 c first v) where
  abbrev First : ℕ → Option ControlUnit
  First n = unit_at first.units (plan_of P n).address

  abbrev Now : ℕ → Option ControlUnit
  Now n = unit_at v.units (plan_of P n).address

  abbrev Old : ℕ → Type 0
  Old n = IsTalkCounted (plan_of P n) (c.recorded (Begun n)) (marks_of found n) (First n) (Now n) (c.slots n).talk

  -- what is counted of a unit whose answer is awaited
  awaited : (n : ℕ) → n < count_of P → is_live c.link.phase ≡ true → is_open_slot (c.slots n) ≡ true → (c.slots n).talk.awaiting ≡ true → IsAwaited rules.tester (plan_of P n) (marks_of found n) t0 (c.slots n).talk c.link first v
  awaited n lt live opened a = record { awaits = (counted.units n lt).awaits live opened a; timed = (counted.units n lt).timed live opened a }

  kept_of : (n : ℕ) (w : Vehicle) → n < count_of P → VehicleGrows v w → KeptIn (First n) (unit_at w.units (plan_of P n).address)
  kept_of n w lt grows = unit_up_then _ _ _ (counted.units n lt).kept (grows.units (plan_of P n).address)

  abbrev TalkAfter : Event → ℕ → Vehicle → Type 0
  TalkAfter e n w = IsTalkCounted (plan_of P n) (recorded_after e c.recorded (Begun n)) (marks_of found n) (First n) (unit_at w.units (plan_of P n).address) (slots_own rules P e c n).talk

  abbrev AwaitedAfter : Event → ℕ → Vehicle → Type 0
  AwaitedAfter e n w = (link_after rules P e c.link).losses ≡ c.link.losses → is_live (link_after rules P e c.link).phase ≡ true → is_open_slot (slots_own rules P e c n) ≡ true → (slots_own rules P e c n).talk.awaiting ≡ true
      → IsAwaited rules.tester (plan_of P n) (marks_of found n) t0 (slots_own rules P e c n).talk (link_after rules P e c.link) first w

  abbrev CheckedIn : ℕ → Vehicle → Type 0
  CheckedIn n w = SameChecked (plan_of P n) (marks_of found n) (First n) (unit_at w.units (plan_of P n).address)

  checked_same : (n : ℕ) (w : Vehicle) → n < count_of P → SameIn (Now n) (unit_at w.units (plan_of P n).address) → CheckedIn n w
  checked_same n w lt same = checked_on (plan_of P n) (marks_of found n) (First n) (Now n) _ same (counted.units n lt).checked

  checked_still : (n : ℕ) (w : Vehicle) → n < count_of P → w ≡ v → CheckedIn n w
  checked_still n w lt is = subst (λ (x : Vehicle). CheckedIn n x) (sym is) (counted.units n lt).checked

  abbrev Counted : Event → ℕ → Vehicle → Type 0
  Counted e n w = IsUnitCounted rules.tester (plan_of P n) ((core_after rules P e c).recorded (Begun n)) (marks_of found n) t0 (core_after rules P e c).link ((core_after rules P e c).slots n) first w

  after : (e : Event) (n : ℕ) (w : Vehicle) → is_allowed P c e ≡ true → n < count_of P → VehicleGrows v w → CheckedIn n w → TalkAfter e n w → AwaitedAfter e n w → Counted e n w
  after e n w ok lt grows checked talk awaits = go (event_steps rules P c accepted joint.sane e ok)
    where
      kept : KeptIn (First n) (unit_at w.units (plan_of P n).address)
      kept = kept_of n w lt grows

      go : Steps c.link (link_after rules P e c.link) → Counted e n w
      go (inl d) =
          let losses : (link_after rules P e c.link).losses ≡ c.link.losses + 1 = d.1 in
          let lost : nat_lt c.link.losses (link_after rules P e c.link).losses ≡ true = lt-ltb _ _ (omega (arith, losses)) in
          let dead : is_live (link_after rules P e c.link).phase ≡ false = ap is_live d.0 in
          rw lost (record {
            kept = kept;
            checked = checked;
            talk = lost_counted (plan_of P n) (recorded_after e c.recorded (Begun n)) (marks_of found n) (First n) _ (slots_own rules P e c n).talk kept talk;
            awaits = λ live. absurd (both_ways _ dead live);
            timed = λ live. absurd (both_ways _ dead live);
          })
      go (inr s) =
          let losses : (link_after rules P e c.link).losses ≡ c.link.losses = s.0 in
          let still : nat_lt c.link.losses (link_after rules P e c.link).losses ≡ false = le-ltb _ _ (omega (arith, losses)) in
          rw still (record {
            kept = kept;
            checked = checked;
            talk = talk;
            awaits = λ live opened a. (awaits s.0 live opened a).awaits;
            timed = λ live opened a. (awaits s.0 live opened a).timed;
          })

  -- by whose slot it is
  by_talk : (u n : ℕ) (s : Slot) (w : Vehicle) (recorded : Entry → Bool) → n < count_of P
      → (u < count_of P → IsTalkCounted (plan_of P u) (recorded (Begun u)) (marks_of found u) (First u) (unit_at w.units (plan_of P u).address) s.talk)
      → ((n == u) ≡ false → IsTalkCounted (plan_of P n) (recorded (Begun n)) (marks_of found n) (First n) (unit_at w.units (plan_of P n).address) (c.slots n).talk)
      → IsTalkCounted (plan_of P n) (recorded (Begun n)) (marks_of found n) (First n) (unit_at w.units (plan_of P n).address) (with_slot u s c.slots n).talk
  by_talk u n s w recorded lt own other = elim (cases_Bool (n == u)) [
    | inl e ↦ rw e (let is : n ≡ u = eqb-true n u e in subst (λ (k : ℕ). IsTalkCounted (plan_of P k) (recorded (Begun k)) (marks_of found k) (First k) (unit_at w.units (plan_of P k).address) s.talk) (sym is) (own (subst (λ (k : ℕ). k < count_of P) is lt)))
    | inr e ↦ rw e (other e)
  ]

  by_awaited : (u n : ℕ) (s : Slot) (l : Link) (w : Vehicle) → n < count_of P
      → (u < count_of P → is_open_slot s ≡ true → s.talk.awaiting ≡ true → IsAwaited rules.tester (plan_of P u) (marks_of found u) t0 s.talk l first w)
      → ((n == u) ≡ false → is_open_slot (c.slots n) ≡ true → (c.slots n).talk.awaiting ≡ true → IsAwaited rules.tester (plan_of P n) (marks_of found n) t0 (c.slots n).talk l first w)
      → is_open_slot (with_slot u s c.slots n) ≡ true → (with_slot u s c.slots n).talk.awaiting ≡ true → IsAwaited rules.tester (plan_of P n) (marks_of found n) t0 (with_slot u s c.slots n).talk l first w
  by_awaited u n s l w lt own other = elim (cases_Bool (n == u)) [
    | inl e ↦ rw e (let is : n ≡ u = eqb-true n u e in λ o a. subst (λ (k : ℕ). IsAwaited rules.tester (plan_of P k) (marks_of found k) t0 s.talk l first w) (sym is) (own (subst (λ (k : ℕ). k < count_of P) is lt) o a))
    | inr e ↦ rw e (other e)
  ]

  apart : (u n : ℕ) → n < count_of P → u < count_of P → (n == u) ≡ false → (plan_of P n).address ≡ (plan_of P u).address → ⊥
  apart u n lt lu e q = both_ways _ e (eq-eqb n u (accepted.addresses n u lt lu q))

  -- the conversation of a unit that the event leaves
  rests : (n : ℕ) (w : Vehicle) → n < count_of P → VehicleGrows v w → SameIn (Now n) (unit_at w.units (plan_of P n).address) → IsTalkCounted (plan_of P n) (c.recorded (Begun n)) (marks_of found n) (First n) (unit_at w.units (plan_of P n).address) (c.slots n).talk
  rests n w lt grows same = moved_talk (plan_of P n) (c.recorded (Begun n)) (marks_of found n) (First n) (Now n) _ (c.slots n).talk (grows.units (plan_of P n).address) same (counted.units n lt).talk

  -- ------ link and vehicle stay
  still_awaits : (n : ℕ) (w : Vehicle) → w ≡ v → n < count_of P → is_live c.link.phase ≡ true → is_open_slot (c.slots n) ≡ true → (c.slots n).talk.awaiting ≡ true → IsAwaited rules.tester (plan_of P n) (marks_of found n) t0 (c.slots n).talk c.link first w
  still_awaits n w is lt live opened a = subst (λ (x : Vehicle). IsAwaited rules.tester (plan_of P n) (marks_of found n) t0 (c.slots n).talk c.link first x) (sym is) (awaited n lt live opened a)

  moved : (n : ℕ) (w : Vehicle) → w ≡ v → n < count_of P → Old n → IsTalkCounted (plan_of P n) (c.recorded (Begun n)) (marks_of found n) (First n) (unit_at w.units (plan_of P n).address) (c.slots n).talk
  moved n w is lt old = subst (λ (x : Vehicle). IsTalkCounted (plan_of P n) (c.recorded (Begun n)) (marks_of found n) (First n) (unit_at x.units (plan_of P n).address) (c.slots n).talk) (sym is) old

  other_begun : (u n : ℕ) → (n == u) ≡ false → with_entry (Begun u) c.recorded (Begun n) ≡ c.recorded (Begun n)
  other_begun u n e = rw e refl

  pub claimed_step : (u n : ℕ) (w : Vehicle) → is_allowed P c (Claimed u) ≡ true → w ≡ v → VehicleGrows v w → n < count_of P → Counted (Claimed u) n w
  claimed_step u n w ok is grows lt = after (Claimed u) n w ok lt grows (checked_still n w lt is)
      (by_talk u n _ w c.recorded lt (λ lu. start_counted (plan_of P u) (c.recorded (Begun u)) (marks_of found u) (marks_of c.recorded u) (First u) _ (kept_of u w lu grows)) (λ e. moved n w is lt (counted.units n lt).talk))
      (λ losses live. by_awaited u n _ c.link w lt (λ lu o a. absurd (false≢true a)) (λ e o a. still_awaits n w is lt live o a))

  pub began_step : (u n : ℕ) (w : Vehicle) → is_allowed P c (Began u) ≡ true → w ≡ v → VehicleGrows v w → n < count_of P → Counted (Began u) n w
  began_step u n w ok is grows lt = after (Began u) n w ok lt grows (checked_still n w lt is)
      (by_talk u n _ w (with_entry (Begun u) c.recorded) lt
      (λ lu. let b : with_entry (Begun u) c.recorded (Begun u) ≡ true = ap (λ (x : Bool). x || c.recorded (Begun u)) (eq-eqb u u refl) in
      subst (λ (x : Bool). IsTalkCounted (plan_of P u) x (marks_of found u) (First u) (unit_at w.units (plan_of P u).address) (talk_start (plan_of P u) true (marks_of c.recorded u))) (sym b) (start_counted (plan_of P u) true (marks_of found u) (marks_of c.recorded u) (First u) _ (kept_of u w lu grows)))
      (λ e. subst (λ (x : Bool). IsTalkCounted (plan_of P n) x (marks_of found n) (First n) (unit_at w.units (plan_of P n).address) (c.slots n).talk) (sym (other_begun u n e)) (moved n w is lt (counted.units n lt).talk)))
      (λ losses live. by_awaited u n _ c.link w lt (λ lu o a. absurd (false≢true a)) (λ e o a. still_awaits n w is lt live o a))

  -- the segment that is marked is in the unit, checked
  in_hand : (u s : ℕ) → MarkFacts P c u s → (cursor : Cursor) → (c.slots u).talk.place ≡ AtMark cursor → (c.slots u).talk.awaiting ≡ false → (x : ControlUnit) → Now u ≡ Some x → x.checked ≡ [] → ⊥
  in_hand u s f cursor at idle x is =
      let state : StateIn (plan_of P u) (AtMark cursor) (Some x) = subst (λ (y : Place × Option ControlUnit). StateIn (plan_of P u) y.0 y.1) (λ i. (at i, is i)) ((joint.units u f.below).slot.state (open_slot P c u f.opened) idle) in
      has_checked x cursor.now state.1

  mark_place : (place : Place) (s : ℕ) → is_mark s place ≡ true → (cursor : Cursor) × (place ≡ AtMark cursor)
  mark_place (AtMark cursor) s e = (cursor, refl)
  mark_place (AtIdent x xs) s e = absurd (false≢true e)
  mark_place AtBegin s e = absurd (false≢true e)
  mark_place AtProgram s e = absurd (false≢true e)
  mark_place (AtSeed level) s e = absurd (false≢true e)
  mark_place (AtKey level seed) s e = absurd (false≢true e)
  mark_place (AtErase cursor) s e = absurd (false≢true e)
  mark_place (AtDownload cursor) s e = absurd (false≢true e)
  mark_place (AtBlock cursor b) s e = absurd (false≢true e)
  mark_place (AtExit cursor) s e = absurd (false≢true e)
  mark_place (AtCheck cursor) s e = absurd (false≢true e)
  mark_place AtFinish s e = absurd (false≢true e)
  mark_place AtReset s e = absurd (false≢true e)
  mark_place AtDone s e = absurd (false≢true e)
  mark_place (AtEnd outcome) s e = absurd (false≢true e)

  -- no answer is awaited at a mark
  mark_idle : (u s : ℕ) → MarkFacts P c u s → (cursor : Cursor) → (c.slots u).talk.place ≡ AtMark cursor → (c.slots u).talk.awaiting ≡ false
  mark_idle u s f cursor at = elim (cases_Bool (c.slots u).talk.awaiting) [
    | inl e ↦ absurd (both_ways _ (ap needs_request at) ((joint.sane.slots u f.below).talk.awaits e))
    | inr e ↦ e
  ]

  pub marked_step : (u s n : ℕ) (w : Vehicle) → is_allowed P c (Marked u s) ≡ true → w ≡ v → VehicleGrows v w → n < count_of P → Counted (Marked u s) n w
  marked_step u s n w ok is grows lt =
      let f = mark_facts P c u s ok in
      let at = mark_place (c.slots u).talk.place s f.at in
      let idle = mark_idle u s f at.0 at.1 in
      after (Marked u s) n w ok lt grows (checked_still n w lt is)
      (by_talk u n _ w c.recorded lt
      (λ lu. subst (λ (x : Vehicle). IsTalkCounted (plan_of P u) (c.recorded (Begun u)) (marks_of found u) (First u) (unit_at x.units (plan_of P u).address) (talk_marked s (c.slots u).talk)) (sym is)
      (marked_counted (plan_of P u) (c.recorded (Begun u)) (marks_of found u) (First u) (Now u) s (c.slots u).talk at.0 at.1 (in_hand u s f at.0 at.1 idle) (counted.units u lu).talk))
      (λ e. moved n w is lt (counted.units n lt).talk))
      (λ losses live. by_awaited u n _ c.link w lt (λ lu o a. absurd (both_ways _ idle a)) (λ e o a. still_awaits n w is lt live o a))

  pub completed_step : (u n : ℕ) (w : Vehicle) → is_allowed P c (Completed u) ≡ true → w ≡ v → VehicleGrows v w → n < count_of P → Counted (Completed u) n w
  completed_step u n w ok is grows lt = after (Completed u) n w ok lt grows (checked_still n w lt is)
      (by_talk u n _ w c.recorded lt (λ lu. moved u w is lu (counted.units u lu).talk) (λ e. moved n w is lt (counted.units n lt).talk))
      (λ losses live. by_awaited u n _ c.link w lt (λ lu o a. absurd (both_ways _ (and-false (c.slots u).claimed) o)) (λ e o a. still_awaits n w is lt live o a))

  pub failed_step : (u n : ℕ) (entry : Entry) (w : Vehicle) → is_allowed P c (DiskFailed u entry) ≡ true → w ≡ v → VehicleGrows v w → n < count_of P → Counted (DiskFailed u entry) n w
  failed_step u n entry w ok is grows lt = after (DiskFailed u entry) n w ok lt grows (checked_still n w lt is)
      (by_talk u n _ w c.recorded lt (λ lu. moved u w is lu (counted.units u lu).talk) (λ e. moved n w is lt (counted.units n lt).talk))
      (λ losses live. by_awaited u n _ c.link w lt (λ lu o a. still_awaits u w is lu live o a) (λ e o a. still_awaits n w is lt live o a))

  pub ended_step : (u n : ℕ) (why : Outcome) (w : Vehicle) → is_allowed P c (Ended u why) ≡ true → w ≡ v → VehicleGrows v w → n < count_of P → Counted (Ended u why) n w
  ended_step u n why w ok is grows lt = after (Ended u why) n w ok lt grows (checked_still n w lt is)
      (by_talk u n _ w c.recorded lt (λ lu. moved u w is lu (counted.units u lu).talk) (λ e. moved n w is lt (counted.units n lt).talk))
      (λ losses live. by_awaited u n _ c.link w lt (λ lu o a. absurd (both_ways _ (and-false (c.slots u).claimed) o)) (λ e o a. still_awaits n w is lt live o a))

  -- ------ a request
  sent_awaited : (u number : ℕ) (w : Vehicle) → SentFacts P c u number → FeedsOr false (request_frame rules P c u) v w → VehicleGrows v w → (n : ℕ) → n < count_of P
      → is_open_slot (with_slot u (with_talk (talk_sent c.link.ticks) (c.slots u)) c.slots n) ≡ true → (with_slot u (with_talk (talk_sent c.link.ticks) (c.slots u)) c.slots n).talk.awaiting ≡ true
      → IsAwaited rules.tester (plan_of P n) (marks_of found n) t0 (with_slot u (with_talk (talk_sent c.link.ticks) (c.slots u)) c.slots n).talk c.link first w
  sent_awaited u number w f did grows n lt = by_awaited u n _ c.link w lt (λ lu o a. own how) (λ e o a. other how e o a)
    where
      live : is_live c.link.phase ≡ true
      live = open_live c.link.phase (up_open c.link.phase f.up)

      connected : IsConnected rules.tester c.link v.gateway
      connected = joint.connected (open_live c.link.phase (up_open c.link.phase f.up))

      bytes : List ℕ
      bytes = bytes_at (plan_of P u) (c.slots u).talk.place

      how : refused_request rules.tester (plan_of P u).address (bytes_at (plan_of P u) (c.slots u).talk.place) c.link v w (joint.connected (open_live c.link.phase (up_open c.link.phase f.up))) f.up
          ⊎ heard_request rules.tester (plan_of P u).address (bytes_at (plan_of P u) (c.slots u).talk.place) c.link v w (joint.connected (open_live c.link.phase (up_open c.link.phase f.up))) f.up
      how = came_out rules.tester (plan_of P u).address _ c.link v w (joint.connected (open_live c.link.phase (up_open c.link.phase f.up))) f.up
          (message_sends rules.tester (plan_of P u).address _ v w (sent_can rules P c found v t0 accepted joint u f.below f.request) (between rules c.link v.gateway (joint.connected (open_live c.link.phase (up_open c.link.phase f.up)))) did).handled

      nothing : on_way rules.tester (plan_of P u).address c.link.inbox c.link.rest v.gateway ≡ []
      nothing = (joint.units u f.below).slot.rests (open_live c.link.phase (up_open c.link.phase f.up)) f.claimed f.idle (place_goes (c.slots u).talk.place (asks_needs (plan_of P u) (c.slots u).talk.place f.request))

      own : refused_request rules.tester (plan_of P u).address (bytes_at (plan_of P u) (c.slots u).talk.place) c.link v w (joint.connected (open_live c.link.phase (up_open c.link.phase f.up))) f.up
          ⊎ heard_request rules.tester (plan_of P u).address (bytes_at (plan_of P u) (c.slots u).talk.place) c.link v w (joint.connected (open_live c.link.phase (up_open c.link.phase f.up))) f.up
          → IsAwaited rules.tester (plan_of P u) (marks_of found u) t0 (talk_sent c.link.ticks (c.slots u).talk) c.link first w
      own (inl r) = refused_awaited rules.tester (plan_of P u) (marks_of found u) (c.slots u).talk c.link v w first connected f.up t0 joint.ticks nothing r (counted.units u f.below).kept (grows.units (plan_of P u).address) (kept_of u w f.below grows)
      own (inr h) = heard_awaited rules.tester (plan_of P u) (marks_of found u) (c.slots u).talk c.link v w first connected f.up t0 joint.ticks nothing h (First u) refl
          (subst (λ (o : Option ControlUnit). KeptIn (First u) o) h.old_at (counted.units u f.below).kept)
          (subst (λ (o : Option ControlUnit). BusyBy (c.slots u).talk.busies (First u) o) h.old_at (counted.units u f.below).talk.busy)
          (subst (λ (o : Option ControlUnit). StateIn (plan_of P u) (c.slots u).talk.place o) h.old_at ((joint.units u f.below).slot.state f.slot f.idle))
          (subst (λ (o : Option ControlUnit). TakesIn (plan_of P u) (marks_of found u) (First u) (c.slots u).talk.place o) h.old_at ((counted.units u f.below).talk.takes f.idle))

      same_of : refused_request rules.tester (plan_of P u).address (bytes_at (plan_of P u) (c.slots u).talk.place) c.link v w (joint.connected (open_live c.link.phase (up_open c.link.phase f.up))) f.up
          ⊎ heard_request rules.tester (plan_of P u).address (bytes_at (plan_of P u) (c.slots u).talk.place) c.link v w (joint.connected (open_live c.link.phase (up_open c.link.phase f.up))) f.up
          → (n == u) ≡ false → SameIn (Now n) (unit_at w.units (plan_of P n).address)
      same_of (inl r) e = r.same (plan_of P n).address
      same_of (inr h) e = subst (λ (o : Option ControlUnit). SameIn (Now n) o) (sym (h.others (plan_of P n).address (apart u n lt f.below e))) (same_self (Now n))

      other : refused_request rules.tester (plan_of P u).address (bytes_at (plan_of P u) (c.slots u).talk.place) c.link v w (joint.connected (open_live c.link.phase (up_open c.link.phase f.up))) f.up
          ⊎ heard_request rules.tester (plan_of P u).address (bytes_at (plan_of P u) (c.slots u).talk.place) c.link v w (joint.connected (open_live c.link.phase (up_open c.link.phase f.up))) f.up
          → (n == u) ≡ false → is_open_slot (c.slots n) ≡ true → (c.slots n).talk.awaiting ≡ true → IsAwaited rules.tester (plan_of P n) (marks_of found n) t0 (c.slots n).talk c.link first w
      other it e o a = still_awaited rules.tester (plan_of P n) (marks_of found n) t0 (c.slots n).talk c.link c.link first v w
          (others_on rules.tester (plan_of P u).address _ c.link v w connected f.up (plan_of P n).address (sid_of (bytes_at (plan_of P n) (c.slots n).talk.place)) c.link.inbox (apart u n lt f.below e) ((joint.units n lt).held live o a) it)
          (same_of it e) (grows.units (plan_of P n).address) (awaited n lt live o a)

  pub sent_step : (u number : ℕ) (lost : Bool) (n : ℕ) (w : Vehicle) → is_allowed P c (Sent u number lost) ≡ true → FeedsOr lost (request_frame rules P c u) v w → VehicleGrows v w → n < count_of P → Counted (Sent u number lost) n w
  sent_step u number lost n w ok did grows lt = after (Sent u number lost) n w ok lt grows checked
      (by_talk u n _ w c.recorded lt (λ lu. sent_counted (plan_of P u) (c.recorded (Begun u)) (marks_of found u) (First u) (Now u) _ c.link.ticks (c.slots u).talk (grows.units (plan_of P u).address) (counted.units u lu).talk) (λ e. rests n w lt grows (same e)))
      (awaits lost ok did)
    where
      same : (n == u) ≡ false → SameIn (Now n) (unit_at w.units (plan_of P n).address)
      same e =
          let f = sent_facts P c u number lost ok in
          go f (sent_heard rules.tester (plan_of P u).address (bytes_at (plan_of P u) (c.slots u).talk.place) lost v w (sent_can rules P c found v t0 accepted joint u f.below f.request) (between rules c.link v.gateway (joint.connected (open_live c.link.phase (up_open c.link.phase f.up)))) did)
        where
          go : SentFacts P c u number → HeardAtMost (plan_of P u).address (bytes_at (plan_of P u) (c.slots u).talk.place) v.units w.units → SameIn (Now n) (unit_at w.units (plan_of P n).address)
          go f (inl all) = all (plan_of P n).address
          go f (inr s) = subst (λ (o : Option ControlUnit). SameIn (Now n) o) (sym (s.others (plan_of P n).address (apart u n lt f.below e))) (same_self (Now n))

      checked : CheckedIn n w
      checked = elim (cases_Bool (n == u)) [
        | inr e ↦ checked_same n w lt (same e)
        | inl e ↦
            let is : n ≡ u = eqb-true n u e in
            let f = sent_facts P c u number lost ok in
            subst (λ (k : ℕ). CheckedIn k w) (sym is) (own f (sent_heard rules.tester (plan_of P u).address (bytes_at (plan_of P u) (c.slots u).talk.place) lost v w (sent_can rules P c found v t0 accepted joint u f.below f.request) (between rules c.link v.gateway (joint.connected (open_live c.link.phase (up_open c.link.phase f.up)))) did))
      ]
        where
          own : SentFacts P c u number → HeardAtMost (plan_of P u).address (bytes_at (plan_of P u) (c.slots u).talk.place) v.units w.units → CheckedIn u w
          own f (inl all) = checked_same u w f.below (all (plan_of P u).address)
          own f (inr s) =
              let sane = (joint.sane.slots u f.below).talk in
              heard_checked (plan_of P u) (marks_of found u) (c.slots u).talk.marks (c.slots u).talk.place (First u) (Now u) _ s.old s.new s.tick s.replies
              (λ k e. sane.marks_are k ∙ counted.more (entry.Marked u k) e) sane.place sane.marked
              (says (plan_of P u) (c.slots u).talk.place (accepted.each u f.below) sane.place sane.asked (asks_needs (plan_of P u) (c.slots u).talk.place f.request)).reads
              s.old_at s.new_at s.step (counted.units u f.below).checked

      awaits : (lost : Bool) → is_allowed P c (Sent u number lost) ≡ true → FeedsOr lost (request_frame rules P c u) v w → AwaitedAfter (Sent u number lost) n w
      awaits true ok did losses live o a = absurd (omega (arith, losses))
      awaits false ok did losses live o a = sent_awaited u number w (sent_facts P c u number false ok) did grows n lt o a

  -- ------ a step that collects
  module _ (u : ℕ) (lu : u < count_of P) (opened : is_open_slot (c.slots u) ≡ true) (awaiting : (c.slots u).talk.awaiting ≡ true) (up : is_up c.link.phase ≡ true) where
    live : is_live c.link.phase ≡ true
    live = open_live c.link.phase (up_open c.link.phase up)

    connected : IsConnected rules.tester c.link v.gateway
    connected = joint.connected (open_live c.link.phase (up_open c.link.phase up))

    talk_u : Old u
    talk_u = (counted.units u lu).talk

    kept_u : KeptIn (First u) (Now u)
    kept_u = (counted.units u lu).kept

    finish_u : FinishesIn (plan_of P u) (marks_of found u) (c.slots u).talk.marks (First u) (Now u)
    finish_u = finishes_in rules P found c v t0 joint u lu (First u) (counted.units u lu).checked

    -- where the word came first on the way
    word_talk : (o : Option UnitMessage) (words : List (ℕ × UnitMessage)) → first_message (plan_of P u).address words ≡ o → BeginsWith (messages_from (plan_of P u).address words) (on_way rules.tester (plan_of P u).address c.link.inbox c.link.rest v.gateway)
        → IsTalkCounted (plan_of P u) (c.recorded (Begun u)) (marks_of found u) (First u) (Now u) (talk_takes (plan_of P u) c.link.ticks o (c.slots u).talk)
    word_talk None words is begins = (counted.units u lu).talk
    word_talk (Some w) words is begins =
        let way : on_way rules.tester (plan_of P u).address c.link.inbox c.link.rest v.gateway ≡ w ∷ (messages_from (plan_of P u).address (without_first (plan_of P u).address words) ++ begins.0) =
        begins.1 ∙ ap (λ (ws : List UnitMessage). ws ++ begins.0) (first_is (plan_of P u).address words w is) in
        (word_goes (plan_of P u) (accepted.each u lu) (c.recorded (Begun u)) (c.recorded (Begun u)) (marks_of found u) (marks_of c.recorded u) c.link.ticks (c.slots u).talk (joint.sane.slots u lu).talk awaiting (held_of (plan_of P u).address v.gateway.held) w _ (First u) (Now u) kept_u talk_u finish_u
        (subst (λ (ws : List UnitMessage). IsAwaitCounted (plan_of P u) (marks_of found u) (c.slots u).talk (held_of (plan_of P u).address v.gateway.held) ws (First u) (Now u)) way (awaited u lu live opened awaiting).awaits)).talk

    -- what is awaited after it
    take_own : (o : Option UnitMessage) (l : Link) (w : Vehicle) → first_message (plan_of P u).address l.inbox ≡ o → w.gateway.tick ≤ t0 + c.link.ticks → KeptIn (First u) (unit_at w.units (plan_of P u).address) → KeptIn (unit_at w.units (plan_of P u).address) (unit_at w.units (plan_of P u).address)
        → IsTalkCounted (plan_of P u) (c.recorded (Begun u)) (marks_of found u) (First u) (unit_at w.units (plan_of P u).address) (c.slots u).talk
        → FinishesIn (plan_of P u) (marks_of found u) (c.slots u).talk.marks (First u) (unit_at w.units (plan_of P u).address) → IsAwaited rules.tester (plan_of P u) (marks_of found u) t0 (c.slots u).talk l first w
        → (talk_takes (plan_of P u) c.link.ticks o (c.slots u).talk).awaiting ≡ true → IsAwaited rules.tester (plan_of P u) (marks_of found u) t0 (talk_takes (plan_of P u) c.link.ticks o (c.slots u).talk) (take_message (plan_of P u).address l) first w
    take_own None l w is le kept same talk finish a waits = subst (λ (x : Link). IsAwaited rules.tester (plan_of P u) (marks_of found u) t0 (c.slots u).talk x first w) (sym (take_none (plan_of P u).address l is)) a
    take_own (Some word) l w is le kept same talk finish a waits =
        let way : on_way rules.tester (plan_of P u).address l.inbox l.rest w.gateway ≡ word ∷ on_way rules.tester (plan_of P u).address (without_first (plan_of P u).address l.inbox) l.rest w.gateway =
        ap (λ (ws : List UnitMessage). ws ++ (messages_in rules.tester (plan_of P u).address (stream_of (l.rest ++ w.gateway.ready)).frames ++ (messages_later rules.tester (plan_of P u).address w.gateway.later ++ messages_held (plan_of P u).address w.gateway.held))) (first_is (plan_of P u).address l.inbox word is) in
        let goes = word_goes (plan_of P u) (accepted.each u lu) (c.recorded (Begun u)) (c.recorded (Begun u)) (marks_of found u) (marks_of c.recorded u) c.link.ticks (c.slots u).talk (joint.sane.slots u lu).talk awaiting (held_of (plan_of P u).address w.gateway.held) word _ (First u) (unit_at w.units (plan_of P u).address) kept talk finish
        (subst (λ (ws : List UnitMessage). IsAwaitCounted (plan_of P u) (marks_of found u) (c.slots u).talk (held_of (plan_of P u).address w.gateway.held) ws (First u) (unit_at w.units (plan_of P u).address)) way a.awaits) in
        record {
          awaits = goes.awaits waits;
          timed = subst (λ (n : ℕ). IsTimed rules.tester (plan_of P u).address (t0 + n) (take_message (plan_of P u).address l).inbox l.rest w.gateway (First u) (unit_at w.units (plan_of P u).address)) (sym (hears_since (plan_of P u) c.link.ticks word (c.slots u).talk waits))
              (own_taken rules.tester (plan_of P u).address (t0 + (c.slots u).talk.since) (t0 + c.link.ticks) l w.gateway (First u) (unit_at w.units (plan_of P u).address) same le a.timed);
        }

    -- a message was there
    pub kept_step : (n : ℕ) (w : Vehicle) → is_allowed P c (Collected u kept_word) ≡ true → w ≡ v → VehicleGrows v w → n < count_of P → Counted (Collected u kept_word) n w
    kept_step n w ok is grows lt = after (Collected u kept_word) n w ok lt grows (checked_still n w lt is)
        (by_talk u n _ w c.recorded lt
        (λ x. subst (λ (y : Vehicle). IsTalkCounted (plan_of P u) (c.recorded (Begun u)) (marks_of found u) (First u) (unit_at y.units (plan_of P u).address) (talk_takes (plan_of P u) c.link.ticks (first_message (plan_of P u).address c.link.inbox) (c.slots u).talk)) (sym is)
        (word_talk (first_message (plan_of P u).address c.link.inbox) c.link.inbox refl (messages_in rules.tester (plan_of P u).address (stream_of (c.link.rest ++ v.gateway.ready)).frames ++ (messages_later rules.tester (plan_of P u).address v.gateway.later ++ messages_held (plan_of P u).address v.gateway.held), refl)))
        (λ e. moved n w is lt (counted.units n lt).talk))
        (λ losses x. by_awaited u n _ (take_message (plan_of P u).address c.link) w lt
        (λ y o a. subst (λ (z : Vehicle). IsAwaited rules.tester (plan_of P u) (marks_of found u) t0 (talk_takes (plan_of P u) c.link.ticks (first_message (plan_of P u).address c.link.inbox) (c.slots u).talk) (take_message (plan_of P u).address c.link) first z) (sym is)
        (take_own (first_message (plan_of P u).address c.link.inbox) c.link v refl (let e : v.gateway.tick ≡ t0 + c.link.ticks = joint.ticks in omega (arith, e)) kept_u (unit_up_same (Now u)) talk_u finish_u (awaited u lu live opened awaiting) a))
        (λ e o a. subst (λ (z : Vehicle). IsAwaited rules.tester (plan_of P n) (marks_of found n) t0 (c.slots n).talk (take_message (plan_of P u).address c.link) first z) (sym is)
        (still_awaited rules.tester (plan_of P n) (marks_of found n) t0 (c.slots n).talk c.link (take_message (plan_of P u).address c.link) first v v (other_taken rules.tester (plan_of P n).address (plan_of P u).address c.link v.gateway (apart u n lt lu e)) (same_self (Now n)) (unit_up_same (Now n)) (awaited n lt live o a))))

    -- a tick
    ticked_awaited : (n : ℕ) → n < count_of P → v.gateway.ready ≡ [] → is_open_slot (c.slots n) ≡ true → (c.slots n).talk.awaiting ≡ true → IsAwaited rules.tester (plan_of P n) (marks_of found n) t0 (c.slots n).talk (quiet_link c.link) first (ticked v)
    ticked_awaited n lt none o a = tick_awaited rules.tester (plan_of P n) (marks_of found n) t0 (c.slots n).talk c.link first v connected none ((joint.units n lt).order live) (up_tester rules.tester c.link v.gateway connected up) ((joint.units n lt).held live o a) (counted.units n lt).kept (awaited n lt live o a)

    quiet_talk : (none : v.gateway.ready ≡ []) → is_some (first_message (plan_of P u).address c.link.inbox) ≡ false → VehicleGrows v (ticked v) → SameIn (Now u) (unit_at (ticked v).units (plan_of P u).address)
        → IsTalkCounted (plan_of P u) (c.recorded (Begun u)) (marks_of found u) (First u) (unit_at (ticked v).units (plan_of P u).address) (talk_quiet (plan_of P u) (c.link.ticks + 1) (c.slots u).talk)
    quiet_talk none no_more grows same = elim (cases_Bool (nat_le ((c.slots u).talk.since + 1000) (c.link.ticks + 1))) [
      | inr e ↦ rw e (rests u (ticked v) lu grows same)
      | inl e ↦ rw e (ended_counted (plan_of P u) (c.recorded (Begun u)) (marks_of found u) (First u) _ (c.slots u).talk (NoAnswer (sid_at (plan_of P u) (c.slots u).talk))
          (silence rules.tester (plan_of P u) (marks_of found u) t0 (c.slots u).talk c.link first v connected none no_more joint.ticks (leb-true _ _ e) ((joint.units u lu).held live opened awaiting) (First u) (Now u) (unit_at (ticked v).units (plan_of P u).address)
          (c.recorded (Begun u)) (sid_at (plan_of P u) (c.slots u).talk) (grows.units (plan_of P u).address) (awaited u lu live opened awaiting).awaits (awaited u lu live opened awaiting).timed (ticked_awaited u lu none opened awaiting).timed)
          (rests u (ticked v) lu grows same))
    ]

    quiet_awaits : (none : v.gateway.ready ≡ []) → (talk_quiet (plan_of P u) (c.link.ticks + 1) (c.slots u).talk).awaiting ≡ true → IsAwaited rules.tester (plan_of P u) (marks_of found u) t0 (talk_quiet (plan_of P u) (c.link.ticks + 1) (c.slots u).talk) (quiet_link c.link) first (ticked v)
    quiet_awaits none = elim (cases_Bool (nat_le ((c.slots u).talk.since + 1000) (c.link.ticks + 1))) [
      | inr e ↦ rw e (λ a. ticked_awaited u lu none opened awaiting)
      | inl e ↦ rw e (λ a. absurd (false≢true a))
    ]

    pub quiet_step : (n : ℕ) (w : Vehicle) → is_allowed P c (Collected u Quiet) ≡ true → is_some (first_message (plan_of P u).address c.link.inbox) ≡ false → Ticks v w → VehicleGrows v w → VehicleGrows v (ticked v) → SameUnits v.units (ticked v).units → n < count_of P → Counted (Collected u Quiet) n w
    quiet_step n w ok no_more did grows grows2 same lt = after (Collected u Quiet) n w ok lt grows (subst (λ (x : Vehicle). CheckedIn n x) (sym did.becomes) (checked_same n (ticked v) lt (same (plan_of P n).address)))
        (subst (λ (x : Vehicle). TalkAfter (Collected u Quiet) n x) (sym did.becomes)
        (by_talk u n _ (ticked v) c.recorded lt (λ x. quiet_talk did.none no_more grows2 (same (plan_of P u).address)) (λ e. rests n (ticked v) lt grows2 (same (plan_of P n).address))))
        (λ losses x o a. subst (λ (y : Link × Vehicle). IsAwaited rules.tester (plan_of P n) (marks_of found n) t0 (slots_own rules P (Collected u Quiet) c n).talk y.0 first y.1) (λ i. (sym (quiet_up c.link up) i, sym did.becomes i))
        (by_awaited u n _ (quiet_link c.link) (ticked v) lt (λ y oo aa. quiet_awaits did.none aa) (λ e oo aa. ticked_awaited n lt did.none oo aa) o a))

    -- a piece
    pub piece_step : (bytes : List ℕ) (n : ℕ) (w : Vehicle) → is_allowed P c (Collected u (Piece bytes)) ≡ true → IsShown bytes v w → VehicleGrows v w → SameUnits v.units w.units → n < count_of P → Counted (Collected u (Piece bytes)) n w
    piece_step bytes n w ok shown grows same lt = after (Collected u (Piece bytes)) n w ok lt grows (checked_same n w lt (same (plan_of P n).address))
        (by_talk u n _ w c.recorded lt
        (λ x. moved_talk (plan_of P u) (c.recorded (Begun u)) (marks_of found u) (First u) (Now u) _ _ (grows.units (plan_of P u).address) (same (plan_of P u).address)
        (word_talk (first_message (plan_of P u).address (hear_piece rules.tester (addresses_of P) bytes c.link).inbox) (hear_piece rules.tester (addresses_of P) bytes c.link).inbox refl
        (piece_first rules.tester (addresses_of P) (plan_of P u).address (known_address P u lu) bytes c.link v w connected shown)))
        (λ e. rests n w lt grows (same (plan_of P n).address)))
        (λ losses lives. by_awaited u n _ (take_message (plan_of P u).address (hear_piece rules.tester (addresses_of P) bytes c.link)) w lt
        (λ y o a. take_own (first_message (plan_of P u).address (hear_piece rules.tester (addresses_of P) bytes c.link).inbox) (hear_piece rules.tester (addresses_of P) bytes c.link) w refl tick (kept_of u w lu grows) (unit_up_same _) (rests u w lu grows (same (plan_of P u).address))
        (finishes_on (plan_of P u) (marks_of found u) (c.slots u).talk.marks (First u) (Now u) _ (same (plan_of P u).address) finish_u) (heard lives u lu opened awaiting) a)
        (λ e o a. still_awaited rules.tester (plan_of P n) (marks_of found n) t0 (c.slots n).talk (hear_piece rules.tester (addresses_of P) bytes c.link) (take_message (plan_of P u).address (hear_piece rules.tester (addresses_of P) bytes c.link)) first w w
        (other_taken rules.tester (plan_of P n).address (plan_of P u).address (hear_piece rules.tester (addresses_of P) bytes c.link) w.gateway (apart u n lt lu e)) (same_self _) (unit_up_same _) (heard lives n lt o a)))
      where
        tick : w.gateway.tick ≤ t0 + c.link.ticks
        tick = let a : w.gateway.tick ≡ v.gateway.tick = ap (λ (x : Vehicle). x.gateway.tick) shown.carries.becomes in let b : v.gateway.tick ≡ t0 + c.link.ticks = joint.ticks in omega (arith, a, b)

        heard : is_live (hear_piece rules.tester (addresses_of P) bytes c.link).phase ≡ true → (k : ℕ) → k < count_of P → is_open_slot (c.slots k) ≡ true → (c.slots k).talk.awaiting ≡ true → IsAwaited rules.tester (plan_of P k) (marks_of found k) t0 (c.slots k).talk (hear_piece rules.tester (addresses_of P) bytes c.link) first w
        heard lives k lk o a = still_awaited rules.tester (plan_of P k) (marks_of found k) t0 (c.slots k).talk c.link (hear_piece rules.tester (addresses_of P) bytes c.link) first v w
            (piece_on rules.tester (addresses_of P) (plan_of P k).address bytes c.link v w (known_address P k lk) (up_open c.link.phase up) lives connected shown) (same (plan_of P k).address) (grows.units (plan_of P k).address) (awaited k lk live o a)

    -- a receive that failed
    pub missed_step : (n : ℕ) (w : Vehicle) → is_allowed P c (Collected u Lost) ≡ true → VehicleGrows v w → SameUnits v.units w.units → n < count_of P → Counted (Collected u Lost) n w
    missed_step n w ok grows same lt = after (Collected u Lost) n w ok lt grows (checked_same n w lt (same (plan_of P n).address))
        (by_talk u n _ w c.recorded lt (λ x. rests u w lu grows (same (plan_of P u).address)) (λ e. rests n w lt grows (same (plan_of P n).address)))
        (λ losses x o a. absurd (omega (arith, losses)))

  pub collected_step : (u : ℕ) (h : Heard) (n : ℕ) (w : Vehicle) → is_allowed P c (Collected u h) ≡ true → Receives h v w → VehicleGrows v w → n < count_of P → Counted (Collected u h) n w
  collected_step u kept_word n w ok did grows lt = let f = collected_facts P c u kept_word ok in kept_step u f.below f.slot f.awaiting f.up n w ok did grows lt
  collected_step u Quiet n w ok did grows lt =
      let f = collected_facts P c u Quiet ok in
      quiet_step u f.below f.slot f.awaiting f.up n w ok (not-true _ f.inbox) did grows (ticks_up v (ticked v) (record { none = did.none; becomes = refl })) (units_received rules P c found v t0 accepted joint Quiet (ticked v) (record { none = did.none; becomes = refl })) lt
  collected_step u (Piece bytes) n w ok did grows lt = let f = collected_facts P c u (Piece bytes) ok in piece_step u f.below f.slot f.awaiting f.up bytes n w ok did grows (units_received rules P c found v t0 accepted joint (Piece bytes) w did) lt
  collected_step u Lost n w ok did grows lt = let f = collected_facts P c u Lost ok in missed_step u f.below f.slot f.awaiting f.up n w ok grows (units_received rules P c found v t0 accepted joint Lost w did) lt

  -- ------ a step for the link
  -- no answer is awaited while the link is not up
  idle_awaits : (step : Tend) (n : ℕ) (w : Vehicle) → n < count_of P → is_up c.link.phase ≡ false → AwaitedAfter (Tended step) n w
  idle_awaits step n w lt down losses lives o a = absurd (both_ways _ (joint.sane.down down n lt o) a)

  said_awaits : (n : ℕ) (w : Vehicle) → n < count_of P → fits_link c (Said false) ≡ true → FeedsOr false (alive_say_bytes rules.tester) v w → VehicleGrows v w → SameUnits v.units w.units → AwaitedAfter (Tended (Said false)) n w
  said_awaits n w lt may did grows same losses alive o a =
      let up = (and_parts _ _ may).0 in
      let lives = open_live c.link.phase (up_open c.link.phase up) in
      let s = alive_sends rules.tester v w (between rules c.link v.gateway (joint.connected lives)) did in
      let h = s.handled in
      let none : Nothing v h.mid h.out = h.handles in
      let is : w.gateway ≡ record v.gateway { unfinished = [] } = ap (λ (x : Vehicle). x.gateway) (h.becomes ∙ (λ j. record (none.becomes j) { gateway = queue_due (record (none.becomes j).gateway { unfinished = [] }) (none.none j) })) in
      still_awaited rules.tester (plan_of P n) (marks_of found n) t0 (c.slots n).talk c.link (record c.link { owes = false }) first v w
      (subst (λ (g : Gateway). IsStillOn rules.tester (plan_of P n).address c.link.inbox c.link.inbox c.link.rest c.link.rest v.gateway g) (sym is) (record { way = refl; came = λ e. e; due = refl; later = refl; holds = λ one e. e; tick = refl }))
      (same (plan_of P n).address) (grows.units (plan_of P n).address) (awaited n lt lives o a)

  tended_awaits : (step : Tend) (n : ℕ) (w : Vehicle) → n < count_of P → fits_link c step ≡ true → Tends rules step v w → VehicleGrows v w → SameUnits v.units w.units → AwaitedAfter (Tended step) n w
  tended_awaits (Dialed lost) n w lt may did grows same = idle_awaits (Dialed lost) n w lt (down_not_up c.link.phase may)
  tended_awaits (Asked lost) n w lt may did grows same = idle_awaits (Asked lost) n w lt (dialed_not_up c.link.phase may)
  tended_awaits (Said true) n w lt may did grows same = λ losses live o a. absurd (omega (arith, losses))
  tended_awaits (Said false) n w lt may did grows same = said_awaits n w lt may did grows same
  tended_awaits (Polled kept_word) n w lt may did grows same = absurd (false≢true may)
  tended_awaits (Polled Quiet) n w lt may did grows same = idle_awaits (Polled Quiet) n w lt (asked_not_up c.link.phase may)
  tended_awaits (Polled (Piece bytes)) n w lt may did grows same = idle_awaits (Polled (Piece bytes)) n w lt (asked_not_up c.link.phase may)
  tended_awaits (Polled Lost) n w lt may did grows same = idle_awaits (Polled Lost) n w lt (asked_not_up c.link.phase may)

  pub tended_step : (step : Tend) (n : ℕ) (w : Vehicle) → is_allowed P c (Tended step) ≡ true → Tends rules step v w → VehicleGrows v w → n < count_of P → Counted (Tended step) n w
  tended_step step n w ok did grows lt =
      let may = (and_parts _ _ ok).1 in
      let same = units_tended rules P c found v t0 accepted joint step w may did in
      after (Tended step) n w ok lt grows (checked_same n w lt (same (plan_of P n).address)) (rests n w lt grows (same (plan_of P n).address)) (tended_awaits step n w lt may did grows same)

  -- ------ every event
  pub unit_step : (e : Event) (n : ℕ) (w : Vehicle) → is_allowed P c e ≡ true → MovesVehicle rules P c e v w → n < count_of P → Counted e n w
  unit_step (Claimed u) n w ok did lt = claimed_step u n w ok did (moves_grow rules P c (Claimed u) v w did) lt
  unit_step (Began u) n w ok did lt = began_step u n w ok did (moves_grow rules P c (Began u) v w did) lt
  unit_step (Sent u number lost) n w ok did lt = sent_step u number lost n w ok did (moves_grow rules P c (Sent u number lost) v w did) lt
  unit_step (Collected u h) n w ok did lt = collected_step u h n w ok did (moves_grow rules P c (Collected u h) v w did) lt
  unit_step (Tended step) n w ok did lt = tended_step step n w ok did (moves_grow rules P c (Tended step) v w did) lt
  unit_step (Marked u s) n w ok did lt = marked_step u s n w ok did (moves_grow rules P c (Marked u s) v w did) lt
  unit_step (Completed u) n w ok did lt = completed_step u n w ok did (moves_grow rules P c (Completed u) v w did) lt
  unit_step (DiskFailed u entry) n w ok did lt = failed_step u n entry w ok did (moves_grow rules P c (DiskFailed u entry) v w did) lt
  unit_step (Ended u why) n w ok did lt = ended_step u n why w ok did (moves_grow rules P c (Ended u why) v w did) lt
