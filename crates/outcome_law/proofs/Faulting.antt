-- A disk fault has its cause in the events: an append failed.
use Rattle.std.proofs.Common.{◌≡◌, ◌⊎◌, inl, inr, ℕ, ◌+◌, ◌<◌, true, false, List, [], ◌∷◌, ◌++◌, length, Some, None, refl, sym, ◌∙◌, ap}
use Rattle.std.specs.Prelude.{Bool, Option, ◌==◌, ◌||◌, nat_le, nat_lt, is_some, unwrap_or, if◌then◌else◌}
use Rattle.std.proofs.lemmas.Bool.{cases_Bool, false≢true, both_ways, and_parts, or_left, or_right}
use Rattle.std.proofs.Math.Bool.{or-false}
use Rattle.flash_base.specs.declared.unit.KeyRule.{KeyRule}
use Rattle.flash_base.specs.declared.unit.KeyRule.TheVariants.{Free, Xor, Digest}
use Rattle.flash_plan.specs.Plan.{IsAccepted, plan_of, count_of}
use Rattle.flash_plan.specs.declared.outcome.Entry.{Entry}
use Rattle.flash_plan.specs.declared.outcome.Entry.TheVariants as entry
use Rattle.flash_plan.specs.declared.outcome.Outcome.{Outcome}
use Rattle.flash_plan.specs.declared.outcome.Outcome.TheVariants.{Complete, DiskFault, LinkLost, LinkRefused, NoMemory, Blocked}
use Rattle.flash_plan.specs.declared.unit.LinkRules.{LinkRules}
use Rattle.flash_plan.specs.declared.unit.Segment.{Segment}
use Rattle.flash_plan.specs.declared.unit.UnitPlan.{UnitPlan}
use Rattle.flash_plan.specs.declared.unit.Wanted.{Wanted}
use Rattle.uds_codec.specs.Answer.{Verdict, Pending, Busy, Refusal, Accepted, BadStatus, Malformed, judge}
use Rattle.uds_codec.specs.Key.{all_zero}
use Rattle.run_model.specs.Entries.{with_mark}
use Rattle.run_model.specs.Link.{Link, Phase, first_message}
use Rattle.run_model.specs.Link as phase
use Rattle.run_model.specs.Script.{Place, AtIdent, AtBegin, AtProgram, AtSeed, AtKey, AtErase, AtDownload, AtBlock, AtExit, AtCheck, AtMark, AtFinish, AtReset, AtDone, AtEnd, bytes_at, idents_from, segments_from, after_program, start_place, has_value, is_empty, after_block, place_next, place_marked}
use Rattle.run_model.specs.Talk.{Talk, talk_lost, talk_judged, talk_takes, talk_quiet, keeps_on_loss}
use Rattle.run_model.specs.Ways.{UnitMessage, Reply, Nacked}
use Rattle.bay_core.specs.Core.{Slot, Core, Halt, core_start, core_after, core_of, with_slot, slots_own, collects, heard_link, recorded_after, link_after, link_stop, refused_stop, stop_after, is_disk_failure}
use Rattle.bay_core.specs.Legal.{is_allowed, is_legal}
use Rattle.bay_core.specs.Stops.{has_failure}
use Rattle.bay_core.specs.declared.event.Event.{Event}
use Rattle.bay_core.specs.declared.event.Event.TheVariants.{Claimed, Began, Sent, Collected, Tended, Marked, Completed, DiskFailed, Ended}
use Rattle.bay_core.specs.declared.event.Heard.{Heard}
use Rattle.bay_core.specs.declared.event.Heard.TheVariants.{Kept, Quiet, Piece, Lost}
use Rattle.outcome_law.proofs.Ending.{rests_step, fault_step}
use Rattle.outcome_law.proofs.Recorded.{found_rests}
use Rattle.outcome_law.specs.Keeping.{DiskFaultLaw, FailedLaw}
use Rattle.outcome_law.specs.OutcomeCounting.{Rests}

-- ------ no conversation ends with a disk fault
abbrev is_fault : Outcome → Bool
is_fault DiskFault = true
is_fault outcome = false

abbrev is_fault_end : Place → Bool
is_fault_end (AtEnd outcome) = is_fault outcome
is_fault_end place = false

-- the place is no such end
abbrev IsOther : Place → Type 0
IsOther place = is_fault_end place ≡ false

either : (c : Bool) (a b : Place) → IsOther a → IsOther b → IsOther (if c then a else b)
either true a b x y = x
either false a b x y = y

idents_other : (ws : List Wanted) → IsOther (idents_from ws)
idents_other [] = refl
idents_other (w ∷ ws) = refl

segments_other : (marks : ℕ → Bool) (done ss : List Segment) → IsOther (segments_from marks done ss)
segments_other marks done [] = refl
segments_other marks done (s ∷ ss) = either (marks (length done)) _ _ (segments_other marks (done ++ (s ∷ [])) ss) refl

start_other : (plan : UnitPlan) (begun : Bool) → IsOther (start_place plan begun)
start_other plan true = refl
start_other plan false = idents_other plan.idents

program_other : (plan : UnitPlan) (marks : ℕ → Bool) (rule : KeyRule) → IsOther (after_program plan marks rule)
program_other plan marks Free = segments_other marks [] plan.segments
program_other plan marks (Xor level mask) = refl
program_other plan marks (Digest level size secret) = refl

next_other : (plan : UnitPlan) (marks : ℕ → Bool) (place : Place) (rest : List ℕ) → IsOther place → IsOther (place_next plan marks place rest)
next_other plan marks (AtIdent w ws) rest is = either (has_value w.values rest) _ _ (idents_other ws) refl
next_other plan marks AtBegin rest is = refl
next_other plan marks AtProgram rest is = program_other plan marks plan.key
next_other plan marks (AtSeed level) rest is = either (all_zero rest) _ _ (segments_other marks [] plan.segments) refl
next_other plan marks (AtKey level seed) rest is = segments_other marks [] plan.segments
next_other plan marks (AtErase c) rest is = refl
next_other plan marks (AtDownload c) rest is = either (is_empty c.now.body) _ _ refl refl
next_other plan marks (AtBlock c b) rest is = either (is_empty (after_block b).rest) _ _ refl refl
next_other plan marks (AtExit c) rest is = refl
next_other plan marks (AtCheck c) rest is = refl
next_other plan marks (AtMark c) rest is = refl
next_other plan marks AtFinish rest is = refl
next_other plan marks AtReset rest is = refl
next_other plan marks AtDone rest is = refl
next_other plan marks (AtEnd outcome) rest is = is

marked_other : (marks : ℕ → Bool) (place : Place) → IsOther place → IsOther (place_marked marks place)
marked_other marks (AtMark c) is = segments_other marks (c.done ++ (c.now ∷ [])) c.left
marked_other marks (AtIdent w ws) is = refl
marked_other marks AtBegin is = refl
marked_other marks AtProgram is = refl
marked_other marks (AtSeed level) is = refl
marked_other marks (AtKey level seed) is = refl
marked_other marks (AtErase c) is = refl
marked_other marks (AtDownload c) is = refl
marked_other marks (AtBlock c b) is = refl
marked_other marks (AtExit c) is = refl
marked_other marks (AtCheck c) is = refl
marked_other marks AtFinish is = refl
marked_other marks AtReset is = refl
marked_other marks AtDone is = refl
marked_other marks (AtEnd outcome) is = is

module _ (plan : UnitPlan) (tick : ℕ) (t : Talk) (is : IsOther t.place) where
  judged_other : (v : Verdict) → IsOther (talk_judged plan tick v t).place
  judged_other Pending = elim (cases_Bool (t.pendings == 200)) [ inl e ↦ rw e refl | inr e ↦ rw e is ]
  judged_other Busy = elim (cases_Bool (t.busies == 20)) [ inl e ↦ rw e refl | inr e ↦ rw e is ]
  judged_other (Refusal nrc) = refl
  judged_other (Accepted rest) = next_other plan t.marks t.place rest is
  judged_other (BadStatus status) = refl
  judged_other Malformed = refl

  takes_other : (word : Option UnitMessage) → IsOther (talk_takes plan tick word t).place
  takes_other None = is
  takes_other (Some (Reply body)) = judged_other (judge (bytes_at plan t.place) body)
  takes_other (Some (Nacked code)) = refl

  quiet_other : IsOther (talk_quiet plan tick t).place
  quiet_other = elim (cases_Bool (nat_le (t.since + 1000) tick)) [ inl e ↦ rw e refl | inr e ↦ rw e is ]

lost_other : (plan : UnitPlan) (begun : Bool) (t : Talk) → IsOther t.place → IsOther (talk_lost plan begun t).place
lost_other plan begun t is = elim (cases_Bool (keeps_on_loss t.place)) [ inl e ↦ rw e is | inr e ↦ rw e (start_other plan begun) ]

-- ------ an event
module _ (rules : LinkRules) (P : List UnitPlan) (c : Core) (is : (n : ℕ) → IsOther (c.slots n).talk.place) where
  by_slot : (u n : ℕ) (s : Slot) → IsOther s.talk.place → IsOther (with_slot u s c.slots n).talk.place
  by_slot u n s own = elim (cases_Bool (n == u)) [ inl e ↦ rw e own | inr e ↦ rw e (is n) ]

  collected_other : (u : ℕ) (h : Heard) → IsOther (collects P rules u h c.link (c.slots u).talk).place
  collected_other u Kept = takes_other (plan_of P u) c.link.ticks (c.slots u).talk (is u) (first_message (plan_of P u).address c.link.inbox)
  collected_other u Quiet = quiet_other (plan_of P u) (c.link.ticks + 1) (c.slots u).talk (is u)
  collected_other u (Piece bytes) = takes_other (plan_of P u) c.link.ticks (c.slots u).talk (is u) (first_message (plan_of P u).address (heard_link rules P (Piece bytes) c.link).inbox)
  collected_other u Lost = is u

  own_other : (e : Event) (n : ℕ) → IsOther (slots_own rules P e c n).talk.place
  own_other (Claimed u) n = by_slot u n _ (start_other (plan_of P u) (c.recorded (entry.Begun u)))
  own_other (Began u) n = by_slot u n _ refl
  own_other (Sent u place lost) n = by_slot u n _ (is u)
  own_other (Collected u h) n = by_slot u n _ (collected_other u h)
  own_other (Tended step) n = is n
  own_other (Marked u s) n = by_slot u n _ (marked_other (with_mark s (c.slots u).talk.marks) (c.slots u).talk.place (is u))
  own_other (Completed u) n = by_slot u n _ (is u)
  own_other (DiskFailed u x) n = by_slot u n _ (is u)
  own_other (Ended u why) n = by_slot u n _ (is u)

  other_after : (e : Event) (n : ℕ) → IsOther ((core_after rules P e c).slots n).talk.place
  other_after e n = elim (cases_Bool (nat_lt c.link.losses (link_after rules P e c.link).losses)) [
    | inl x ↦ rw x (lost_other (plan_of P n) (recorded_after e c.recorded (entry.Begun n)) (slots_own rules P e c n).talk (own_other e n))
    | inr x ↦ rw x (own_other e n)
  ]

-- ------ what each event keeps
record AreFaultsCaused (P : List UnitPlan) (c : Core) : Type 0 where
  rests : (n : ℕ) (o : Outcome) → n < count_of P → (c.slots n).outcome ≡ Some o → Rests P c n o
  places : (n : ℕ) → IsOther (c.slots n).talk.place
  faulted : (n : ℕ) → (c.slots n).faulted ≡ true → c.halt.failed ≡ true
  stop : c.halt.stop ≡ Some DiskFault → c.halt.failed ≡ true

not_fault : (o : Outcome) → is_fault o ≡ false → Some o ≡ Some DiskFault → ⊥
not_fault o e is = both_ways _ e (ap (λ (x : Option Outcome). is_fault (unwrap_or x o)) is)

none_fault : None ≡ Some DiskFault → ⊥
none_fault is = false≢true (ap (is_some {T = Outcome}) is)

refused_not : (p : Phase) → refused_stop p ≡ Some DiskFault → ⊥
refused_not phase.Down is = none_fault is
refused_not phase.Dialed is = none_fault is
refused_not phase.Asked is = none_fault is
refused_not phase.Up is = none_fault is
refused_not (phase.Refused code) is = not_fault (LinkRefused code) refl is

link_not : (rules : LinkRules) (l : Link) → link_stop rules l ≡ Some DiskFault → ⊥
link_not rules l = elim (cases_Bool (nat_lt rules.relinks l.losses)) [
  | inl e ↦ rw e (λ is. not_fault (LinkLost l.losses) refl is)
  | inr e ↦ rw e (λ is. refused_not l.phase is)
]

stops : (h : Halt) (s : Option Outcome) (e : Event) (rules : LinkRules) (l : Link) → (s ≡ Some DiskFault → h.failed ≡ true) → stop_after s e rules l ≡ Some DiskFault → (is_disk_failure e || h.failed) ≡ true
stops h (Some o) e rules l was is = or_right (is_disk_failure e) h.failed (was is)
stops h None e rules l was is = go (cases_Bool (is_disk_failure e))
  where
    go : (is_disk_failure e ≡ true) ⊎ (is_disk_failure e ≡ false) → (is_disk_failure e || h.failed) ≡ true
    go (inl f) = or_left (is_disk_failure e) h.failed f
    go (inr f) = absurd (link_not rules l (rw f at is))

caused_after : (rules : LinkRules) (P : List UnitPlan) (c : Core) (e : Event) → IsAccepted P → is_allowed P c e ≡ true → AreFaultsCaused P c → AreFaultsCaused P (core_after rules P e c)
caused_after rules P c e accepted ok is = record {
  rests = λ n o lt at. rests_step rules P c accepted e ok n o lt at (is.rests n o lt);
  places = other_after rules P c is.places e;
  faulted = λ n f. elim (fault_step rules P c accepted e ok n f) [
    | inl was ↦ or_right (is_disk_failure e) c.halt.failed (is.faulted n was)
    | inr now ↦ or_left (is_disk_failure e) c.halt.failed now
  ];
  stop = stops c.halt c.halt.stop e rules (link_after rules P e c.link) is.stop;
}

caused_start : (P : List UnitPlan) (found : Entry → Bool) → AreFaultsCaused P (core_start P found)
caused_start P found = record {
  rests = λ n o lt at. found_rests P found n o at;
  places = λ n. start_other (plan_of P n) (found (entry.Begun n));
  faulted = λ n f. absurd (false≢true f);
  stop = λ is. absurd (none_fault is);
}

caused_over : (rules : LinkRules) (P : List UnitPlan) (c : Core) (events : List Event) → IsAccepted P → is_legal rules P c events ≡ true → AreFaultsCaused P c → AreFaultsCaused P (core_of rules P c events)
caused_over rules P c [] accepted legal is = is
caused_over rules P c (e ∷ es) accepted legal is =
    let parts = and_parts (is_allowed P c e) (is_legal rules P (core_after rules P e c) es) legal in
    caused_over rules P (core_after rules P e c) es accepted parts.1 (caused_after rules P c e accepted parts.0 is)

-- ------ the laws
or_assoc : (x y z : Bool) → ((x || y) || z) ≡ (y || (x || z))
or_assoc true true z = refl
or_assoc true false z = refl
or_assoc false y z = refl

failed_over : (rules : LinkRules) (P : List UnitPlan) (c : Core) (events : List Event) → (core_of rules P c events).halt.failed ≡ (c.halt.failed || has_failure events)
failed_over rules P c [] = sym (or-false c.halt.failed)
failed_over rules P c (e ∷ es) = failed_over rules P (core_after rules P e c) es ∙ or_assoc (is_disk_failure e) c.halt.failed (has_failure es)

pub failed_law : FailedLaw
failed_law rules P found events = failed_over rules P (core_start P found) events

pub disk_fault_law : DiskFaultLaw
disk_fault_law rules P found events n accepted legal lt at = sym (failed_law rules P found events) ∙ go (is.rests n DiskFault lt at)
  where
    is : AreFaultsCaused P (core_of rules P (core_start P found) events)
    is = caused_over rules P (core_start P found) events accepted legal (caused_start P found)

    other : (o : Outcome) → is_fault o ≡ false → DiskFault ≡ o → ⊥
    other o e same = both_ways _ e (ap is_fault (sym same))

    go : Rests P (core_of rules P (core_start P found) events) n DiskFault → (core_of rules P (core_start P found) events).halt.failed ≡ true
    go (inl place) = absurd (both_ways _ (is.places n) (ap is_fault_end place))
    go (inr (inl (f, same))) = is.faulted n f
    go (inr (inr (inl stop))) = is.stop stop
    go (inr (inr (inr (inl same)))) = absurd (other NoMemory refl same)
    go (inr (inr (inr (inr (inl (by, same, b)))))) = absurd (other (Blocked by) refl same)
    go (inr (inr (inr (inr (inr (same, done)))))) = absurd (other Complete refl same)
