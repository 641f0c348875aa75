-- A conversation ends with an outcome of its own, and a run stops with one of its link or its disk.
use Rattle.std.proofs.Common.{◌≡◌, ◌⊎◌, inl, inr, ℕ, ◌+◌, ◌<◌, true, false, List, [], ◌∷◌, ◌++◌, length, Some, None, refl, subst}
use Rattle.std.specs.Prelude.{Bool, Option, ◌==◌, ◌&&◌, ◌||◌, nat_le, if◌then◌else◌}
use Rattle.std.proofs.lemmas.Bool.{cases_Bool, false≢true, and_parts, eqb-true, or_cases}
use Rattle.bay_core.specs.Core.{Core}
use Rattle.bay_core.specs.Legal.{is_end, is_stop, is_memory, is_blocker, is_blocked, may_end}
use Rattle.flash_base.specs.Lists.{Each}
use Rattle.flash_plan.specs.declared.outcome.Entry.TheVariants as entry
use Rattle.flash_plan.specs.declared.outcome.Outcome.{Outcome}
use Rattle.flash_plan.specs.declared.outcome.Outcome.TheVariants.{Complete, Blocked, DiskFault, NoMemory}
use Rattle.flash_plan.specs.declared.unit.Segment.{Segment}
use Rattle.flash_plan.specs.declared.unit.UnitPlan.{UnitPlan}
use Rattle.flash_plan.specs.Outcomes.{same_outcome}
use Rattle.flash_plan.specs.Plan.{plan_of, count_of}
use Rattle.run_model.specs.Places.{is_ended}
use Rattle.run_model.specs.Script.{Place, AtMark, AtEnd, start_place, idents_from, segments_from, place_marked}
use Rattle.run_model.specs.Entries.{with_mark}
use Rattle.run_model.specs.Talk.{Talk, talk_marked, talk_lost, talk_hears, talk_takes, talk_quiet, keeps_on_loss}
use Rattle.run_model.specs.Ways.{UnitMessage, Reply, Nacked}
use Rattle.unit_session.specs.Ends.{AnswerEnds}
use Rattle.unit_session.proofs.Ends.{ends_are_caused}
use Rattle.flash_plan.specs.declared.unit.Wanted.{Wanted}
use Rattle.bay_replay.specs.Verdict.{IsVerdict, EndsRightly, StopsRightly, IsOther}

-- ------ conversations
ident_right : (ws : List Wanted) → EndsRightly (idents_from ws)
ident_right [] = tt
ident_right (w ∷ ws) = tt

pub start_right : (plan : UnitPlan) (begun : Bool) → EndsRightly (start_place plan begun)
start_right plan true = tt
start_right plan false = ident_right plan.idents

pub lost_right : (plan : UnitPlan) (begun : Bool) (t : Talk) → EndsRightly t.place → EndsRightly (talk_lost plan begun t).place
lost_right plan begun t right = elim (cases_Bool (keeps_on_loss t.place)) [
  | inl e ↦ rw e right
  | inr e ↦ rw e (start_right plan begun)
]

segments_right : (skipped : ℕ → Bool) (done ss : List Segment) → EndsRightly (segments_from skipped done ss)
segments_right skipped done [] = tt
segments_right skipped done (s ∷ ss) = elim (cases_Bool (skipped (length done))) [ inl e ↦ rw e (segments_right skipped (done ++ (s ∷ [])) ss) | inr e ↦ rw e tt ]

pub marked_right : (s : ℕ) (t : Talk) → EndsRightly t.place → EndsRightly (talk_marked s t).place
marked_right s t right = place_right t.place right
  where
    place_right : (place : Place) → EndsRightly place → EndsRightly (place_marked (with_mark s t.marks) place)
    place_right (AtMark c) ends = segments_right (with_mark s t.marks) (c.done ++ (c.now ∷ [])) c.left
    place_right place ends = ends

-- what a place says where it is an end with each outcome that it may have
ends_so : (place : Place) → ((outcome : Outcome) → place ≡ AtEnd outcome → IsVerdict outcome) → EndsRightly place
ends_so (AtEnd outcome) each = each outcome refl
ends_so place each = tt

answer_right : (plan : UnitPlan) (t : Talk) (body : List ℕ) (outcome : Outcome) → AnswerEnds plan t body outcome → IsVerdict outcome
answer_right plan t body Complete ends = ends
answer_right plan t body (Blocked by) ends = ends
answer_right plan t body outcome ends = tt

pub hears_right : (plan : UnitPlan) (tick : ℕ) (word : UnitMessage) (t : Talk) → is_ended t.place ≡ false → EndsRightly (talk_hears plan tick word t).place
hears_right plan tick (Reply body) t going = ends_so (talk_hears plan tick (Reply body) t).place (λ outcome is. answer_right plan t body outcome (ends_are_caused.answer plan tick body t outcome going is))
hears_right plan tick (Nacked code) t going = tt

pub takes_right : (plan : UnitPlan) (tick : ℕ) (word : Option UnitMessage) (t : Talk) → is_ended t.place ≡ false → EndsRightly t.place → EndsRightly (talk_takes plan tick word t).place
takes_right plan tick None t going right = right
takes_right plan tick (Some word) t going right = hears_right plan tick word t going

pub quiet_right : (plan : UnitPlan) (tick : ℕ) (t : Talk) → EndsRightly t.place → EndsRightly (talk_quiet plan tick t).place
quiet_right plan tick t right = elim (cases_Bool (nat_le (t.since + 1000) tick)) [ inl e ↦ rw e tt | inr e ↦ rw e right ]

-- ------ outcomes, compared
same_right : (a b : Outcome) → IsVerdict a → same_outcome a b ≡ true → IsVerdict b
same_right Complete b right is = absurd right
same_right (Blocked by) b right is = absurd right
same_right a Complete right is = absurd (false≢true is)
same_right a (Blocked by) right is = absurd (false≢true is)
same_right a b right is = tt

-- ------ an outcome that may end a unit is one that a board takes
verdict_other : (size : ℕ) (o : Outcome) → IsVerdict o → IsOther size o
verdict_other size Complete right = absurd right
verdict_other size (Blocked by) right = absurd right
verdict_other size o right = record { other = λ is. cc; within = tt }

end_right : (place : Place) (o : Outcome) → EndsRightly place → is_end place o ≡ true → IsVerdict o
end_right (AtEnd said) o right is = same_right said o right is
end_right place o right is = absurd (false≢true is)

stopped_right : (stop : Option Outcome) (o : Outcome) → StopsRightly stop → is_stop stop o ≡ true → IsVerdict o
stopped_right None o right is = absurd (false≢true is)
stopped_right (Some said) o right is = same_right said o right is

memory_right : (o : Outcome) → is_memory o ≡ true → IsVerdict o
memory_right NoMemory is = tt
memory_right o is = absurd (false≢true is)

blocker_within : (c : Core) (size : ℕ) (ws : List ℕ) (by : ℕ) → Each (λ w. w < size) ws → is_blocker c ws by ≡ true → by < size
blocker_within c size [] by within is = absurd (false≢true is)
blocker_within c size (w ∷ ws) by within is = elim (cases_Bool (c.recorded (entry.Complete w))) [
  | inl e ↦ blocker_within c size ws by within.1 (rw e at is)
  | inr e ↦
      let both = and_parts (w == by) _ (rw e at is) in
      subst (λ (x : ℕ). x < size) (eqb-true w by both.0) within.0
]

blocked_other : (P : List UnitPlan) (c : Core) (u : ℕ) (o : Outcome) → Each (λ w. w < count_of P) (plan_of P u).after → is_blocked P c u o ≡ true → IsOther (count_of P) o
blocked_other P c u (Blocked by) within is = record { other = λ eq. cc; within = blocker_within c (count_of P) (plan_of P u).after by within is }
blocked_other P c u o within is = absurd (false≢true is)

by_stop : (faulted : Bool) (stop : Option Outcome) (o : Outcome) → StopsRightly stop → (if faulted then same_outcome DiskFault o else is_stop stop o) ≡ true → IsVerdict o
by_stop true stop o right is = same_right DiskFault o tt is
by_stop false stop o right is = stopped_right stop o right is

pub end_other : (P : List UnitPlan) (c : Core) (u : ℕ) (o : Outcome) → Each (λ w. w < count_of P) (plan_of P u).after → EndsRightly (c.slots u).talk.place → StopsRightly c.halt.stop → may_end P c u o ≡ true → IsOther (count_of P) o
end_other P c u o within ends stops is = first (or_cases _ _ (and_parts _ _ is).1)
  where
    third : (((c.slots u).claimed && is_end (c.slots u).talk.place o) ≡ true) ⊎ ((if (c.slots u).faulted then same_outcome DiskFault o else is_stop c.halt.stop o) ≡ true) → IsOther (count_of P) o
    third (inl e) = verdict_other (count_of P) o (end_right (c.slots u).talk.place o ends (and_parts _ _ e).1)
    third (inr e) = verdict_other (count_of P) o (by_stop (c.slots u).faulted c.halt.stop o stops e)

    second : ((((c.slots u).claimed && is_end (c.slots u).talk.place o) || (if (c.slots u).faulted then same_outcome DiskFault o else is_stop c.halt.stop o)) ≡ true) ⊎ (is_memory o ≡ true) → IsOther (count_of P) o
    second (inl e) = third (or_cases _ _ e)
    second (inr e) = verdict_other (count_of P) o (memory_right o e)

    first : (((((c.slots u).claimed && is_end (c.slots u).talk.place o) || (if (c.slots u).faulted then same_outcome DiskFault o else is_stop c.halt.stop o)) || is_memory o) ≡ true) ⊎ (is_blocked P c u o ≡ true) → IsOther (count_of P) o
    first (inl e) = second (or_cases _ _ e)
    first (inr e) = blocked_other P c u o within e
