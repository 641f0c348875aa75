-- The laws over every legal list of events.
use Rattle.std.proofs.Common.{◌≡◌, inl, inr, ℕ, zero, suc, ◌+◌, ◌-◌, ◌<◌, ◌≤◌, true, false, List, [], ◌∷◌, length, Some, None, refl, sym, ◌∙◌, ap, subst, arith}
use Rattle.std.specs.Prelude.{Bool, Option, ◌==◌, ◌||◌, nat_le, MatchOption, Contains, slice_index_or, if◌then◌else◌}
use Rattle.std.proofs.lemmas.Bool.{cases_Bool, false≢true, both_ways, and_parts, eqb-true, leb-true, leb-false}
use Rattle.flash_base.specs.Lists.{Each}
use Rattle.flash_plan.specs.Plan.{IsAccepted, plan_of, count_of}
use Rattle.flash_plan.specs.declared.outcome.Entry.TheVariants.{Begun}
use Rattle.flash_plan.specs.declared.outcome.Entry.{Entry}
use Rattle.flash_plan.specs.declared.outcome.Outcome.{Outcome}
use Rattle.flash_plan.specs.declared.outcome.Outcome.TheVariants as outcome
use Rattle.flash_plan.specs.declared.outcome.Outcome.TheVariants.{Refused, BadAnswer, CheckFailed, IdentMismatch, Undelivered, NoAnswer, PendingLimit, BusyLimit}
use Rattle.flash_plan.specs.declared.unit.LinkRules.{LinkRules}
use Rattle.flash_plan.specs.declared.unit.Segment.{Segment}
use Rattle.flash_plan.specs.declared.unit.UnitPlan.{UnitPlan}
use Rattle.uds_codec.specs.Answer.{Verdict, Pending, Busy, Refusal, Accepted, BadStatus, Malformed, judge}
use Rattle.uds_codec.specs.Key.{all_zero, level_of}
use Rattle.flash_base.specs.Counts.{LAST_COUNT}
use Rattle.unit_model.specs.Unit.{ControlUnit, Counts, has_key, ident_of, obedient}
use Rattle.unit_model.specs.Vehicle.{Vehicle, unit_at}
use Rattle.run_model.specs.Entries.{marks_of}
use Rattle.run_model.specs.Matching.{IsMatching, HasIdent, HasValue}
use Rattle.run_model.specs.Places.{is_ended}
use Rattle.run_model.specs.Script.{Place, AtIdent, AtBegin, AtProgram, AtSeed, AtKey, AtErase, AtDownload, AtBlock, AtExit, AtCheck, AtMark, AtFinish, AtReset, AtDone, AtEnd, bytes_at, place_next, start_place}
use Rattle.run_model.specs.States.{HasRoom}
use Rattle.run_model.specs.Troubles.{IsCalm, AreCalm}
use Rattle.unit_session.proofs.Keeps.{left_judged}
use Rattle.unit_session.specs.Left.{left_for, requests_left}
use Rattle.bay_core.proofs.OneStep.{step_law, core_law}
use Rattle.bay_core.specs.Core.{Core, core_start, core_after, core_of}
use Rattle.bay_core.specs.Joint.{IsVehicleJoint}
use Rattle.bay_core.specs.Law.{DrivesAll}
use Rattle.bay_core.specs.Legal.{is_legal}
use Rattle.bay_core.specs.declared.event.Event.{Event}
use Rattle.outcome_law.proofs.Checking.{takes_with, takes_on}
use Rattle.outcome_law.proofs.Fair.{IsFair, IsFairEnd, fair}
use Rattle.outcome_law.proofs.Growing.{unit_up_same, make_same}
use Rattle.outcome_law.proofs.Steps.{start_counted, unit_step}
use Rattle.outcome_law.specs.Causes.{Unfit, lacks_ident, lacks_level, other_key, stays_locked, lacks_room, other_check, odd_seed, odd_block, OtherIdent, IsCaused, IsCausedBy}
use Rattle.outcome_law.specs.Counting.{Takes, IsEndCaused, SameChecked, AreUnitsCounted}
use Rattle.outcome_law.specs.Keeping.{KeptDoneLaw}
use Rattle.outcome_law.specs.Law.{last_vehicle, IsRun, EndsCaused, CauseLaw, CountingLaw, IsCalmUnit, AnyUnit, IsUnfitEnd, IsMatchingRun, CalmLaw, MatchingLaw, AnswersWell, ObedientLaw, GoesOn, DoneLaw}
use Rattle.outcome_law.specs.Rising.{RoseBy}
use Rattle.outcome_law.proofs.Ending.{more_recorded}

-- ------ records only grow
pub counting_law : CountingLaw
counting_law rules P found c e v v2 first t0 accepted ok did joint counted = record {
  units = λ n lt. unit_step rules P found c v first t0 accepted joint counted e n v2 ok did lt;
  more = λ x is. more_recorded e c.recorded x (counted.more x is);
}

-- ------ lists
checked_start : (plan : UnitPlan) (found : ℕ → Bool) (o : Option ControlUnit) → SameChecked plan found o o
checked_start plan found None = tt
checked_start plan found (Some u) = λ all. refl

pub start : (rules : LinkRules) (P : List UnitPlan) (found : Entry → Bool) (v : Vehicle) (t0 : ℕ) → AreUnitsCounted rules P found t0 (core_start P found) v v
start rules P found v t0 = record {
  units = λ n lt. record {
    kept = unit_up_same (unit_at v.units (plan_of P n).address);
    checked = checked_start (plan_of P n) (marks_of found n) (unit_at v.units (plan_of P n).address);
    talk = start_counted (plan_of P n) (found (Begun n)) (marks_of found n) (marks_of found n) _ _ (unit_up_same (unit_at v.units (plan_of P n).address));
    awaits = λ live. absurd (false≢true live);
    timed = λ live. absurd (false≢true live);
  };
  more = λ x is. is;
}

over : (rules : LinkRules) (P : List UnitPlan) (found : Entry → Bool) (c : Core) (events : List Event) (s : Vehicle) (states : List Vehicle) (first : Vehicle) (t0 : ℕ) → IsAccepted P → is_legal rules P c events ≡ true → DrivesAll rules P c events s states
    → IsVehicleJoint rules P found c s t0 → AreUnitsCounted rules P found t0 c first s → AreUnitsCounted rules P found t0 (core_of rules P c events) first (last_vehicle s states)
over rules P found c [] s states first t0 accepted legal moves joint counted = subst (λ (x : List Vehicle). AreUnitsCounted rules P found t0 c first (last_vehicle s x)) (sym moves) counted
over rules P found c (e ∷ es) s [] first t0 accepted legal moves joint counted = absurd moves
over rules P found c (e ∷ es) s (s2 ∷ states) first t0 accepted legal moves joint counted =
    let parts = and_parts _ _ legal in
    over rules P found (core_after rules P e c) es s2 states first t0 accepted parts.1 moves.1
    (step_law.vehicle rules P found c e s s2 t0 accepted parts.0 moves.0 joint)
    (counting_law rules P found c e s s2 first t0 accepted parts.0 moves.0 joint counted)

pub counted_run : (rules : LinkRules) (P : List UnitPlan) (found : Entry → Bool) (events : List Event) (s : Vehicle) (states : List Vehicle) → IsRun rules P found events s states
    → AreUnitsCounted rules P found s.gateway.tick (core_of rules P (core_start P found) events) s (last_vehicle s states)
counted_run rules P found events s states run =
    over rules P found (core_start P found) events s states s s.gateway.tick run.accepted run.legal run.drives
    (core_law.vehicle rules P found [] s [] run.accepted refl refl) (start rules P found s s.gateway.tick)

-- ------ the causes
pub end_cause : (plan : UnitPlan) (begun : Bool) (found : ℕ → Bool) (first now : Option ControlUnit) (place : Place) (o : Outcome) → place ≡ AtEnd o → IsEndCaused plan begun found first now place → IsCaused plan begun found first now o
end_cause plan begun found first now place o at is = subst (λ (p : Place). IsEndCaused plan begun found first now p) at is

-- ------ without a departure
pub calm_not : (n old new : ℕ) → 1 ≤ n → RoseBy n old new → IsCalm old new → ⊥
calm_not n old new some rose calm = elim (cases_Bool (nat_le new old)) [
  | inr e ↦ let lt : old < new = leb-false new old e in let none : new - old ≡ 0 = rw e at calm in omega (arith, none, lt)
  | inl e ↦
      let le : new ≤ old = leb-true new old e in
      let last : (if nat_le LAST_COUNT old then 1 else 0) ≡ 0 = rw e at calm in
      elim (cases_Bool (nat_le LAST_COUNT old)) [
        | inl f ↦ let one : ◌≡◌ {A = ℕ} 1 0 = rw f at last in omega (arith, one)
        | inr f ↦ let below : old < LAST_COUNT = leb-false LAST_COUNT old f in omega (arith, le, below, rose, some)
      ]
]

calm_caused : (plan : UnitPlan) (begun : Bool) (found : ℕ → Bool) (u : ControlUnit) (now : Counts) (o : Outcome) → AreCalm u.counts now → IsCausedBy plan begun found u now o → IsUnfitEnd plan begun found (Some u) o
calm_caused plan begun found u now (Refused sid nrc) calm (inl rose) = absurd (calm_not 1 _ _ (omega arith) rose (calm.refused nrc))
calm_caused plan begun found u now (Refused sid nrc) calm (inr unfit) = inl unfit
calm_caused plan begun found u now (BadAnswer sid) calm (inl rose) = absurd (calm_not 1 _ _ (omega arith) rose calm.odd)
calm_caused plan begun found u now (BadAnswer sid) calm (inr unfit) = inl unfit
calm_caused plan begun found u now (CheckFailed routine segment status) calm (inl rose) = absurd (calm_not 1 _ _ (omega arith) rose calm.failed)
calm_caused plan begun found u now (CheckFailed routine segment status) calm (inr none) = inr (inr (segment, status, ap (λ (r : ℕ). CheckFailed r segment status) none.0, none.1))
calm_caused plan begun found u now (NoAnswer sid) calm (inl rose) = absurd (calm_not 1 _ _ (omega arith) rose calm.muted)
calm_caused plan begun found u now (NoAnswer sid) calm (inr rose) = absurd (calm_not 1 _ _ (omega arith) rose calm.late)
calm_caused plan begun found u now (PendingLimit sid) calm rose = absurd (calm_not 1 _ _ (omega arith) rose calm.stalled)
calm_caused plan begun found u now (BusyLimit sid) calm rose = absurd (calm_not 21 _ _ (omega arith) rose calm.busy)
calm_caused plan begun found u now (Undelivered code) calm rose = absurd (calm_not 1 _ _ (omega arith) rose (calm.nacked code))
calm_caused plan begun found u now (IdentMismatch did) calm other = inr (inl (did, refl, other))
calm_caused plan begun found u now outcome.Complete calm never = absurd never
calm_caused plan begun found u now (outcome.LinkLost times) calm never = absurd never
calm_caused plan begun found u now (outcome.LinkRefused code) calm never = absurd never
calm_caused plan begun found u now (outcome.Blocked by) calm never = absurd never
calm_caused plan begun found u now outcome.DiskFault calm never = absurd never
calm_caused plan begun found u now outcome.NoMemory calm never = absurd never

pub calm_end : (Is : ControlUnit → Type 0) (plan : UnitPlan) (begun : Bool) (found : ℕ → Bool) (first now : Option ControlUnit) (o : Outcome) → IsCalmUnit Is first now → IsCaused plan begun found first now o → IsUnfitEnd plan begun found first o
calm_end Is plan begun found None None o calm is = absurd calm
calm_end Is plan begun found None (Some w) o calm is = absurd is
calm_end Is plan begun found (Some u) None o calm is = absurd is
calm_end Is plan begun found (Some u) (Some w) o calm is = calm_caused plan begun found u w.counts o calm.1 is

-- ------ a unit that matches
each_of : {T : Type 0} (Q : T → Type 0) (xs : List T) (x : T) → Each Q xs → Contains xs x → Q x
each_of Q [] x all (k, lt, is) = absurd (omega (arith, lt))
each_of {T} Q (y ∷ ys) x all (k, lt, is) = at (λ later. each_of Q ys x all.1 later) k lt is
  where
    at : (Contains ys x → Q x) → (k : ℕ) → k < suc (length ys) → slice_index_or (y ∷ ys) k x ≡ x → Q x
    at again zero lt is = subst Q is all.0
    at again (suc k) lt is = again (k, omega (arith, lt), is)

zeros : (xs : List ℕ) → all_zero xs ≡ true → Each (λ b. b ≡ 0) xs
zeros [] e = tt
zeros (x ∷ xs) e = let p = and_parts (x == 0) (all_zero xs) e in (eqb-true x 0 p.0, zeros xs p.1)

unfit_not : (plan : UnitPlan) (begun found : Bool) (u : ControlUnit) (o : Outcome) → (begun ≡ false → found ≡ false) → IsMatching found plan u → Unfit plan begun u o → ⊥
unfit_not plan begun found u o fresh m (lacks_ident w has none is) =
    let there : HasIdent u w = each_of (HasIdent u) plan.idents w m.fits.idents has in
    subst (λ (x : Option (List ℕ)). MatchOption x ⊥ (λ (value : List ℕ). Unit {0})) none there
unfit_not plan begun found u o fresh m (lacks_level level is isnt) = isnt (ap level_of m.fits.key ∙ is)
unfit_not plan begun found u o fresh m (other_key level is same isnt) = isnt m.fits.key
unfit_not plan begun found u o fresh m (stays_locked has (inl none)) = both_ways _ none (ap has_key (sym m.fits.key) ∙ has)
unfit_not plan begun found u o fresh m (stays_locked has (inr zero_seed)) = m.fits.open_seed (zeros u.seed zero_seed)
unfit_not plan begun found u o fresh m (lacks_room s has isnt) = isnt (each_of (λ x. HasRoom x u) plan.segments s m.fits.segments has)
unfit_not plan begun found u o fresh m (other_check isnt) = isnt m.fits.check
unfit_not plan begun found u o fresh m (odd_seed (inl none)) = let some : 1 ≤ length u.seed = m.fits.seed in omega (arith, none, some)
unfit_not plan begun found u o fresh m (odd_seed (inr many)) = let few : length u.seed ≤ 32 = m.fits.short_seed in omega (arith, many, few)
unfit_not plan begun found u o fresh m (odd_block few) = let some : 3 ≤ u.block = m.fits.block in omega (arith, few, some)

other_not : (plan : UnitPlan) (begun found : Bool) (u : ControlUnit) (did : ℕ) → (begun ≡ false → found ≡ false) → IsMatching found plan u → OtherIdent plan begun u did → ⊥
other_not plan begun found u did fresh m other =
    let has : HasValue u other.wanted = each_of (HasValue u) plan.idents other.wanted (m.values (fresh other.fresh)) other.expected in
    let value : ident_of u.idents other.wanted.did ≡ Some other.value = ap (ident_of u.idents) (sym other.did_is) ∙ other.value_is in
    other.other (subst (λ (x : Option (List ℕ)). MatchOption x ⊥ (λ (v : List ℕ). Contains other.wanted.values v)) value has)

pub matching_end : (plan : UnitPlan) (begun found : Bool) (marks : ℕ → Bool) (first now : Option ControlUnit) (o : Outcome) → (begun ≡ false → found ≡ false) → IsCalmUnit (IsMatchingRun found plan marks) first now → IsUnfitEnd plan begun marks first o → ⊥
matching_end plan begun found marks None now o fresh calm is = is
matching_end plan begun found marks (Some u) None o fresh calm is = calm
matching_end plan begun found marks (Some u) (Some w) o fresh calm (inl unfit) = unfit_not plan begun found u o fresh calm.0.matching unfit
matching_end plan begun found marks (Some u) (Some w) o fresh calm (inr (inl (did, is, other))) = other_not plan begun found u did fresh calm.0.matching other
matching_end plan begun found marks (Some u) (Some w) o fresh calm (inr (inr (segment, status, is, none))) = calm.0.checked none

ended_is : (place : Place) → is_ended place ≡ true → (o : Outcome) × (place ≡ AtEnd o)
ended_is (AtEnd o) e = (o, refl)
ended_is (AtIdent w ws) e = absurd (false≢true e)
ended_is AtBegin e = absurd (false≢true e)
ended_is AtProgram e = absurd (false≢true e)
ended_is (AtSeed level) e = absurd (false≢true e)
ended_is (AtKey level seed) e = absurd (false≢true e)
ended_is (AtErase c) e = absurd (false≢true e)
ended_is (AtDownload c) e = absurd (false≢true e)
ended_is (AtBlock c b) e = absurd (false≢true e)
ended_is (AtExit c) e = absurd (false≢true e)
ended_is (AtCheck c) e = absurd (false≢true e)
ended_is (AtMark c) e = absurd (false≢true e)
ended_is AtFinish e = absurd (false≢true e)
ended_is AtReset e = absurd (false≢true e)
ended_is AtDone e = absurd (false≢true e)

none_left : (plan : UnitPlan) (place : Place) → is_ended place ≡ false → requests_left plan place ≡ 0 → place ≡ AtDone
none_left plan AtDone e z = refl
none_left plan (AtEnd o) e z = absurd (false≢true (sym e))
none_left plan (AtIdent w ws) e z = absurd (omega (arith, z))
none_left plan AtBegin e z = absurd (omega (arith, z))
none_left plan AtProgram e z = absurd (omega (arith, z))
none_left plan (AtSeed level) e z = absurd (omega (arith, z))
none_left plan (AtKey level seed) e z = absurd (omega (arith, z))
none_left plan (AtErase c) e z = absurd (omega (arith, z))
none_left plan (AtDownload c) e z = absurd (omega (arith, z))
none_left plan (AtBlock c b) e z = absurd (omega (arith, z))
none_left plan (AtExit c) e z = absurd (omega (arith, z))
none_left plan (AtCheck c) e z = absurd (omega (arith, z))
none_left plan (AtMark c) e z = absurd (none_for c.left z)
  where
    none_for : (ss : List Segment) → left_for ss ≡ 0 → ⊥
    none_for [] z = omega (arith, z)
    none_for (s ∷ ss) z = omega (arith, z)
none_left plan AtFinish e z = absurd (omega (arith, z))
none_left plan AtReset e z = absurd (omega (arith, z))

-- ------ by what is kept
module _ (rules : LinkRules) (P : List UnitPlan) (found : Entry → Bool) (c : Core) (first now : Vehicle) (t0 : ℕ) (counted : AreUnitsCounted rules P found t0 c first now) where
  -- what was found recorded is
  fresh_found : (n : ℕ) → c.recorded (Begun n) ≡ false → found (Begun n) ≡ false
  fresh_found n none = elim (cases_Bool (found (Begun n))) [ inr e ↦ e | inl e ↦ absurd (both_ways _ none (counted.more (Begun n) e)) ]

  pub ends_caused : EndsCaused P found c first now
  ends_caused n o lt at = end_cause (plan_of P n) (c.recorded (Begun n)) (marks_of found n) (unit_at first.units (plan_of P n).address) (unit_at now.units (plan_of P n).address) _ o at (counted.units n lt).talk.ended

  -- a cause has no place where it matches and is calm
  pub no_cause : (n : ℕ) (o : Outcome) → IsCalmUnit (IsMatchingRun (found (Begun n)) (plan_of P n) (marks_of found n)) (unit_at first.units (plan_of P n).address) (unit_at now.units (plan_of P n).address)
      → IsCaused (plan_of P n) (c.recorded (Begun n)) (marks_of found n) (unit_at first.units (plan_of P n).address) (unit_at now.units (plan_of P n).address) o → ⊥
  no_cause n o calm is =
      matching_end (plan_of P n) (c.recorded (Begun n)) (found (Begun n)) (marks_of found n) (unit_at first.units (plan_of P n).address) (unit_at now.units (plan_of P n).address) o
      (fresh_found n) calm (calm_end (IsMatchingRun (found (Begun n)) (plan_of P n) (marks_of found n)) (plan_of P n) _ (marks_of found n) _ _ o calm is)

  pub kept_done : (n : ℕ) → n < count_of P → IsCalmUnit (IsMatchingRun (found (Begun n)) (plan_of P n) (marks_of found n)) (unit_at first.units (plan_of P n).address) (unit_at now.units (plan_of P n).address)
      → GoesOn (plan_of P n) (c.recorded (Begun n)) (c.slots n).talk.place (c.slots n).talk.number
  kept_done n lt calm = record {
    goes = goes;
    left = left;
    done = λ begun enough. none_left (plan_of P n) _ goes (omega (arith, enough, left));
  }
    where
      goes : is_ended (c.slots n).talk.place ≡ false
      goes = elim (cases_Bool (is_ended (c.slots n).talk.place)) [
        | inr e ↦ e
        | inl e ↦ let end = ended_is _ e in absurd (no_cause n end.0 calm (ends_caused n end.0 lt end.1))
      ]

      left : (c.slots n).talk.number + requests_left (plan_of P n) (c.slots n).talk.place ≤ requests_left (plan_of P n) (start_place (plan_of P n) (c.recorded (Begun n)))
      left = (counted.units n lt).talk.left goes

pub kept_done_law : KeptDoneLaw
kept_done_law rules P found c first now t0 n counted lt calm = kept_done rules P found c first now t0 counted n lt calm

-- ------ over a list
pub cause_law : CauseLaw
cause_law rules P found events s states run = ends_caused rules P found _ s (last_vehicle s states) s.gateway.tick (counted_run rules P found events s states run)

pub calm_law : CalmLaw
calm_law rules P found events s states n o run lt at calm = calm_end AnyUnit (plan_of P n) _ (marks_of found n) _ _ o calm (cause_law rules P found events s states run n o lt at)

pub matching_law : MatchingLaw
matching_law rules P found events s states n o run lt calm at =
    no_cause rules P found (core_of rules P (core_start P found) events) s (last_vehicle s states) s.gateway.tick (counted_run rules P found events s states run) n o calm (cause_law rules P found events s states run n o lt at)

pub done_law : DoneLaw
done_law rules P found events s states n run lt calm = kept_done rules P found _ s (last_vehicle s states) s.gateway.tick (counted_run rules P found events s states run) n lt calm

-- ------ the obedient answers of a unit that matches
not_end : (plan : UnitPlan) (begun : Bool) (u : ControlUnit) (place : Place) → IsMatching begun plan u → IsFairEnd plan begun u place → is_ended place ≡ false
not_end plan begun u place m fair_end = elim (cases_Bool (is_ended place)) [
  | inr e ↦ e
  | inl e ↦ let end = ended_is place e in absurd (other_end end.0 (subst (λ (p : Place). IsFairEnd plan begun u p) end.1 fair_end))
]
  where
    other_end : (o : Outcome) → IsFairEnd plan begun u (AtEnd o) → ⊥
    other_end (IdentMismatch did) other = other_not plan begun begun u did (λ e. e) m other
    other_end outcome.Complete never = never
    other_end (Refused sid nrc) never = never
    other_end (BadAnswer sid) never = never
    other_end (CheckFailed routine segment status) never = never
    other_end (Undelivered code) never = never
    other_end (NoAnswer sid) never = never
    other_end (PendingLimit sid) never = never
    other_end (BusyLimit sid) never = never
    other_end (outcome.LinkLost times) never = never
    other_end (outcome.LinkRefused code) never = never
    other_end (outcome.Blocked by) never = never
    other_end outcome.DiskFault never = never
    other_end outcome.NoMemory never = never

-- as if no segment had been found marked: so a whole check that finds nothing is left out
abbrev none_found : ℕ → Bool
none_found k = false

pub obedient_law : ObedientLaw
obedient_law plan begun found place first u ok is asked ident needs state takes some m =
    go (judge (bytes_at plan place) (obedient u (bytes_at plan place)).1) refl (λ skipped. fair plan ok begun none_found skipped u u (make_same u) place is asked ident needs state takes_own)
  where
    takes_own : Takes plan none_found u place u
    takes_own = takes_with plan none_found u place u (λ e none. absurd (some (subst (λ (p : Place). Takes plan found first p u) e takes none))) (takes_on plan found first place u takes)

    go : (v : Verdict) → judge (bytes_at plan place) (obedient u (bytes_at plan place)).1 ≡ v → ((skipped : ℕ → Bool) → IsFair plan begun none_found skipped u place (obedient u (bytes_at plan place)).0 v) → AnswersWell plan place u
    go Pending e f = absurd (f none_found)
    go Busy e f = absurd (f none_found)
    go (Refusal nrc) e f = absurd (unfit_not plan begun begun u _ (λ x. x) m (f none_found))
    go (Accepted rest) e f = record {
      rest = rest;
      good = e;
      on = λ skipped. not_end plan begun u (place_next plan skipped place rest) m (f skipped).0;
      fewer = λ skipped. left_judged plan skipped place (Accepted rest) (record { place_is = is; asked = asked }) needs tt;
    }
    go (BadStatus status) e f = absurd (false≢true ((f none_found).1.marked 0 ok.some))
    go Malformed e f = absurd (unfit_not plan begun begun u _ (λ x. x) m (f none_found))
