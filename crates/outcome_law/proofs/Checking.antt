-- Ranges that a unit has checked: where every segment was found marked, no request of its script changes them; and the whole
-- check finds nothing only where nothing was checked from the start.
use Rattle.std.proofs.Common.{◌≡◌, ◌⊎◌, inl, inr, ℕ, ◌<◌, true, false, List, [], ◌∷◌, ◌++◌, length, Some, None, refl, sym, ◌∙◌, ap, subst, arith, length-append}
use Rattle.std.specs.Prelude.{Bool, Option, ◌==◌, is_some, if◌then◌else◌, MatchOption}
use Rattle.std.proofs.lemmas.Bool.{cases_Bool, false≢true, both_ways}
use Rattle.flash_base.specs.Lists.{same_bytes}
use Rattle.flash_plan.specs.Plan.{plan_of, count_of, segment_of}
use Rattle.flash_plan.specs.declared.outcome.Entry.{Entry}
use Rattle.flash_plan.specs.declared.outcome.Entry.TheVariants.{Marked}
use Rattle.flash_plan.specs.declared.unit.LinkRules.{LinkRules}
use Rattle.flash_plan.specs.declared.unit.Segment.{Segment}
use Rattle.flash_plan.specs.declared.unit.UnitPlan.{UnitPlan}
use Rattle.uds_codec.specs.Key.{key_of}
use Rattle.uds_codec.specs.Request.{request_of, sid_of}
use Rattle.uds_codec.specs.declared.request.Request.{Request}
use Rattle.unit_model.proofs.Units.{SameIn}
use Rattle.unit_model.specs.Step.{Spoil, Leaves, spoil_in, Obeys, Holds, Departs, UnitStep}
use Rattle.unit_model.specs.Unit.{ControlUnit, obey_in, obedient, has_level, read_in, key_in, finish_in, is_locked, ident_of}
use Rattle.unit_model.specs.Vehicle.{Vehicle, unit_at}
use Rattle.unit_model.specs.declared.reply.UnitReply.{UnitReply}
use Rattle.run_model.specs.Entries.{marks_of}
use Rattle.run_model.specs.Places.{IsPlace, IsCursor, IsNext, AreMarked, FitsMarks}
use Rattle.run_model.specs.Script.{Cursor, Place, AtIdent, AtBegin, AtProgram, AtSeed, AtKey, AtErase, AtDownload, AtBlock, AtExit, AtCheck, AtMark, AtFinish, AtReset, AtDone, AtEnd, request_at, bytes_at}
use Rattle.run_model.specs.Sound.{HasSegment, VehicleHas, has_range}
use Rattle.bay_core.specs.Core.{Core}
use Rattle.bay_core.specs.Joint.{IsVehicleJoint}
use Rattle.outcome_law.specs.Causes.{HasNoneChecked}
use Rattle.outcome_law.specs.Counting.{Takes, SameChecked}
use Rattle.outcome_law.proofs.Fair.{TakesOn}

-- ------ a step at a place outside the segments
abbrev is_outside : Place → Bool
is_outside (AtErase c) = false
is_outside (AtDownload c) = false
is_outside (AtBlock c b) = false
is_outside (AtExit c) = false
is_outside (AtCheck c) = false
is_outside place = true

module _ (u : ControlUnit) where
  abbrev Same : ControlUnit × List ℕ → Type 0
  Same step = step.0.checked ≡ u.checked

  either : (c : Bool) (x y : ControlUnit × List ℕ) → Same x → Same y → Same (if c then x else y)
  either true x y sx sy = sx
  either false x y sx sy = sy

  reads : (did : ℕ) (value : Option (List ℕ)) → Same (read_in u did value)
  reads did None = refl
  reads did (Some value) = refl

  keys : (level : ℕ) (key : List ℕ) (seed : Option (List ℕ)) → Same (key_in u level key seed)
  keys level key None = refl
  keys level key (Some seed) = either (same_bytes key (key_of u.key seed)) _ _ refl refl

  finishes : (checked : List (ℕ × ℕ)) → Same (finish_in u checked)
  finishes [] = refl
  finishes (r ∷ rs) = refl

  obeys_outside : (plan : UnitPlan) (sid : ℕ) (place : Place) → is_outside place ≡ true → Same (obey_in u sid (request_at plan place))
  obeys_outside plan sid (AtIdent w ws) e = reads w.did (ident_of u.idents w.did)
  obeys_outside plan sid AtBegin e = refl
  obeys_outside plan sid AtProgram e = refl
  obeys_outside plan sid (AtSeed level) e = either (u.session == 2) _ _ (either (has_level u.key level) _ _ refl refl) refl
  obeys_outside plan sid (AtKey level seed) e = either (u.session == 2) _ _ (either (has_level u.key level) _ _ (keys level (key_of plan.key seed) u.last_seed) refl) refl
  obeys_outside plan sid (AtErase c) e = absurd (false≢true e)
  obeys_outside plan sid (AtDownload c) e = absurd (false≢true e)
  obeys_outside plan sid (AtBlock c b) e = absurd (false≢true e)
  obeys_outside plan sid (AtExit c) e = absurd (false≢true e)
  obeys_outside plan sid (AtCheck c) e = absurd (false≢true e)
  obeys_outside plan sid (AtMark c) e = refl
  obeys_outside plan sid AtFinish e = either (u.session == 2) _ _ (either (is_locked u) _ _ refl (finishes u.checked)) refl
  obeys_outside plan sid AtReset e = refl
  obeys_outside plan sid AtDone e = refl
  obeys_outside plan sid (AtEnd outcome) e = refl

  spoils_outside : (plan : UnitPlan) (place : Place) → is_outside place ≡ true → spoil_in u (request_at plan place) ≡ None
  spoils_outside plan (AtIdent w ws) e = refl
  spoils_outside plan AtBegin e = refl
  spoils_outside plan AtProgram e = refl
  spoils_outside plan (AtSeed level) e = refl
  spoils_outside plan (AtKey level seed) e = refl
  spoils_outside plan (AtErase c) e = absurd (false≢true e)
  spoils_outside plan (AtDownload c) e = absurd (false≢true e)
  spoils_outside plan (AtBlock c b) e = absurd (false≢true e)
  spoils_outside plan (AtExit c) e = absurd (false≢true e)
  spoils_outside plan (AtCheck c) e = absurd (false≢true e)
  spoils_outside plan (AtMark c) e = refl
  spoils_outside plan AtFinish e = refl
  spoils_outside plan AtReset e = refl
  spoils_outside plan AtDone e = refl
  spoils_outside plan (AtEnd outcome) e = refl

  step_outside : (plan : UnitPlan) (place : Place) (w : ControlUnit) (tick : ℕ) (replies : List UnitReply) → is_outside place ≡ true → request_of (bytes_at plan place) ≡ request_at plan place
      → UnitStep u (bytes_at plan place) tick replies w → w.checked ≡ u.checked
  step_outside plan place w tick replies e same step = go step.how
    where
      obeyed : (obedient u (bytes_at plan place)).0.checked ≡ u.checked
      obeyed = ap (λ (r : Option Request). (obey_in u (sid_of (bytes_at plan place)) r).0.checked) same ∙ obeys_outside plan (sid_of (bytes_at plan place)) place e

      none : (s : Spoil) → spoil_in u (request_of (bytes_at plan place)) ≡ Some s → ⊥
      none s some = false≢true (ap (is_some {T = Spoil}) (sym (ap (spoil_in u) same ∙ spoils_outside plan place e) ∙ some))

      leaves : (mid : ControlUnit) → Leaves u (bytes_at plan place) mid → mid.checked ≡ u.checked
      leaves mid (inl is) = λ i. (is i).checked
      leaves mid (inr (s, range, spoiled)) = absurd (none s range)

      go : Obeys u (bytes_at plan place) tick replies w ⊎ Holds u (bytes_at plan place) tick replies w ⊎ Departs u (bytes_at plan place) tick replies w → w.checked ≡ u.checked
      go (inl o) = (λ i. (o.becomes i).checked) ∙ obeyed
      go (inr (inl h)) = (λ i. (h.becomes i).checked) ∙ obeyed
      go (inr (inr d)) = (λ i. (d.becomes i).checked) ∙ leaves d.mid d.leaves

-- ------ where every segment was found marked
module _ (plan : UnitPlan) (found marks : ℕ → Bool) (more : (s : ℕ) → found s ≡ true → marks s ≡ true) (all : AreMarked found (length plan.segments)) where
  not_next : (c : Cursor) → IsCursor plan c → IsNext marks c → ⊥
  not_next c is next =
      let size : length (c.done ++ (c.now ∷ c.left)) ≡ length plan.segments = ap (λ (ss : List Segment). length ss) is in
      both_ways _ next.now (more (length c.done) (all (length c.done) (omega (arith, size, length-append c.done (c.now ∷ c.left)))))

  outside : (place : Place) → IsPlace plan place → FitsMarks plan marks place → is_outside place ≡ true
  outside (AtErase c) is fits = absurd (not_next c is fits)
  outside (AtDownload c) is fits = absurd (not_next c is fits)
  outside (AtBlock c b) is fits = absurd (not_next c is.0 fits)
  outside (AtExit c) is fits = absurd (not_next c is fits)
  outside (AtCheck c) is fits = absurd (not_next c is fits)
  outside (AtIdent w ws) is fits = refl
  outside AtBegin is fits = refl
  outside AtProgram is fits = refl
  outside (AtSeed level) is fits = refl
  outside (AtKey level seed) is fits = refl
  outside (AtMark c) is fits = refl
  outside AtFinish is fits = refl
  outside AtReset is fits = refl
  outside AtDone is fits = refl
  outside (AtEnd outcome) is fits = refl

  -- a request of the script leaves the checked ranges
  pub step_checked : (place : Place) (u w : ControlUnit) (tick : ℕ) (replies : List UnitReply) → IsPlace plan place → FitsMarks plan marks place → request_of (bytes_at plan place) ≡ request_at plan place
      → UnitStep u (bytes_at plan place) tick replies w → w.checked ≡ u.checked
  step_checked place u w tick replies is fits same step = step_outside u plan place w tick replies (outside place is fits) same step

-- ------ the whole check
-- once every segment is marked, nothing is checked only where nothing was from the start, and all were found marked
abbrev pub Finishes : UnitPlan → (ℕ → Bool) → (ℕ → Bool) → ControlUnit → ControlUnit → Type 0
Finishes plan found marks first u = AreMarked marks (length plan.segments) → u.checked ≡ [] → HasNoneChecked plan found first

abbrev pub FinishesIn : UnitPlan → (ℕ → Bool) → (ℕ → Bool) → Option ControlUnit → Option ControlUnit → Type 0
FinishesIn plan found marks None now = Unit {0}
FinishesIn plan found marks (Some f) None = Unit {0}
FinishesIn plan found marks (Some f) (Some u) = Finishes plan found marks f u

-- what the place asks of the unit, with what the whole check asks
pub takes_with : (plan : UnitPlan) (found : ℕ → Bool) (first : ControlUnit) (place : Place) (u : ControlUnit) → (place ≡ AtFinish → u.checked ≡ [] → HasNoneChecked plan found first) → TakesOn place u → Takes plan found first place u
takes_with plan found first AtFinish u finish takes = finish refl
takes_with plan found first (AtDownload c) u finish takes = takes
takes_with plan found first (AtBlock c b) u finish takes = takes
takes_with plan found first (AtIdent w ws) u finish takes = tt
takes_with plan found first AtBegin u finish takes = tt
takes_with plan found first AtProgram u finish takes = tt
takes_with plan found first (AtSeed level) u finish takes = tt
takes_with plan found first (AtKey level seed) u finish takes = tt
takes_with plan found first (AtErase c) u finish takes = tt
takes_with plan found first (AtExit c) u finish takes = tt
takes_with plan found first (AtCheck c) u finish takes = tt
takes_with plan found first (AtMark c) u finish takes = tt
takes_with plan found first AtReset u finish takes = tt
takes_with plan found first AtDone u finish takes = tt
takes_with plan found first (AtEnd outcome) u finish takes = tt

pub takes_all : (plan : UnitPlan) (found marks : ℕ → Bool) (first : ControlUnit) (place : Place) (u : ControlUnit) → FitsMarks plan marks place → Finishes plan found marks first u → TakesOn place u → Takes plan found first place u
takes_all plan found marks first place u fits finishes takes = takes_with plan found first place u (λ e. finishes (subst (λ (p : Place). FitsMarks plan marks p) e fits)) takes

pub takes_on : (plan : UnitPlan) (found : ℕ → Bool) (first : ControlUnit) (place : Place) (u : ControlUnit) → Takes plan found first place u → TakesOn place u
takes_on plan found first AtFinish u takes = tt
takes_on plan found first (AtDownload c) u takes = takes
takes_on plan found first (AtBlock c b) u takes = takes
takes_on plan found first (AtIdent w ws) u takes = tt
takes_on plan found first AtBegin u takes = tt
takes_on plan found first AtProgram u takes = tt
takes_on plan found first (AtSeed level) u takes = tt
takes_on plan found first (AtKey level seed) u takes = tt
takes_on plan found first (AtErase c) u takes = tt
takes_on plan found first (AtExit c) u takes = tt
takes_on plan found first (AtCheck c) u takes = tt
takes_on plan found first (AtMark c) u takes = tt
takes_on plan found first AtReset u takes = tt
takes_on plan found first AtDone u takes = tt
takes_on plan found first (AtEnd outcome) u takes = tt

-- it stays where only counts change
pub takes_same : (plan : UnitPlan) (found : ℕ → Bool) (first : ControlUnit) (place : Place) (u w : ControlUnit) → w.checked ≡ u.checked → (TakesOn place u → TakesOn place w) → Takes plan found first place u → Takes plan found first place w
takes_same plan found first place u w same on takes = takes_with plan found first place w
    (λ e none. subst (λ (p : Place). Takes plan found first p u) e takes (sym same ∙ none)) (on (takes_on plan found first place u takes))

pub finishes_on : (plan : UnitPlan) (found marks : ℕ → Bool) (first now now2 : Option ControlUnit) → SameIn now now2 → FinishesIn plan found marks first now → FinishesIn plan found marks first now2
finishes_on plan found marks None now now2 same is = tt
finishes_on plan found marks (Some f) None None same is = tt
finishes_on plan found marks (Some f) None (Some w) same is = absurd same
finishes_on plan found marks (Some f) (Some u) None same is = tt
finishes_on plan found marks (Some f) (Some u) (Some w) same is = λ all none. is all (sym (λ i. (same.same i).checked) ∙ none)

-- a request that a unit heard at most leaves its checked ranges, where every segment was found marked
pub heard_checked : (plan : UnitPlan) (found marks : ℕ → Bool) (place : Place) (first now now2 : Option ControlUnit) (old new : ControlUnit) (tick : ℕ) (replies : List UnitReply)
    → ((s : ℕ) → found s ≡ true → marks s ≡ true) → IsPlace plan place → FitsMarks plan marks place → request_of (bytes_at plan place) ≡ request_at plan place
    → now ≡ Some old → now2 ≡ Some new → UnitStep old (bytes_at plan place) tick replies new → SameChecked plan found first now → SameChecked plan found first now2
heard_checked plan found marks place None now now2 old new tick replies more is fits reads was at step same = tt
heard_checked plan found marks place (Some f) now now2 old new tick replies more is fits reads was at step same = subst (λ (o : Option ControlUnit). SameChecked plan found (Some f) o) (sym at)
    (λ all. step_checked plan found marks more all place old new tick replies is fits reads step ∙ subst (λ (o : Option ControlUnit). SameChecked plan found (Some f) o) was same all)

-- a unit that holds a checked segment has checked something
pub has_checked : (u : ControlUnit) (s : Segment) → HasSegment u s → u.checked ≡ [] → ⊥
has_checked u s has none = false≢true (ap (λ (cs : List (ℕ × ℕ)). has_range cs s.at (length s.body)) (sym none) ∙ has.checked)

-- so it is: a segment that was marked in this run is in its unit, and was checked
module _ (rules : LinkRules) (P : List UnitPlan) (found : Entry → Bool) (c : Core) (v : Vehicle) (t0 : ℕ) (joint : IsVehicleJoint rules P found c v t0) (n : ℕ) (lt : n < count_of P) where
  all_found : (u : ControlUnit) → unit_at v.units (plan_of P n).address ≡ Some u → AreMarked (c.slots n).talk.marks (length (plan_of P n).segments) → u.checked ≡ [] → AreMarked (marks_of found n) (length (plan_of P n).segments)
  all_found u is all none k below = go (cases_Bool (found (Marked n k)))
    where
      go : (found (Marked n k) ≡ true) ⊎ (found (Marked n k) ≡ false) → marks_of found n k ≡ true
      go (inl e) = e
      go (inr e) =
          let has : VehicleHas (plan_of P n) (segment_of (plan_of P n) k) v = joint.marked n k lt below (record { recorded = sym ((joint.sane.slots n lt).talk.marks_are k) ∙ all k below; unfound = e }) in
          absurd (has_checked u (segment_of (plan_of P n) k) (subst (λ (o : Option ControlUnit). MatchOption o ⊥ (λ x. HasSegment x (segment_of (plan_of P n) k))) is has) none)

  pub finishes_in : (first : Option ControlUnit) → SameChecked (plan_of P n) (marks_of found n) first (unit_at v.units (plan_of P n).address)
      → FinishesIn (plan_of P n) (marks_of found n) (c.slots n).talk.marks first (unit_at v.units (plan_of P n).address)
  finishes_in first same = go first (unit_at v.units (plan_of P n).address) refl same
    where
      go : (first now : Option ControlUnit) → unit_at v.units (plan_of P n).address ≡ now → SameChecked (plan_of P n) (marks_of found n) first now → FinishesIn (plan_of P n) (marks_of found n) (c.slots n).talk.marks first now
      go None now is same = tt
      go (Some f) None is same = tt
      go (Some f) (Some u) is same = λ all none.
          let marked : AreMarked (marks_of found n) (length (plan_of P n).segments) = all_found u is all none in
          record { marked = marked; none = sym (same marked) ∙ none }
