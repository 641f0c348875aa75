-- What a request has come to, as the step of a simulated unit.
use Rattle.std.proofs.Common.{◌≡◌, inl, inr, ℕ, ◌<◌, ◌≤◌, Bool, true, false, List, [], ◌∷◌, ◌++◌, length, drop, set, get_or, replicate, Some, None, Option, refl, sym, ◌∙◌, ap, subst, arith}
use Rattle.std.specs.Prelude.{◌==◌, ◌||◌, nat_le, slice_index, option_to_list, MatchOption, Result, Ok, Err, OnOk}
use Rattle.std.proofs.lemmas.Bool.{cases_eq, cases_lt, eq-eqb, ne_eqb, and_parts, leb-true}
use Rattle.std.proofs.lemmas.List.{get_or-replicate, get_or_past, length-replicate, length-drop, get_or-set_same, get_or-set_other}
use Rattle.uds_codec.specs.Form.{AreBytes}
use Rattle.uds_codec.specs.Laws.{IsWrittenAgain}
use Rattle.uds_codec.specs.Request.{request_of, sid_of}
use Rattle.uds_codec.specs.declared.request.Request.{Request}
use Rattle.unit_model.specs.declared.reply.UnitReply.{UnitReply}
use Rattle.unit_model.specs.declared.unit.Unit.{Unit as RunningUnit}
use Rattle.unit_model.specs.Running.{control_unit}
use Rattle.unit_model.specs.Rules.{is_seed}
use Rattle.unit_model.specs.Step.{UnitStep}
use Rattle.unit_model.specs.Troubles.{all_troubles}
use Rattle.flash_base.specs.Counts.{one_more}
use Rattle.unit_model.specs.Unit.{ControlUnit, Counts, obey_in, obedient, heard_one}
use Rattle.unit_sim.specs.declared.change.Change.{Change}
use Rattle.unit_sim.specs.declared.change.Step.{Step}
use Rattle.unit_sim.specs.declared.outcome.Outcome.{Outcome}
use Rattle.unit_sim.specs.Acting.{acting, counted}
use Rattle.unit_sim.specs.Changes.{changed, stepped, MayChange, IsChange}
use Rattle.unit_sim.specs.Done.{done}
use Rattle.unit_sim.specs.Outcomes.{counted_on, outcome_of}
use Rattle.unit_sim.specs.Sims.{Sim, heard_by, committed, Hears, Takes}
use Rattle.unit_sim.specs.Tallies.{raised_by}
use Rattle.unit_sim.proofs.Counted.{beside, beside_step, obedient_beside, changed_beside}
use Rattle.unit_sim.proofs.Remaining.{acts}
use Rattle.unit_sim.proofs.Rows.{IsAsked, by_trouble}
use Rattle.unit_sim.proofs.Sizes.{can_send}

-- ------ what a unit has heard
pub silent : (n : ℕ) → ◌≡◌ {A = ℕ → Bool} (λ sid. get_or (replicate n false) sid false) (λ sid. false)
silent n = λ i sid. none sid i
  where
    none : (sid : ℕ) → get_or (replicate n false) sid false ≡ false
    none sid = elim (cases_lt sid n) [
      | inl lt ↦ get_or-replicate n sid false false lt
      | inr ge ↦ get_or_past (replicate n false) sid false (omega (arith, length-replicate {A = Bool} n false, ge))
    ]

pub heard_more : (xs : List Bool) (sid : ℕ) → sid < length xs → ◌≡◌ {A = ℕ → Bool} (λ other. get_or (set xs sid true) other false) (λ other. other == sid || get_or xs other false)
heard_more xs sid lt = λ i other. each other i
  where
    each : (other : ℕ) → get_or (set xs sid true) other false ≡ (other == sid || get_or xs other false)
    each other = elim (cases_eq other sid) [
      | inl e ↦
          let yes : (other == sid) ≡ true = eq-eqb _ _ e in
          rw yes (ap (λ (n : ℕ). get_or (set xs sid true) n false) e ∙ get_or-set_same xs sid true false lt)
      | inr n ↦
          let no : (other == sid) ≡ false = ne_eqb _ _ n in
          rw no (get_or-set_other xs sid other true false n)
    ]

-- ------ the unit behind it
pub unit_behind : (new cu : ControlUnit) (k' k : Counts) (o : Outcome) → new ≡ changed o.change cu → k' ≡ raised_by o.raise k → record new { heard = one_more new.heard; counts = k' } ≡ heard_one (counted_on o (beside k cu))
unit_behind new cu k' k o is counts =
    (λ i. record (is i) { heard = one_more (is i).heard; counts = counts i })
    ∙ (λ i. heard_one (record (sym (changed_beside k cu o.change) i) { counts = raised_by o.raise (sym (changed_beside k cu o.change) i).counts }))

pub may : (o c : Change) (u : RunningUnit) → IsChange o c → MayChange c u → MayChange o u
may o c u (inl none) is = subst (λ (x : Change). MayChange x u) (sym none) tt
may o c u (inr same) is = subst (λ (x : Change). MayChange x u) (sym same) is

-- ------ the obedient step, whatever was counted
pub step_beside : (k : Counts) (cu : ControlUnit) (bytes : List ℕ) (sid : ℕ) (asked : Option Request) (step : Step) → sid ≡ sid_of bytes → asked ≡ request_of bytes → stepped step cu ≡ obey_in cu sid asked → stepped step (beside k cu) ≡ obedient (beside k cu) bytes
step_beside k cu bytes sid asked step first read is =
    (λ i. (changed_beside k cu step.change i, step.answer))
    ∙ ap (beside_step k) is
    ∙ sym (obedient_beside k cu sid asked)
    ∙ (λ i. obey_in (beside k cu) (first i) (read i))

pub first_byte : (bytes : List ℕ) → 1 ≤ length bytes → slice_index bytes 0 ≡ sid_of bytes
first_byte [] some = absurd (omega arith)
first_byte (x ∷ xs) some = refl

-- ------ the whole step
pub committed_is : (s : Sim) (bytes : List ℕ) (tick sid : ℕ) (o : Outcome) → sid ≡ sid_of bytes → outcome_of o s.unit ≡ done (acting (sid_of bytes) s.troubles) s.unit bytes tick → committed s sid o ≡ heard_by s bytes tick
committed_is s bytes tick sid o first is =
    (λ i. record {
      unit = heard_one (is i).0;
      troubles = counted (first i) s.troubles;
      waiting = s.waiting ++ (is i).1;
      services = λ other. other == first i || s.services other;
    })

seed_most : (seed : List ℕ) → is_seed seed ≡ true → length seed ≤ 64
seed_most seed is = leb-true _ _ (and_parts (nat_le 1 (length seed)) (nat_le (length seed) 64) is).1

asked_of_unit : (k : Counts) (u : RunningUnit) (bytes : List ℕ) → AreBytes bytes → IsWrittenAgain → IsAsked (beside k (control_unit u)) bytes
asked_of_unit k u bytes are again = record {
  sends = can_send (beside k (control_unit u)) u.memory u.transfer bytes u.short_idents (seed_most u.seed u.some_seed) refl u.open_range;
  written = λ r is. again bytes r are is;
}

pub hears : (k : Counts) (u : RunningUnit) (s new : Sim) (bytes : List ℕ) (tick : ℕ) → s.unit ≡ beside k (control_unit u) → all_troubles s.troubles ≡ true → AreBytes bytes → IsWrittenAgain → new ≡ heard_by s bytes tick → Hears s bytes tick new
hears k u s new bytes tick same ok are again is = record {
  replies = (done (acting (sid_of bytes) s.troubles) s.unit bytes tick).1;
  step = subst (λ (w : ControlUnit). UnitStep s.unit bytes tick (done (acting (sid_of bytes) s.troubles) s.unit bytes tick).1 w) (sym (ap (λ (x : Sim). x.unit) is))
      (by_trouble (acting (sid_of bytes) s.troubles) s.unit bytes tick (subst (λ (w : ControlUnit). IsAsked w bytes) (sym same) (asked_of_unit k u bytes are again)) (acts (sid_of bytes) s.troubles ok));
  waits = ap (λ (x : Sim). x.waiting) is;
}

-- ------ a reply is taken out
none_left : (old : List UnitReply) → old ≡ drop 1 old → old ≡ []
none_left [] e = refl
none_left (r ∷ rs) e = absurd (omega (arith, ap length e, length-drop 1 (r ∷ rs)))

pub taken : (o : Option UnitReply) (s : Sim) (new : List UnitReply) → s.waiting ≡ option_to_list o ++ new → new ≡ drop 1 s.waiting → MatchOption o ((s.waiting ≡ []) × (record s { waiting = new } ≡ s)) (λ r. Takes r s (record s { waiting = new }))
taken None s new is rest = (none_left s.waiting (is ∙ rest), λ i. record s { waiting = sym is i })
taken (Some r) s new is rest = λ i. record s { waiting = is i }

-- ------ where it was made
pub on_ok : {T E : Type 0} (r : Result T E) (x y z : Sim) → y ≡ z → OnOk r (x ≡ y) → OnOk r (x ≡ z)
on_ok (Ok v) x y z same is = is ∙ same
on_ok (Err e) x y z same is = tt

pub on_ok_hears : {T E : Type 0} (r : Result T E) (s new : Sim) (bytes : List ℕ) (tick : ℕ) → (new ≡ heard_by s bytes tick → Hears s bytes tick new) → OnOk r (new ≡ heard_by s bytes tick) → OnOk r (Hears s bytes tick new)
on_ok_hears (Ok v) s new bytes tick so is = so is
on_ok_hears (Err e) s new bytes tick so is = tt
