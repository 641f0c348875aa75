-- Entries that are recorded in one group, or whose append fails: each of its own, whatever the others are.
use Rattle.std.proofs.Common.{◌≡◌, ◌⊎◌, inl, inr, ℕ, true, false, List, [], ◌∷◌, refl, sym, ◌∙◌, ap, subst}
use Rattle.std.specs.Prelude.{Bool, map, ◌||◌, ◌&&◌, ◌==◌}
use Rattle.std.proofs.lemmas.Bool.{cases_Bool, false≢true, and_parts, and_from, eqb-true, eq-eqb}
use Rattle.bay_core.proofs.OneStep.{step_law}
use Rattle.bay_core.specs.Core.{Core, core_after, core_of}
use Rattle.bay_core.specs.Joint.{IsVehicleJoint, IsRecordJoint, RecordsAgree}
use Rattle.bay_core.specs.Legal.{is_legal, may_record}
use Rattle.bay_core.specs.declared.event.Event.TheVariants.{DiskFailed}
use Rattle.flash_base.specs.Lists.{Each}
use Rattle.flash_plan.specs.Outcomes.{same_entry, with_entry}
use Rattle.flash_plan.specs.Plan.{IsAccepted}
use Rattle.flash_plan.specs.declared.outcome.Entry.{Entry}
use Rattle.flash_plan.specs.declared.outcome.Entry.TheVariants.{Begun, Marked, Complete}
use Rattle.flash_plan.specs.declared.unit.LinkRules.{LinkRules}
use Rattle.flash_plan.specs.declared.unit.UnitPlan.{UnitPlan}
use Rattle.journal_steps.specs.Read.{is_among}
use Rattle.run_model.specs.Sound.{IsSound}
use Rattle.unit_model.specs.Vehicle.{Vehicle}
use Rattle.flash_run.proofs.Grouping.{record_same}
use Rattle.flash_run.specs.Group.{unit_in, failed_as}

-- ------ entries
same_is : (x e : Entry) → same_entry x e ≡ true → x ≡ e
same_is (Begun a) (Begun b) is = ap Begun (eqb-true a b is)
same_is (Begun a) (Marked b t) is = absurd (false≢true is)
same_is (Begun a) (Complete b) is = absurd (false≢true is)
same_is (Marked a s) (Begun b) is = absurd (false≢true is)
same_is (Marked a s) (Marked b t) is = let p = and_parts _ _ is in λ i. Marked (eqb-true a b p.0 i) (eqb-true s t p.1 i)
same_is (Marked a s) (Complete b) is = absurd (false≢true is)
same_is (Complete a) (Begun b) is = absurd (false≢true is)
same_is (Complete a) (Marked b t) is = absurd (false≢true is)
same_is (Complete a) (Complete b) is = ap Complete (eqb-true a b is)

eq_sym : (a b : ℕ) → (a == b) ≡ (b == a)
eq_sym a b = elim (cases_Bool (a == b)) [
  | inl e ↦ e ∙ sym (eq-eqb b a (sym (eqb-true a b e)))
  | inr e ↦ elim (cases_Bool (b == a)) [
    | inl f ↦ absurd (false≢true (sym e ∙ eq-eqb a b (sym (eqb-true b a f))))
    | inr f ↦ e ∙ sym f
  ]
]

pub entry_sym : (x e : Entry) → same_entry x e ≡ same_entry e x
entry_sym (Begun a) (Begun b) = eq_sym a b
entry_sym (Begun a) (Marked b t) = refl
entry_sym (Begun a) (Complete b) = refl
entry_sym (Marked a s) (Begun b) = refl
entry_sym (Marked a s) (Marked b t) = λ i. eq_sym a b i && eq_sym s t i
entry_sym (Marked a s) (Complete b) = refl
entry_sym (Complete a) (Begun b) = refl
entry_sym (Complete a) (Marked b t) = refl
entry_sym (Complete a) (Complete b) = eq_sym a b

or_cases : (a b : Bool) → (a || b) ≡ true → (a ≡ true) ⊎ (b ≡ true)
or_cases true b is = inl refl
or_cases false b is = inr is

or_left : (a b : Bool) → a ≡ true → (a || b) ≡ true
or_left true b is = refl
or_left false b is = absurd (false≢true is)

or_right : (a b : Bool) → b ≡ true → (a || b) ≡ true
or_right true b is = refl
or_right false b is = is

-- two sets with the same entries are one
pub same_set : (R S : Entry → Bool) → ((e : Entry) → R e ≡ true → S e ≡ true) → ((e : Entry) → S e ≡ true → R e ≡ true) → R ≡ S
same_set R S there back = λ i e. both (R e) (S e) (there e) (back e) i
  where
    both : (a b : Bool) → (a ≡ true → b ≡ true) → (b ≡ true → a ≡ true) → a ≡ b
    both true b f g = sym (f refl)
    both false true f g = absurd (false≢true (g refl))
    both false false f g = refl

-- ------ appends that failed, one after another
-- each of these appends may be tried
abbrev pub MayAll : List UnitPlan → Core → List Entry → Type 0
MayAll P c es = Each (λ e. may_record P c (unit_in e) e ≡ true) es

may_more : (rules : LinkRules) (P : List UnitPlan) (c : Core) (u : ℕ) (x : Entry) (es : List Entry) → MayAll P c es → MayAll P (core_after rules P (DiskFailed u x) c) es
may_more rules P c u x [] may = tt
may_more rules P c u x (e ∷ es) may = (record_same rules P c u x (unit_in e) e ∙ may.0, may_more rules P c u x es may.1)

-- so their failures are allowed, one after another
pub fails_legal : (rules : LinkRules) (P : List UnitPlan) (c : Core) (es : List Entry) → MayAll P c es → is_legal rules P c (map failed_as es) ≡ true
fails_legal rules P c [] may = refl
fails_legal rules P c (e ∷ es) may = and_from _ _ may.0 (fails_legal rules P (core_after rules P (failed_as e) c) es (may_more rules P c (unit_in e) e es may.1))

-- ------ whatever of a group is recorded
abbrev pick : Bool → Entry → (Entry → Bool) → Entry → Bool
pick true e R = with_entry e R
pick false e R = R

moves_pick : (b : Bool) (e : Entry) (R : Entry → Bool) → (pick b e R ≡ R) ⊎ (pick b e R ≡ with_entry e R)
moves_pick true e R = inr refl
moves_pick false e R = inl refl

pick_below : (b : Bool) (e : Entry) (R now : Entry → Bool) → now e ≡ b → ((x : Entry) → R x ≡ true → now x ≡ true) → (x : Entry) → pick b e R x ≡ true → now x ≡ true
pick_below true e R now is below x has = elim (or_cases (same_entry x e) (R x) has) [ inl s ↦ ap now (same_is x e s) ∙ is | inr r ↦ below x r ]
pick_below false e R now is below x has = below x has

pick_above : (b : Bool) (e : Entry) (es : List Entry) (R now : Entry → Bool) → now e ≡ b → ((x : Entry) → now x ≡ true → (R x ≡ true) ⊎ (is_among (e ∷ es) x ≡ true)) → (x : Entry) → now x ≡ true → (pick b e R x ≡ true) ⊎ (is_among es x ≡ true)
pick_above true e es R now is above x has = elim (above x has) [
  | inl r ↦ inl (or_right (same_entry x e) (R x) r)
  | inr a ↦ elim (or_cases (same_entry e x) (is_among es x) a) [ inl s ↦ inl (or_left (same_entry x e) (R x) (entry_sym x e ∙ s)) | inr m ↦ inr m ]
]
pick_above false e es R now is above x has = elim (above x has) [
  | inl r ↦ inl r
  | inr a ↦ elim (or_cases (same_entry e x) (is_among es x) a) [
    | inl s ↦ absurd (false≢true (sym is ∙ ap now (same_is e x s) ∙ has))
    | inr m ↦ inr m
  ]
]

-- records with some of a group, each of which may be appended, fit the vehicle as the records without it do
pub sound_some : (rules : LinkRules) (P : List UnitPlan) (found : Entry → Bool) (es : List Entry) (c : Core) (R now : Entry → Bool) (v v0 : Vehicle) (t0 : ℕ) → IsAccepted P → MayAll P c es → IsVehicleJoint rules P found c v t0 → IsRecordJoint P c R v v0
    → ((x : Entry) → R x ≡ true → now x ≡ true) → ((x : Entry) → now x ≡ true → (R x ≡ true) ⊎ (is_among es x ≡ true)) → IsSound P now v v0
sound_some rules P found [] c R now v v0 t0 accepted may joint records below above =
    subst (λ (S : Entry → Bool). IsSound P S v v0) (same_set R now below (λ x has. elim (above x has) [ inl r ↦ r | inr m ↦ absurd (false≢true m) ])) records.sound
sound_some rules P found (e ∷ es) c R now v v0 t0 accepted may joint records below above =
    let c2 : Core = core_after rules P (failed_as e) c in
    let R2 : Entry → Bool = pick (now e) e R in
    sound_some rules P found es c2 R2 now v v0 t0 accepted (may_more rules P c (unit_in e) e es may.1)
    (step_law.vehicle rules P found c (failed_as e) v v t0 accepted may.0 refl joint)
    (step_law.records rules P found c (failed_as e) R R2 v v v0 t0 accepted may.0 (record { vehicle = refl; records = moves_pick (now e) e R }) joint records)
    (pick_below (now e) e R now refl below) (pick_above (now e) e es R now refl above)

-- the records of an image after failures agree with the core
pub agree_some : (rules : LinkRules) (P : List UnitPlan) (es : List Entry) (c : Core) (now : Entry → Bool) → ((x : Entry) → c.recorded x ≡ true → now x ≡ true) → ((x : Entry) → now x ≡ true → (c.recorded x ≡ true) ⊎ ((c.doubted x ≡ true) ⊎ (is_among es x ≡ true)))
    → RecordsAgree (core_of rules P c (map failed_as es)) now
agree_some rules P [] c now below above = record { has = below; only = λ x has. elim (above x has) [ inl r ↦ inl r | inr d ↦ elim d [ inl q ↦ inr q | inr m ↦ absurd (false≢true m) ] ] }
agree_some rules P (e ∷ es) c now below above =
    agree_some rules P es (core_after rules P (failed_as e) c) now below (λ x has. elim (above x has) [
      | inl r ↦ inl r
      | inr d ↦ elim d [
        | inl q ↦ inr (inl (or_right (same_entry x e) (c.doubted x) q))
        | inr m ↦ elim (or_cases (same_entry e x) (is_among es x) m) [ inl s ↦ inr (inl (or_left (same_entry x e) (c.doubted x) (entry_sym x e ∙ s))) | inr k ↦ inr (inr k) ]
      ]
    ])
