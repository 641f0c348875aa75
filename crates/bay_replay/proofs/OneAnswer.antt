-- A list of events has one answer.
use Rattle.std.proofs.Common.{◌≡◌, ◌⊎◌, inl, inr, ℕ, zero, suc, ◌<◌, true, false, List, [], ◌∷◌, length, take, slice_get, Some, refl, sym, ◌∙◌, ap, arith}
use Rattle.std.proofs.lemmas.Bool.{cases_Bool, cases_lt, false≢true, and_from, and_parts}
use Rattle.barrier_board.specs.Board.{has_entry}
use Rattle.bay_core.specs.Core.{Core, core_after, core_of, core_start}
use Rattle.bay_core.specs.Legal.{is_allowed, is_legal}
use Rattle.bay_core.specs.declared.event.Event.{Event}
use Rattle.flash_plan.specs.declared.outcome.Entry.{Entry}
use Rattle.flash_plan.specs.declared.unit.LinkRules.{LinkRules}
use Rattle.flash_plan.specs.declared.unit.UnitPlan.{UnitPlan}
use Rattle.bay_replay.specs.Replays.{IsFirstBad, HasOneAnswer}
use Rattle.bay_replay.proofs.Lists.{first_bad, there_is}

some_is : (a b : Event) → Some a ≡ Some b → a ≡ b
some_is a b e = cc

-- the events before the place are legal, the one at it is not allowed after them
record IsBad (rules : LinkRules) (P : List UnitPlan) (c : Core) (es : List Event) (place : ℕ) : Type 0 where
  within : place < length es
  before : is_legal rules P c (take place es) ≡ true
  bad : (e : Event) → slice_get es place ≡ Some e → is_allowed P (core_of rules P c (take place es)) e ≡ false

abbrev Found : LinkRules → List UnitPlan → Core → List Event → Type 0
Found rules P c es = (is_legal rules P c es ≡ true) ⊎ ((place : ℕ) × IsBad rules P c es place)

one_later : (rules : LinkRules) (P : List UnitPlan) (c : Core) (e : Event) (es : List Event) → is_allowed P c e ≡ true → Found rules P (core_after rules P e c) es → Found rules P c (e ∷ es)
one_later rules P c e es ok (inl legal) = inl (and_from _ _ ok legal)
one_later rules P c e es ok (inr (place, b)) = inr (suc place, record { within = omega (arith, b.within); before = and_from _ _ ok b.before; bad = b.bad })

found : (rules : LinkRules) (P : List UnitPlan) (es : List Event) (c : Core) → Found rules P c es
found rules P [] c = inl refl
found rules P (e ∷ es) c = elim (cases_Bool (is_allowed P c e)) [
  | inl ok ↦ one_later rules P c e es ok (found rules P es (core_after rules P e c))
  | inr out ↦ inr (zero, record { within = omega arith; before = refl; bad = λ x is. sym (ap (is_allowed P c) (some_is e x is)) ∙ out })
]

-- each event of a legal list is allowed
legal_at : (rules : LinkRules) (P : List UnitPlan) (es : List Event) (p q : ℕ) (e : Event) (c : Core) → p < q → slice_get es p ≡ Some e → is_legal rules P c (take q es) ≡ true → is_allowed P (core_of rules P c (take p es)) e ≡ true
legal_at rules P [] p q e c lt is legal = cc
legal_at rules P (x ∷ xs) p zero e c lt is legal = absurd (omega (arith, lt))
legal_at rules P (x ∷ xs) zero (suc q) e c lt is legal = sym (ap (is_allowed P c) (some_is x e is)) ∙ (and_parts _ _ legal).0
legal_at rules P (x ∷ xs) (suc p) (suc q) e c lt is legal = legal_at rules P xs p q e (core_after rules P x c) (omega (arith, lt)) is (and_parts _ _ legal).1

not_before : (rules : LinkRules) (P : List UnitPlan) (started : List Entry) (es : List Event) (p q : ℕ) → IsFirstBad rules P started es p → IsFirstBad rules P started es q → p < q → ⊥
not_before rules P started es p q a b lt =
    let x : (e : Event) × (slice_get es p ≡ Some e) = there_is es p a.within in
    false≢true (sym (a.bad x.0 x.1) ∙ legal_at rules P es p q x.0 (core_start P (has_entry started)) lt x.1 b.before)

first_of : (rules : LinkRules) (P : List UnitPlan) (started : List Entry) (es : List Event) → Found rules P (core_start P (has_entry started)) es
    → (is_legal rules P (core_start P (has_entry started)) es ≡ true) ⊎ ((place : ℕ) × IsFirstBad rules P started es place)
first_of rules P started es (inl legal) = inl legal
first_of rules P started es (inr (place, b)) = inr (place, first_bad rules P started es place b.within b.before (λ e is. sym (b.bad e is)))

pub one_answer : HasOneAnswer
one_answer = record {
  some = λ rules P started es. first_of rules P started es (found rules P es (core_start P (has_entry started)));
  either = λ rules P started es place legal b. false≢true (sym b.illegal ∙ legal);
  one = λ rules P started es p q a b. elim (cases_lt p q) [
    | inl lt ↦ absurd (not_before rules P started es p q a b lt)
    | inr le ↦ elim (cases_lt q p) [
      | inl lt ↦ absurd (not_before rules P started es q p b a lt)
      | inr more ↦ omega (arith, le, more)
    ]
  ];
}
