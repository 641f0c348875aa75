-- Entries of one spelling are the same.
use Rattle.std.proofs.Common.{◌≡◌, true, false, refl, sym, ◌∙◌, subst}
use Rattle.std.specs.Prelude.{Bool, ◌||◌}
use Rattle.std.proofs.lemmas.Bool.{and_parts, and_from, eq-eqb, eqb-true, false≢true}
use Rattle.flash_plan.specs.declared.outcome.Entry.{Entry}
use Rattle.flash_plan.specs.declared.outcome.Entry.TheVariants.{Begun, Marked, Complete}
use Rattle.flash_plan.specs.Outcomes.{same_entry, with_entry}
use Rattle.journal_steps.specs.Append.{is_entry}
use Rattle.journal_steps.proofs.Tables.{is_itself, entry_of}

-- what is true together
pub both_if : (a b : Bool) → (a ≡ true → b ≡ true) → (b ≡ true → a ≡ true) → a ≡ b
both_if true true there back = refl
both_if true false there back = sym (there refl)
both_if false true there back = back refl
both_if false false there back = refl

-- entries that compare as the same are the same
pub same_of : (e x : Entry) → same_entry e x ≡ true → e ≡ x
same_of (Begun u) (Begun v) is = λ i. Begun (eqb-true u v is i)
same_of (Begun u) (Marked v t) is = absurd (false≢true is)
same_of (Begun u) (Complete v) is = absurd (false≢true is)
same_of (Marked u s) (Begun v) is = absurd (false≢true is)
same_of (Marked u s) (Marked v t) is = let parts = and_parts _ _ is in λ i. Marked (eqb-true u v parts.0 i) (eqb-true s t parts.1 i)
same_of (Marked u s) (Complete v) is = absurd (false≢true is)
same_of (Complete u) (Begun v) is = absurd (false≢true is)
same_of (Complete u) (Marked v t) is = absurd (false≢true is)
same_of (Complete u) (Complete v) is = λ i. Complete (eqb-true u v is i)

pub same_itself : (e : Entry) → same_entry e e ≡ true
same_itself (Begun u) = eq-eqb u u refl
same_itself (Marked u s) = and_from _ _ (eq-eqb u u refl) (eq-eqb s s refl)
same_itself (Complete u) = eq-eqb u u refl

pub entry_same : (e x : Entry) → is_entry e x ≡ same_entry e x
entry_same e x = both_if _ _ (λ is. subst (λ (y : Entry). same_entry e y ≡ true) (entry_of e x is) (same_itself e)) (λ is. subst (λ (y : Entry). is_entry e y ≡ true) (same_of e x is) (is_itself e))

turned : (a b : Entry) → same_entry a b ≡ true → same_entry b a ≡ true
turned a b is = subst (λ (y : Entry). same_entry y a ≡ true) (same_of a b is) (same_itself a)

pub same_sym : (e x : Entry) → same_entry e x ≡ same_entry x e
same_sym e x = both_if _ _ (turned e x) (turned x e)

pub or_turned : (a b : Bool) → (a || b) ≡ (b || a)
or_turned true true = refl
or_turned true false = refl
or_turned false true = refl
or_turned false false = refl

-- the records with one entry more, told by spellings
pub entry_with : (R : Entry → Bool) (e x : Entry) → (R x || is_entry e x) ≡ with_entry e R x
entry_with R e x = (λ i. R x || entry_same e x i) ∙ or_turned (R x) (same_entry e x) ∙ (λ i. same_sym e x i || R x)
