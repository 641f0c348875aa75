-- The version of a file, and its slots.
use Rattle.std.proofs.Common.{◌≡◌, ◌⊎◌, inl, inr, ℕ, true, false, Bool, List, length, refl, sym, ◌∙◌, ap, arith}
use Rattle.std.specs.Prelude.{Option, Some, None, if◌then◌else◌}
use Rattle.std.proofs.lemmas.Bool.{cases_Bool}
use Rattle.flash_plan.specs.declared.outcome.Entry.{Entry}
use Rattle.journal_model.specs.Records.{Label, Form, slots_of, old_form, new_form, behind, form_of, is_new, is_migrated, names, says_slots, counts, is_new_header, says_digest, has_second}
use Rattle.journal_steps.specs.Tables.{place_of}
use Rattle.flash_journal.specs.declared.layout.Version.{Version}
use Rattle.flash_journal.specs.declared.layout.Version.TheVariants.{Old, New, Moved}
use Rattle.flash_journal.specs.Layouts.{version_seen, form_as, place_in}

pick : (P : Label) (b c : Bool) → form_as P (if b then New else (if c then Moved else Old)) ≡ (if b then new_form P 0 else (if c then new_form P (behind P) else old_form P))
pick P true c = refl
pick P false true = refl
pick P false false = refl

-- the slots of the version are those of the file
pub form_seen : (P : Label) (image : List ℕ) → form_as P (version_seen image) ≡ form_of P image
form_seen P image = pick P (is_new image) (is_migrated image)

-- what the tests of the version found
record IsSeen (b c : Bool) (v : Version) : Type 0 where
  new : v ≡ New → b ≡ true
  moved : v ≡ Moved → c ≡ true
  old : v ≡ Old → (b ≡ false) × (c ≡ false)
  not_new : (v ≡ New → ⊥) → b ≡ false
  not_moved : (v ≡ Moved → ⊥) → b ≡ false → c ≡ false

seen : (b c : Bool) → IsSeen b c (if b then New else (if c then Moved else Old))
seen true c = record { new = λ e. refl; moved = λ e. cc; old = λ e. cc; not_new = λ none. absurd (none refl); not_moved = λ none e. cc }
seen false true = record { new = λ e. cc; moved = λ e. refl; old = λ e. cc; not_new = λ none. refl; not_moved = λ none e. absurd (none refl) }
seen false false = record { new = λ e. cc; moved = λ e. cc; old = λ e. (refl, refl); not_new = λ none. refl; not_moved = λ none e. refl }

module _ (image : List ℕ) (v : Version) (is : v ≡ version_seen image) where
  pub seen_new : v ≡ New → is_new image ≡ true
  seen_new new = (seen (is_new image) (is_migrated image)).new (sym is ∙ new)

  pub seen_moved : v ≡ Moved → is_migrated image ≡ true
  seen_moved moved = (seen (is_new image) (is_migrated image)).moved (sym is ∙ moved)

  pub seen_old : v ≡ Old → (is_new image ≡ false) × (is_migrated image ≡ false)
  seen_old old = (seen (is_new image) (is_migrated image)).old (sym is ∙ old)

  pub not_new : (v ≡ New → ⊥) → is_new image ≡ false
  not_new none = (seen (is_new image) (is_migrated image)).not_new (λ e. none (is ∙ e))

pub neither : (v : Version) → (v ≡ Old) ⊎ (v ≡ Moved) → v ≡ New → ⊥
neither v (inl old) new = let p : ⊥ = cc in p
neither v (inr moved) new = let p : ⊥ = cc in p

pub counts_new : (P : Label) (image : List ℕ) → is_new image ≡ true → says_slots image 0 (slots_of (new_form P 0)) ≡ counts P image
counts_new P image new = λ i. says_slots image 0 (if sym new i then slots_of (new_form P 0) else slots_of (old_form P))

pub counts_old : (P : Label) (image : List ℕ) → is_new image ≡ false → says_slots image 0 (slots_of (old_form P)) ≡ counts P image
counts_old P image old = λ i. says_slots image 0 (if sym old i then slots_of (new_form P 0) else slots_of (old_form P))

-- an entry that stands in the table
pub record IsPlaced (F : Form) (e : Entry) (p : ℕ) : Type 0 where
  pub named : names F e ≡ true
  pub place : p ≡ place_of F e

pub placed_some : (F : Form) (e : Entry) (p : ℕ) → Some p ≡ place_in F e → IsPlaced F e p
placed_some F e p is = elim (cases_Bool (names F e)) [
  | inl named ↦ let at : Some p ≡ Some (place_of F e) = is ∙ (λ i. if named i then Some (place_of F e) else None) in record { named = named; place = cc }
  | inr isnt ↦ let at : Some p ≡ None = is ∙ (λ i. if isnt i then Some (place_of F e) else None) in absurd (cc)
]

pub placed_none : (F : Form) (e : Entry) → None ≡ place_in F e → names F e ≡ false
placed_none F e is = elim (cases_Bool (names F e)) [
  | inl named ↦ let at : None ≡ Some (place_of F e) = is ∙ (λ i. if named i then Some (place_of F e) else None) in absurd (cc)
  | inr isnt ↦ isnt
]
