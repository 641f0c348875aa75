-- A list of entries beside their table.
use Rattle.std.proofs.Common.{◌≡◌, inl, inr, ℕ, ◌<◌, ◌*◌, Bool, true, false, List, [], ◌∷◌, ◌++◌, length, get_or, set, refl, sym, ◌∙◌, ap, subst}
use Rattle.std.specs.Prelude.{not, ◌||◌, replicate}
use Rattle.std.proofs.lemmas.Bool.{cases_Bool, or_cases, and_parts, and_from, both_ways, lt-ltb}
use Rattle.std.specs.List.{list_all}
use Rattle.flash_plan.specs.declared.outcome.Entry.{Entry}
use Rattle.flash_plan.specs.declared.outcome.Entry.TheVariants.{Begun, Marked, Complete}
use Rattle.flash_plan.specs.Outcomes.{same_entry}
use Rattle.journal_model.specs.Records.{Form, segments_of, names, has, is_ordered}
use Rattle.journal_steps.specs.Read.{is_among, AreOnce, AreListed, IsRead, needs_none, one_ordered}
use Rattle.journal_steps.specs.Tables.{place_of, is_found}
use Rattle.journal_steps.proofs.One.{both_if, entry_same, same_of, same_itself, same_sym}
use Rattle.journal_steps.proofs.Reading.{none_found}
use Rattle.journal_steps.proofs.Slots.{below_at, below_from}
use Rattle.journal_steps.proofs.Tables.{mark_of, table_more, found_at, unit_named}

or_false : (b : Bool) → (b || false) ≡ b
or_false true = refl
or_false false = refl

or_then : (a b c : Bool) → (a || (b || c)) ≡ ((a || b) || c)
or_then true b c = refl
or_then false b c = refl

or_parts : (a b : Bool) → (a || b) ≡ false → (a ≡ false) × (b ≡ false)
or_parts true b is = absurd (both_ways true is refl)
or_parts false b is = (refl, is)

both_false : (a b : Bool) → a ≡ false → b ≡ false → (a || b) ≡ false
both_false a b e1 e2 = rw (e1, e2) refl

pub among_push : (xs : List Entry) (x e : Entry) → is_among (xs ++ x ∷ []) e ≡ (is_among xs e || same_entry x e)
among_push [] x e = or_false (same_entry x e)
among_push (y ∷ ys) x e = (λ i. same_entry y e || among_push ys x e i) ∙ or_then (same_entry y e) (is_among ys e) (same_entry x e)

once_push : (xs : List Entry) (x : Entry) → AreOnce xs → is_among xs x ≡ false → AreOnce (xs ++ x ∷ [])
once_push [] x once new = (refl, tt)
once_push (y ∷ ys) x once new =
    let parts = or_parts (same_entry y x) (is_among ys x) new in
    (among_push ys x y ∙ both_false (is_among ys y) (same_entry x y) once.0 (same_sym x y ∙ parts.0), once_push ys x once.1 parts.1)

pub list_start : (F : Form) (n : ℕ) (found : List Bool) (entries : List Entry) → found ≡ replicate n false → entries ≡ [] → AreListed F found entries
list_start F n found entries f none = subst (λ (es : List Entry). AreListed F found es) (sym none) (record {
  listed = λ e. sym (ap (λ (xs : List Bool). is_found F xs e) f ∙ none_found F n e);
  once = tt;
})

pub list_note : (F : Form) (found : List Bool) (entries : List Entry) (e : Entry) (place : ℕ) → names F e ≡ true → AreListed F found entries → place ≡ place_of F e → place < length found → get_or found place false ≡ false
    → AreListed F (set found place true) (entries ++ e ∷ [])
list_note F found entries e place named so_far is lt lacks = subst (λ (p : ℕ). AreListed F (set found p true) (entries ++ e ∷ [])) (sym is) (record {
  listed = λ x. among_push entries e x ∙ (λ i. so_far.listed x i || sym (entry_same e x) i) ∙ sym (table_more F found e x named (subst (λ (p : ℕ). p < length found) is lt));
  once = once_push entries e so_far.once (so_far.listed e ∙ found_at F found e named ∙ ap (λ (p : ℕ). get_or found p false) (sym is) ∙ lacks);
})

-- ------ each that is no begin comes behind its begin
or_first : (x y : Bool) → x ≡ true → (x || y) ≡ true
or_first x y is = rw is refl

or_second : (x y : Bool) → y ≡ true → (x || y) ≡ true
or_second true y is = refl
or_second false y is = is

not_true : (b : Bool) → (b ≡ true → ⊥) → not b ≡ true
not_true true none = absurd (none refl)
not_true false none = refl

needs_at : (found : List Bool) (es : List Entry) (e : Entry) → list_all (needs_none found) es ≡ true → is_among es e ≡ true → needs_none found e ≡ true
needs_at found [] e all is = absurd (both_ways _ refl is)
needs_at found (x ∷ xs) e all is = let parts = and_parts _ _ all in elim (or_cases (same_entry x e) (is_among xs e) is) [
  | inl here ↦ subst (λ (y : Entry). needs_none found y ≡ true) (same_of x e here) parts.0
  | inr later ↦ needs_at found xs e parts.1 later
]

needs_from : (found : List Bool) (es : List Entry) → ((e : Entry) → is_among es e ≡ true → needs_none found e ≡ true) → list_all (needs_none found) es ≡ true
needs_from found [] each = refl
needs_from found (x ∷ xs) each = and_from _ _ (each x (or_first _ _ (same_itself x))) (needs_from found xs (λ e is. each e (or_second (same_entry x e) _ is)))

-- what one unit's order says
pub record IsBehind (F : Form) (R : Entry → Bool) (u : ℕ) : Type 0 where
  pub complete : R (Complete u) ≡ true → R (Begun u) ≡ true
  pub marked : (s : ℕ) → s < segments_of F u → R (Marked u s) ≡ true → R (Begun u) ≡ true

pub behind_of : (F : Form) (R : Entry → Bool) (u : ℕ) → one_ordered F R u ≡ true → IsBehind F R u
behind_of F R u is = elim (or_cases (R (Begun u)) _ is) [
  | inl begun ↦ record { complete = λ at. begun; marked = λ s lt at. begun }
  | inr rest ↦
      let parts = and_parts _ _ rest in
      record {
        complete = λ at. absurd (both_ways _ (λ i. not (at i)) parts.0);
        marked = λ s lt at. absurd (both_ways _ (λ i. not (at i)) (below_at (segments_of F u) (λ t. not (R (Marked u t))) parts.1 s lt));
      }
]

pub behind_all : (F : Form) (R : Entry → Bool) (u : ℕ) → IsBehind F R u → one_ordered F R u ≡ true
behind_all F R u behind = elim (cases_Bool (R (Begun u))) [
  | inl begun ↦ or_first _ _ begun
  | inr none ↦ or_second _ _ (and_from _ _ (not_true _ (λ at. both_ways _ none (behind.complete at)))
      (below_from (segments_of F u) (λ t. not (R (Marked u t))) (λ s lt. not_true _ (λ at. both_ways _ none (behind.marked s lt at)))))
]

module _ (F : Form) (bytes : List ℕ) (gates found : List Bool) (es : List Entry) (read : IsRead F bytes gates found) (listed : AreListed F found es) where
  -- an entry of the bytes stands in the list, and the form has it
  there : (e : Entry) → is_among es e ≡ has F bytes e
  there e = listed.listed e ∙ sym (read.entry e)

  named : (e : Entry) → is_among es e ≡ true → names F e ≡ true
  named e at = (and_parts _ _ (sym (listed.listed e) ∙ at)).0

  begun_in : (u : ℕ) → u < F.units → has F bytes (Begun u) ≡ get_or found (2 * u) false
  begun_in u lt = read.entry (Begun u) ∙ found_at F found (Begun u) (lt-ltb u F.units lt)

  behind_at : is_ordered F bytes ≡ true → (u : ℕ) → u < F.units → IsBehind F (has F bytes) u
  behind_at is u lt = behind_of F (has F bytes) u (below_at F.units (one_ordered F (has F bytes)) is u lt)

  needs : is_ordered F bytes ≡ true → (e : Entry) → is_among es e ≡ true → needs_none found e ≡ true
  needs is (Begun u) at = refl
  needs is (Marked u s) at =
      let mark = mark_of F u s (named (Marked u s) at) in
      sym (begun_in u mark.unit) ∙ (behind_at is u mark.unit).marked s mark.segment (sym (there (Marked u s)) ∙ at)
  needs is (Complete u) at =
      let lt = unit_named F (Complete u) (named (Complete u) at) in
      sym (begun_in u lt) ∙ (behind_at is u lt).complete (sym (there (Complete u)) ∙ at)

  ordered : list_all (needs_none found) es ≡ true → is_ordered F bytes ≡ true
  ordered all = below_from F.units (one_ordered F (has F bytes)) (λ u lt. behind_all F (has F bytes) u (record {
    complete = λ at. begun_in u lt ∙ needs_at found es (Complete u) all (there (Complete u) ∙ at);
    marked = λ s slt at. begun_in u lt ∙ needs_at found es (Marked u s) all (there (Marked u s) ∙ at);
  }))

  pub read_ordered : is_ordered F bytes ≡ list_all (needs_none found) es
  read_ordered = both_if _ _ (λ is. needs_from found es (needs is)) ordered
