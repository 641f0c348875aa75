-- The places of the marks in a layout.
use Rattle.std.proofs.Common.{◌≡◌, ◌⊎◌, inl, inr, ℕ, zero, suc, ◌+◌, ◌*◌, ◌<◌, ◌≤◌, true, List, [], ◌∷◌, length, get_or, refl, sym, ◌∙◌, ap, subst, arith}
use Rattle.std.specs.Prelude.{nat_lt, Some, if◌then◌else◌}
use Rattle.std.proofs.lemmas.Bool.{and_from, lt-ltb}
use Rattle.std.proofs.lemmas.List.{get_or_past}
use Rattle.flash_plan.specs.declared.outcome.Entry.TheVariants.{Marked}
use Rattle.journal_model.specs.Records.{total, slots_of, segments_of, names}
use Rattle.journal_steps.specs.Tables.{starts_of, place_of}
use Rattle.journal_steps.proofs.Tables.{starts_at, place_below}
use Rattle.flash_journal.specs.declared.layout.Layout.{Layout}
use Rattle.flash_journal.specs.Layouts.{layout_form, place_in}

starts_length : (n : ℕ) (xs : List ℕ) → length (starts_of n xs) ≡ length xs
starts_length n [] = refl
starts_length n (x ∷ xs) = ap (λ (k : ℕ). suc k) (starts_length (n + x) xs)

within : (xs : List ℕ) (u s : ℕ) → s < get_or xs u 0 → u < length xs
within xs u s lt = elim (order u (length xs)) [
  | inl less ↦ less
  | inr more ↦ absurd (omega (arith, lt, get_or_past xs u 0 more))
]
  where
    order : (a b : ℕ) → (a < b) ⊎ (b ≤ a)
    order a b = grind arith

-- a mark that the layout has
pub record HasMark (l : Layout) (u s : ℕ) : Type 0 where
  pub index : u < length l.starts.items
  pub below : place_of (layout_form l) (Marked u s) < slots_of (layout_form l)
  pub start : (d : ℕ) → get_or l.starts.items u d + s ≡ place_of (layout_form l) (Marked u s)
  pub place : place_in (layout_form l) (Marked u s) ≡ Some (place_of (layout_form l) (Marked u s))

pub has_mark : (l : Layout) (u s : ℕ) → u < l.units → s < segments_of (layout_form l) u → HasMark l u s
has_mark l u s ult slt = record {
  index = omega (arith, inside, ap length l.places, starts_length (2 * l.units) l.segments.items);
  below = place_below (layout_form l) (Marked u s) named;
  start = λ d. let at = starts_at (2 * l.units) l.segments.items u d inside in omega (arith, at, ap (λ (xs : List ℕ). get_or xs u d) l.places);
  place = rw named refl;
}
  where
    inside : u < length l.segments.items
    inside = within l.segments.items u s slt

    named : names (layout_form l) (Marked u s) ≡ true
    named = and_from _ _ (lt-ltb u l.units ult) (lt-ltb s (segments_of (layout_form l) u) slt)
