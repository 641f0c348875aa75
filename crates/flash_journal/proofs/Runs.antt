-- Runs of open and of closed gates.
use Rattle.std.proofs.Common.{◌≡◌, ◌⊎◌, inl, inr, ℕ, zero, suc, ◌+◌, ◌-◌, ◌<◌, ◌≤◌, Bool, true, false, List, [], ◌∷◌, length, get_or, take, drop, refl, sym, ◌∙◌, ap, arith, length-drop}
use Rattle.std.proofs.lemmas.List.{get_or-drop}
use Rattle.journal_steps.specs.Tables.{count_true, one_if, open_run, closed_run}

-- one gate more, and the first that is not
pub open_more : (gs : List Bool) (i : ℕ) (b : Bool) → i < length gs → b ≡ get_or gs i b → b ≡ true → open_run (drop i gs) ≡ suc (open_run (drop (i + 1) gs))
open_more [] i b lt is at = absurd (omega (arith, lt))
open_more (g ∷ gs) zero b lt is at = ap (λ (x : Bool). open_run (x ∷ gs)) (sym is ∙ at)
open_more (g ∷ gs) (suc i) b lt is at = let next : suc (i + 1) ≡ suc i + 1 = omega arith in open_more gs i b (omega (arith, lt)) is at ∙ ap (λ (k : ℕ). suc (open_run (drop k (g ∷ gs)))) next

pub open_ends : (gs : List Bool) (i : ℕ) (b : Bool) → i < length gs → b ≡ get_or gs i b → b ≡ false → open_run (drop i gs) ≡ 0
open_ends [] i b lt is at = absurd (omega (arith, lt))
open_ends (g ∷ gs) zero b lt is at = ap (λ (x : Bool). open_run (x ∷ gs)) (sym is ∙ at)
open_ends (g ∷ gs) (suc i) b lt is at = open_ends gs i b (omega (arith, lt)) is at

pub open_past : (gs : List Bool) (i : ℕ) → length gs ≤ i → open_run (drop i gs) ≡ 0
open_past [] i le = ap open_run (drop_none i)
  where
    drop_none : (i : ℕ) → drop {A = Bool} i [] ≡ []
    drop_none zero = refl
    drop_none (suc i) = refl
open_past (g ∷ gs) zero le = absurd (omega (arith, le))
open_past (g ∷ gs) (suc i) le = open_past gs i (omega (arith, le))

pub closed_more : (gs : List Bool) (i : ℕ) (b : Bool) → i < length gs → b ≡ get_or gs i b → b ≡ false → closed_run (drop i gs) ≡ suc (closed_run (drop (i + 1) gs))
closed_more [] i b lt is at = absurd (omega (arith, lt))
closed_more (g ∷ gs) zero b lt is at = ap (λ (x : Bool). closed_run (x ∷ gs)) (sym is ∙ at)
closed_more (g ∷ gs) (suc i) b lt is at = let next : suc (i + 1) ≡ suc i + 1 = omega arith in closed_more gs i b (omega (arith, lt)) is at ∙ ap (λ (k : ℕ). suc (closed_run (drop k (g ∷ gs)))) next

pub closed_ends : (gs : List Bool) (i : ℕ) (b : Bool) → i < length gs → b ≡ get_or gs i b → b ≡ true → closed_run (drop i gs) ≡ 0
closed_ends [] i b lt is at = absurd (omega (arith, lt))
closed_ends (g ∷ gs) zero b lt is at = ap (λ (x : Bool). closed_run (x ∷ gs)) (sym is ∙ at)
closed_ends (g ∷ gs) (suc i) b lt is at = closed_ends gs i b (omega (arith, lt)) is at

pub closed_past : (gs : List Bool) (i : ℕ) → length gs ≤ i → closed_run (drop i gs) ≡ 0
closed_past [] i le = ap closed_run (drop_none i)
  where
    drop_none : (i : ℕ) → drop {A = Bool} i [] ≡ []
    drop_none zero = refl
    drop_none (suc i) = refl
closed_past (g ∷ gs) zero le = absurd (omega (arith, le))
closed_past (g ∷ gs) (suc i) le = closed_past gs i (omega (arith, le))

-- where a gate is closed, the first run of open ones ends before the end
pub open_inside : (gs : List Bool) → count_true gs < length gs → open_run gs < length gs
open_inside [] less = absurd (omega (arith, less))
open_inside (true ∷ gs) less = omega (arith, open_inside gs (omega (arith, less)))
open_inside (false ∷ gs) less = omega arith

-- and a run of closed ones follows
pub room_inside : (gs : List Bool) → count_true gs < length gs → 1 ≤ closed_run (drop (open_run gs) gs)
room_inside [] less = absurd (omega (arith, less))
room_inside (true ∷ gs) less = room_inside gs (omega (arith, less))
room_inside (false ∷ gs) less = omega arith

-- each gate of a run of closed ones
pub closed_at : (gs : List Bool) (k : ℕ) → k < closed_run gs → get_or gs k false ≡ false
closed_at [] k lt = absurd (omega (arith, lt))
closed_at (true ∷ gs) k lt = absurd (omega (arith, lt))
closed_at (false ∷ gs) zero lt = refl
closed_at (false ∷ gs) (suc k) lt = closed_at gs k (omega (arith, lt))

pub closed_within : (gs : List Bool) → closed_run gs ≤ length gs
closed_within [] = omega arith
closed_within (true ∷ gs) = omega arith
closed_within (false ∷ gs) = omega (arith, closed_within gs)

pub open_within : (gs : List Bool) → open_run gs ≤ length gs
open_within [] = omega arith
open_within (true ∷ gs) = omega (arith, open_within gs)
open_within (false ∷ gs) = omega arith

-- the run behind the open ones
pub run_closed : (gs : List Bool) (k : ℕ) → k < closed_run (drop (open_run gs) gs) → get_or gs (open_run gs + k) false ≡ false
run_closed gs k lt = sym (get_or-drop (open_run gs) gs k false) ∙ closed_at (drop (open_run gs) gs) k lt

pub run_within : (gs : List Bool) → open_run gs + closed_run (drop (open_run gs) gs) ≤ length gs
run_within gs = omega (arith, closed_within (drop (open_run gs) gs), length-drop (open_run gs) gs, open_within gs)

-- the rest of a list from a place on, as a slice of it
take_whole : (xs : List Bool) (n : ℕ) → n ≡ length xs → take n xs ≡ xs
take_whole [] zero is = refl
take_whole [] (suc n) is = refl
take_whole (x ∷ xs) zero is = absurd (omega (arith, is))
take_whole (x ∷ xs) (suc n) is = ap (λ (ys : List Bool). x ∷ ys) (take_whole xs n (omega (arith, is)))

pub rest_is : (xs : List Bool) (a : ℕ) → take (length xs - a) (drop a xs) ≡ drop a xs
rest_is xs a = take_whole (drop a xs) (length xs - a) (sym (length-drop a xs))
