-- Maximal runs along a walk.
use Rattle.std.proofs.Common.{◌≡◌, ℕ, ◌+◌, ◌-◌, ◌<◌, ◌≤◌, List, [], ◌∷◌, length, map, Bool, true, false, Some, None, sym, ap, ◌∙◌, refl, inl, inr, arith}
use Rattle.std.proofs.lemmas.Bool.{cases_lt, eq-eqb, false≢true}
use Rattle.std.specs.Prelude.{◌||◌}
use Rattle.std.specs.List.{list_any}
use Rattle.std.specs.Ordering.{nat_cmp, eq_by_cmp}
use Rattle.std.specs.Cmp.{unsigned_tied}
use Rattle.std.specs.Option.{is_some}
use Rattle.std.specs.FinMap.{contains_key-keys, entries, get}
use Rattle.span_store.specs.ByteMap.{ByteMap}
use Rattle.span_store.specs.Extents.{Extent, end_of}
use Rattle.span_store.specs.Runs.{before_runs, runs, runs_of}
use Rattle.span_store.specs.Walks.{TakesFront}
use Rattle.span_store.proofs.Merged.{entries-over, head_is, join, run_apart, runs_of_pairs, From}

right_false : (b c : Bool) → (b || c) ≡ false → c ≡ false
right_false true c e = absurd (false≢true (sym e))
right_false false c e = e

all_from : (low : ℕ) (ps : List (ℕ × ℕ)) → ((q : ℕ) → q < low → list_any (eq_by_cmp nat_cmp q) (map (λ p. p.0) ps) ≡ false) → From low ps
all_from low [] h = tt
all_from low (p ∷ ps) h = (
  elim (cases_lt p.0 low) [
    | inl l ↦ absurd (false≢true (sym (h p.0 l) ∙ ap (λ b. b || list_any (eq_by_cmp nat_cmp p.0) (map (λ p. p.0) ps)) (unsigned_tied p.0 p.0 ∙ eq-eqb p.0 p.0 refl)))
    | inr g ↦ g
  ],
  all_from low ps (λ q l. right_false (eq_by_cmp nat_cmp q p.0) (list_any (eq_by_cmp nat_cmp q) (map (λ p. p.0) ps)) (h q l)),
)

from_there : (m : ByteMap) (low : ℕ) → ((a : ℕ) → a < low → get m a ≡ None) → From low (entries m)
from_there m low none = all_from low (entries m) (λ q l. sym (contains_key-keys m q) ∙ ap is_some (none q l))

-- the first bytes begin the first run
pub runs_front : (m n : ByteMap) (e : Extent) → TakesFront m (Some e) n → runs m ≡ before_runs (e.0, length e.1) (runs n)
runs_front m n e t = ap runs t.2 ∙ ap runs_of (entries-over n e.0 e.1 (from_there n (end_of e) t.3)) ∙ runs_of_pairs e.0 e.1 (entries n) t.0

-- a run from one on that has bytes up to where the next begin, or before it
pub run_goes_on : (m n : ByteMap) (e : Extent) (from end : ℕ) → TakesFront m (Some e) n → from ≤ end → e.0 ≡ end → before_runs (from, end - from) (runs m) ≡ before_runs (from, end_of e - from) (runs n)
run_goes_on m n e from end t le is =
    let here : e.0 ≡ from + (end - from) = omega arith in
    let size : end - from + length e.1 ≡ end_of e - from = omega arith in
    ap (before_runs (from, end - from)) (runs_front m n e t)
    ∙ ap (λ a. before_runs (from, end - from) (before_runs (a, length e.1) (runs n))) here
    ∙ join from (end - from) (length e.1) (runs n)
    ∙ ap (λ k. before_runs (from, k) (runs n)) size

pub run_ends : (m n : ByteMap) (e : Extent) (from end : ℕ) → TakesFront m (Some e) n → from ≤ end → (e.0 ≡ end → ⊥)
    → before_runs (from, end - from) (runs m) ≡ (from, end - from) ∷ before_runs (e.0, end_of e - e.0) (runs n)
run_ends m n e from end t le ne =
    let head = head_is e.0 (length e.1) (runs n) in
    let size : length e.1 ≡ end_of e - e.0 = omega arith in
    ap (before_runs (from, end - from)) (runs_front m n e t)
    ∙ run_apart from (end - from) (before_runs (e.0, length e.1) (runs n)) e.0 head.0 head.1 head.2 (λ is. ne (omega arith))
    ∙ ap (λ k. (from, end - from) ∷ before_runs (e.0, k) (runs n)) size
