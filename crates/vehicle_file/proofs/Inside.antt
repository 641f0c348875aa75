-- What lies in the regions of a memory.
use Rattle.std.proofs.Common.{◌≡◌, inl, inr, ℕ, zero, suc, ◌+◌, ◌-◌, ◌<◌, ◌≤◌, true, false, List, [], ◌∷◌, ◌++◌, length, get_or, drop, replicate, None, refl, ◌∙◌, ap, arith}
use Rattle.std.specs.Prelude.{Option, ◌==◌, ◌&&◌, is_some}
use Rattle.std.proofs.lemmas.Bool.{cases_Bool, and_cases, and_from, and_parts, leb-false, ltb-false}
use Rattle.std.proofs.lemmas.List.{drop_all, drop_more, length-replicate}
use Rattle.flash_base.specs.ByteMaps.{MemoryMap, byte_at, has_each, is_in}
use Rattle.unit_model.proofs.Parts.{has_split, laid_in, laid_out}
use Rattle.unit_model.specs.Regions.{filled, laid}
use Rattle.unit_model.specs.declared.spec.RegionSpec.{RegionSpec}

-- a region that does not have the address is passed over
pub passed : (rs : List RegionSpec) (i : ℕ) (d : RegionSpec) (a : ℕ) → i < length rs → is_in (get_or rs i d).at (get_or rs i d).size a ≡ false → byte_at (filled (drop i rs)) a ≡ byte_at (filled (drop (i + 1) rs)) a
passed rs i d a lt out =
    let r : RegionSpec = get_or rs i d in
    let size : length (replicate r.size r.fill) ≡ r.size = length-replicate r.size r.fill in
    ap (λ (xs : List RegionSpec). byte_at (filled xs) a) (drop_more rs i d lt)
    ∙ laid_out r.at (replicate r.size r.fill) (filled (drop (i + 1) rs)) a (elim (and_cases _ _ out) [
      | inl below ↦ inl (leb-false _ _ below)
      | inr past ↦ let le : r.at + r.size ≤ a = ltb-false _ _ past in inr (omega (arith, size, le))
    ])

some_behind : (l m : MemoryMap) (x : ℕ) → is_some (byte_at m x) ≡ true → is_some (byte_at (l ++ m) x) ≡ true
some_behind [] m x there = there
some_behind (p ∷ l) m x there = elim (cases_Bool (p.0 == x)) [ inl e ↦ rw e refl | inr e ↦ rw e (some_behind l m x there) ]

in_filled : (rs : List RegionSpec) (i : ℕ) (d : RegionSpec) (x : ℕ) → i < length rs → (get_or rs i d).at ≤ x → x < (get_or rs i d).at + (get_or rs i d).size → is_some (byte_at (filled rs) x) ≡ true
in_filled [] i d x lt from to = absurd (omega (arith, lt))
in_filled (r ∷ rs) zero d x lt from to =
    let size : length (replicate r.size r.fill) ≡ r.size = length-replicate r.size r.fill in
    ap (λ (o : Option ℕ). is_some o) (laid_in r.at (replicate r.size r.fill) (filled rs) x from (omega (arith, size, to)))
in_filled (r ∷ rs) (suc i) d x lt from to = some_behind (laid r.at (replicate r.size r.fill)) (filled rs) x (in_filled rs i d x (omega (arith, lt)) from to)

run_of : (n a : ℕ) (m : MemoryMap) → ((x : ℕ) → a ≤ x → x < a + n → is_some (byte_at m x) ≡ true) → has_each a n m ≡ true
run_of zero a m each = refl
run_of (suc n) a m each = and_from (is_some (byte_at m a)) (has_each (a + 1) n m) (each a (omega arith) (omega arith)) (run_of n (a + 1) m (λ x from to. each x (omega (arith, from)) (omega (arith, to))))

-- the bytes of region i from an address on
pub run_in : (rs : List RegionSpec) (i : ℕ) (d : RegionSpec) (a n : ℕ) → i < length rs → (get_or rs i d).at ≤ a → a + n ≡ (get_or rs i d).at + (get_or rs i d).size → has_each a n (filled rs) ≡ true
run_in rs i d a n lt from end = run_of n a (filled rs) (λ x low high. in_filled rs i d x lt (omega (arith, from, low)) (omega (arith, end, high)))

-- fewer bytes
pub fewer : (k n a : ℕ) (m : MemoryMap) → k ≤ n → has_each a n m ≡ true → has_each a k m ≡ true
fewer zero n a m le all = refl
fewer (suc k) zero a m le all = absurd (omega (arith, le))
fewer (suc k) (suc n) a m le all =
    let parts = and_parts (is_some (byte_at m a)) (has_each (a + 1) n m) all in
    and_from (is_some (byte_at m a)) (has_each (a + 1) k m) parts.0 (fewer k n (a + 1) m (omega (arith, le)) parts.1)

-- one step of the test of a range: n bytes of what is left are there
pub stepped : (n left a : ℕ) (m : MemoryMap) → n ≤ left → has_each a n m ≡ true → has_each (a + n) (left - n) m ≡ has_each a left m
stepped n left a m le all = has_split n (left - n) a m all ∙ ap (λ (k : ℕ). has_each a k m) (omega (arith, le))

-- the first byte is not there
pub missing : (left a : ℕ) (m : MemoryMap) → 1 ≤ left → byte_at m a ≡ None → has_each a left m ≡ false
missing zero a m some none = absurd (omega (arith, some))
missing (suc n) a m some none = ap (λ (o : Option ℕ). is_some o && has_each (a + 1) n m) none

-- no region is left
pub none_left : (rs : List RegionSpec) (i a : ℕ) → length rs ≤ i → byte_at (filled (drop i rs)) a ≡ None
none_left rs i a past = ap (λ (xs : List RegionSpec). byte_at (filled xs) a) (drop_all i rs past)
