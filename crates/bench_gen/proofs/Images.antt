-- The bytes of an image, row by row.
use Rattle.std.proofs.Common.{◌≡◌, ℕ, zero, suc, ◌+◌, ◌-◌, ◌*◌, ◌<◌, ◌≤◌, ◌/◌, ◌%◌, List, [], ◌∷◌, ◌++◌, map, length, take, drop, slice_range, refl, sym, ◌∙◌, ap, arith}
use Rattle.std.specs.List.{range_with_len}
use Rattle.std.proofs.lemmas.List.FromFn.{length-map-range_with_len, take-map-range_with_len}
use Rattle.bench_gen.specs.Sizes.{image_byte, image_of, rows_of, bytes_of}

-- a range in two parts
pub two_parts : (f : ℕ → ℕ) (a m n : ℕ) → map f (range_with_len a (m + n)) ≡ map f (range_with_len a m) ++ map f (range_with_len (a + m) n)
two_parts f a zero n =
    let e : zero + n ≡ n = omega arith in
    let g : a ≡ a + zero = omega arith in
    ap (λ (l : ℕ). map f (range_with_len a l)) e ∙ ap (λ (b : ℕ). map f (range_with_len b n)) g
two_parts f a (suc m) n =
    let e : suc m + n ≡ suc (m + n) = omega arith in
    let g : a + 1 + m ≡ a + suc m = omega arith in
    ap (λ (l : ℕ). map f (range_with_len a l)) e
    ∙ ap (λ (xs : List ℕ). f a ∷ xs) (two_parts f (a + 1) m n)
    ∙ ap (λ (b : ℕ). f a ∷ map f (range_with_len (a + 1) m) ++ map f (range_with_len b n)) g

-- what is left behind the first few
dropped : (f : ℕ → ℕ) (a n k : ℕ) → k ≤ n → drop k (map f (range_with_len a n)) ≡ map f (range_with_len (a + k) (n - k))
dropped f a n zero h =
    let e : a ≡ a + zero = omega arith in
    let g : n ≡ n - zero = omega arith in
    ap (λ (b : ℕ). map f (range_with_len b n)) e ∙ ap (λ (l : ℕ). map f (range_with_len (a + zero) l)) g
dropped f a zero (suc k) h = absurd (omega (arith, h))
dropped f a (suc n) (suc k) h =
    let e : a + 1 + k ≡ a + suc k = omega arith in
    let g : n - k ≡ suc n - suc k = omega arith in
    dropped f (a + 1) n k (omega (arith, h))
    ∙ ap (λ (b : ℕ). map f (range_with_len b (n - k))) e ∙ ap (λ (l : ℕ). map f (range_with_len (a + suc k) l)) g

-- one byte of a row
one_byte : (n k row j : ℕ) → j < 256 → ((row + 31 * k + n) % 256 + j) % 256 ≡ image_byte n k (row * 256 + j)
one_byte n k row j h =
    let q : (row * 256 + j) / 256 ≡ row = omega (arith, h) in
    omega (arith, h, q)

same_bytes : (n k row m j : ℕ) → j + m ≤ 256
    → map (λ i. i % 256) (range_with_len ((row + 31 * k + n) % 256 + j) m) ≡ map (image_byte n k) (range_with_len (row * 256 + j) m)
same_bytes n k row zero j h = refl
same_bytes n k row (suc m) j h =
    let s : ℕ = (row + 31 * k + n) % 256 in
    let r : ℕ = row * 256 in
    let b : (s + j) % 256 ≡ image_byte n k (r + j) = one_byte n k row j (omega (arith, h)) in
    let e : s + j + 1 ≡ s + (j + 1) = omega arith in
    let g : r + (j + 1) ≡ r + j + 1 = omega arith in
    ap (λ (x : ℕ). x ∷ map (λ i. i % 256) (range_with_len (s + j + 1) m)) b
    ∙ ap (λ (xs : List ℕ). image_byte n k (r + j) ∷ xs)
    (ap (λ (a : ℕ). map (λ i. i % 256) (range_with_len a m)) e ∙ same_bytes n k row m (j + 1) (omega (arith, h)) ∙ ap (λ (a : ℕ). map (image_byte n k) (range_with_len a m)) g)

-- 256 bytes of the table are a row
pub row_is : (n k row start : ℕ) (table : List ℕ) → table ≡ map (λ i. i % 256) (range_with_len 0 512) → start ≡ (row + 31 * k + n) % 256
    → take 256 (drop start table) ≡ map (image_byte n k) (range_with_len (row * 256) 256)
row_is n k row start table whole at =
    let few : start < 256 = omega (arith, at) in
    let d : drop start table ≡ map (λ i. i % 256) (range_with_len (0 + start) (512 - start)) =
    ap (drop start) whole ∙ dropped (λ i. i % 256) 0 512 start (omega (arith, few)) in
    let t = take-map-range_with_len (λ i. i % 256) (0 + start) (512 - start) 256 (omega (arith, few)) in
    let e : 0 + start ≡ (row + 31 * k + n) % 256 + 0 = omega (arith, at) in
    let g : row * 256 + 0 ≡ row * 256 = omega arith in
    ap (take {A = ℕ} 256) d ∙ t ∙ ap (λ (a : ℕ). map (λ i. i % 256) (range_with_len a 256)) e ∙ same_bytes n k row 256 0 (omega arith)
    ∙ ap (λ (a : ℕ). map (image_byte n k) (range_with_len a 256)) g

pub row_slice : (n k row start : ℕ) (table : List ℕ) → table ≡ map (λ i. i % 256) (range_with_len 0 512) → start ≡ (row + 31 * k + n) % 256
    → slice_range table start (start + 256) ≡ map (image_byte n k) (range_with_len (row * 256) 256)
row_slice n k row start table whole at =
    let e : start + 256 - start ≡ 256 = omega arith in
    ap (λ (m : ℕ). take {A = ℕ} m (drop start table)) e ∙ row_is n k row start table whole at

-- a row ends within the table
pub start_fits : (x : ℕ) (table : List ℕ) → table ≡ map (λ i. i % 256) (range_with_len 0 512) → x % 256 + 256 ≤ length table
start_fits x table whole =
    let l : length table ≡ 512 = ap length whole ∙ length-map-range_with_len (λ i. i % 256) 0 512 in
    omega (arith, l)

-- one more row
pub row_more : (n k row : ℕ) (old new bytes : List ℕ) → old ≡ map (image_byte n k) (range_with_len 0 (row * 256)) → bytes ≡ map (image_byte n k) (range_with_len (row * 256) 256)
    → new ≡ old ++ bytes → new ≡ map (image_byte n k) (range_with_len 0 ((row + 1) * 256))
row_more n k row old new bytes so is put =
    let e : row * 256 + 256 ≡ (row + 1) * 256 = omega arith in
    let g : row * 256 ≡ 0 + row * 256 = omega arith in
    put ∙ ap (λ (xs : List ℕ). xs ++ bytes) so ∙ ap (λ (xs : List ℕ). map (image_byte n k) (range_with_len 0 (row * 256)) ++ xs) (is ∙ ap (λ (b : ℕ). map (image_byte n k) (range_with_len b 256)) g)
    ∙ sym (two_parts (image_byte n k) 0 (row * 256) 256) ∙ ap (λ (l : ℕ). map (image_byte n k) (range_with_len 0 l)) e

-- all rows are the image
pub whole_image : (n k : ℕ) → map (image_byte n k) (range_with_len 0 (rows_of n * 256)) ≡ image_of n k
whole_image n k =
    let e : rows_of n * 256 ≡ bytes_of n = omega arith in
    ap (λ (l : ℕ). map (image_byte n k) (range_with_len 0 l)) e

pub image_few : (n k : ℕ) → length (image_of n k) ≤ 1048576
image_few n k =
    let e : length (image_of n k) ≡ bytes_of n = length-map-range_with_len (image_byte n k) 0 (bytes_of n) in
    let few : bytes_of n ≤ 1048576 = omega arith in
    omega (arith, e, few)
