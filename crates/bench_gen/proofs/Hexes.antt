-- Files of images, one after another.
use Rattle.std.proofs.Common.{◌≡◌, ℕ, suc, ◌+◌, ◌<◌, ◌≤◌, ◌^◌, List, [], ◌∷◌, ◌++◌, length, None, refl, sym, subst, ap, ◌∙◌, append_assoc, length-append, arith}
use Rattle.std.specs.FinMap as map
use Rattle.std.specs.FinMap.{get-empty}
use Rattle.rec_text.specs.Cutting.{IsLow}
use Rattle.span_store.specs.ByteMap.{over, top}
use Rattle.span_store.proofs.Lookups.{get-over, reads_after}
use Rattle.bench_gen.specs.Files.{AddsHexFiles, AreHexFiles, IsHexFile}

-- an image ends below 2^32
pub low_image : (bytes : List ℕ) → length bytes ≤ 1048576 → IsLow (over map.empty 65536 bytes)
low_image bytes few a h =
    get-over map.empty 65536 bytes a ∙ reads_after 65536 bytes a (map.get map.empty a) (omega (arith, few, h)) ∙ get-empty _ a

-- and below the addresses of a byte map
pub fits : (bytes : List ℕ) → length bytes ≤ 1048576 → 65536 + length bytes ≤ top
fits bytes few = omega (arith, few)

one_more : (n k : ℕ) (fs : List (List ℕ × List ℕ)) (f : List ℕ × List ℕ) → AreHexFiles n k fs → IsHexFile n (k + length fs) f → AreHexFiles n k (fs ++ f ∷ [])
one_more n k [] f are is =
    let e : k + 0 ≡ k = omega arith in
    (subst (λ (j : ℕ). IsHexFile n j f) e is, tt)
one_more n k (g ∷ gs) f are is =
    let e : k + suc (length gs) ≡ suc k + length gs = omega arith in
    (are.0, one_more n (suc k) gs f are.1 (subst (λ (j : ℕ). IsHexFile n j f) e is))

-- no file yet
pub none_yet : (n : ℕ) (fs : List (List ℕ × List ℕ)) → AddsHexFiles n 0 fs fs
none_yet n fs = record { images = []; behind = sym (append_nil fs); number = refl; each = tt }
  where
    append_nil : (xs : List (List ℕ × List ℕ)) → xs ++ [] ≡ xs
    append_nil [] = refl
    append_nil (x ∷ xs) = ap (λ (l : List (List ℕ × List ℕ)). x ∷ l) (append_nil xs)

-- one file more
pub hex_more : (n k : ℕ) (old mid new : List (List ℕ × List ℕ)) (f : List ℕ × List ℕ) → AddsHexFiles n k old mid → IsHexFile n k f → new ≡ mid ++ f ∷ [] → AddsHexFiles n (k + 1) old new
hex_more n k old mid new f adds is put =
    let e : k ≡ 0 + length adds.images = omega (arith, adds.number) in
    let l : length (adds.images ++ f ∷ []) ≡ length adds.images + 1 = length-append adds.images (f ∷ []) in
    record {
      images = adds.images ++ f ∷ [];
      behind = put ∙ ap (λ (xs : List (List ℕ × List ℕ)). xs ++ f ∷ []) adds.behind ∙ append_assoc old adds.images (f ∷ []);
      number = omega (arith, l, adds.number);
      each = one_more n 0 adds.images f adds.each (subst (λ (j : ℕ). IsHexFile n j f) e is);
    }
