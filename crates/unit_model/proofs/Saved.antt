-- Bytes put over blank regions make the memory again.
use Rattle.std.proofs.Common.{◌≡◌, ◌⊎◌, inl, inr, ℕ, zero, suc, ◌+◌, ◌-◌, ◌*◌, ◌/◌, ◌<◌, ◌≤◌, Bool, true, false, List, [], ◌∷◌, ◌++◌, length, get_or, take, drop, replicate, Some, refl, sym, ◌∙◌, ap, subst, arith}
use Rattle.std.specs.Prelude.{◌==◌, ◌&&◌, nat_le, nat_lt, is_some, if◌then◌else◌, slice_index, min}
use Rattle.std.proofs.lemmas.Bool.{cases_Bool, cases_lt, and_parts, and_from, eqb-true, le-leb, lt-ltb}
use Rattle.std.proofs.lemmas.List.{append_assoc, append-nil, length-append, length-replicate, get_or-replicate, length-take-le, length-drop, take-append-drop, take_all, drop_all, drop-drop}
use Rattle.flash_base.specs.ByteMaps.{MemoryMap, byte_at, is_in, has_each, put}
use Rattle.unit_model.specs.declared.memory.Region.{Region}
use Rattle.unit_model.specs.declared.spec.RegionSpec.{RegionSpec}
use Rattle.unit_model.specs.declared.spec.PatchSpec.{PatchSpec}
use Rattle.unit_model.specs.RegionMaps.{map_of, extents}
use Rattle.unit_model.specs.RegionTests.{LIMIT, is_apart, apart_from, all_apart, spec_extents}
use Rattle.unit_model.specs.Regions.{laid, filled, patched}
use Rattle.unit_model.specs.Rules.{all_inside}
use Rattle.unit_model.specs.Saving.{CHUNK_SIZE, is_blank, chunk, chunks, chunks_of, region_specs, region_patches, IsSaved}
use Rattle.unit_model.proofs.Maps.{put_laid}
use Rattle.unit_model.proofs.Parts.{laid_in, put_append, has_these, apart_sides}
use Rattle.unit_model.proofs.Steps.{not_in}

-- ------ lists of patches
patched_append : (ps qs : List PatchSpec) (m : MemoryMap) → patched (ps ++ qs) m ≡ patched qs (patched ps m)
patched_append [] qs m = refl
patched_append (p ∷ ps) qs m = patched_append ps qs (put p.at p.bytes m)

-- a range that lies apart from another
abbrev LieApart : ℕ → ℕ → ℕ → ℕ → Type 0
LieApart at n low high = (at + n ≤ low) ⊎ (high ≤ at)

put_apart : (at : ℕ) (ys : List ℕ) (from : ℕ) (xs : List ℕ) → LieApart at (length ys) from (from + length xs) → put at ys (laid from xs) ≡ laid from xs
put_apart at ys from [] apart = refl
put_apart at ys from (x ∷ xs) apart =
    let out : is_in at (length ys) from ≡ false = not_in at (length ys) from (elim apart [ inl before ↦ inr before | inr after ↦ inl (omega (arith, after)) ]) in
    let rest : LieApart at (length ys) (from + 1) (from + 1 + length xs) = elim apart [ inl before ↦ inl (omega (arith, before)) | inr after ↦ inr (omega (arith, after)) ] in
    rw out (ap (λ (m : MemoryMap). (from, x) ∷ m) (put_apart at ys (from + 1) xs rest))

-- all patches lie apart from a range
abbrev AllApart : ℕ → ℕ → List PatchSpec → Type 0
AllApart low high [] = Unit {0}
AllApart low high (p ∷ ps) = LieApart p.at (length p.bytes) low high × AllApart low high ps

apart_both : (low high : ℕ) (ps qs : List PatchSpec) → AllApart low high ps → AllApart low high qs → AllApart low high (ps ++ qs)
apart_both low high [] qs a b = b
apart_both low high (p ∷ ps) qs a b = (a.0, apart_both low high ps qs a.1 b)

-- they leave what is laid there
patched_behind : (ps : List PatchSpec) (from : ℕ) (xs : List ℕ) (m : MemoryMap) → AllApart from (from + length xs) ps → patched ps (laid from xs ++ m) ≡ laid from xs ++ patched ps m
patched_behind [] from xs m apart = refl
patched_behind (p ∷ ps) from xs m apart =
    ap (patched ps) (put_append p.at p.bytes (laid from xs) m ∙ ap (λ (l : MemoryMap). l ++ put p.at p.bytes m) (put_apart p.at p.bytes from xs apart.0))
    ∙ patched_behind ps from xs (put p.at p.bytes m) apart.1

-- none of them changes a map
abbrev AllKeep : MemoryMap → List PatchSpec → Type 0
AllKeep m [] = Unit {0}
AllKeep m (p ∷ ps) = (put p.at p.bytes m ≡ m) × AllKeep m ps

patched_before : (ps : List PatchSpec) (l m : MemoryMap) → AllKeep m ps → patched ps (l ++ m) ≡ patched ps l ++ m
patched_before [] l m keep = refl
patched_before (p ∷ ps) l m keep =
    ap (patched ps) (put_append p.at p.bytes l m ∙ ap (λ (k : MemoryMap). put p.at p.bytes l ++ k) keep.0)
    ∙ patched_before ps (put p.at p.bytes l) m keep.1

-- ------ chunks
-- each lies in a range
abbrev AllWithin : ℕ → ℕ → List PatchSpec → Type 0
AllWithin low high [] = Unit {0}
AllWithin low high (p ∷ ps) = (low ≤ p.at) × (p.at + length p.bytes ≤ high) × AllWithin low high ps

within_both : (low high : ℕ) (ps qs : List PatchSpec) → AllWithin low high ps → AllWithin low high qs → AllWithin low high (ps ++ qs)
within_both low high [] qs a b = b
within_both low high (p ∷ ps) qs a b = (a.0, a.1, within_both low high ps qs a.2 b)

wider : (low high low' high' : ℕ) (ps : List PatchSpec) → low' ≤ low → high ≤ high' → AllWithin low high ps → AllWithin low' high' ps
wider low high low' high' [] a b all = tt
wider low high low' high' (p ∷ ps) a b all = (omega (arith, a, all.0), omega (arith, b, all.1), wider low high low' high' ps a b all.2)

chunk_within : (at : ℕ) (xs : List ℕ) → AllWithin at (at + length xs) (chunk at xs)
chunk_within at xs = go (is_blank xs)
  where
    go : (c : Bool) → AllWithin at (at + length xs) (if c then [] else record { at = at; bytes = xs } ∷ [])
    go true = tt
    go false = (omega arith, omega arith, tt)

no_chunks : (n at : ℕ) → chunks n at [] ≡ []
no_chunks zero at = refl
no_chunks (suc n) at = no_chunks n (at + CHUNK_SIZE)

-- bytes are a first chunk and the rest; where there is a rest the chunk is whole
record Cuts (xs a b : List ℕ) : Type 0 where
  pub is : xs ≡ a ++ b
  pub sizes : length xs ≡ length a + length b
  pub whole : (b ≡ []) ⊎ (length a ≡ CHUNK_SIZE)

cut : (xs : List ℕ) → Cuts xs (take CHUNK_SIZE xs) (drop CHUNK_SIZE xs)
cut xs = record {
  is = sym (take-append-drop CHUNK_SIZE xs);
  sizes = ap length (sym (take-append-drop CHUNK_SIZE xs)) ∙ length-append (take CHUNK_SIZE xs) (drop CHUNK_SIZE xs);
  whole = elim (cases_lt CHUNK_SIZE (length xs)) [
    | inl lt ↦ inr (length-take-le CHUNK_SIZE xs (omega (arith, lt)))
    | inr ge ↦ inl (drop_all CHUNK_SIZE xs ge)
  ];
}

chunks_within : (n at : ℕ) (xs : List ℕ) → AllWithin at (at + length xs) (chunks n at xs)
chunks_within zero at xs = tt
chunks_within (suc n) at xs =
    let c = cut xs in
    let a : List ℕ = take CHUNK_SIZE xs in
    let b : List ℕ = drop CHUNK_SIZE xs in
    within_both at (at + length xs) (chunk at a) (chunks n (at + CHUNK_SIZE) b)
    (wider at (at + length a) at (at + length xs) (chunk at a) (omega arith) (omega (arith, c.sizes)) (chunk_within at a))
    (elim c.whole [
      | inl none ↦ subst (λ (ps : List PatchSpec). AllWithin at (at + length xs) ps) (sym (ap (λ (ys : List ℕ). chunks n (at + CHUNK_SIZE) ys) none ∙ no_chunks n (at + CHUNK_SIZE))) tt
      | inr whole ↦ wider (at + CHUNK_SIZE) (at + CHUNK_SIZE + length b) at (at + length xs) (chunks n (at + CHUNK_SIZE) b) (omega arith) (omega (arith, c.sizes, whole)) (chunks_within n (at + CHUNK_SIZE) b)
    ])

-- what lies above a range is apart from it
above : (low high from to : ℕ) (ps : List PatchSpec) → to ≤ low → AllWithin low high ps → AllApart from to ps
above low high from to [] le all = tt
above low high from to (p ∷ ps) le all = (inr (omega (arith, le, all.0)), above low high from to ps le all.2)

laid_append : (at : ℕ) (xs ys : List ℕ) → laid at (xs ++ ys) ≡ laid at xs ++ laid (at + length xs) ys
laid_append at [] ys = ap (λ (a : ℕ). laid a ys) (omega arith)
laid_append at (x ∷ xs) ys = ap (λ (m : MemoryMap). (at, x) ∷ m) (laid_append (at + 1) xs ys ∙ ap (λ (a : ℕ). laid (at + 1) xs ++ laid a ys) (omega arith))

blank_is : (xs : List ℕ) → is_blank xs ≡ true → xs ≡ replicate (length xs) 255
blank_is [] blank = refl
blank_is (x ∷ xs) blank =
    let parts = and_parts (x == 255) (is_blank xs) blank in
    let head : x ≡ 255 = eqb-true x 255 parts.0 in
    λ i. head i ∷ blank_is xs parts.1 i

replicate_append : (m n x : ℕ) → replicate (m + n) x ≡ replicate m x ++ replicate n x
replicate_append zero n x = ap (λ (k : ℕ). replicate k x) (omega arith)
replicate_append (suc m) n x =
    let e : suc m + n ≡ suc (m + n) = omega arith in
    ap (λ (k : ℕ). replicate k x) e ∙ ap (λ (ys : List ℕ). x ∷ ys) (replicate_append m n x)

-- bytes put over as many
put_over : (at : ℕ) (xs ys : List ℕ) → length xs ≡ length ys → put at xs (laid at ys) ≡ laid at xs
put_over at xs ys same = sym (put_laid at at xs xs ys same (λ k lt.
    let low : nat_le at (at + k) ≡ true = le-leb at (at + k) (omega arith) in
    let high : nat_lt (at + k) (at + length xs) ≡ true = lt-ltb (at + k) (at + length xs) (omega (arith, lt, same)) in
    let place : k ≡ at + k - at = omega arith in
    rw (low, high) (ap (λ (j : ℕ). get_or xs j 0) place)))

-- the first chunk
chunk_laid : (at : ℕ) (xs : List ℕ) (m : MemoryMap) → put at xs m ≡ m → patched (chunk at xs) (laid at (replicate (length xs) 255) ++ m) ≡ laid at xs ++ m
chunk_laid at xs m keep = elim (cases_Bool (is_blank xs)) [
  | inl e ↦ rw e (ap (λ (ys : List ℕ). laid at ys ++ m) (sym (blank_is xs e)))
  | inr e ↦ rw e (
      put_append at xs (laid at (replicate (length xs) 255)) m
      ∙ (λ i. put_over at xs (replicate (length xs) 255) (sym (length-replicate (length xs) 255)) i ++ keep i))
]

chunks_laid : (n at : ℕ) (xs : List ℕ) → length xs ≤ CHUNK_SIZE * n → patched (chunks n at xs) (laid at (replicate (length xs) 255)) ≡ laid at xs
chunks_laid zero at [] le = refl
chunks_laid zero at (x ∷ xs) le = absurd (omega (arith, le))
chunks_laid (suc n) at xs le =
    ap (λ (k : ℕ). patched (chunk at a ++ chunks n (at + CHUNK_SIZE) b) (laid at (replicate k 255))) c.sizes
    ∙ ap (λ (ys : List ℕ). patched (chunk at a ++ chunks n (at + CHUNK_SIZE) b) (laid at ys)) (replicate_append (length a) (length b) 255)
    ∙ ap (patched (chunk at a ++ chunks n (at + CHUNK_SIZE) b)) (laid_append at (replicate (length a) 255) (replicate (length b) 255) ∙ ap (λ (k : ℕ). laid at (replicate (length a) 255) ++ laid (at + k) (replicate (length b) 255)) (length-replicate (length a) 255))
    ∙ patched_append (chunk at a) (chunks n (at + CHUNK_SIZE) b) (laid at (replicate (length a) 255) ++ laid (at + length a) (replicate (length b) 255))
    ∙ ap (patched (chunks n (at + CHUNK_SIZE) b)) (chunk_laid at a (laid (at + length a) (replicate (length b) 255)) (put_apart at a (at + length a) (replicate (length b) 255) (inl (omega arith))))
    ∙ further c.whole (chunks_laid n (at + CHUNK_SIZE) b)
    ∙ sym (laid_append at a b)
    ∙ ap (laid at) (sym c.is)
  where
    a : List ℕ
    a = take CHUNK_SIZE xs

    b : List ℕ
    b = drop CHUNK_SIZE xs

    c : Cuts xs (take CHUNK_SIZE xs) (drop CHUNK_SIZE xs)
    c = cut xs

    further : (b ≡ []) ⊎ (length a ≡ CHUNK_SIZE) → (length b ≤ CHUNK_SIZE * n → patched (chunks n (at + CHUNK_SIZE) b) (laid (at + CHUNK_SIZE) (replicate (length b) 255)) ≡ laid (at + CHUNK_SIZE) b) → patched (chunks n (at + CHUNK_SIZE) b) (laid at a ++ laid (at + length a) (replicate (length b) 255)) ≡ laid at a ++ laid (at + length a) b
    further (inl none) rest =
        ap (λ (ys : List ℕ). patched (chunks n (at + CHUNK_SIZE) ys) (laid at a ++ laid (at + length a) (replicate (length ys) 255))) none
        ∙ ap (λ (ps : List PatchSpec). patched ps (laid at a ++ [])) (no_chunks n (at + CHUNK_SIZE))
        ∙ ap (λ (ys : List ℕ). laid at a ++ laid (at + length a) ys) (sym none)
    further (inr whole) rest =
        patched_behind (chunks n (at + CHUNK_SIZE) b) at a (laid (at + length a) (replicate (length b) 255))
        (above (at + CHUNK_SIZE) (at + CHUNK_SIZE + length b) at (at + length a) (chunks n (at + CHUNK_SIZE) b) (omega (arith, whole)) (chunks_within n (at + CHUNK_SIZE) b))
        ∙ ap (λ (m : MemoryMap). laid at a ++ m) (
        ap (λ (k : ℕ). patched (chunks n (at + CHUNK_SIZE) b) (laid (at + k) (replicate (length b) 255))) whole
        ∙ rest (omega (arith, le, c.sizes, whole))
        ∙ ap (λ (k : ℕ). laid (at + k) b) (sym whole))

-- ------ regions
blank_region : (at : ℕ) (xs : List ℕ) → patched (chunks_of at xs) (laid at (replicate (length xs) 255)) ≡ laid at xs
blank_region at xs = chunks_laid (length xs / CHUNK_SIZE + 1) at xs (omega arith)

-- patches that lie in a range leave what is laid apart from it
all_keep : (low high from : ℕ) (xs : List ℕ) (ps : List PatchSpec) → (high ≤ from) ⊎ (from + length xs ≤ low) → AllWithin low high ps → AllKeep (laid from xs) ps
all_keep low high from xs [] apart all = tt
all_keep low high from xs (p ∷ ps) apart all = (
  put_apart p.at p.bytes from xs (elim apart [ inl before ↦ inl (omega (arith, before, all.1)) | inr after ↦ inr (omega (arith, after, all.0)) ]),
  all_keep low high from xs ps apart all.2,
)

keep_both : (l m : MemoryMap) (ps : List PatchSpec) → AllKeep l ps → AllKeep m ps → AllKeep (l ++ m) ps
keep_both l m [] a b = tt
keep_both l m (p ∷ ps) a b = (put_append p.at p.bytes l m ∙ (λ i. a.0 i ++ b.0 i), keep_both l m ps a.1 b.1)

keep_none : (ps : List PatchSpec) → AllKeep [] ps
keep_none [] = tt
keep_none (p ∷ ps) = (refl, keep_none ps)

-- the patches of a region leave all regions that lie apart from it
keep_regions : (low size : ℕ) (rs : List Region) (ps : List PatchSpec) → apart_from (low, size) (extents rs) ≡ true → AllWithin low (low + size) ps → AllKeep (filled (region_specs rs)) ps
keep_regions low size [] ps apart all = keep_none ps
keep_regions low size (r ∷ rs) ps apart all =
    let parts = and_parts (is_apart (low, size) (r.at, length r.bytes.items)) (apart_from (low, size) (extents rs)) apart in
    let blank : List ℕ = replicate (length r.bytes.items) 255 in
    let long : length blank ≡ length r.bytes.items = length-replicate (length r.bytes.items) 255 in
    keep_both (laid r.at blank) (filled (region_specs rs)) ps
    (all_keep low (low + size) r.at blank ps (elim (apart_sides (low, size) (r.at, length r.bytes.items) parts.0) [
      | inl before ↦ inl before
      | inr after ↦ inr (omega (arith, after, long))
    ]) all)
    (keep_regions low size rs ps parts.1 all)

-- and the patches of those regions lie apart from it
apart_within : (low size from to : ℕ) (ps : List PatchSpec) → (low + size ≤ from) ⊎ (to ≤ low) → AllWithin from to ps → AllApart low (low + size) ps
apart_within low size from to [] apart all = tt
apart_within low size from to (p ∷ ps) apart all = (
  elim apart [ inl before ↦ inr (omega (arith, before, all.0)) | inr after ↦ inl (omega (arith, after, all.1)) ],
  apart_within low size from to ps apart all.2,
)

others_apart : (low size : ℕ) (rs : List Region) → apart_from (low, size) (extents rs) ≡ true → AllApart low (low + size) (region_patches rs)
others_apart low size [] apart = tt
others_apart low size (r ∷ rs) apart =
    let parts = and_parts (is_apart (low, size) (r.at, length r.bytes.items)) (apart_from (low, size) (extents rs)) apart in
    apart_both low (low + size) (chunks_of r.at r.bytes.items) (region_patches rs)
    (apart_within low size r.at (r.at + length r.bytes.items) (chunks_of r.at r.bytes.items) (apart_sides (low, size) (r.at, length r.bytes.items) parts.0) (chunks_within (length r.bytes.items / CHUNK_SIZE + 1) r.at r.bytes.items))
    (others_apart low size rs parts.1)

-- apart from the others, and those from each other
further : (r : Region) (rs : List Region) → all_apart (extents (r ∷ rs)) ≡ true → (apart_from (r.at, length r.bytes.items) (extents rs) ≡ true) × (all_apart (extents rs) ≡ true)
further r rs all = and_parts _ _ (and_parts (nat_le 1 (length r.bytes.items) && nat_le (r.at + length r.bytes.items) LIMIT) (apart_from (r.at, length r.bytes.items) (extents rs) && all_apart (extents rs)) all).1

again : (rs : List Region) → all_apart (extents rs) ≡ true → patched (region_patches rs) (filled (region_specs rs)) ≡ map_of rs
again [] all = refl
again (r ∷ rs) all =
    let xs : List ℕ = r.bytes.items in
    let more = further r rs all in
    let mine : List PatchSpec = chunks_of r.at xs in
    let theirs : List PatchSpec = region_patches rs in
    let rest : MemoryMap = filled (region_specs rs) in
    patched_append mine theirs (laid r.at (replicate (length xs) 255) ++ rest)
    ∙ ap (patched theirs) (
    patched_before mine (laid r.at (replicate (length xs) 255)) rest (keep_regions r.at (length xs) rs mine more.0 (chunks_within (length xs / CHUNK_SIZE + 1) r.at xs))
    ∙ ap (λ (m : MemoryMap). m ++ rest) (blank_region r.at xs))
    ∙ patched_behind theirs r.at xs rest (others_apart r.at (length xs) rs more.0)
    ∙ ap (λ (m : MemoryMap). laid r.at xs ++ m) (again rs more.1)

extents_again : (rs : List Region) → spec_extents (region_specs rs) ≡ extents rs
extents_again [] = refl
extents_again (r ∷ rs) = ap (λ (es : List (ℕ × ℕ)). (r.at, length r.bytes.items) ∷ es) (extents_again rs)

-- ------ all patches lie in the regions
has_in : (n at low : ℕ) (xs : List ℕ) (m : MemoryMap) → low ≤ at → at + n ≤ low + length xs → has_each at n (laid low xs ++ m) ≡ true
has_in zero at low xs m from to = refl
has_in (suc n) at low xs m from to =
    let here : byte_at (laid low xs ++ m) at ≡ Some (get_or xs (at - low) 0) = laid_in low xs m at from (omega (arith, to)) in
    rw here (has_in n (at + 1) low xs m (omega (arith, from)) (omega (arith, to)))

some_behind : (l m : MemoryMap) (a : ℕ) → is_some (byte_at m a) ≡ true → is_some (byte_at (l ++ m) a) ≡ true
some_behind [] m a is = is
some_behind (p ∷ ps) m a is = elim (cases_Bool (p.0 == a)) [ inl e ↦ rw e refl | inr e ↦ rw e (some_behind ps m a is) ]

has_behind : (n at : ℕ) (l m : MemoryMap) → has_each at n m ≡ true → has_each at n (l ++ m) ≡ true
has_behind zero at l m is = refl
has_behind (suc n) at l m is =
    let parts = and_parts (is_some (byte_at m at)) (has_each (at + 1) n m) is in
    and_from _ _ (some_behind l m at parts.0) (has_behind n (at + 1) l m parts.1)

inside_behind : (ps : List PatchSpec) (l m : MemoryMap) → all_inside m ps ≡ true → all_inside (l ++ m) ps ≡ true
inside_behind [] l m is = refl
inside_behind (p ∷ ps) l m is =
    let parts = and_parts (has_each p.at (length p.bytes) m) (all_inside m ps) is in
    and_from _ _ (has_behind (length p.bytes) p.at l m parts.0) (inside_behind ps l m parts.1)

inside_here : (ps : List PatchSpec) (low : ℕ) (xs : List ℕ) (m : MemoryMap) → AllWithin low (low + length xs) ps → all_inside (laid low xs ++ m) ps ≡ true
inside_here [] low xs m all = refl
inside_here (p ∷ ps) low xs m all = and_from _ _ (has_in (length p.bytes) p.at low xs m all.0 all.1) (inside_here ps low xs m all.2)

inside_both : (ps qs : List PatchSpec) (m : MemoryMap) → all_inside m ps ≡ true → all_inside m qs ≡ true → all_inside m (ps ++ qs) ≡ true
inside_both [] qs m a b = b
inside_both (p ∷ ps) qs m a b =
    let parts = and_parts (has_each p.at (length p.bytes) m) (all_inside m ps) a in
    and_from _ _ parts.0 (inside_both ps qs m parts.1 b)

all_there : (rs : List Region) → all_inside (filled (region_specs rs)) (region_patches rs) ≡ true
all_there [] = refl
all_there (r ∷ rs) =
    let xs : List ℕ = r.bytes.items in
    let blank : List ℕ = replicate (length xs) 255 in
    let long : length xs ≡ length blank = sym (length-replicate (length xs) 255) in
    let within : AllWithin r.at (r.at + length blank) (chunks_of r.at xs) = subst (λ (n : ℕ). AllWithin r.at (r.at + n) (chunks_of r.at xs)) long (chunks_within (length xs / CHUNK_SIZE + 1) r.at xs) in
    inside_both (chunks_of r.at xs) (region_patches rs) (laid r.at blank ++ filled (region_specs rs))
    (inside_here (chunks_of r.at xs) r.at blank (filled (region_specs rs)) within)
    (inside_behind (region_patches rs) (laid r.at blank) (filled (region_specs rs)) (all_there rs))

pub saved : (rs : List Region) → all_apart (extents rs) ≡ true → IsSaved (map_of rs) (region_specs rs) (region_patches rs)
saved rs all = record {
  apart = ap all_apart (extents_again rs) ∙ all;
  inside = all_there rs;
  same = again rs all;
}

pub saved_as : (rs : List Region) (m : MemoryMap) (regions : List RegionSpec) (bytes : List PatchSpec) → all_apart (extents rs) ≡ true → map_of rs ≡ m → regions ≡ region_specs rs → bytes ≡ region_patches rs → IsSaved m regions bytes
saved_as rs m regions bytes all view regions_are bytes_are =
    subst (λ (k : MemoryMap). IsSaved k regions bytes) view
    (subst (λ (ss : List RegionSpec). IsSaved (map_of rs) ss bytes) (sym regions_are)
    (subst (λ (ps : List PatchSpec). IsSaved (map_of rs) (region_specs rs) ps) (sym bytes_are) (saved rs all)))

-- ------ one chunk more
pub chunk_more : (had : List PatchSpec) (at i m n end : ℕ) (xs : List ℕ) → n ≡ suc m → i * 4096 ≤ length xs → end ≡ min (length xs) (i * 4096 + 4096) → (had ++ chunk (at + i * 4096) (take (end - i * 4096) (drop (i * 4096) xs))) ++ chunks m (at + (i + 1) * 4096) (drop ((i + 1) * 4096) xs) ≡ had ++ chunks n (at + i * 4096) (drop (i * 4096) xs)
chunk_more had at i m n end xs number within is =
    append_assoc had (chunk (at + i * 4096) (take (end - i * 4096) ys)) (chunks m (at + (i + 1) * 4096) (drop ((i + 1) * 4096) xs))
    ∙ (λ k. had ++ (chunk (at + i * 4096) (part (cases_lt 4096 (length ys)) k) ++ chunks m (next k) (rest k)))
    ∙ ap (λ (j : ℕ). had ++ chunks j (at + i * 4096) ys) (sym number)
  where
    ys : List ℕ
    ys = drop (i * 4096) xs

    long : length ys ≡ length xs - i * 4096
    long = length-drop (i * 4096) xs

    part : (4096 < length ys) ⊎ (length ys ≤ 4096) → take (end - i * 4096) ys ≡ take CHUNK_SIZE ys
    part (inl lt) = let whole : end - i * 4096 ≡ 4096 = omega (arith, is, long, lt) in ap (λ (k : ℕ). take k ys) whole
    part (inr ge) = take_all (end - i * 4096) ys (omega (arith, is, long, ge)) ∙ sym (take_all CHUNK_SIZE ys ge)

    next : at + (i + 1) * 4096 ≡ at + i * 4096 + CHUNK_SIZE
    next = omega arith

    skip : (i + 1) * 4096 ≡ i * 4096 + CHUNK_SIZE
    skip = omega arith

    rest : drop ((i + 1) * 4096) xs ≡ drop CHUNK_SIZE ys
    rest = ap (λ (k : ℕ). drop k xs) skip ∙ sym (drop-drop CHUNK_SIZE (i * 4096) xs)
