-- Numbers and lists, byte by byte.
use Rattle.std.proofs.Common.{◌≡◌, ℕ, zero, suc, ◌+◌, ◌-◌, ◌/◌, ◌%◌, ◌<◌, ◌≤◌, List, [], ◌∷◌, ◌++◌, length, take, flat_map, get_or, refl, ◌∙◌, ap, append_assoc, arith, subst}
use Rattle.std.proofs.lemmas.List.{append-nil, take_more, take_all}
use Rattle.std.proofs.lemmas.Grind.{flat_map-append}
use Rattle.flash_base.specs.Lists.{Each}
use Rattle.flash_base.specs.Numbers.{big_endian}
use Rattle.flash_plan.specs.declared.unit.Segment.{Segment}
use Rattle.flash_plan.specs.declared.unit.UnitPlan.{UnitPlan}
use Rattle.flash_plan.specs.Canonical.{segment_bytes, segment_head, unit_front, unit_head, wanted_bytes}

pub big_endian-more : (n x : ℕ) → (n ≡ 0 → ⊥) → big_endian (n - 1) (x / 256) ++ (x % 256 ∷ []) ≡ big_endian n x
big_endian-more zero x h = absurd (h refl)
big_endian-more (suc n) x h = let e : suc n - 1 ≡ n = omega arith in rw e refl

-- what holds of each item holds of the one that is read
pub Each-at : {T : Type 0} (P : T → Type 0) (xs : List T) (i : ℕ) (d : T) → Each P xs → i < length xs → P (get_or xs i d)
Each-at P [] i d h lt = absurd (omega (arith, lt))
Each-at P (x ∷ xs) zero d h lt = h.0
Each-at P (x ∷ xs) (suc i) d h lt = Each-at P xs i d h.1 (omega (arith, lt))

-- one more item
pub step : {T : Type 0} (f : T → List ℕ) (start out new : List ℕ) (xs : List T) (i : ℕ) (d : T) → i < length xs
    → out ≡ start ++ flat_map f (take i xs) → new ≡ out ++ f (get_or xs i d) → new ≡ start ++ flat_map f (take (i + 1) xs)
step f start out new xs i d lt so is =
    let a : flat_map f (take (i + 1) xs) ≡ flat_map f (take i xs) ++ (f (get_or xs i d) ++ []) = ap (flat_map f) (take_more xs i d lt) ∙ flat_map-append f (take i xs) (get_or xs i d ∷ []) in
    rw (is, so, a, append-nil (f (get_or xs i d))) (append_assoc start (flat_map f (take i xs)) (f (get_or xs i d)))

-- two pieces, one after the other
pub glue : (old a b new newer : List ℕ) → new ≡ old ++ a → newer ≡ new ++ b → newer ≡ old ++ (a ++ b)
glue old a b new newer e f = f ∙ ap (λ x. x ++ b) e ∙ append_assoc old a b

-- no more items
pub whole : {T : Type 0} (f : T → List ℕ) (start out : List ℕ) (xs : List T) (i : ℕ) → length xs ≤ i
    → out ≡ start ++ flat_map f (take i xs) → out ≡ start ++ flat_map f xs
whole f start out xs i le so = so ∙ rw (take_all i xs le) refl

pub head_pieces : (s : Segment) (out n1 n2 : List ℕ) (k : ℕ) → n1 ≡ out ++ big_endian 8 s.at → k ≡ length s.body → n2 ≡ n1 ++ big_endian 4 k → n2 ≡ out ++ segment_head s
head_pieces s out n1 n2 k e1 ek e2 = glue out (big_endian 8 s.at) (big_endian 4 (length s.body)) n1 n2 e1 (e2 ∙ ap (λ x. n1 ++ big_endian 4 x) ek)

pub segment_pieces : (s : Segment) (out n1 n2 body : List ℕ) → n1 ≡ out ++ segment_head s → body ≡ s.body → n2 ≡ n1 ++ body → n2 ≡ out ++ segment_bytes s
segment_pieces s out n1 n2 body e1 eb e2 = glue out (segment_head s) s.body n1 n2 e1 (e2 ∙ ap (λ x. n1 ++ x) eb)

pub front_pieces : (u : UnitPlan) (out n1 n2 n3 n4 n5 n6 : List ℕ) (i a k : ℕ) → n1 ≡ out ++ unit_head u
    → i ≡ length u.idents → n2 ≡ n1 ++ i ∷ [] → n3 ≡ n2 ++ flat_map wanted_bytes u.idents
    → a ≡ length u.after → n4 ≡ n3 ++ a ∷ [] → n5 ≡ n4 ++ flat_map (big_endian 2) u.after
    → k ≡ length u.segments → n6 ≡ n5 ++ big_endian 2 k → n6 ≡ out ++ unit_front u
front_pieces u out n1 n2 n3 n4 n5 n6 i a k e1 ei e2 e3 ea e4 e5 ek e6 =
    let b2 = unit_head u ++ (length u.idents ∷ []) in
    let b3 = b2 ++ flat_map wanted_bytes u.idents in
    let b4 = b3 ++ (length u.after ∷ []) in
    let b5 = b4 ++ flat_map (big_endian 2) u.after in
    let g2 = glue out (unit_head u) (length u.idents ∷ []) n1 n2 e1 (e2 ∙ ap (λ x. n1 ++ x ∷ []) ei) in
    let g3 = glue out b2 (flat_map wanted_bytes u.idents) n2 n3 g2 e3 in
    let g4 = glue out b3 (length u.after ∷ []) n3 n4 g3 (e4 ∙ ap (λ x. n3 ++ x ∷ []) ea) in
    let g5 = glue out b4 (flat_map (big_endian 2) u.after) n4 n5 g4 e5 in
    glue out b5 (big_endian 2 (length u.segments)) n5 n6 g5 (e6 ∙ ap (λ x. n5 ++ big_endian 2 x) ek)

-- what is fed in two pieces, and item by item
pub fed : (P : List ℕ → Type 0) (m a b head body : List ℕ) → head ≡ a → body ≡ b → P ((m ++ head) ++ body) → P (m ++ (a ++ b))
fed P m a b head body ea eb h = subst P (append_assoc m head body ∙ ap (λ x. m ++ (x ++ body)) ea ∙ ap (λ x. m ++ (a ++ x)) eb) h

pub fed_more : {T : Type 0} (P : List ℕ → Type 0) (f : T → List ℕ) (m : List ℕ) (xs : List T) (i : ℕ) (d : T) → i < length xs → d ≡ get_or xs i d → P ((m ++ flat_map f (take i xs)) ++ f d) → P (m ++ flat_map f (take (i + 1) xs))
fed_more P f m xs i d lt is h =
    let old : List ℕ = m ++ flat_map f (take i xs) in
    subst P (step f m old (old ++ f d) xs i d lt refl (ap (λ x. old ++ f x) is)) h

pub fed_whole : {T : Type 0} (P : List ℕ → Type 0) (f : T → List ℕ) (m : List ℕ) (xs all : List T) (i : ℕ) → xs ≡ all → length xs ≤ i → P (m ++ flat_map f (take i xs)) → P (m ++ flat_map f all)
fed_whole P f m xs all i same le h = subst (λ ys. P (m ++ flat_map f ys)) same (subst P (whole f m (m ++ flat_map f (take i xs)) xs i le refl) h)
