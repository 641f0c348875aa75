-- What a byte map that is kept in extents has at an address.
use Rattle.std.proofs.Common.{zero, suc, ◌≡◌, ℕ, ◌+◌, ◌-◌, ◌<◌, ◌≤◌, ◌⊎◌, List, [], ◌∷◌, ◌++◌, length, Option, Some, None, cond, eqb, refl, sym, ap, ◌∙◌, inl, inr, arith}
use Rattle.std.proofs.lemmas.Bool.{cases_lt, eq-eqb, ne_eqb}
use Rattle.std.specs.List.{slice_get}
use Rattle.std.specs.Ordering.{nat_cmp}
use Rattle.std.specs.Cmp.{nat_cmp_total, unsigned_tied}
use Rattle.std.specs.FinMap.{get, get-insert, get-empty, same_map, nat_cmp-IsAntisymmetric}
use Rattle.span_store.specs.ByteMap.{ByteMap, over, Holds}
use Rattle.span_store.specs.Extents.{Extent, map_of, EndBy, StartFrom, AreExtents}
use Rattle.span_store.proofs.Order.{front_ends}

-- what bytes from an address on have at q, or else r
abbrev pub reads : ℕ → List ℕ → ℕ → Option ℕ → Option ℕ
reads at [] q r = r
reads at (b ∷ bs) q r = cond (eqb q at) (Some b) (reads (at + 1) bs q r)

pub get-over : (m : ByteMap) (at : ℕ) (bs : List ℕ) (q : ℕ) → get (over m at bs) q ≡ reads at bs q (get m q)
get-over m at [] q = refl
get-over m at (b ∷ bs) q =
    get-insert nat_cmp_total (over m (at + 1) bs) at b q
    ∙ ap (λ t. cond t (Some b) (get (over m (at + 1) bs) q)) (unsigned_tied q at)
    ∙ ap (cond (eqb q at) (Some b)) (get-over m (at + 1) bs q)

pub reads_before : (at : ℕ) (bs : List ℕ) (q : ℕ) (r : Option ℕ) → q < at → reads at bs q r ≡ r
reads_before at [] q r h = refl
reads_before at (b ∷ bs) q r h = rw (ne_eqb q at (λ e. omega arith)) (reads_before (at + 1) bs q r (omega arith))

pub reads_after : (at : ℕ) (bs : List ℕ) (q : ℕ) (r : Option ℕ) → at + length bs ≤ q → reads at bs q r ≡ r
reads_after at [] q r h = refl
reads_after at (b ∷ bs) q r h = rw (ne_eqb q at (λ e. omega arith)) (reads_after (at + 1) bs q r (omega arith))

pub reads_hit : (at : ℕ) (bs : List ℕ) (q k : ℕ) (r : Option ℕ) → q ≡ at + k → k < length bs → reads at bs q r ≡ slice_get bs k
reads_hit at [] q k r e h = absurd (omega arith)
reads_hit at (b ∷ bs) q zero r e h = rw (eq-eqb q at (omega arith)) refl
reads_hit at (b ∷ bs) q (suc k) r e h = rw (ne_eqb q at (λ f. omega arith)) (reads_hit (at + 1) bs q k r (omega arith) (omega arith))

pub reads-append : (at : ℕ) (xs ys : List ℕ) (q : ℕ) (r : Option ℕ) → reads at (xs ++ ys) q r ≡ reads at xs q (reads (at + length xs) ys q r)
reads-append at [] ys q r = ap (λ a. reads a ys q r) (omega arith)
reads-append at (x ∷ xs) ys q r =
    ap (cond (eqb q at) (Some x)) (reads-append (at + 1) xs ys q r ∙ ap (λ a. reads (at + 1) xs q (reads a ys q r)) (omega arith))

-- what extents have at q, or else r
abbrev pub byte_in : List Extent → ℕ → Option ℕ → Option ℕ
byte_in [] q r = r
byte_in (e ∷ es) q r = reads e.0 e.1 q (byte_in es q r)

pub get-map_of : (es : List Extent) (q : ℕ) → get (map_of es) q ≡ byte_in es q None
get-map_of [] q = get-empty nat_cmp q
get-map_of (e ∷ es) q = get-over (map_of es) e.0 e.1 q ∙ ap (reads e.0 e.1 q) (get-map_of es q)

pub byte_in-append : (xs ys : List Extent) (q : ℕ) (r : Option ℕ) → byte_in (xs ++ ys) q r ≡ byte_in xs q (byte_in ys q r)
byte_in-append [] ys q r = refl
byte_in-append (x ∷ xs) ys q r = ap (reads x.0 x.1 q) (byte_in-append xs ys q r)

pub byte_in_below : (n : ℕ) (es : List Extent) (q : ℕ) (r : Option ℕ) → EndBy n es → n ≤ q → byte_in es q r ≡ r
byte_in_below n [] q r s h = refl
byte_in_below n (e ∷ es) q r s h = reads_after e.0 e.1 q (byte_in es q r) (let l = s.0 in omega arith) ∙ byte_in_below n es q r s.1 h

pub byte_in_above : (n : ℕ) (es : List Extent) (q : ℕ) (r : Option ℕ) → StartFrom n es → q < n → byte_in es q r ≡ r
byte_in_above n [] q r s h = refl
byte_in_above n (e ∷ es) q r s h = reads_before e.0 e.1 q (byte_in es q r) (let l = s.0 in omega arith) ∙ byte_in_above n es q r s.1 h

-- ------ bytes at an address, or none
pub reads_other : (at : ℕ) (bs : List ℕ) (q : ℕ) (r : Option ℕ) → (q < at) ⊎ (at + length bs ≤ q) → reads at bs q r ≡ r
reads_other at bs q r (inl h) = reads_before at bs q r h
reads_other at bs q r (inr h) = reads_after at bs q r h

pub cases_in : (at n q : ℕ) → ((k : ℕ) × (q ≡ at + k) × (k < n)) ⊎ ((q < at) ⊎ (at + n ≤ q))
cases_in at n q =
    elim (cases_lt q at) [
      | inl h ↦ inr (inl h)
      | inr h ↦ elim (cases_lt q (at + n)) [
        | inl l ↦ inl (q - at, omega arith, omega arith)
        | inr l ↦ inr (inr l)
      ]
    ]

-- what extents between have outside the range that they lie in
pub byte_in_apart : (m n : ℕ) (es : List Extent) (q : ℕ) (r : Option ℕ) → StartFrom m es → EndBy n es → (q < m) ⊎ (n ≤ q) → byte_in es q r ≡ r
byte_in_apart m n es q r s b (inl l) = byte_in_above m es q r s l
byte_in_apart m n es q r s b (inr l) = byte_in_below n es q r b l

-- extents in whose middle bytes were put have over them what was put
pub placed : (at : ℕ) (bs : List ℕ) (xs mid ys : List Extent) → EndBy at xs → StartFrom at mid → EndBy (at + length bs) mid
    → map_of (xs ++ ((at, bs) ∷ ys)) ≡ over (map_of (xs ++ (mid ++ ys))) at bs
placed at bs xs mid ys below from within =
    same_map nat_cmp_total nat_cmp-IsAntisymmetric _ _ (λ q.
    get-map_of (xs ++ ((at, bs) ∷ ys)) q
    ∙ byte_in-append xs ((at, bs) ∷ ys) q None
    ∙ elim (cases_in at (length bs) q) [
      | inl hit ↦
          let e : q ≡ at + hit.0 = hit.1 in
          byte_in_below at xs q _ below (omega arith)
          ∙ reads_hit at bs q hit.0 (byte_in ys q None) hit.1 hit.2
          ∙ sym (reads_hit at bs q hit.0 (get (map_of (xs ++ (mid ++ ys))) q) hit.1 hit.2)
      | inr out ↦
          ap (byte_in xs q) (reads_other at bs q (byte_in ys q None) out)
          ∙ sym (reads_other at bs q (get (map_of (xs ++ (mid ++ ys))) q) out
          ∙ get-map_of (xs ++ (mid ++ ys)) q
          ∙ byte_in-append xs (mid ++ ys) q None
          ∙ ap (byte_in xs q) (byte_in-append mid ys q None ∙ byte_in_apart at (at + length bs) mid q (byte_in ys q None) from within out))
    ]
    ∙ sym (get-over (map_of (xs ++ (mid ++ ys))) at bs q))

-- two extents that touch have what one has
pub touching : (k : ℕ) (b c : List ℕ) (xs ys : List Extent) → map_of (xs ++ ((k, b ++ c) ∷ ys)) ≡ map_of (xs ++ ((k, b) ∷ (k + length b, c) ∷ ys))
touching k b c xs ys =
    same_map nat_cmp_total nat_cmp-IsAntisymmetric _ _ (λ q.
    get-map_of (xs ++ ((k, b ++ c) ∷ ys)) q
    ∙ byte_in-append xs ((k, b ++ c) ∷ ys) q None
    ∙ ap (byte_in xs q) (reads-append k b c q (byte_in ys q None))
    ∙ sym (byte_in-append xs ((k, b) ∷ (k + length b, c) ∷ ys) q None)
    ∙ sym (get-map_of (xs ++ ((k, b) ∷ (k + length b, c) ∷ ys)) q))

-- each extent's bytes are the map's
pub held : (xs : List Extent) (e : Extent) (ys : List Extent) → AreExtents (xs ++ (e ∷ ys)) → Holds (map_of (xs ++ (e ∷ ys))) e.0 e.1
held xs e ys s k l =
    get-map_of (xs ++ (e ∷ ys)) (e.0 + k)
    ∙ byte_in-append xs (e ∷ ys) (e.0 + k) None
    ∙ byte_in_below e.0 xs (e.0 + k) _ (front_ends xs e ys s) (omega arith)
    ∙ reads_hit e.0 e.1 (e.0 + k) k _ refl l

-- between two parts there is nothing
pub bare : (c d q : ℕ) (xs ys : List Extent) → EndBy c xs → StartFrom d ys → c ≤ q → q < d → get (map_of (xs ++ ys)) q ≡ None
bare c d q xs ys b f l u =
    get-map_of (xs ++ ys) q ∙ byte_in-append xs ys q None ∙ byte_in_below c xs q _ b l ∙ byte_in_above d ys q None f u
