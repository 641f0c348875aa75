-- A map is cut into the data of lines in one way.
use Rattle.std.proofs.Common.{suc, ◌≡◌, ℕ, ◌+◌, ◌<◌, ◌≤◌, List, [], ◌∷◌, ◌++◌, length, get_or, Some, None, refl, sym, ap, ◌∙◌, subst, inl, inr, arith, append-nil, append_assoc}
use Rattle.std.proofs.lemmas.Bool.{cases_lt}
use Rattle.std.proofs.lemmas.Option.{none-some, same_Some, slice_get-get_or}
use Rattle.std.specs.List.{slice_get}
use Rattle.std.specs.FinMap.{get}
use Rattle.span_store.specs.ByteMap.{ByteMap}
use Rattle.span_store.specs.Extents.{Extent, map_of, end_of, EndBy, StartFrom, AreExtents}
use Rattle.span_store.proofs.Order.{back, front_ends, StartFrom_less}
use Rattle.span_store.proofs.Lookups.{get-map_of, byte_in_below, held, bare}
use Rattle.rec_text.specs.Cutting.{IsCut, AreCut, Cuts}

same_bytes : (xs ys : List ℕ) → length xs ≡ length ys → ((k : ℕ) → k < length xs → slice_get xs k ≡ slice_get ys k) → xs ≡ ys
same_bytes [] [] l h = refl
same_bytes [] (y ∷ ys) l h = absurd (omega arith)
same_bytes (x ∷ xs) [] l h = absurd (omega arith)
same_bytes (x ∷ xs) (y ∷ ys) l h =
    let first : x ≡ y = same_Some x y (h 0 (omega arith)) in
    ap (λ z. z ∷ xs) first ∙ ap (λ zs. y ∷ zs) (same_bytes xs ys (omega arith) (λ k s. h (suc k) (omega arith)))

-- some lines and those behind them are the map
abbrev Behind : ByteMap → List Extent → List Extent → Type 0
Behind m done es = (m ≡ map_of (done ++ es)) × AreExtents (done ++ es)

behind : (m : ByteMap) (done : List Extent) (e : Extent) (es : List Extent) → Behind m done (e ∷ es) → Behind m (done ++ (e ∷ [])) es
behind m done e es b =
    let more : (done ++ (e ∷ [])) ++ es ≡ done ++ (e ∷ es) = append_assoc done (e ∷ []) es in
    (b.0 ∙ ap map_of (sym more), subst AreExtents (sym more) b.1)

reaches : (m : ByteMap) (done : List Extent) (e : Extent) (es : List Extent) (k : ℕ) → Behind m done (e ∷ es) → k < length e.1 → get m (e.0 + k) ≡ Some (get_or e.1 k 0)
reaches m done e es k b l = ap (λ t. get t (e.0 + k)) b.0 ∙ held done e es b.1 k l ∙ slice_get-get_or e.1 k 0 l

begins : (m : ByteMap) (done : List Extent) (e : Extent) (es : List Extent) → Behind m done (e ∷ es) → get m e.0 ≡ Some (get_or e.1 0 0)
begins m done e es b =
    let z : e.0 ≡ e.0 + 0 = omega arith in
    ap (get m) z ∙ reaches m done e es 0 b (back done (e ∷ es) b.1).0

none_earlier : (m : ByteMap) (done : List Extent) (e : Extent) (es : List Extent) (q : ℕ) → Behind m done (e ∷ es) → EndBy q done → q < e.0 → get m q ≡ None
none_earlier m done e es q b ends l =
    let t = back done (e ∷ es) b.1 in
    let here : q ≤ q = omega arith in
    let from : StartFrom e.0 (e ∷ es) = let n : e.0 ≤ e.0 = omega arith in (n, StartFrom_less e.0 (end_of e) es t.2 (omega arith)) in
    ap (λ t. get t q) b.0 ∙ bare q e.0 q done (e ∷ es) ends from here l

none_left : (m : ByteMap) (done : List Extent) (q : ℕ) → Behind m done [] → EndBy q done → get m q ≡ None
none_left m done q b ends =
    let here : q ≤ q = omega arith in
    ap (λ t. get t q) (b.0 ∙ ap map_of (append-nil done)) ∙ get-map_of done q ∙ byte_in_below q done q None ends here

starts_le : (m : ByteMap) (done : List Extent) (x y : Extent) (xs ys : List Extent) → Behind m done (x ∷ xs) → Behind m done (y ∷ ys) → y.0 ≤ x.0
starts_le m done x y xs ys b c =
    elim (cases_lt x.0 y.0) [
      | inl l ↦ absurd (none-some (get_or x.1 0 0) (sym (none_earlier m done y ys x.0 c (front_ends done x xs b.1) l) ∙ begins m done x xs b))
      | inr g ↦ g
    ]

sizes_le : (room : ℕ → ℕ) (m : ByteMap) (done : List Extent) (x y : Extent) (ys : List Extent) → Behind m done (y ∷ ys) → x.0 ≡ y.0 → IsCut (room x.0) m x → IsCut (room y.0) m y → length y.1 ≤ length x.1
sizes_le room m done x y ys c e cx cy =
    let short : length y.1 ≤ 16 = cy.short in
    let inside : length y.1 ≤ room y.0 = cy.inside in
    let same : room x.0 ≡ room y.0 = ap room e in
    elim (cases_lt (length x.1) (length y.1)) [
      | inr g ↦ g
      | inl l ↦ elim cx.full [
        | inl a ↦ omega arith
        | inr b ↦ elim b [
          | inl a ↦ omega arith
          | inr none ↦ absurd (none-some (get_or y.1 (length x.1) 0) (sym none ∙ ap (λ a. get m (a + length x.1)) e ∙ reaches m done y ys (length x.1) c l))
        ]
      ]
    ]

one_cut : (room : ℕ → ℕ) (m : ByteMap) (done xs ys : List Extent) → Behind m done xs → Behind m done ys → AreCut room m xs → AreCut room m ys → xs ≡ ys
one_cut room m done [] [] b c cx cy = refl
one_cut room m done [] (y ∷ ys) b c cx cy = absurd (none-some (get_or y.1 0 0) (sym (none_left m done y.0 b (front_ends done y ys c.1)) ∙ begins m done y ys c))
one_cut room m done (x ∷ xs) [] b c cx cy = absurd (none-some (get_or x.1 0 0) (sym (none_left m done x.0 c (front_ends done x xs b.1)) ∙ begins m done x xs b))
one_cut room m done (x ∷ xs) (y ∷ ys) b c cx cy =
    let low : y.0 ≤ x.0 = starts_le m done x y xs ys b c in
    let high : x.0 ≤ y.0 = starts_le m done y x ys xs c b in
    let at : x.0 ≡ y.0 = omega arith in
    let most : length y.1 ≤ length x.1 = sizes_le room m done x y ys c at cx.0 cy.0 in
    let least : length x.1 ≤ length y.1 = sizes_le room m done y x xs b (sym at) cy.0 cx.0 in
    let bytes : x.1 ≡ y.1 =
    same_bytes x.1 y.1 (omega arith) (λ k l.
    let n : k < length y.1 = omega arith in
    slice_get-get_or x.1 k 0 l ∙ sym (reaches m done x xs k b l) ∙ ap (λ a. get m (a + k)) at ∙ reaches m done y ys k c n ∙ sym (slice_get-get_or y.1 k 0 n))
    in
    let same : x ≡ y = ap (λ a. (a, x.1)) at ∙ ap (λ bs. (y.0, bs)) bytes in
    ap (λ l. x ∷ l) (one_cut room m (done ++ (x ∷ [])) xs ys (behind m done x xs b) (subst (λ z. Behind m (done ++ (z ∷ [])) ys) (sym same) (behind m done y ys c)) cx.1 cy.1)
    ∙ ap (λ z. z ∷ ys) same

pub one_way : (room : ℕ → ℕ) (m : ByteMap) (xs ys : List Extent) → Cuts room m xs → Cuts room m ys → xs ≡ ys
one_way room m xs ys c d = one_cut room m [] xs ys (c.all, c.ascending) (d.all, d.ascending) c.cut d.cut
