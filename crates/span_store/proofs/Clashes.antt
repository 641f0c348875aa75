-- The lowest address at which another byte stands.
use Rattle.std.proofs.Common.{zero, suc, ◌≡◌, ◌≢◌, ℕ, ◌+◌, ◌-◌, ◌<◌, ◌≤◌, List, [], ◌∷◌, length, drop, get_or, Option, Some, None, refl, sym, ap, ◌∙◌, arith}
use Rattle.std.proofs.lemmas.Bool.{eq-eqb, ne_eqb}
use Rattle.std.proofs.lemmas.List.{drop-drop, drop_more, drop_all}
use Rattle.std.proofs.lemmas.Option.{none-some, same_Some, slice_get-get_or}
use Rattle.std.specs.List.{slice_get}
use Rattle.std.specs.FinMap.{get}
use Rattle.span_store.specs.ByteMap.{ByteMap, clash, clash_at, Holds}
use Rattle.span_store.specs.Extents.{Extent, IsPiece}
use Rattle.span_store.specs.declared.clash.Clash.{Clash}

pub clash_none : (m : ByteMap) (at : ℕ) (bs : List ℕ) → ((q : ℕ) → at ≤ q → q < at + length bs → get m q ≡ None) → clash m at bs ≡ None
clash_none m at [] h = refl
clash_none m at (b ∷ bs) h =
    ap (λ o. clash_at o at b (clash m (at + 1) bs)) (h at (omega arith) (omega arith))
    ∙ clash_none m (at + 1) bs (λ q l u. h q (omega arith) (omega arith))

same_here : (at b : ℕ) (rest : Option Clash) (o : Option ℕ) → ((x : ℕ) → o ≡ Some x → x ≡ b) → clash_at o at b rest ≡ rest
same_here at b rest None h = refl
same_here at b rest (Some x) h = rw (eq-eqb x b (h x refl)) refl

pub clash_skip : (m : ByteMap) (at n : ℕ) (bs : List ℕ) → ((k : ℕ) → k < n → k < length bs → (o : ℕ) → get m (at + k) ≡ Some o → slice_get bs k ≡ Some o)
    → clash m at bs ≡ clash m (at + n) (drop n bs)
clash_skip m at zero bs h = let e : at ≡ at + 0 = omega arith in ap (λ a. clash m a bs) e
clash_skip m at (suc n) [] h = refl
clash_skip m at (suc n) (b ∷ bs) h =
    let z : at + 0 ≡ at = omega arith in
    let e : at + 1 + n ≡ at + suc n = omega arith in
    same_here at b (clash m (at + 1) bs) (get m at) (λ x is. sym (same_Some b x (h 0 (omega arith) (omega arith) x (ap (get m) z ∙ is))))
    ∙ clash_skip m (at + 1) n bs (λ k l u o is. let f : at + suc k ≡ at + 1 + k = omega arith in h (suc k) (omega arith) (omega arith) o (ap (get m) f ∙ is))
    ∙ ap (λ a. clash m a (drop n bs)) e

pub clash_found : (m : ByteMap) (at n : ℕ) (bs : List ℕ) (o : ℕ) → n < length bs → get m (at + n) ≡ Some o → (o ≡ get_or bs n 0 → ⊥)
    → clash m (at + n) (drop n bs) ≡ Some (record { at = at + n; old = o; new = get_or bs n 0 })
clash_found m at n bs o l is other =
    ap (clash m (at + n)) (drop_more bs n 0 l)
    ∙ ap (λ x. clash_at x (at + n) (get_or bs n 0) (clash m (at + n + 1) (drop (n + 1) bs))) is
    ∙ rw (ne_eqb o (get_or bs n 0) other) refl

-- ------ along pieces
pub past_gap : (m : ByteMap) (here : ℕ) (bs : List ℕ) (e : Extent) → IsPiece m here (Some e) → clash m here bs ≡ clash m e.0 (drop (e.0 - here) bs)
past_gap m here bs e p =
    let le : here ≤ e.0 = p.0 in
    let at : here + (e.0 - here) ≡ e.0 = omega arith in
    clash_skip m here (e.0 - here) bs (λ k l u o is. absurd (none-some o (sym (p.3 (here + k) (omega arith) (omega arith)) ∙ is)))
    ∙ ap (λ a. clash m a (drop (e.0 - here) bs)) at

pub past_gap_at : (m : ByteMap) (at here : ℕ) (bs : List ℕ) (e : Extent) → at ≤ here → IsPiece m here (Some e) → clash m at bs ≡ clash m here (drop (here - at) bs)
    → clash m at bs ≡ clash m e.0 (drop (e.0 - at) bs)
past_gap_at m at here bs e le p known =
    let l : here ≤ e.0 = p.0 in
    let sum : here - at + (e.0 - here) ≡ e.0 - at = omega arith in
    known ∙ past_gap m here (drop (here - at) bs) e p ∙ ap (clash m e.0) (drop-drop (e.0 - here) (here - at) bs ∙ ap (λ k. drop k bs) sum)

pub past_piece : (m : ByteMap) (at n : ℕ) (old new : List ℕ) → Holds m at old → n ≤ length old → ((j : ℕ) → j < n → j < length new → slice_get old j ≡ slice_get new j)
    → clash m at new ≡ clash m (at + n) (drop n new)
past_piece m at n old new held fits same =
    clash_skip m at n new (λ k l u o is. sym (same k l u) ∙ sym (held k (omega arith)) ∙ is)

pub past_piece_at : (m : ByteMap) (at n : ℕ) (bs : List ℕ) (e : Extent) → at ≤ e.0 → Holds m e.0 e.1 → n ≤ length e.1
    → ((j : ℕ) → j < n → j < length (drop (e.0 - at) bs) → slice_get e.1 j ≡ slice_get (drop (e.0 - at) bs) j)
    → clash m at bs ≡ clash m e.0 (drop (e.0 - at) bs) → clash m at bs ≡ clash m (e.0 + n) (drop (e.0 + n - at) bs)
past_piece_at m at n bs e le held fits same known =
    let sum : e.0 - at + n ≡ e.0 + n - at = omega arith in
    known ∙ past_piece m e.0 n e.1 (drop (e.0 - at) bs) held fits same ∙ ap (clash m (e.0 + n)) (drop-drop n (e.0 - at) bs ∙ ap (λ k. drop k bs) sum)

pub past_end : (m : ByteMap) (at here : ℕ) (bs : List ℕ) → at + length bs ≤ here → clash m at bs ≡ clash m here (drop (here - at) bs) → clash m at bs ≡ None
past_end m at here bs le known = known ∙ ap (clash m here) (drop_all (here - at) bs (omega arith))

pub none_left : (m : ByteMap) (at here : ℕ) (bs : List ℕ) → at ≤ here → IsPiece m here None → clash m at bs ≡ clash m here (drop (here - at) bs) → clash m at bs ≡ None
none_left m at here bs le p known = known ∙ clash_none m here (drop (here - at) bs) (λ q l u. p q l)

pub found_at : (m : ByteMap) (at : ℕ) (bs : List ℕ) (e : Extent) (k : ℕ) → at ≤ e.0 → Holds m e.0 e.1 → k < length e.1 → k < length (drop (e.0 - at) bs) → slice_get e.1 k ≢ slice_get (drop (e.0 - at) bs) k
    → ((j : ℕ) → j < k → slice_get e.1 j ≡ slice_get (drop (e.0 - at) bs) j) → clash m at bs ≡ clash m e.0 (drop (e.0 - at) bs)
    → clash m at bs ≡ Some (record { at = e.0 + k; old = get_or e.1 k 0; new = get_or (drop (e.0 - at) bs) k 0 })
found_at m at bs e k le held l u other same known =
    let a = slice_get-get_or e.1 k 0 l in
    let b = slice_get-get_or (drop (e.0 - at) bs) k 0 u in
    known
    ∙ past_piece m e.0 k e.1 (drop (e.0 - at) bs) held (omega arith) (λ j h i. same j h)
    ∙ clash_found m e.0 k (drop (e.0 - at) bs) (get_or e.1 k 0) u (held k l ∙ a) (λ is. other (a ∙ ap Some is ∙ sym b))
