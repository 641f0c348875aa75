-- The lowest address at which bytes meet another byte.
use Rattle.std.proofs.Common.{zero, suc, ◌≡◌, ℕ, ◌+◌, ◌⊎◌, List, [], ◌∷◌, eqb, Option, Some, None, refl, sym, ap, ◌∙◌, subst, inl, inr, arith}
use Rattle.std.specs.Prelude.{◌≢◌}
use Rattle.std.proofs.lemmas.Bool.{cases_lt, cases_Bool, eqb-true, eq-eqb, false≢true}
use Rattle.std.proofs.lemmas.Option.{none-some, same_Some}
use Rattle.std.specs.List.{slice_get}
use Rattle.std.specs.FinMap.{get}
use Rattle.span_store.specs.ByteMap.{ByteMap, clash, clash_at}
use Rattle.span_store.specs.Lowest.{IsLowest}
use Rattle.span_store.specs.declared.clash.Clash.{Clash}
use Rattle.span_store.proofs.Settled.{agrees}

-- bytes from an address on have another byte than the map at an address
abbrev pub Differ : ByteMap → ℕ → List ℕ → ℕ → Type 0
Differ m at bs a = (k : ℕ) × (b : ℕ) × (old : ℕ) × (a ≡ at + k) × (slice_get bs k ≡ Some b) × (get m a ≡ Some old) × (old ≢ b)

none_differ : (m : ByteMap) (at a : ℕ) → Differ m at [] a → ⊥
none_differ m at a d = none-some d.1 d.4

later : (m : ByteMap) (at b : ℕ) (bs : List ℕ) (a : ℕ) → Differ m (at + 1) bs a → Differ m at (b ∷ bs) a
later m at b bs a d = let e : at + 1 + d.0 ≡ at + suc d.0 = omega arith in (suc d.0, d.1, d.2, d.3 ∙ e, d.4, d.5, d.6)

-- at the first byte, or at one behind it
first_or : (m : ByteMap) (at b : ℕ) (bs : List ℕ) (a : ℕ) → Differ m at (b ∷ bs) a → ((old : ℕ) × (a ≡ at) × (get m at ≡ Some old) × (old ≢ b)) ⊎ Differ m (at + 1) bs a
first_or m at b bs a (zero, c, old, e, i, o, n) =
    let z : a ≡ at = (let h : a ≡ at + 0 = e in omega arith) in
    inl (old, z, ap (get m) (sym z) ∙ o, λ same. n (same ∙ same_Some b c i))
first_or m at b bs a (suc k, c, old, e, i, o, n) = let f : a ≡ at + 1 + k = (let h : a ≡ at + suc k = e in omega arith) in inr (k, c, old, f, i, o, n)

skip : (m : ByteMap) (at b : ℕ) (bs : List ℕ) (low : ℕ) → ((old : ℕ) → get m at ≡ Some old → old ≡ b) → IsLowest (Differ m (at + 1) bs) (Some low) → IsLowest (Differ m at (b ∷ bs)) (Some low)
skip m at b bs low same h = (
  later m at b bs low h.0,
  λ a l d. elim (first_or m at b bs a d) [
    | inl here ↦ here.3 (same here.0 here.2)
    | inr there ↦ h.1 a l there
  ],
)

here_lowest : (m : ByteMap) (at b : ℕ) (bs : List ℕ) (old : ℕ) → get m at ≡ Some old → (old ≢ b) → IsLowest (Differ m at (b ∷ bs)) (Some at)
here_lowest m at b bs old is ne = (
  (let z : at ≡ at + 0 = omega arith in (0, b, old, z, refl, is, ne)),
  λ a l d. let e = d.3 in omega arith,
)

step : (m : ByteMap) (at b : ℕ) (bs : List ℕ) (c : Clash) (o : Option ℕ) → get m at ≡ o → clash_at o at b (clash m (at + 1) bs) ≡ Some c
    → (clash m (at + 1) bs ≡ Some c → IsLowest (Differ m (at + 1) bs) (Some c.at)) → IsLowest (Differ m at (b ∷ bs)) (Some c.at)
step m at b bs c None is e known = skip m at b bs c.at (λ old h. absurd (none-some old (sym is ∙ h))) (known e)
step m at b bs c (Some x) is e known =
    elim (cases_Bool (eqb x b)) [
      | inl same ↦ skip m at b bs c.at (λ old h. same_Some old x (sym h ∙ is) ∙ eqb-true x b same) (known (rw same at e))
      | inr other ↦
          let found : record { at = at; old = x; new = b } ≡ c = same_Some {A = Clash} (record { at = at; old = x; new = b }) c (rw other at e) in
          subst (λ (q : Clash). IsLowest (Differ m at (b ∷ bs)) (Some q.at)) found (here_lowest m at b bs x is (λ s. false≢true (sym other ∙ eq-eqb x b s)))
    ]

pub clash_lowest : (m : ByteMap) (at : ℕ) (bs : List ℕ) (c : Clash) → clash m at bs ≡ Some c → IsLowest (Differ m at bs) (Some c.at)
clash_lowest m at [] c e = absurd (none-some c e)
clash_lowest m at (b ∷ bs) c e = step m at b bs c (get m at) refl e (clash_lowest m (at + 1) bs c)

pub clash_free : (m : ByteMap) (at : ℕ) (bs : List ℕ) (a : ℕ) → clash m at bs ≡ None → Differ m at bs a → ⊥
clash_free m at bs a e d = let (k, b, old, at_is, i, o, n) = d in n (agrees m at bs e k old b i (ap (get m) (sym at_is) ∙ o))

pub one_lowest : (P : ℕ → Type 0) (a b : ℕ) → IsLowest P (Some a) → IsLowest P (Some b) → a ≡ b
one_lowest P a b h k =
    elim (cases_lt a b) [
      | inl l ↦ absurd (k.1 a l h.0)
      | inr g ↦ elim (cases_lt b a) [ inl l ↦ absurd (h.1 b l k.0) | inr g' ↦ omega arith ]
    ]
