-- What is seen at the front of a stream is what is cut there.
use Rattle.std.proofs.Common.{◌≡◌, ◌⊎◌, ℕ, suc, ◌+◌, ◌-◌, ◌≤◌, ◌<◌, List, [], ◌∷◌, ◌++◌, length, get_or, take, drop, Bool, true, false, refl, sym, ap, ◌∙◌, subst, inl, inr, arith}
use Rattle.std.specs.Prelude.{◌==◌, ◌&&◌, not, nat_lt, if◌then◌else◌}
use Rattle.std.proofs.lemmas.Bool.{cases_Bool, cases_lt, lt-ltb, le-ltb, ltb-true}
use Rattle.std.proofs.lemmas.Bool.Decides.{Decides-eqb, nat_tests}
use Rattle.std.proofs.lemmas.List.{drop-drop, drop_all, get_or_append_left, length-append}
use Rattle.flash_base.specs.Numbers.{number2, number4}
use Rattle.doip_frame.specs.declared.frame.Bad.TheVariants.{Pattern, Length, TooLarge}
use Rattle.doip_frame.specs.declared.cut.Look.{Look}
use Rattle.doip_frame.specs.declared.cut.Look.TheVariants.{Part, Refused, Complete}
use Rattle.doip_frame.specs.Frame.{Cut, cut_frame, cut_sized, is_length, Partial, Wrong, Whole}
use Rattle.doip_frame.specs.Deframe.{EndsThere, Stops, is_partial}
use Rattle.doip_frame.specs.Look.{Cuts, look_of, look_sized, two_at, four_at, missing_of}

-- a header of these eight bytes
module _ (k1 k0 l3 l2 l1 l0 : ℕ) (rest : List ℕ) where
  abbrev whole : List ℕ
  whole = 3 ∷ 252 ∷ k1 ∷ k0 ∷ l3 ∷ l2 ∷ l1 ∷ l0 ∷ rest

  sized : (kind n : ℕ) → cut_frame whole ≡ cut_sized kind n rest → Cuts (look_sized kind n (length rest)) whole
  sized kind n e = elim (cases_Bool (nat_lt 65600 n)) [
    | inl a ↦ rw a (e ∙ rw a refl)
    | inr a ↦ elim (cases_Bool (is_length kind n)) [
      | inr b ↦ rw (a, b) (e ∙ rw (a, b) refl)
      | inl b ↦ elim (cases_lt (length rest) n) [
        | inl lt ↦ let s : nat_lt (length rest) n ≡ true = lt-ltb _ _ lt in rw (a, b, s) (e ∙ rw (a, b, s) refl)
        | inr ge ↦
            let s : nat_lt (length rest) n ≡ false = le-ltb _ _ ge in
            let d : drop n (drop 8 whole) ≡ drop (8 + n) whole = drop-drop n 8 whole in
            rw (a, b, s) (record {
              cuts = e ∙ rw (a, b, s) (ap (λ (l : List ℕ). Whole kind (take n rest) l) d);
              within = omega (arith, ge);
              few = grind (arith, a);
              form = b;
            })
      ]
    ]
  ]

one : (p : ℕ) → Cuts (look_of (p ∷ [])) (p ∷ [])
one p = elim (cases_Bool (p == 3)) [ inl e ↦ rw e (rw e refl) | inr e ↦ rw e (rw e refl) ]

-- two bytes and more: the pattern is wrong, or it is right and what follows decides
more : (p q : ℕ) (rest : List ℕ) → (p ≡ 3 → q ≡ 252 → Cuts (look_of (3 ∷ 252 ∷ rest)) (3 ∷ 252 ∷ rest)) → Cuts (look_of (p ∷ q ∷ rest)) (p ∷ q ∷ rest)
more p q rest go =
    let t : nat_lt 0 (length (p ∷ q ∷ rest)) ≡ true = lt-ltb _ _ (omega arith) in
    let u : nat_lt 1 (length (p ∷ q ∷ rest)) ≡ true = lt-ltb _ _ (omega arith) in
    elim (cases_Bool (p == 3)) [
      | inr e ↦ rw (t, e) (rw e refl)
      | inl e ↦ elim (cases_Bool (q == 252)) [
        | inr f ↦ rw (t, e, u, f) (rw (e, f) refl)
        | inl f ↦
            let p3 : p ≡ 3 = (Decides-eqb p 3).0 e in
            let q252 : q ≡ 252 = (Decides-eqb q 252).0 f in
            subst (λ (x : ℕ). Cuts (look_of (x ∷ q ∷ rest)) (x ∷ q ∷ rest)) (sym p3) (subst (λ (y : ℕ). Cuts (look_of (3 ∷ y ∷ rest)) (3 ∷ y ∷ rest)) (sym q252) (go p3 q252))
      ]
    ]

big : (k1 k0 l3 l2 l1 l0 : ℕ) (rest : List ℕ) → Cuts (look_of (3 ∷ 252 ∷ k1 ∷ k0 ∷ l3 ∷ l2 ∷ l1 ∷ l0 ∷ rest)) (3 ∷ 252 ∷ k1 ∷ k0 ∷ l3 ∷ l2 ∷ l1 ∷ l0 ∷ rest)
big k1 k0 l3 l2 l1 l0 rest =
    let n : ℕ = suc (suc (suc (suc (suc (suc (suc (suc (length rest)))))))) in
    let t : nat_lt 0 n ≡ true = lt-ltb _ _ (omega arith) in
    let u : nat_lt 1 n ≡ true = lt-ltb _ _ (omega arith) in
    let v : nat_lt n 8 ≡ false = le-ltb _ _ (omega arith) in
    let w : n - 8 ≡ length rest = omega arith in
    rw (t, u, v, w) (sized k1 k0 l3 l2 l1 l0 rest (number2 k1 k0) (number4 l3 l2 l1 l0) refl)

pub cuts : (s : List ℕ) → Cuts (look_of s) s
cuts [] = refl
cuts (p ∷ []) = one p
cuts (p ∷ q ∷ []) = more p q ([]) (λ a b. refl)
cuts (p ∷ q ∷ x0 ∷ []) = more p q (x0 ∷ []) (λ a b. refl)
cuts (p ∷ q ∷ x0 ∷ x1 ∷ []) = more p q (x0 ∷ x1 ∷ []) (λ a b. refl)
cuts (p ∷ q ∷ x0 ∷ x1 ∷ x2 ∷ []) = more p q (x0 ∷ x1 ∷ x2 ∷ []) (λ a b. refl)
cuts (p ∷ q ∷ x0 ∷ x1 ∷ x2 ∷ x3 ∷ []) = more p q (x0 ∷ x1 ∷ x2 ∷ x3 ∷ []) (λ a b. refl)
cuts (p ∷ q ∷ x0 ∷ x1 ∷ x2 ∷ x3 ∷ x4 ∷ []) = more p q (x0 ∷ x1 ∷ x2 ∷ x3 ∷ x4 ∷ []) (λ a b. refl)
cuts (p ∷ q ∷ x0 ∷ x1 ∷ x2 ∷ x3 ∷ x4 ∷ x5 ∷ rest) = more p q (x0 ∷ x1 ∷ x2 ∷ x3 ∷ x4 ∷ x5 ∷ rest) (λ a b. big x0 x1 x2 x3 x4 x5 rest)

-- ------ what may still come
pub ends_there : (s : List ℕ) → ((kind size : ℕ) → look_of s ≡ Complete kind size → length s ≤ 8 + size) → EndsThere (cut_frame s)
ends_there s fits = go (look_of s) refl (cuts s)
  where
    go : (l : Look) → look_of s ≡ l → Cuts l s → EndsThere (cut_frame s)
    go Part e is = rw is tt
    go (Refused bad) e is = rw is tt
    go (Complete kind size) e w = rw w.cuts (drop_all (8 + size) s (fits kind size e))

abbrev pub chain : Bool → Bool → Bool → Look → Look
chain a b c l = if a then Refused Pattern else if b then Refused Pattern else if c then Part else l

chain_complete : (a b c : Bool) (l : Look) (kind size : ℕ) → chain a b c l ≡ Complete kind size → (c ≡ false) × (l ≡ Complete kind size)
chain_complete true b c l kind size e = cc
chain_complete false true c l kind size e = cc
chain_complete false false true l kind size e = cc
chain_complete false false false l kind size e = (refl, e)

chain_part : (a b c : Bool) (l : Look) → chain a b c l ≡ Part → (c ≡ true) ⊎ (l ≡ Part)
chain_part true b c l e = cc
chain_part false true c l e = cc
chain_part false false true l e = inl refl
chain_part false false false l e = inr e

abbrev pub steps : Bool → Bool → Bool → ℕ → ℕ → Look
steps a b c kind n = if a then Refused (TooLarge n) else if not b then Refused (Length kind) else if c then Part else Complete kind n

steps_complete : (a b c : Bool) (k n kind size : ℕ) → steps a b c k n ≡ Complete kind size → size ≡ n
steps_complete true b c k n kind size e = cc
steps_complete false false c k n kind size e = cc
steps_complete false true true k n kind size e = cc
steps_complete false true false k n kind size e = cc

steps_part : (a b c : Bool) (k n : ℕ) → steps a b c k n ≡ Part → c ≡ true
steps_part true b c k n e = cc
steps_part false false c k n e = cc
steps_part false true true k n e = refl
steps_part false true false k n e = cc

-- the header says how long the frame is
complete_size : (s : List ℕ) (kind size : ℕ) → look_of s ≡ Complete kind size → (8 ≤ length s) × (size ≡ four_at s 4)
complete_size s kind size e =
    let (c, l) = chain_complete (nat_lt 0 (length s) && not (get_or s 0 0 == 3)) (nat_lt 1 (length s) && not (get_or s 1 0 == 252)) (nat_lt (length s) 8) (look_sized (two_at s 2) (four_at s 4) (length s - 8)) kind size e in
    let n = steps_complete (nat_lt 65600 (four_at s 4)) (is_length (two_at s 2) (four_at s 4)) (nat_lt (length s - 8) (four_at s 4)) (two_at s 2) (four_at s 4) kind size l in
    (grind (arith, nat_tests, c), n)

pub part_size : (s : List ℕ) → look_of s ≡ Part → (length s < 8) ⊎ (length s < 8 + four_at s 4)
part_size s e = elim (chain_part (nat_lt 0 (length s) && not (get_or s 0 0 == 3)) (nat_lt 1 (length s) && not (get_or s 1 0 == 252)) (nat_lt (length s) 8) (look_sized (two_at s 2) (four_at s 4) (length s - 8)) e) [
  | inl c ↦ let lt : length s < 8 = ltb-true _ _ c in inl lt
  | inr l ↦
      let c = steps_part (nat_lt 65600 (four_at s 4)) (is_length (two_at s 2) (four_at s 4)) (nat_lt (length s - 8) (four_at s 4)) (two_at s 2) (four_at s 4) l in
      let lt : length s - 8 < four_at s 4 = ltb-true _ _ c in
      inr (omega (arith, lt))
]

-- what is partial is seen so
part_seen : (s : List ℕ) → cut_frame s ≡ Partial → look_of s ≡ Part
part_seen s e = go (look_of s) (cuts s)
  where
    go : (l : Look) → Cuts l s → l ≡ Part
    go Part is = refl
    go (Refused bad) is = let x : Partial ≡ Wrong bad = sym e ∙ is in cc
    go (Complete kind size) w = let x : Partial ≡ Whole kind (take size (drop 8 s)) (drop (8 + size) s) = sym e ∙ w.cuts in cc

-- no more than is missing is no more than a frame
pub missing_ends : (s xs : List ℕ) → cut_frame s ≡ Partial → length xs ≤ missing_of s → EndsThere (cut_frame (s ++ xs))
missing_ends s xs e few = ends_there (s ++ xs) (λ kind size is.
    let l : length (s ++ xs) ≡ length s + length xs = length-append s xs in
    elim (cases_lt (length s) 8) [
      | inl lt ↦
          let t : nat_lt (length s) 8 ≡ true = lt-ltb _ _ lt in
          let m : missing_of s ≡ 8 - length s = rw t refl in
          omega (arith, l, m, few, lt)
      | inr ge ↦
          let t : nat_lt (length s) 8 ≡ false = le-ltb _ _ ge in
          let m : missing_of s ≡ 8 + four_at s 4 - length s = rw t refl in
          let n : size ≡ four_at (s ++ xs) 4 = (complete_size (s ++ xs) kind size is).1 in
          let b4 : get_or (s ++ xs) 4 0 ≡ get_or s 4 0 = get_or_append_left s xs 0 4 (omega (arith, ge)) in
          let b5 : get_or (s ++ xs) 5 0 ≡ get_or s 5 0 = get_or_append_left s xs 0 5 (omega (arith, ge)) in
          let b6 : get_or (s ++ xs) 6 0 ≡ get_or s 6 0 = get_or_append_left s xs 0 6 (omega (arith, ge)) in
          let b7 : get_or (s ++ xs) 7 0 ≡ get_or s 7 0 = get_or_append_left s xs 0 7 (omega (arith, ge)) in
          let same : four_at (s ++ xs) 4 ≡ four_at s 4 = rw (b4, b5, b6, b7) refl in
          elim (part_size s (part_seen s e)) [
            | inl lt ↦ absurd (omega (arith, lt, ge))
            | inr lt ↦ omega (arith, l, m, n, same, few, lt)
          ]
    ])

pub missing_some : (s : List ℕ) → cut_frame s ≡ Partial → 1 ≤ missing_of s
missing_some s e = elim (cases_lt (length s) 8) [
  | inl lt ↦
      let t : nat_lt (length s) 8 ≡ true = lt-ltb _ _ lt in
      let m : missing_of s ≡ 8 - length s = rw t refl in
      omega (arith, m, lt)
  | inr ge ↦
      let t : nat_lt (length s) 8 ≡ false = le-ltb _ _ ge in
      let m : missing_of s ≡ 8 + four_at s 4 - length s = rw t refl in
      elim (part_size s (part_seen s e)) [
        | inl lt ↦ absurd (omega (arith, lt, ge))
        | inr lt ↦ omega (arith, m, lt)
      ]
]

pub partial_from : (cut : Cut) → is_partial cut ≡ true → cut ≡ Partial
partial_from Partial e = refl
partial_from (Wrong bad) e = cc
partial_from (Whole kind payload more) e = cc

pub stops_from : (cut : Cut) (unused : List ℕ) → EndsThere cut → (is_partial cut ≡ true → unused ≡ []) → Stops cut unused
stops_from Partial unused ends used = used refl
stops_from (Wrong bad) unused ends used = tt
stops_from (Whole kind payload more) unused ends used = ends

steps_small : (a b c : Bool) (k n : ℕ) → steps a b c k n ≡ Part → a ≡ false
steps_small true b c k n e = cc
steps_small false b c k n e = refl

-- the beginning of a frame is shorter than the longest
pub part_bound : (s : List ℕ) → cut_frame s ≡ Partial → length s < 65608
part_bound s is =
    let e = part_seen s is in
    elim (chain_part (nat_lt 0 (length s) && not (get_or s 0 0 == 3)) (nat_lt 1 (length s) && not (get_or s 1 0 == 252)) (nat_lt (length s) 8) (look_sized (two_at s 2) (four_at s 4) (length s - 8)) e) [
      | inl c ↦ let lt : length s < 8 = ltb-true _ _ c in omega (arith, lt)
      | inr l ↦
          let c = steps_part (nat_lt 65600 (four_at s 4)) (is_length (two_at s 2) (four_at s 4)) (nat_lt (length s - 8) (four_at s 4)) (two_at s 2) (four_at s 4) l in
          let a : nat_lt 65600 (four_at s 4) ≡ false = steps_small (nat_lt 65600 (four_at s 4)) (is_length (two_at s 2) (four_at s 4)) (nat_lt (length s - 8) (four_at s 4)) (two_at s 2) (four_at s 4) l in
          let lt : length s - 8 < four_at s 4 = ltb-true _ _ c in
          let few : four_at s 4 ≤ 65600 = grind (arith, a) in
          omega (arith, lt, few)
    ]
