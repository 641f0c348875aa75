-- What is read is in the grammar, and what is in the grammar is read.
use Rattle.std.proofs.Common.{◌≡◌, ℕ, zero, suc, ◌+◌, ◌-◌, ◌*◌, ◌/◌, ◌%◌, ◌<◌, ◌≤◌, true, false, List, [], ◌∷◌, ◌++◌, length, take, drop, Some, None, refl, sym, ◌∙◌, ap, subst, inl, inr, arith, length-append, length-drop}
use Rattle.std.specs.Prelude.{Bool, nat_lt, nat_le, ◌==◌, ◌&&◌, ◌||◌, Option, if◌then◌else◌}
use Rattle.std.proofs.lemmas.Bool.{cases_Bool, le-leb}
use Rattle.std.proofs.lemmas.Bool.Decides.{Decides-eqb, nat_tests}
use Rattle.std.proofs.lemmas.List.{take-append-drop, length-take-le, take_all, drop_all, take_at, drop_at}
use Rattle.flash_base.specs.Numbers.{number2, number_of, number_after, big_endian, pow256}
use Rattle.flash_base.specs.declared.unit.Width.{Width}
use Rattle.uds_codec.specs.declared.request.Request.{Request}
use Rattle.uds_codec.specs.declared.request.Request.TheVariants.{Session, Seed, Key, ReadId, Routine, Download, Upload, Transfer, Pull, Exit, Reset, Setting, Messages}
use Rattle.uds_codec.specs.Form.{IsLevel, IsRange, AreBytes}
use Rattle.uds_codec.specs.Laws.{Spells, SpellsLoad, AreNumbers, IsWritten}
use Rattle.uds_codec.specs.Request.{spelled, request_of, range_with, range_bytes, load_in, load_of, Range, is_size_width, is_at_width}
use Rattle.uds_codec.proofs.Numbers.{size_width_ok, at_width_ok}
use Rattle.uds_codec.proofs.Written.{read_again, key_read, transfer_read}

some_is : (q r : Request) → Some q ≡ Some r → q ≡ r
some_is q r e = cc

chosen : (b : Bool) (x r : Request) → (if b then Some x else None) ≡ Some r → (b ≡ true) × (x ≡ r)
chosen true x r e = (refl, cc)
chosen false x r e = cc

refused : (b : Bool) (o : Option Request) (r : Request) → (if b then None else o) ≡ Some r → (b ≡ false) × (o ≡ Some r)
refused true o r e = cc
refused false o r e = (refl, e)

pub and_true : (a b : Bool) → (a && b) ≡ true → (a ≡ true) × (b ≡ true)
and_true true b e = (refl, e)
and_true false b e = cc

or_false : (a b : Bool) → (a || b) ≡ false → (a ≡ false) × (b ≡ false)
or_false true b e = cc
or_false false b e = (refl, e)

pub le_of : (a b : ℕ) → nat_le a b ≡ true → a ≤ b
le_of a b e = grind (arith, nat_tests, e)

pub eq_of : (a b : ℕ) → (a == b) ≡ true → a ≡ b
eq_of a b e = (Decides-eqb a b).0 e

session_found : (rest : List ℕ) (r : Request) → request_of (16 ∷ rest) ≡ Some r → Spells r (16 ∷ rest)
session_found [] r e = cc
session_found (k ∷ []) r e =
    let (t, is) = chosen (nat_le 1 k && nat_le k 3) (Session k) r e in
    let (a, b) = and_true (nat_le 1 k) (nat_le k 3) t in
    subst (λ (q : Request). Spells q (16 ∷ k ∷ [])) is (refl, (le_of 1 k a, le_of k 3 b))
session_found (k ∷ x ∷ more) r e = cc

reset_found : (rest : List ℕ) (r : Request) → request_of (17 ∷ rest) ≡ Some r → Spells r (17 ∷ rest)
reset_found [] r e = cc
reset_found (k ∷ []) r e =
    let (t, is) = chosen (k == 1) Reset r e in
    subst (λ (q : Request). Spells q (17 ∷ k ∷ [])) is (ap (λ (n : ℕ). 17 ∷ n ∷ []) (eq_of k 1 t))
reset_found (k ∷ x ∷ more) r e = cc

read_id_found : (rest : List ℕ) (r : Request) → request_of (34 ∷ rest) ≡ Some r → Spells r (34 ∷ rest)
read_id_found [] r e = cc
read_id_found (a ∷ []) r e = cc
read_id_found (a ∷ b ∷ []) r e =
    let is : ReadId (number2 a b) ≡ r = cc in
    subst (λ (q : Request). Spells q (34 ∷ a ∷ b ∷ [])) is (a, b, refl, refl)
read_id_found (a ∷ b ∷ c ∷ more) r e = cc

security_found : (rest : List ℕ) (r : Request) → request_of (39 ∷ rest) ≡ Some r → Spells r (39 ∷ rest)
security_found [] r e = cc
security_found (level ∷ key) r e =
    let (out, e1) = refused (nat_lt 126 level || level == 0) (if level % 2 == 1 then (if length key == 0 then Some (Seed level) else None)
    else if nat_le 1 (length key) && nat_le (length key) 32 then Some (Key (level - 1) key) else None) r e in
    let (high, low) = or_false (nat_lt 126 level) (level == 0) out in
    let most : level ≤ 126 = grind (arith, nat_tests, high) in
    let some : 1 ≤ level = grind (arith, nat_tests, low) in
    elim (cases_Bool (level % 2 == 1)) [
      | inl o ↦
          let odd : level % 2 ≡ 1 = eq_of (level % 2) 1 o in
          let (t, is) = chosen (length key == 0) (Seed level) r (rw o at e1) in
          let none : key ≡ [] = empty key (eq_of (length key) 0 t) in
          let below : level ≤ 125 = omega (arith, most, odd) in
          subst (λ (q : Request). Spells q (39 ∷ level ∷ key)) is (ap (λ (l : List ℕ). 39 ∷ level ∷ l) none, record { odd = odd; most = below })
      | inr o ↦
          let even : level % 2 ≡ 0 = grind (arith, nat_tests, o) in
          let (t, is) = chosen (nat_le 1 (length key) && nat_le (length key) 32) (Key (level - 1) key) r (rw o at e1) in
          let (a, b) = and_true (nat_le 1 (length key)) (nat_le (length key) 32) t in
          let back : level ≡ level - 1 + 1 = omega (arith, some) in
          let odd : (level - 1) % 2 ≡ 1 = omega (arith, some, even) in
          let below : level - 1 ≤ 125 = omega (arith, most) in
          subst (λ (q : Request). Spells q (39 ∷ level ∷ key)) is
          (ap (λ (n : ℕ). 39 ∷ n ∷ key) back, record { odd = odd; most = below }, record { least = le_of 1 (length key) a; most = le_of (length key) 32 b })
    ]
  where
    empty : (xs : List ℕ) → length xs ≡ 0 → xs ≡ []
    empty [] h = refl
    empty (x ∷ xs) h = absurd (omega (arith, h))

routine_found : (rest : List ℕ) (r : Request) → request_of (49 ∷ rest) ≡ Some r → Spells r (49 ∷ rest)
routine_found [] r e = cc
routine_found (k ∷ []) r e = cc
routine_found (k ∷ a ∷ []) r e = cc
routine_found (k ∷ a ∷ b ∷ option) r e =
    let (t, is) = chosen (k == 1) (Routine (number2 a b) option) r e in
    subst (λ (q : Request). Spells q (49 ∷ k ∷ a ∷ b ∷ option)) is (a, b, ap (λ (n : ℕ). 49 ∷ n ∷ a ∷ b ∷ option) (eq_of k 1 t), refl)

transfer_found : (rest : List ℕ) (r : Request) → request_of (54 ∷ rest) ≡ Some r → Spells r (54 ∷ rest)
transfer_found [] r e = cc
transfer_found (c ∷ []) r e = let is : Pull c ≡ r = cc in subst (λ (q : Request). Spells q (54 ∷ c ∷ [])) is refl
transfer_found (c ∷ x ∷ body) r e =
    let (t, is) = chosen (nat_le (length body) 65532) (Transfer c (x ∷ body)) r e in
    let few : length body ≤ 65532 = le_of (length body) 65532 t in
    subst (λ (q : Request). Spells q (54 ∷ c ∷ x ∷ body)) is (refl, record { least = omega arith; most = omega (arith, few) })

exit_found : (rest : List ℕ) (r : Request) → request_of (55 ∷ rest) ≡ Some r → Spells r (55 ∷ rest)
exit_found [] r e = let is : Exit ≡ r = cc in subst (λ (q : Request). Spells q (55 ∷ [])) is refl
exit_found (x ∷ more) r e = cc

setting_found : (rest : List ℕ) (r : Request) → request_of (133 ∷ rest) ≡ Some r → Spells r (133 ∷ rest)
setting_found [] r e = cc
setting_found (code ∷ []) r e = elim (cases_Bool (code == 1)) [
  | inl t ↦
      let is : Setting false ≡ r = some_is (Setting false) r (rw t at e) in
      subst (λ (q : Request). Spells q (133 ∷ code ∷ [])) is (ap (λ (n : ℕ). 133 ∷ n ∷ []) (eq_of code 1 t))
  | inr f ↦
      let (t, is) = chosen (code == 2) (Setting true) r (rw f at e) in
      subst (λ (q : Request). Spells q (133 ∷ code ∷ [])) is (ap (λ (n : ℕ). 133 ∷ n ∷ []) (eq_of code 2 t))
]
setting_found (code ∷ x ∷ more) r e = cc

messages_found : (rest : List ℕ) (r : Request) → request_of (40 ∷ rest) ≡ Some r → Spells r (40 ∷ rest)
messages_found [] r e = cc
messages_found (code ∷ []) r e = cc
messages_found (code ∷ kind ∷ []) r e = elim (cases_Bool (kind == 1 && code == 0)) [
  | inl t ↦
      let is : Messages false ≡ r = some_is (Messages false) r (rw t at e) in
      subst (λ (q : Request). Spells q (40 ∷ code ∷ kind ∷ [])) is (coded code kind 0 t)
  | inr f ↦
      let (t, is) = chosen (kind == 1 && code == 3) (Messages true) r (rw f at e) in
      subst (λ (q : Request). Spells q (40 ∷ code ∷ kind ∷ [])) is (coded code kind 3 t)
]
  where
    coded : (code kind n : ℕ) → (kind == 1 && code == n) ≡ true → 40 ∷ code ∷ kind ∷ [] ≡ 40 ∷ n ∷ 1 ∷ []
    coded code kind n t =
        let (k, c) = and_true (kind == 1) (code == n) t in
        ap (λ (x : ℕ). 40 ∷ x ∷ kind ∷ []) (eq_of code n c) ∙ ap (λ (x : ℕ). 40 ∷ n ∷ x ∷ []) (eq_of kind 1 k)
messages_found (code ∷ kind ∷ x ∷ more) r e = cc

-- ------ downloads and uploads
has_range : (load : Width → ℕ → ℕ → Request) (b : Bool) (g : Range) (r : Request) → load_in load (if b then Some g else None) ≡ Some r → (b ≡ true) × (load_in load (Some g) ≡ Some r)
has_range load true g r e = (refl, e)
has_range load false g r e = cc

pub size_width_of : (n : ℕ) → is_size_width n ≡ true → (1 ≤ n) × (n ≤ 4)
size_width_of n e = let (a, b) = and_true (nat_le 1 n) (nat_le n 4) e in (le_of 1 n a, le_of n 4 b)

pub at_width_of : (n : ℕ) → is_at_width n ≡ true → (1 ≤ n) × (n ≤ 5)
at_width_of n e = let (a, b) = and_true (nat_le 1 n) (nat_le n 5) e in (le_of 1 n a, le_of n 5 b)

-- a service whose requests are of an area
module _ (sid : ℕ) (load : Width → ℕ → ℕ → Request) (spells : (width : Width) (at size : ℕ) (bytes : List ℕ) → SpellsLoad sid width at size bytes → Spells (load width at size) bytes) where
  range_found : (digits : ℕ) (rest : List ℕ) (r : Request) → load_in load (range_with (digits / 16) (digits % 16) rest) ≡ Some r → Spells r (sid ∷ 0 ∷ digits ∷ rest)
  range_found digits rest r e =
      let z : ℕ = digits / 16 in
      let a : ℕ = digits % 16 in
      let g : Range = record { width = record { size = z; at = a }; at = number_of (take a rest); size = number_of (take z (drop a rest)); more = drop z (drop a rest) } in
      let (t, e1) = has_range load (is_size_width z && is_at_width a && nat_le (a + z) (length rest)) g r e in
      let (ws, le) = and_true (is_size_width z && is_at_width a) (nat_le (a + z) (length rest)) t in
      let (wz, wa) = and_true (is_size_width z) (is_at_width a) ws in
      let (z1, z4) = size_width_of z wz in
      let (a1, a5) = at_width_of a wa in
      let fits : a + z ≤ length rest = le_of (a + z) (length rest) le in
      let (m, is) = chosen (length (drop z (drop a rest)) == 0) (load (record { size = z; at = a }) (number_of (take a rest)) (number_of (take z (drop a rest)))) r e1 in
      let none : length (drop z (drop a rest)) ≡ 0 = eq_of _ 0 m in
      let la : length (drop a rest) ≡ length rest - a = length-drop a rest in
      let lz : length (drop z (drop a rest)) ≡ length (drop a rest) - z = length-drop z (drop a rest) in
      let all : take z (drop a rest) ≡ drop a rest = take_all z (drop a rest) (omega (arith, la, lz, none, fits)) in
      let digits_are : digits ≡ z * 16 + a = omega arith in
      let joined : rest ≡ take a rest ++ take z (drop a rest) = sym (take-append-drop a rest) ∙ ap (λ (l : List ℕ). take a rest ++ l) (sym all) in
      let same : sid ∷ 0 ∷ digits ∷ rest ≡ sid ∷ 0 ∷ (z * 16 + a) ∷ (take a rest ++ take z (drop a rest)) =
      ap (λ (n : ℕ). sid ∷ 0 ∷ n ∷ rest) digits_are ∙ ap (λ (l : List ℕ). sid ∷ 0 ∷ (z * 16 + a) ∷ l) joined in
      subst (λ (q : Request). Spells q (sid ∷ 0 ∷ digits ∷ rest)) is (spells (record { size = z; at = a }) (number_of (take a rest)) (number_of (take z (drop a rest))) (sid ∷ 0 ∷ digits ∷ rest) (
        take a rest,
        take z (drop a rest),
        same,
        record {
          address_length = length-take-le a rest (omega (arith, fits));
          amount_length = length-take-le z (drop a rest) (omega (arith, la, fits));
          address_number = refl;
          amount_number = refl;
        },
        record { some_size = z1; few_size = z4; some_at = a1; few_at = a5 },
      ))

  load_found : (rest : List ℕ) (r : Request) → load_of load rest ≡ Some r → Spells r (sid ∷ rest)
  load_found [] r e = cc
  load_found (form ∷ rest) r e = elim (cases_Bool (form == 0)) [
    | inl f ↦ subst (λ (n : ℕ). load_of load (n ∷ rest) ≡ Some r → Spells r (sid ∷ n ∷ rest)) (sym (eq_of form 0 f)) (zero_form rest) e
    | inr f ↦ let none : None ≡ Some r = rw f at e in cc
  ]
    where
      zero_form : (rest : List ℕ) → load_of load (0 ∷ rest) ≡ Some r → Spells r (sid ∷ 0 ∷ rest)
      zero_form [] e = cc
      zero_form (digits ∷ rest) e = range_found digits rest r e

found_at : (n sid : ℕ) (rest : List ℕ) (r : Request) → (sid == n) ≡ true → (request_of (n ∷ rest) ≡ Some r → Spells r (n ∷ rest)) → request_of (sid ∷ rest) ≡ Some r → Spells r (sid ∷ rest)
found_at n sid rest r t f = subst (λ (x : ℕ). request_of (x ∷ rest) ≡ Some r → Spells r (x ∷ rest)) (sym (eq_of sid n t)) f

pub found : (bytes : List ℕ) (r : Request) → request_of bytes ≡ Some r → Spells r bytes
found [] r e = cc
found (sid ∷ rest) r e = elim (cases_Bool (sid == 16)) [
  | inl t ↦ found_at 16 sid rest r t (session_found rest r) e
  | inr e16 ↦ elim (cases_Bool (sid == 17)) [
    | inl t ↦ found_at 17 sid rest r t (reset_found rest r) e
    | inr e17 ↦ elim (cases_Bool (sid == 34)) [
      | inl t ↦ found_at 34 sid rest r t (read_id_found rest r) e
      | inr e34 ↦ elim (cases_Bool (sid == 39)) [
        | inl t ↦ found_at 39 sid rest r t (security_found rest r) e
        | inr e39 ↦ elim (cases_Bool (sid == 49)) [
          | inl t ↦ found_at 49 sid rest r t (routine_found rest r) e
          | inr e49 ↦ elim (cases_Bool (sid == 52)) [
            | inl t ↦ found_at 52 sid rest r t (load_found 52 Download (λ w a n l h. h) rest r) e
            | inr e52 ↦ elim (cases_Bool (sid == 53)) [
              | inl t ↦ found_at 53 sid rest r t (load_found 53 Upload (λ w a n l h. h) rest r) e
              | inr e53 ↦ elim (cases_Bool (sid == 54)) [
                | inl t ↦ found_at 54 sid rest r t (transfer_found rest r) e
                | inr e54 ↦ elim (cases_Bool (sid == 55)) [
                  | inl t ↦ found_at 55 sid rest r t (exit_found rest r) e
                  | inr e55 ↦ elim (cases_Bool (sid == 133)) [
                    | inl t ↦ found_at 133 sid rest r t (setting_found rest r) e
                    | inr e133 ↦ elim (cases_Bool (sid == 40)) [
                      | inl t ↦ found_at 40 sid rest r t (messages_found rest r) e
                      | inr e40 ↦ let none : None ≡ Some r = rw (e16, e17, e34, e39, e49, e52, e53, e54, e55, e133, e40) at e in cc
                    ]
                  ]
                ]
              ]
            ]
          ]
        ]
      ]
    ]
  ]
]

-- ------ what is in the grammar is read
pub range_only : (load : Width → ℕ → ℕ → Request) (s a at size : ℕ) (xs ys : List ℕ) → 1 ≤ s → s ≤ 4 → 1 ≤ a → a ≤ 5 → AreNumbers s a at size xs ys
    → load_of load (0 ∷ (s * 16 + a) ∷ (xs ++ ys)) ≡ Some (load (record { size = s; at = a }) at size)
range_only load s a at size xs ys s1 s4 a1 a5 n =
    let hi : (s * 16 + a) / 16 ≡ s = omega (arith, a5) in
    let lo : (s * 16 + a) % 16 ≡ a = omega (arith, a5) in
    let ws = size_width_ok s s1 s4 in
    let wa = at_width_ok a a1 a5 in
    let lx : length xs ≡ a = n.address_length in
    let ly : length ys ≡ s = n.amount_length in
    let l : nat_le (a + s) (length (xs ++ ys)) ≡ true = le-leb _ _ (omega (arith, length-append xs ys, lx, ly)) in
    let t : take a (xs ++ ys) ≡ xs = take_at xs ys a lx in
    let d : drop a (xs ++ ys) ≡ ys = drop_at xs ys a lx in
    let t2 : take s ys ≡ ys = take_all s ys (omega (arith, ly)) in
    let d2 : drop s ys ≡ [] = drop_all s ys (omega (arith, ly)) in
    let at_is = n.address_number in
    let size_is = n.amount_number in
    rw (hi, lo, ws, wa, l, t, d, t2, d2, at_is, size_is) refl

-- a service whose requests are of an area
module _ (sid : ℕ) (load : Width → ℕ → ℕ → Request) (reads : (rest : List ℕ) → request_of (sid ∷ rest) ≡ load_of load rest) where
  pub load_only : (width : Width) (at size : ℕ) (bytes : List ℕ) → SpellsLoad sid width at size bytes → request_of bytes ≡ Some (load width at size)
  load_only width at size bytes h =
      let w = h.4 in
      ap request_of h.2 ∙ reads (0 ∷ (width.size * 16 + width.at) ∷ (h.0 ++ h.1)) ∙ range_only load width.size width.at at size h.0 h.1 w.some_size w.few_size w.some_at w.few_at h.3

seed_only : (level : ℕ) → IsLevel level → request_of (39 ∷ level ∷ []) ≡ Some (Seed level)
seed_only level l = read_again (Seed level) l tt

pub only : (bytes : List ℕ) (r : Request) → Spells r bytes → request_of bytes ≡ Some r
only bytes (Session kind) h = ap request_of h.0 ∙ read_again (Session kind) h.1 tt
only bytes Reset h = ap request_of h
only bytes (ReadId did) h = ap request_of h.2 ∙ ap (λ (n : ℕ). Some (ReadId n)) (sym h.3)
only bytes (Seed level) h = ap request_of h.0 ∙ seed_only level h.1
only bytes (Key level key) h = ap request_of h.0 ∙ key_read level key h.1 h.2
only bytes (Routine id option) h = ap request_of h.2 ∙ ap (λ (n : ℕ). Some (Routine n option)) (sym h.3)
only bytes (Download width at size) h = load_only 52 Download (λ l. refl) width at size bytes h
only bytes (Upload width at size) h = load_only 53 Upload (λ l. refl) width at size bytes h
only bytes (Transfer counter body) h = ap request_of h.0 ∙ transfer_read counter body h.1
only bytes (Pull counter) h = ap request_of h
only bytes Exit h = ap request_of h
only bytes (Setting true) h = ap request_of h
only bytes (Setting false) h = ap request_of h
only bytes (Messages true) h = ap request_of h
only bytes (Messages false) h = ap request_of h

-- ------ and written so
record Split (n : ℕ) (xs : List ℕ) : Type 0 where
  pub front : List ℕ
  pub last : ℕ
  pub is : xs ≡ front ++ last ∷ []
  pub size : length front ≡ n

split : (n : ℕ) (xs : List ℕ) → length xs ≡ suc n → Split n xs
split n [] h = absurd (omega (arith, h))
split zero (x ∷ []) h = record { front = []; last = x; is = refl; size = refl }
split (suc n) (x ∷ []) h = absurd (omega (arith, h))
split zero (x ∷ y ∷ xs) h = absurd (omega (arith, h))
split (suc n) (x ∷ y ∷ xs) h =
    let again = split n (y ∷ xs) (omega (arith, h)) in
    record { front = x ∷ again.front; last = again.last; is = ap (λ (l : List ℕ). x ∷ l) again.is; size = let e = again.size in omega (arith, e) }

number_push : (n : ℕ) (xs : List ℕ) (b : ℕ) → number_after n (xs ++ (b ∷ [])) ≡ number_after n xs * 256 + b
number_push n [] b = refl
number_push n (x ∷ xs) b = number_push (n * 256 + x) xs b

front_bytes : (xs ys : List ℕ) → AreBytes (xs ++ ys) → AreBytes xs
front_bytes [] ys b = tt
front_bytes (x ∷ xs) ys b = (b.0, front_bytes xs ys b.1)

back_bytes : (xs ys : List ℕ) → AreBytes (xs ++ ys) → AreBytes ys
back_bytes [] ys b = b
back_bytes (x ∷ xs) ys b = back_bytes xs ys b.1

pub record IsNumber (n : ℕ) (xs : List ℕ) : Type 0 where
  pub same : big_endian n (number_of xs) ≡ xs
  pub fits : number_of xs < pow256 n

pub big_again : (n : ℕ) (xs : List ℕ) → length xs ≡ n → AreBytes xs → IsNumber n xs
big_again zero [] h b = record { same = refl; fits = omega arith }
big_again zero (x ∷ xs) h b = absurd (omega (arith, h))
big_again (suc n) xs h b =
    let s = split n xs h in
    let both : AreBytes (s.front ++ s.last ∷ []) = subst AreBytes s.is b in
    let again = big_again n s.front s.size (front_bytes s.front (s.last ∷ []) both) in
    let small : s.last < 256 = (back_bytes s.front (s.last ∷ []) both).0 in
    let number : number_of xs ≡ number_of s.front * 256 + s.last = ap number_of s.is ∙ number_push 0 s.front s.last in
    let high : number_of xs / 256 ≡ number_of s.front = omega (arith, number, small) in
    let low : number_of xs % 256 ≡ s.last = omega (arith, number, small) in
    let fits : number_of s.front < pow256 n = again.fits in
    record {
      same = ap (λ (m : ℕ). big_endian n m ++ (number_of xs % 256) ∷ []) high ∙ ap (λ (m : ℕ). big_endian n (number_of s.front) ++ m ∷ []) low
          ∙ ap (λ (l : List ℕ). l ++ s.last ∷ []) again.same ∙ sym s.is;
      fits = omega (arith, number, small, fits);
    }

pair_again : (a b : ℕ) → a < 256 → b < 256 → (number2 a b / 256 % 256 ≡ a) × (number2 a b % 256 ≡ b)
pair_again a b la lb = (omega (arith, la, lb), omega (arith, la, lb))

pair_fits : (a b : ℕ) → a < 256 → b < 256 → number2 a b < 65536
pair_fits a b la lb = omega (arith, la, lb)

range_written : (s a at size : ℕ) (xs ys : List ℕ) → AreBytes (xs ++ ys) → AreNumbers s a at size xs ys
    → (xs ++ ys ≡ big_endian a at ++ big_endian s size) × (at < pow256 a) × (size < pow256 s)
range_written s a at size xs ys b n =
    let x = big_again a xs n.address_length (front_bytes xs ys b) in
    let y = big_again s ys n.amount_length (back_bytes xs ys b) in (
      ap (λ (l : List ℕ). l ++ ys) (sym x.same) ∙ ap (λ (l : List ℕ). big_endian a (number_of xs) ++ l) (sym y.same)
          ∙ ap (λ (m : ℕ). big_endian a m ++ big_endian s (number_of ys)) n.address_number ∙ ap (λ (m : ℕ). big_endian a at ++ big_endian s m) n.amount_number,
      subst (λ (m : ℕ). m < pow256 a) n.address_number x.fits,
      subst (λ (m : ℕ). m < pow256 s) n.amount_number y.fits,
    )

record IsLoad (sid : ℕ) (width : Width) (at size : ℕ) (bytes : List ℕ) : Type 0 where
  pub same : bytes ≡ sid ∷ 0 ∷ range_bytes width at size
  pub form : IsRange width at size

load_written : (sid : ℕ) (width : Width) (at size : ℕ) (bytes : List ℕ) → AreBytes bytes → SpellsLoad sid width at size bytes → IsLoad sid width at size bytes
load_written sid width at size bytes b h =
    let all : AreBytes (sid ∷ 0 ∷ (width.size * 16 + width.at) ∷ (h.0 ++ h.1)) = subst AreBytes h.2 b in
    let r = range_written width.size width.at at size h.0 h.1 all.1.1.1 h.3 in
    record {
      same = h.2 ∙ ap (λ (l : List ℕ). sid ∷ 0 ∷ (width.size * 16 + width.at) ∷ l) r.0;
      form = record { widths = h.4; at_fits = r.1; size_fits = r.2 };
    }

pub written : (bytes : List ℕ) (r : Request) → AreBytes bytes → Spells r bytes → IsWritten bytes r
written bytes (Session kind) b h = record { same = h.0; form = h.1; fits = tt }
written bytes Reset b h = record { same = h; form = tt; fits = tt }
written bytes (ReadId did) b h =
    let all : AreBytes (34 ∷ h.0 ∷ h.1 ∷ []) = subst AreBytes h.2 b in
    let p = pair_again h.0 h.1 all.1.0 all.1.1.0 in
    let here : 34 ∷ h.0 ∷ h.1 ∷ [] ≡ spelled (ReadId (number2 h.0 h.1)) = ap (λ (n : ℕ). 34 ∷ n ∷ h.1 ∷ []) (sym p.0) ∙ ap (λ (n : ℕ). 34 ∷ (number2 h.0 h.1 / 256 % 256) ∷ n ∷ []) (sym p.1) in
    record {
      same = h.2 ∙ here ∙ ap (λ (n : ℕ). spelled (ReadId n)) (sym h.3);
      form = tt;
      fits = subst (λ (n : ℕ). n < 65536) (sym h.3) (pair_fits h.0 h.1 all.1.0 all.1.1.0);
    }
written bytes (Seed level) b h = record { same = h.0; form = h.1; fits = tt }
written bytes (Key level key) b h =
    let all : AreBytes (39 ∷ (level + 1) ∷ key) = subst AreBytes h.0 b in
    record { same = h.0; form = (h.1, h.2); fits = all.1.1 }
written bytes (Routine id option) b h =
    let all : AreBytes (49 ∷ 1 ∷ h.0 ∷ h.1 ∷ option) = subst AreBytes h.2 b in
    let p = pair_again h.0 h.1 all.1.1.0 all.1.1.1.0 in
    let here : 49 ∷ 1 ∷ h.0 ∷ h.1 ∷ option ≡ spelled (Routine (number2 h.0 h.1) option) = ap (λ (n : ℕ). 49 ∷ 1 ∷ n ∷ h.1 ∷ option) (sym p.0) ∙ ap (λ (n : ℕ). 49 ∷ 1 ∷ (number2 h.0 h.1 / 256 % 256) ∷ n ∷ option) (sym p.1) in
    record {
      same = h.2 ∙ here ∙ ap (λ (n : ℕ). spelled (Routine n option)) (sym h.3);
      form = tt;
      fits = (subst (λ (n : ℕ). n < 65536) (sym h.3) (pair_fits h.0 h.1 all.1.1.0 all.1.1.1.0), all.1.1.1.1);
    }
written bytes (Download width at size) b h = let l = load_written 52 width at size bytes b h in record { same = l.same; form = l.form; fits = tt }
written bytes (Upload width at size) b h = let l = load_written 53 width at size bytes b h in record { same = l.same; form = l.form; fits = tt }
written bytes (Transfer counter body) b h =
    let all : AreBytes (54 ∷ counter ∷ body) = subst AreBytes h.0 b in
    record { same = h.0; form = h.1; fits = (all.1.0, all.1.1) }
written bytes (Pull counter) b h =
    let all : AreBytes (54 ∷ counter ∷ []) = subst AreBytes h b in
    record { same = h; form = tt; fits = all.1.0 }
written bytes Exit b h = record { same = h; form = tt; fits = tt }
written bytes (Setting true) b h = record { same = h; form = tt; fits = tt }
written bytes (Setting false) b h = record { same = h; form = tt; fits = tt }
written bytes (Messages true) b h = record { same = h; form = tt; fits = tt }
written bytes (Messages false) b h = record { same = h; form = tt; fits = tt }

pub one_meaning : (bytes : List ℕ) (q r : Request) → Spells q bytes → Spells r bytes → q ≡ r
one_meaning bytes q r g h = some_is q r (sym (only bytes q g) ∙ only bytes r h)

pub one_spelling : (a b : List ℕ) (r : Request) → AreBytes a → AreBytes b → Spells r a → Spells r b → a ≡ b
one_spelling a b r ba bb g h = (written a r ba g).same ∙ sym (written b r bb h).same
