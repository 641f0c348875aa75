-- Bytes begin a request exactly where some bytes behind them make one.
use Rattle.std.proofs.Common.{◌≡◌, ℕ, zero, suc, ◌+◌, ◌-◌, ◌*◌, ◌/◌, ◌%◌, ◌<◌, ◌≤◌, true, false, List, [], ◌∷◌, ◌++◌, length, take, drop, Some, refl, sym, ◌∙◌, ap, subst, inl, inr, arith, length-append, length-drop}
use Rattle.std.specs.Prelude.{Bool, nat_lt, nat_le, ◌==◌, ◌&&◌, ◌||◌, if◌then◌else◌}
use Rattle.std.proofs.lemmas.Bool.{cases_Bool, le-ltb, le-leb}
use Rattle.std.proofs.lemmas.Bool.Decides.{Decides-eqb}
use Rattle.std.proofs.lemmas.List.{append-nil, take-append-drop, length-take-le}
use Rattle.flash_base.specs.Numbers.{number_of}
use Rattle.flash_base.specs.declared.unit.Width.{Width}
use Rattle.uds_codec.specs.declared.request.Request.{Request}
use Rattle.uds_codec.specs.declared.request.Request.TheVariants.{Session, Seed, Key, ReadId, Routine, Download, Upload, Transfer, Pull, Exit, Reset, Setting, Messages}
use Rattle.uds_codec.specs.Form.{AreBytes}
use Rattle.uds_codec.specs.Grammar.{begins, begins_one, begins_security, begins_routine, begins_range, begins_load, begins_messages, begins_transfer}
use Rattle.uds_codec.specs.Laws.{Spells, SpellsLoad, AreNumbers, GoesOn}
use Rattle.uds_codec.specs.Request.{request_of, load_of, is_size_width, is_at_width}
use Rattle.uds_codec.proofs.Decodes.{neq-eqb}
use Rattle.uds_codec.proofs.Found.{found, and_true, le_of, eq_of, size_width_of, at_width_of, range_only}
use Rattle.uds_codec.proofs.Numbers.{size_width_ok, at_width_ok}

-- ------ a request's bytes begin one
load_begins : (sid : ℕ) (width : Width) (at size : ℕ) (bytes : List ℕ) → ((rest : List ℕ) → begins (sid ∷ rest) ≡ begins_load rest) → SpellsLoad sid width at size bytes → begins bytes ≡ true
load_begins sid width at size bytes begun h =
    let w = h.4 in
    let n = h.3 in
    let a5 : width.at ≤ 5 = w.few_at in
    let hi : (width.size * 16 + width.at) / 16 ≡ width.size = omega (arith, a5) in
    let lo : (width.size * 16 + width.at) % 16 ≡ width.at = omega (arith, a5) in
    let ws = size_width_ok width.size w.some_size w.few_size in
    let wa = at_width_ok width.at w.some_at w.few_at in
    let lx : length h.0 ≡ width.at = n.address_length in
    let ly : length h.1 ≡ width.size = n.amount_length in
    let l : nat_le (length (h.0 ++ h.1)) (width.at + width.size) ≡ true = le-leb _ _ (omega (arith, length-append h.0 h.1, lx, ly)) in
    ap begins h.2 ∙ begun (0 ∷ (width.size * 16 + width.at) ∷ (h.0 ++ h.1)) ∙ rw (hi, lo, ws, wa, l) refl

spelled_begins : (bytes : List ℕ) (r : Request) → Spells r bytes → begins bytes ≡ true
spelled_begins bytes (Session kind) h =
    let a = le-leb 1 kind h.1.0 in
    let b = le-leb kind 3 h.1.1 in
    ap begins h.0 ∙ rw (a, b) refl
spelled_begins bytes Reset h = ap begins h
spelled_begins bytes (ReadId did) h = ap begins h.2
spelled_begins bytes (Seed level) h =
    let odd : level % 2 ≡ 1 = h.1.odd in
    let most : level ≤ 125 = h.1.most in
    let a : nat_le 1 level ≡ true = le-leb 1 level (omega (arith, odd)) in
    let b : nat_le level 126 ≡ true = le-leb level 126 (omega (arith, most)) in
    let c : (level % 2 == 1) ≡ true = (Decides-eqb (level % 2) 1).1 odd in
    ap begins h.0 ∙ rw (a, b, c) refl
spelled_begins bytes (Key level key) h =
    let odd : level % 2 ≡ 1 = h.1.odd in
    let most : level ≤ 125 = h.1.most in
    let even : (level + 1) % 2 ≡ 0 = omega (arith, odd) in
    let a : nat_le 1 (level + 1) ≡ true = le-leb 1 (level + 1) (omega arith) in
    let b : nat_le (level + 1) 126 ≡ true = le-leb (level + 1) 126 (omega (arith, most)) in
    let c : ((level + 1) % 2 == 1) ≡ false = rw even refl in
    let d = le-leb (length key) 32 h.2.most in
    ap begins h.0 ∙ rw (a, b, c, d) refl
spelled_begins bytes (Routine id option) h = ap begins h.2
spelled_begins bytes (Download width at size) h = load_begins 52 width at size bytes (λ l. refl) h
spelled_begins bytes (Upload width at size) h = load_begins 53 width at size bytes (λ l. refl) h
spelled_begins bytes (Transfer counter body) h = let a = le-leb (length body) 65533 h.1.most in ap begins h.0 ∙ rw a refl
spelled_begins bytes (Pull counter) h = ap begins h
spelled_begins bytes Exit h = ap begins h
spelled_begins bytes (Setting true) h = ap begins h
spelled_begins bytes (Setting false) h = ap begins h
spelled_begins bytes (Messages true) h = ap begins h
spelled_begins bytes (Messages false) h = ap begins h

-- ------ and so does each beginning of what begins one
both : (a b c : Bool) → (b ≡ true → c ≡ true) → (a && b) ≡ true → (a && c) ≡ true
both true b c f e = f e
both false b c f e = e

pick : (c x y v w : Bool) → (x ≡ true → v ≡ true) → (y ≡ true → w ≡ true) → (if c then x else y) ≡ true → (if c then v else w) ≡ true
pick true x y v w f g e = f e
pick false x y v w f g e = g e

none_less : (xs ys : List ℕ) → (length (xs ++ ys) == 0) ≡ true → (length xs == 0) ≡ true
none_less [] ys e = refl
none_less (x ∷ xs) ys e = let z : length (x ∷ (xs ++ ys)) ≡ 0 = eq_of _ 0 e in absurd (omega (arith, z))

few_less : (xs ys : List ℕ) (n : ℕ) → nat_le (length (xs ++ ys)) n ≡ true → nat_le (length xs) n ≡ true
few_less xs ys n e = let l = le_of (length (xs ++ ys)) n e in le-leb (length xs) n (omega (arith, l, length-append xs ys))

one_less : (good : ℕ → Bool) (xs ys : List ℕ) → begins_one good (xs ++ ys) ≡ true → begins_one good xs ≡ true
one_less good [] ys e = refl
one_less good (x ∷ xs) ys e = both (good x) _ _ (none_less xs ys) e

security_less : (xs ys : List ℕ) → begins_security (xs ++ ys) ≡ true → begins_security xs ≡ true
security_less [] ys e = refl
security_less (level ∷ xs) ys e = both (nat_le 1 level && nat_le level 126) _ _ (pick (level % 2 == 1) _ _ _ _ (none_less xs ys) (few_less xs ys 32)) e

routine_less : (xs ys : List ℕ) → begins_routine (xs ++ ys) ≡ true → begins_routine xs ≡ true
routine_less [] ys e = refl
routine_less (x ∷ xs) ys e = e

range_less : (xs ys : List ℕ) → begins_range (xs ++ ys) ≡ true → begins_range xs ≡ true
range_less [] ys e = refl
range_less (digits ∷ xs) ys e = both (is_size_width (digits / 16) && is_at_width (digits % 16)) _ _ (few_less xs ys (digits % 16 + digits / 16)) e

load_less : (xs ys : List ℕ) → begins_load (xs ++ ys) ≡ true → begins_load xs ≡ true
load_less [] ys e = refl
load_less (form ∷ xs) ys e = both (form == 0) _ _ (range_less xs ys) e

messages_less : (xs ys : List ℕ) → begins_messages (xs ++ ys) ≡ true → begins_messages xs ≡ true
messages_less [] ys e = refl
messages_less (code ∷ xs) ys e = both (code == 0 || code == 3) _ _ (one_less _ xs ys) e

transfer_less : (xs ys : List ℕ) → begins_transfer (xs ++ ys) ≡ true → begins_transfer xs ≡ true
transfer_less [] ys e = refl
transfer_less (c ∷ xs) ys e = few_less xs ys 65533 e

begins_less : (a b : List ℕ) → begins (a ++ b) ≡ true → begins a ≡ true
begins_less [] b e = refl
begins_less (sid ∷ xs) b e =
    pick (sid == 16) _ _ _ _ (one_less _ xs b)
    (pick (sid == 17) _ _ _ _ (one_less _ xs b)
    (pick (sid == 34) _ _ _ _ (few_less xs b 2)
    (pick (sid == 39) _ _ _ _ (security_less xs b)
    (pick (sid == 49) _ _ _ _ (routine_less xs b)
    (pick (sid == 52) _ _ _ _ (load_less xs b)
    (pick (sid == 53) _ _ _ _ (load_less xs b)
    (pick (sid == 54) _ _ _ _ (transfer_less xs b)
    (pick (sid == 55) _ _ _ _ (none_less xs b)
    (pick (sid == 133) _ _ _ _ (one_less _ xs b)
    (pick (sid == 40) _ _ _ _ (messages_less xs b) (λ (f : false ≡ true). f))))))))))) e

pub only : (bytes more : List ℕ) (r : Request) → request_of (bytes ++ more) ≡ Some r → begins bytes ≡ true
only bytes more r e = begins_less bytes more (spelled_begins (bytes ++ more) r (found (bytes ++ more) r e))

-- ------ what begins one goes on
goes : (bytes more : List ℕ) (r : Request) → AreBytes more → request_of (bytes ++ more) ≡ Some r → GoesOn bytes
goes bytes more r are e = record { more = more; request = r; are = are; read = e }

whole : (bytes : List ℕ) (r : Request) → request_of bytes ≡ Some r → GoesOn bytes
whole bytes r e = goes bytes [] r tt (ap request_of (append-nil bytes) ∙ e)

low : (x : ℕ) → x < 2 → x < 256
low x h = omega (arith, h)

session_goes : (rest : List ℕ) → begins (16 ∷ rest) ≡ true → GoesOn (16 ∷ rest)
session_goes [] e = goes (16 ∷ []) (1 ∷ []) (Session 1) (omega arith, tt) refl
session_goes (k ∷ []) e =
    let (t, n) = and_true (nat_le 1 k && nat_le k 3) true e in
    whole (16 ∷ k ∷ []) (Session k) (rw t refl)
session_goes (k ∷ x ∷ more) e =
    let (t, n) = and_true (nat_le 1 k && nat_le k 3) (length (x ∷ more) == 0) e in
    let z : length (x ∷ more) ≡ 0 = eq_of _ 0 n in
    absurd (omega (arith, z))

reset_goes : (rest : List ℕ) → begins (17 ∷ rest) ≡ true → GoesOn (17 ∷ rest)
reset_goes [] e = goes (17 ∷ []) (1 ∷ []) Reset (omega arith, tt) refl
reset_goes (k ∷ []) e =
    let (t, n) = and_true (k == 1) true e in
    whole (17 ∷ k ∷ []) Reset (rw t refl)
reset_goes (k ∷ x ∷ more) e =
    let (t, n) = and_true (k == 1) (length (x ∷ more) == 0) e in
    let z : length (x ∷ more) ≡ 0 = eq_of _ 0 n in
    absurd (omega (arith, z))

read_id_goes : (rest : List ℕ) → begins (34 ∷ rest) ≡ true → GoesOn (34 ∷ rest)
read_id_goes [] e = goes (34 ∷ []) (0 ∷ 0 ∷ []) (ReadId 0) (omega arith, (omega arith, tt)) refl
read_id_goes (a ∷ []) e = goes (34 ∷ a ∷ []) (0 ∷ []) (ReadId (a * 256 + 0)) (omega arith, tt) refl
read_id_goes (a ∷ b ∷ []) e = whole (34 ∷ a ∷ b ∷ []) (ReadId (a * 256 + b)) refl
read_id_goes (a ∷ b ∷ c ∷ more) e =
    let z : length (a ∷ b ∷ c ∷ more) ≤ 2 = le_of _ 2 e in
    absurd (omega (arith, z))

exit_goes : (rest : List ℕ) → begins (55 ∷ rest) ≡ true → GoesOn (55 ∷ rest)
exit_goes [] e = whole (55 ∷ []) Exit refl
exit_goes (x ∷ more) e =
    let z : length (x ∷ more) ≡ 0 = eq_of _ 0 e in
    absurd (omega (arith, z))

transfer_goes : (rest : List ℕ) → begins (54 ∷ rest) ≡ true → GoesOn (54 ∷ rest)
transfer_goes [] e = goes (54 ∷ []) (0 ∷ []) (Pull 0) (omega arith, tt) refl
transfer_goes (c ∷ []) e = whole (54 ∷ c ∷ []) (Pull c) refl
transfer_goes (c ∷ x ∷ more) e =
    let few : length (x ∷ more) ≤ 65533 = le_of (length (x ∷ more)) 65533 e in
    let a : nat_le (length more) 65532 ≡ true = le-leb (length more) 65532 (omega (arith, few)) in
    whole (54 ∷ c ∷ x ∷ more) (Transfer c (x ∷ more)) (rw a refl)

setting_goes : (rest : List ℕ) → begins (133 ∷ rest) ≡ true → GoesOn (133 ∷ rest)
setting_goes [] e = goes (133 ∷ []) (1 ∷ []) (Setting false) (omega arith, tt) refl
setting_goes (code ∷ []) e = elim (cases_Bool (code == 1)) [
  | inl a ↦ whole (133 ∷ code ∷ []) (Setting false) (rw a refl)
  | inr a ↦
      let (t, n) = and_true (code == 1 || code == 2) true e in
      let b : (code == 2) ≡ true = rw a at t in
      whole (133 ∷ code ∷ []) (Setting true) (rw (a, b) refl)
]
setting_goes (code ∷ x ∷ more) e =
    let (t, n) = and_true (code == 1 || code == 2) (length (x ∷ more) == 0) e in
    let z : length (x ∷ more) ≡ 0 = eq_of _ 0 n in
    absurd (omega (arith, z))

messages_goes : (rest : List ℕ) → begins (40 ∷ rest) ≡ true → GoesOn (40 ∷ rest)
messages_goes [] e = goes (40 ∷ []) (0 ∷ 1 ∷ []) (Messages false) (omega arith, (omega arith, tt)) refl
messages_goes (code ∷ rest) e =
    let (c, k) = and_true (code == 0 || code == 3) (begins_one (λ kind. kind == 1) rest) e in
    elim (cases_Bool (code == 0)) [
      | inl a ↦ behind false rest k (rw a refl)
      | inr a ↦ let b : (code == 3) ≡ true = rw a at c in behind true rest k (rw (a, b) refl)
    ]
  where
    one : (off : Bool) (kind : ℕ) → (kind == 1) ≡ true → request_of (40 ∷ code ∷ 1 ∷ []) ≡ Some (Messages off) → request_of (40 ∷ code ∷ kind ∷ []) ≡ Some (Messages off)
    one off kind k is = ap (λ (n : ℕ). request_of (40 ∷ code ∷ n ∷ [])) (eq_of kind 1 k) ∙ is

    behind : (off : Bool) (rest : List ℕ) → begins_one (λ kind. kind == 1) rest ≡ true → request_of (40 ∷ code ∷ 1 ∷ []) ≡ Some (Messages off) → GoesOn (40 ∷ code ∷ rest)
    behind off [] k is = goes (40 ∷ code ∷ []) (1 ∷ []) (Messages off) (omega arith, tt) is
    behind off (kind ∷ []) k is = let (t, n) = and_true (kind == 1) true k in whole (40 ∷ code ∷ kind ∷ []) (Messages off) (one off kind t is)
    behind off (kind ∷ x ∷ more) k is =
        let (t, n) = and_true (kind == 1) (length (x ∷ more) == 0) k in
        let z : length (x ∷ more) ≡ 0 = eq_of _ 0 n in
        absurd (omega (arith, z))

routine_goes : (rest : List ℕ) → begins (49 ∷ rest) ≡ true → GoesOn (49 ∷ rest)
routine_goes [] e = goes (49 ∷ []) (1 ∷ 0 ∷ 0 ∷ []) (Routine 0 []) (omega arith, (omega arith, (omega arith, tt))) refl
routine_goes (k ∷ []) e = goes (49 ∷ k ∷ []) (0 ∷ 0 ∷ []) (Routine 0 []) (omega arith, (omega arith, tt)) (rw e refl)
routine_goes (k ∷ a ∷ []) e = goes (49 ∷ k ∷ a ∷ []) (0 ∷ []) (Routine (a * 256 + 0) []) (omega arith, tt) (rw e refl)
routine_goes (k ∷ a ∷ b ∷ option) e = whole (49 ∷ k ∷ a ∷ b ∷ option) (Routine (a * 256 + b) option) (rw e refl)

security_goes : (rest : List ℕ) → begins (39 ∷ rest) ≡ true → GoesOn (39 ∷ rest)
security_goes [] e = goes (39 ∷ []) (1 ∷ []) (Seed 1) (omega arith, tt) refl
security_goes (level ∷ key) e =
    let (g, h) = and_true (nat_le 1 level && nat_le level 126) (if level % 2 == 1 then length key == 0 else nat_le (length key) 32) e in
    let (low_true, high_true) = and_true (nat_le 1 level) (nat_le level 126) g in
    let some : 1 ≤ level = le_of 1 level low_true in
    let most : level ≤ 126 = le_of level 126 high_true in
    let a : nat_lt 126 level ≡ false = le-ltb 126 level most in
    let b : (level == 0) ≡ false = neq-eqb level 0 (λ z. omega (arith, z, some)) in
    elim (cases_Bool (level % 2 == 1)) [
      | inl o ↦ odd key a b o (rw o at h)
      | inr o ↦ even key a b o (rw o at h)
    ]
  where
    odd : (key : List ℕ) → nat_lt 126 level ≡ false → (level == 0) ≡ false → (level % 2 == 1) ≡ true → (length key == 0) ≡ true → GoesOn (39 ∷ level ∷ key)
    odd [] a b o h = whole (39 ∷ level ∷ []) (Seed level) (rw (a, b, o) refl)
    odd (x ∷ more) a b o h = let z : length (x ∷ more) ≡ 0 = eq_of _ 0 h in absurd (omega (arith, z))

    even : (key : List ℕ) → nat_lt 126 level ≡ false → (level == 0) ≡ false → (level % 2 == 1) ≡ false → nat_le (length key) 32 ≡ true → GoesOn (39 ∷ level ∷ key)
    even [] a b o h = goes (39 ∷ level ∷ []) (0 ∷ []) (Key (level - 1) (0 ∷ [])) (omega arith, tt) (rw (a, b, o) refl)
    even (x ∷ more) a b o h =
        let some : nat_le 1 (length (x ∷ more)) ≡ true = le-leb _ _ (omega arith) in
        whole (39 ∷ level ∷ x ∷ more) (Key (level - 1) (x ∷ more)) (rw (a, b, o, some, h) refl)

zeros : ℕ → List ℕ
zeros zero = []
zeros (suc n) = 0 ∷ zeros n

zeros_length : (n : ℕ) → length (zeros n) ≡ n
unfolding zeros
zeros_length zero = refl
zeros_length (suc n) = let e = zeros_length n in omega (arith, e)

zeros_bytes : (n : ℕ) → AreBytes (zeros n)
unfolding zeros
zeros_bytes zero = tt
zeros_bytes (suc n) = (omega arith, zeros_bytes n)

-- a service whose requests are of an area
module _ (sid : ℕ) (load : Width → ℕ → ℕ → Request) (reads : (rest : List ℕ) → request_of (sid ∷ rest) ≡ load_of load rest) where
  range_goes : (digits : ℕ) (rest : List ℕ) → begins_range (digits ∷ rest) ≡ true → GoesOn (sid ∷ 0 ∷ digits ∷ rest)
  range_goes digits rest e =
      let z : ℕ = digits / 16 in
      let a : ℕ = digits % 16 in
      let (w, l) = and_true (is_size_width z && is_at_width a) (nat_le (length rest) (a + z)) e in
      let (wz, wa) = and_true (is_size_width z) (is_at_width a) w in
      let (z1, z4) = size_width_of z wz in
      let (a1, a5) = at_width_of a wa in
      let few : length rest ≤ a + z = le_of (length rest) (a + z) l in
      let n : ℕ = a + z - length rest in
      let all : List ℕ = rest ++ zeros n in
      let size : length all ≡ a + z = omega (arith, length-append rest (zeros n), zeros_length n, few) in
      let la : length (take a all) ≡ a = length-take-le a all (omega (arith, size)) in
      let lz : length (drop a all) ≡ z = omega (arith, length-drop a all, size) in
      let digits_are : digits ≡ z * 16 + a = omega arith in
      let numbers : AreNumbers z a (number_of (take a all)) (number_of (drop a all)) (take a all) (drop a all) =
      record { address_length = la; amount_length = lz; address_number = refl; amount_number = refl } in
      let here = range_only load z a (number_of (take a all)) (number_of (drop a all)) (take a all) (drop a all) z1 z4 a1 a5 numbers in
      goes (sid ∷ 0 ∷ digits ∷ rest) (zeros n) (load (record { size = z; at = a }) (number_of (take a all)) (number_of (drop a all))) (zeros_bytes n)
      (reads (0 ∷ digits ∷ all) ∙ ap (λ (d : ℕ). load_of load (0 ∷ d ∷ all)) digits_are
      ∙ ap (λ (l : List ℕ). load_of load (0 ∷ (z * 16 + a) ∷ l)) (sym (take-append-drop a all)) ∙ here)

  load_goes : (rest : List ℕ) → begins_load rest ≡ true → GoesOn (sid ∷ rest)
  load_goes [] e =
      goes (sid ∷ []) (0 ∷ 17 ∷ 0 ∷ 0 ∷ []) (load (record { size = 1; at = 1 }) 0 0) (omega arith, (omega arith, (omega arith, (omega arith, tt)))) (reads (0 ∷ 17 ∷ 0 ∷ 0 ∷ []))
  load_goes (form ∷ rest) e =
      let (f, r) = and_true (form == 0) (begins_range rest) e in
      subst (λ (n : ℕ). GoesOn (sid ∷ n ∷ rest)) (sym (eq_of form 0 f)) (zero_form rest r)
    where
      zero_form : (rest : List ℕ) → begins_range rest ≡ true → GoesOn (sid ∷ 0 ∷ rest)
      zero_form [] r = goes (sid ∷ 0 ∷ []) (17 ∷ 0 ∷ 0 ∷ []) (load (record { size = 1; at = 1 }) 0 0) (omega arith, (omega arith, (omega arith, tt))) (reads (0 ∷ 17 ∷ 0 ∷ 0 ∷ []))
      zero_form (digits ∷ rest) r = range_goes digits rest r

goes_at : (n sid : ℕ) (rest : List ℕ) → (sid == n) ≡ true → (begins (n ∷ rest) ≡ true → GoesOn (n ∷ rest)) → begins (sid ∷ rest) ≡ true → GoesOn (sid ∷ rest)
goes_at n sid rest t f = subst (λ (x : ℕ). begins (x ∷ rest) ≡ true → GoesOn (x ∷ rest)) (sym (eq_of sid n t)) f

pub goes_on : (bytes : List ℕ) → begins bytes ≡ true → GoesOn bytes
goes_on [] e = goes [] (55 ∷ []) Exit (omega arith, tt) refl
goes_on (sid ∷ rest) e = elim (cases_Bool (sid == 16)) [
  | inl t ↦ goes_at 16 sid rest t (session_goes rest) e
  | inr e16 ↦ elim (cases_Bool (sid == 17)) [
    | inl t ↦ goes_at 17 sid rest t (reset_goes rest) e
    | inr e17 ↦ elim (cases_Bool (sid == 34)) [
      | inl t ↦ goes_at 34 sid rest t (read_id_goes rest) e
      | inr e34 ↦ elim (cases_Bool (sid == 39)) [
        | inl t ↦ goes_at 39 sid rest t (security_goes rest) e
        | inr e39 ↦ elim (cases_Bool (sid == 49)) [
          | inl t ↦ goes_at 49 sid rest t (routine_goes rest) e
          | inr e49 ↦ elim (cases_Bool (sid == 52)) [
            | inl t ↦ goes_at 52 sid rest t (load_goes 52 Download (λ l. refl) rest) e
            | inr e52 ↦ elim (cases_Bool (sid == 53)) [
              | inl t ↦ goes_at 53 sid rest t (load_goes 53 Upload (λ l. refl) rest) e
              | inr e53 ↦ elim (cases_Bool (sid == 54)) [
                | inl t ↦ goes_at 54 sid rest t (transfer_goes rest) e
                | inr e54 ↦ elim (cases_Bool (sid == 55)) [
                  | inl t ↦ goes_at 55 sid rest t (exit_goes rest) e
                  | inr e55 ↦ elim (cases_Bool (sid == 133)) [
                    | inl t ↦ goes_at 133 sid rest t (setting_goes rest) e
                    | inr e133 ↦ elim (cases_Bool (sid == 40)) [
                      | inl t ↦ goes_at 40 sid rest t (messages_goes rest) e
                      | inr e40 ↦ let none : false ≡ true = rw (e16, e17, e34, e39, e49, e52, e53, e54, e55, e133, e40) at e in cc
                    ]
                  ]
                ]
              ]
            ]
          ]
        ]
      ]
    ]
  ]
]
