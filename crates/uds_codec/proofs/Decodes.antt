-- What is read place by place is what the bytes spell, or the reason why they spell nothing.
use Rattle.std.proofs.Common.{◌≡◌, ℕ, suc, ◌+◌, ◌-◌, ◌/◌, ◌%◌, ◌<◌, ◌≤◌, true, false, List, [], ◌∷◌, length, take, drop, Some, None, Err, refl, sym, ◌∙◌, ap, subst, inl, inr, arith, length-drop}
use Rattle.std.specs.Prelude.{Bool, nat_lt, nat_le, ◌==◌, ◌&&◌, ◌||◌, Option}
use Rattle.std.proofs.lemmas.Bool.{cases_Bool, cases_lt, lt-ltb, le-ltb, le-leb}
use Rattle.std.proofs.lemmas.Bool.Decides.{Decides-eqb, nat_tests}
use Rattle.std.proofs.lemmas.List.{length-take-le, take_all}
use Rattle.flash_base.specs.Numbers.{number_of}
use Rattle.flash_base.specs.declared.unit.Width.{Width}
use Rattle.uds_codec.specs.declared.request.Request.{Request}
use Rattle.uds_codec.specs.declared.request.Request.TheVariants.{Download, Upload, Messages}
use Rattle.uds_codec.specs.declared.request.UdsFault.TheVariants.{UnknownSid, BadForm}
use Rattle.uds_codec.specs.Decoding.{session_at, reset_at, read_id_at, seed_at, key_at, security_at, routine_at, range_at, widths_at, loaded, load_at, transfer_at, exit_at, setting_at, messages_with, messages_at, decoded_at, decoded}
use Rattle.uds_codec.specs.Grammar.{begins, begins_load, Reads}
use Rattle.uds_codec.specs.Request.{request_of, load_of, one_byte, is_size_width, is_at_width, is_service}
use Rattle.uds_codec.proofs.Numbers.{size_width_ok, at_width_ok}

pub lt-leb : (a b : ℕ) → b < a → nat_le a b ≡ false
lt-leb a b lt = grind (arith, nat_tests)

pub neq-eqb : (a b : ℕ) → (a ≡ b → ⊥) → (a == b) ≡ false
neq-eqb a b ne = grind (arith, nat_tests)

bad : (s : List ℕ) (at : ℕ) → at < length s → 1 ≤ at → begins (take at s) ≡ true → begins (take (at + 1) s) ≡ false → request_of s ≡ None → Reads s (Err (BadForm at))
bad s at within some before there none = (none, (record { within = within; before = before; there = there }, some))

one_none : (k : ℕ) (rest : List ℕ) (f : ℕ → Option Request) → f k ≡ None → one_byte (k ∷ rest) f ≡ None
one_none k [] f e = e
one_none k (x ∷ rest) f e = refl

session_reads : (rest : List ℕ) → Reads (16 ∷ rest) (session_at (16 ∷ rest))
session_reads [] = (refl, refl)
session_reads (k ∷ rest) =
    let two : nat_lt (length (16 ∷ k ∷ rest)) 2 ≡ false = le-ltb _ _ (omega arith) in
    elim (cases_lt k 1) [
      | inl lt ↦
          let t = lt-ltb k 1 lt in
          let g = lt-leb 1 k lt in
          rw (two, t) (bad (16 ∷ k ∷ rest) 1 (omega arith) (omega arith) refl (rw g refl) (one_none k rest _ (rw g refl)))
      | inr ge ↦ elim (cases_lt 3 k) [
        | inl lt ↦
            let t = lt-ltb 3 k lt in
            let f = le-ltb k 1 ge in
            let g = lt-leb k 3 lt in
            let h = le-leb 1 k ge in
            rw (two, f, t) (bad (16 ∷ k ∷ rest) 1 (omega arith) (omega arith) refl (rw (h, g) refl) (one_none k rest _ (rw (h, g) refl)))
        | inr le ↦ good rest (le-ltb k 1 ge) (le-ltb 3 k le) (le-leb 1 k ge) (le-leb k 3 le)
      ]
    ]
  where
    good : (rest : List ℕ) → nat_lt k 1 ≡ false → nat_lt 3 k ≡ false → nat_le 1 k ≡ true → nat_le k 3 ≡ true → Reads (16 ∷ k ∷ rest) (session_at (16 ∷ k ∷ rest))
    good [] a b c d = rw (a, b) (rw (c, d) refl)
    good (x ∷ more) a b c d =
        let two : nat_lt (length (16 ∷ k ∷ x ∷ more)) 2 ≡ false = le-ltb _ _ (omega arith) in
        let long : nat_lt 2 (length (16 ∷ k ∷ x ∷ more)) ≡ true = lt-ltb _ _ (omega arith) in
        rw (two, a, b, long) (bad (16 ∷ k ∷ x ∷ more) 2 (omega arith) (omega arith) (rw (c, d) refl) (rw (c, d) refl) refl)

reset_reads : (rest : List ℕ) → Reads (17 ∷ rest) (reset_at (17 ∷ rest))
reset_reads [] = (refl, refl)
reset_reads (k ∷ rest) = elim (cases_Bool (k == 1)) [
  | inr e ↦
      let two : nat_lt (length (17 ∷ k ∷ rest)) 2 ≡ false = le-ltb _ _ (omega arith) in
      rw (two, e) (bad (17 ∷ k ∷ rest) 1 (omega arith) (omega arith) refl (rw e refl) (one_none k rest _ (rw e refl)))
  | inl e ↦ good rest e
]
  where
    good : (rest : List ℕ) → (k == 1) ≡ true → Reads (17 ∷ k ∷ rest) (reset_at (17 ∷ k ∷ rest))
    good [] e = rw e (rw e refl)
    good (x ∷ more) e =
        let two : nat_lt (length (17 ∷ k ∷ x ∷ more)) 2 ≡ false = le-ltb _ _ (omega arith) in
        let long : nat_lt 2 (length (17 ∷ k ∷ x ∷ more)) ≡ true = lt-ltb _ _ (omega arith) in
        rw (two, e, long) (bad (17 ∷ k ∷ x ∷ more) 2 (omega arith) (omega arith) (rw e refl) (rw e refl) refl)

read_id_reads : (rest : List ℕ) → Reads (34 ∷ rest) (read_id_at (34 ∷ rest))
read_id_reads [] = (refl, refl)
read_id_reads (a ∷ []) = (refl, refl)
read_id_reads (a ∷ b ∷ []) = refl
read_id_reads (a ∷ b ∷ c ∷ more) =
    let three : nat_lt (length (34 ∷ a ∷ b ∷ c ∷ more)) 3 ≡ false = le-ltb _ _ (omega arith) in
    let long : nat_lt 3 (length (34 ∷ a ∷ b ∷ c ∷ more)) ≡ true = lt-ltb _ _ (omega arith) in
    rw (three, long) (bad (34 ∷ a ∷ b ∷ c ∷ more) 3 (omega arith) (omega arith) refl refl refl)

exit_reads : (rest : List ℕ) → Reads (55 ∷ rest) (exit_at (55 ∷ rest))
exit_reads [] = refl
exit_reads (x ∷ more) =
    let long : nat_lt 1 (length (55 ∷ x ∷ more)) ≡ true = lt-ltb _ _ (omega arith) in
    rw long (bad (55 ∷ x ∷ more) 1 (omega arith) (omega arith) refl refl refl)

routine_reads : (rest : List ℕ) → Reads (49 ∷ rest) (routine_at (49 ∷ rest))
routine_reads [] = (refl, refl)
routine_reads (k ∷ rest) = elim (cases_Bool (k == 1)) [ inr e ↦ other rest e | inl e ↦ good rest e ]
  where
    other : (rest : List ℕ) → (k == 1) ≡ false → Reads (49 ∷ k ∷ rest) (routine_at (49 ∷ k ∷ rest))
    other [] e = rw e (bad (49 ∷ k ∷ []) 1 (omega arith) (omega arith) refl (rw e refl) refl)
    other (a ∷ []) e = rw e (bad (49 ∷ k ∷ a ∷ []) 1 (omega arith) (omega arith) refl (rw e refl) refl)
    other (a ∷ b ∷ more) e =
        let two : nat_lt (length (49 ∷ k ∷ a ∷ b ∷ more)) 2 ≡ false = le-ltb _ _ (omega arith) in
        rw (two, e) (bad (49 ∷ k ∷ a ∷ b ∷ more) 1 (omega arith) (omega arith) refl (rw e refl) (rw e refl))

    good : (rest : List ℕ) → (k == 1) ≡ true → Reads (49 ∷ k ∷ rest) (routine_at (49 ∷ k ∷ rest))
    good [] e = rw e (refl, rw e refl)
    good (a ∷ []) e = rw e (refl, rw e refl)
    good (a ∷ b ∷ more) e =
        let two : nat_lt (length (49 ∷ k ∷ a ∷ b ∷ more)) 2 ≡ false = le-ltb _ _ (omega arith) in
        let four : nat_lt (length (49 ∷ k ∷ a ∷ b ∷ more)) 4 ≡ false = le-ltb _ _ (omega arith) in
        rw (two, e, four) (rw e refl)

transfer_reads : (rest : List ℕ) → Reads (54 ∷ rest) (transfer_at (54 ∷ rest))
transfer_reads [] = (refl, refl)
transfer_reads (c ∷ []) = refl
transfer_reads (c ∷ x ∷ more) =
    let body : List ℕ = x ∷ more in
    let s : List ℕ = 54 ∷ c ∷ body in
    let two : nat_lt (length s) 2 ≡ false = le-ltb _ _ (omega arith) in
    let three : nat_lt (length s) 3 ≡ false = le-ltb _ _ (omega arith) in
    elim (cases_lt 65535 (length s)) [
      | inl lt ↦
          let long : nat_lt 65535 (length s) ≡ true = lt-ltb _ _ lt in
          let many : nat_le (length more) 65532 ≡ false = lt-leb (length more) 65532 (omega (arith, lt)) in
          let enough : 65533 ≤ length body = omega (arith, lt) in
          let more_than : 65534 ≤ length body = omega (arith, lt) in
          let one : 1 ≤ 65535 = omega arith in
          let front = length-take-le 65533 body enough in
          let next = length-take-le 65534 body more_than in
          rw (two, three, long) (bad s 65535 lt one (rw front refl) (rw next refl) (rw many refl))
      | inr le ↦
          let fits : nat_lt 65535 (length s) ≡ false = le-ltb _ _ le in
          let few : nat_le (length more) 65532 ≡ true = le-leb _ _ (omega (arith, le)) in
          rw (two, three, fits) (rw few refl)
    ]

setting_reads : (rest : List ℕ) → Reads (133 ∷ rest) (setting_at (133 ∷ rest))
setting_reads [] = (refl, refl)
setting_reads (code ∷ rest) =
    let two : nat_lt (length (133 ∷ code ∷ rest)) 2 ≡ false = le-ltb _ _ (omega arith) in
    elim (cases_Bool (code == 1)) [
      | inl e ↦ as_code 1 e (on rest)
      | inr e1 ↦ elim (cases_Bool (code == 2)) [
        | inl e ↦ as_code 2 e (off rest)
        | inr e2 ↦ elim (cases_lt code 1) [
          | inl lt ↦
              let t = lt-ltb code 1 lt in
              rw (two, t) (bad (133 ∷ code ∷ rest) 1 (omega arith) (omega arith) refl (rw (e1, e2) refl) (none rest e1 e2))
          | inr ge ↦
              let f = le-ltb code 1 ge in
              let t : nat_lt 2 code ≡ true = lt-ltb 2 code (above code ge e1 e2) in
              rw (two, f, t) (bad (133 ∷ code ∷ rest) 1 (omega arith) (omega arith) refl (rw (e1, e2) refl) (none rest e1 e2))
        ]
      ]
    ]
  where
    as_code : (n : ℕ) → (code == n) ≡ true → Reads (133 ∷ n ∷ rest) (setting_at (133 ∷ n ∷ rest)) → Reads (133 ∷ code ∷ rest) (setting_at (133 ∷ code ∷ rest))
    as_code n e is = subst (λ (x : ℕ). Reads (133 ∷ x ∷ rest) (setting_at (133 ∷ x ∷ rest))) (sym ((Decides-eqb code n).0 e)) is

    above : (n : ℕ) → 1 ≤ n → (n == 1) ≡ false → (n == 2) ≡ false → 2 < n
    above n ge a b = grind (arith, nat_tests, ge, a, b)

    none : (rest : List ℕ) → (code == 1) ≡ false → (code == 2) ≡ false → request_of (133 ∷ code ∷ rest) ≡ None
    none [] a b = rw (a, b) refl
    none (x ∷ more) a b = refl

    on : (rest : List ℕ) → Reads (133 ∷ 1 ∷ rest) (setting_at (133 ∷ 1 ∷ rest))
    on [] = refl
    on (x ∷ more) =
        let two : nat_lt (length (133 ∷ 1 ∷ x ∷ more)) 2 ≡ false = le-ltb _ _ (omega arith) in
        let long : nat_lt 2 (length (133 ∷ 1 ∷ x ∷ more)) ≡ true = lt-ltb _ _ (omega arith) in
        rw (two, long) (bad (133 ∷ 1 ∷ x ∷ more) 2 (omega arith) (omega arith) refl refl refl)

    off : (rest : List ℕ) → Reads (133 ∷ 2 ∷ rest) (setting_at (133 ∷ 2 ∷ rest))
    off [] = refl
    off (x ∷ more) =
        let two : nat_lt (length (133 ∷ 2 ∷ x ∷ more)) 2 ≡ false = le-ltb _ _ (omega arith) in
        let long : nat_lt 2 (length (133 ∷ 2 ∷ x ∷ more)) ≡ true = lt-ltb _ _ (omega arith) in
        rw (two, long) (bad (133 ∷ 2 ∷ x ∷ more) 2 (omega arith) (omega arith) refl refl refl)

-- behind a control type that is listed
messages_read : (code : ℕ) (off : Bool) (rest : List ℕ) → (code == 0 || code == 3) ≡ true → request_of (40 ∷ code ∷ 1 ∷ []) ≡ Some (Messages off) → Reads (40 ∷ code ∷ rest) (messages_with (40 ∷ code ∷ rest) off)
messages_read code off [] c is = (refl, rw c refl)
messages_read code off (kind ∷ rest) c is = elim (cases_Bool (kind == 1)) [
  | inl e ↦ subst (λ (n : ℕ). Reads (40 ∷ code ∷ n ∷ rest) (messages_with (40 ∷ code ∷ n ∷ rest) off)) (sym ((Decides-eqb kind 1).0 e)) (good rest)
  | inr e ↦
      let three : nat_lt (length (40 ∷ code ∷ kind ∷ rest)) 3 ≡ false = le-ltb _ _ (omega arith) in
      rw (three, e) (bad (40 ∷ code ∷ kind ∷ rest) 2 (omega arith) (omega arith) (rw c refl) (rw (c, e) refl) (none rest e))
]
  where
    none : (rest : List ℕ) → (kind == 1) ≡ false → request_of (40 ∷ code ∷ kind ∷ rest) ≡ None
    none [] e = rw e refl
    none (x ∷ more) e = refl

    good : (rest : List ℕ) → Reads (40 ∷ code ∷ 1 ∷ rest) (messages_with (40 ∷ code ∷ 1 ∷ rest) off)
    good [] = is
    good (x ∷ more) =
        let three : nat_lt (length (40 ∷ code ∷ 1 ∷ x ∷ more)) 3 ≡ false = le-ltb _ _ (omega arith) in
        let long : nat_lt 3 (length (40 ∷ code ∷ 1 ∷ x ∷ more)) ≡ true = lt-ltb _ _ (omega arith) in
        rw (three, long) (bad (40 ∷ code ∷ 1 ∷ x ∷ more) 3 (omega arith) (omega arith) (rw c refl) (rw c refl) refl)

messages_reads : (rest : List ℕ) → Reads (40 ∷ rest) (messages_at (40 ∷ rest))
messages_reads [] = (refl, refl)
messages_reads (code ∷ rest) =
    let two : nat_lt (length (40 ∷ code ∷ rest)) 2 ≡ false = le-ltb _ _ (omega arith) in
    elim (cases_Bool (code == 0)) [
      | inl e ↦ rw (two, e) (messages_read code false rest (rw e refl) (rw e refl))
      | inr e0 ↦ elim (cases_Bool (code == 3)) [
        | inl e ↦ rw (two, e0, e) (messages_read code true rest (rw (e0, e) refl) (rw (e0, e) refl))
        | inr e3 ↦ rw (two, e0, e3) (bad (40 ∷ code ∷ rest) 1 (omega arith) (omega arith) refl (rw (e0, e3) refl) (none rest e0 e3))
      ]
    ]
  where
    other : (kind : ℕ) → (code == 0) ≡ false → (code == 3) ≡ false → request_of (40 ∷ code ∷ kind ∷ []) ≡ None
    other kind a b = elim (cases_Bool (kind == 1)) [ inl e ↦ rw (e, a, b) refl | inr e ↦ rw e refl ]

    none : (rest : List ℕ) → (code == 0) ≡ false → (code == 3) ≡ false → request_of (40 ∷ code ∷ rest) ≡ None
    none [] a b = refl
    none (kind ∷ []) a b = other kind a b
    none (kind ∷ x ∷ more) a b = refl

-- ------ keys
security_reads : (rest : List ℕ) → Reads (39 ∷ rest) (security_at (39 ∷ rest))
security_reads [] = (refl, refl)
security_reads (level ∷ key) =
    let two : nat_lt (length (39 ∷ level ∷ key)) 2 ≡ false = le-ltb _ _ (omega arith) in
    elim (cases_lt 126 level) [
      | inl lt ↦
          let t = lt-ltb 126 level lt in
          let g = lt-leb level 126 lt in
          let h : nat_le 1 level ≡ true = le-leb 1 level (omega (arith, lt)) in
          rw (two, t) (bad (39 ∷ level ∷ key) 1 (omega arith) (omega arith) refl (rw (h, g) refl) (rw t refl))
      | inr le ↦
          let f = le-ltb 126 level le in
          let h = le-leb level 126 le in
          elim (cases_Bool (level == 0)) [
            | inl e ↦
                let z : level ≡ 0 = (Decides-eqb level 0).0 e in
                let g : nat_le 1 level ≡ false = lt-leb 1 level (omega (arith, z)) in
                rw (two, f, e) (bad (39 ∷ level ∷ key) 1 (omega arith) (omega arith) refl (rw g refl) (rw (f, e) refl))
            | inr e ↦ good key f e (le-leb 1 level (above e)) h
          ]
    ]
  where
    above : (level == 0) ≡ false → 1 ≤ level
    above e = grind (arith, nat_tests, e)

    odd : (key : List ℕ) → nat_lt 126 level ≡ false → (level == 0) ≡ false → nat_le 1 level ≡ true → nat_le level 126 ≡ true → (level % 2 == 1) ≡ true → Reads (39 ∷ level ∷ key) (seed_at (39 ∷ level ∷ key))
    odd [] f e g h o = rw (f, e, o) refl
    odd (x ∷ more) f e g h o =
        let long : nat_lt 2 (length (39 ∷ level ∷ x ∷ more)) ≡ true = lt-ltb _ _ (omega arith) in
        let none : (length (x ∷ more) == 0) ≡ false = neq-eqb _ _ (λ z. omega (arith, z)) in
        rw long (bad (39 ∷ level ∷ x ∷ more) 2 (omega arith) (omega arith) (rw (g, h, o) refl) (rw (g, h, o) refl) (rw (f, e, o, none) refl))

    even : (key : List ℕ) → nat_lt 126 level ≡ false → (level == 0) ≡ false → nat_le 1 level ≡ true → nat_le level 126 ≡ true → (level % 2 == 1) ≡ false → Reads (39 ∷ level ∷ key) (key_at (39 ∷ level ∷ key))
    even [] f e g h o = (rw (f, e, o) refl, rw (g, h, o) refl)
    even (x ∷ more) f e g h o =
        let three : nat_lt (length (39 ∷ level ∷ x ∷ more)) 3 ≡ false = le-ltb _ _ (omega arith) in
        let some : nat_le 1 (length (x ∷ more)) ≡ true = le-leb _ _ (omega arith) in
        elim (cases_lt 32 (length (x ∷ more))) [
          | inl lt ↦
              let long : nat_lt 34 (length (39 ∷ level ∷ x ∷ more)) ≡ true = lt-ltb _ _ (omega (arith, lt)) in
              let many : nat_le (length (x ∷ more)) 32 ≡ false = lt-leb _ _ lt in
              let b32 : 32 ≤ length (x ∷ more) = omega (arith, lt) in
              let b33 : 33 ≤ length (x ∷ more) = omega (arith, lt) in
              let within : 34 < length (39 ∷ level ∷ x ∷ more) = omega (arith, lt) in
              let one : 1 ≤ 34 = omega arith in
              let front = length-take-le 32 (x ∷ more) b32 in
              let next = length-take-le 33 (x ∷ more) b33 in
              rw (three, long) (bad (39 ∷ level ∷ x ∷ more) 34 within one (rw (g, h, o, front) refl) (rw (g, h, o, next) refl) (rw (f, e, o, some, many) refl))
          | inr le ↦
              let fits : nat_lt 34 (length (39 ∷ level ∷ x ∷ more)) ≡ false = le-ltb _ _ (omega (arith, le)) in
              let few : nat_le (length (x ∷ more)) 32 ≡ true = le-leb _ _ le in
              rw (three, fits) (rw (f, e, o, some, few) refl)
        ]

    good : (key : List ℕ) → nat_lt 126 level ≡ false → (level == 0) ≡ false → nat_le 1 level ≡ true → nat_le level 126 ≡ true → Reads (39 ∷ level ∷ key) (security_at (39 ∷ level ∷ key))
    good key f e g h =
        let two : nat_lt (length (39 ∷ level ∷ key)) 2 ≡ false = le-ltb _ _ (omega arith) in
        elim (cases_Bool (level % 2 == 1)) [
          | inl o ↦ rw (two, f, e, o) (odd key f e g h o)
          | inr o ↦ rw (two, f, e, o) (even key f e g h o)
        ]

-- ------ downloads and uploads
narrow_size : (n : ℕ) → n < 1 → is_size_width n ≡ false
narrow_size n lt = let g = lt-leb 1 n lt in rw g refl

wide_size : (n : ℕ) → 4 < n → is_size_width n ≡ false
wide_size n lt = let g = lt-leb n 4 lt in let h : nat_le 1 n ≡ true = le-leb 1 n (omega (arith, lt)) in rw (h, g) refl

narrow_at : (n : ℕ) → n < 1 → is_at_width n ≡ false
narrow_at n lt = let g = lt-leb 1 n lt in rw g refl

wide_at : (n : ℕ) → 5 < n → is_at_width n ≡ false
wide_at n lt = let g = lt-leb n 5 lt in let h : nat_le 1 n ≡ true = le-leb 1 n (omega (arith, lt)) in rw (h, g) refl

first_false : (a b : Bool) → a ≡ false → (a && b) ≡ false
first_false a b e = rw e refl

second_false : (a b : Bool) → b ≡ false → (a && b) ≡ false
second_false true b e = e
second_false false b e = refl

take_three : (m n x y z : ℕ) (l : List ℕ) → m ≡ 3 + n → take m (x ∷ y ∷ z ∷ l) ≡ x ∷ y ∷ z ∷ take n l
take_three m n x y z l e = let k : m ≡ suc (suc (suc n)) = omega (arith, e) in rw k refl

drop_three : (m n x y z : ℕ) (l : List ℕ) → m ≡ 3 + n → drop m (x ∷ y ∷ z ∷ l) ≡ drop n l
drop_three m n x y z l e = let k : m ≡ suc (suc (suc n)) = omega (arith, e) in rw k refl

-- a service whose requests are of an area
module _ (sid : ℕ) (load : Width → ℕ → ℕ → Request) (read : (rest : List ℕ) → request_of (sid ∷ rest) ≡ load_of load rest) (begun : (rest : List ℕ) → begins (sid ∷ rest) ≡ begins_load rest) where
  bad_widths : (digits : ℕ) (rest : List ℕ) → (is_size_width (digits / 16) && is_at_width (digits % 16)) ≡ false → Reads (sid ∷ 0 ∷ digits ∷ rest) (Err (BadForm 2))
  bad_widths digits rest e = bad (sid ∷ 0 ∷ digits ∷ rest) 2 (omega arith) (omega arith) (begun (0 ∷ [])) (begun (0 ∷ digits ∷ []) ∙ rw e refl) (read (0 ∷ digits ∷ rest) ∙ rw e refl)

  range_reads : (digits : ℕ) (rest : List ℕ) → is_size_width (digits / 16) ≡ true → is_at_width (digits % 16) ≡ true → Reads (sid ∷ 0 ∷ digits ∷ rest) (loaded load (range_at (sid ∷ 0 ∷ digits ∷ rest) (digits / 16) (digits % 16)))
  range_reads digits rest ws wa =
      let z : ℕ = digits / 16 in
      let a : ℕ = digits % 16 in
      let bytes : List ℕ = sid ∷ 0 ∷ digits ∷ rest in
      elim (cases_lt (length rest) (a + z)) [
        | inl lt ↦
            let t : nat_lt (length bytes) (3 + a + z) ≡ true = lt-ltb _ _ (omega (arith, lt)) in
            let f : nat_le (a + z) (length rest) ≡ false = lt-leb _ _ lt in
            let b : nat_le (length rest) (a + z) ≡ true = le-leb _ _ (omega (arith, lt)) in
            rw t (read (0 ∷ digits ∷ rest) ∙ rw (ws, wa, f) refl, begun (0 ∷ digits ∷ rest) ∙ rw (ws, wa, b) refl)
        | inr ge ↦
            let f : nat_lt (length bytes) (3 + a + z) ≡ false = le-ltb _ _ (omega (arith, ge)) in
            let h : nat_le (a + z) (length rest) ≡ true = le-leb _ _ ge in
            let la : length (drop a rest) ≡ length rest - a = length-drop a rest in
            let lz : length (drop z (drop a rest)) ≡ length (drop a rest) - z = length-drop z (drop a rest) in
            elim (cases_lt (a + z) (length rest)) [
              | inl lt ↦
                  let t : nat_lt (3 + a + z) (length bytes) ≡ true = lt-ltb _ _ (omega (arith, lt)) in
                  let more : (length (drop z (drop a rest)) == 0) ≡ false = neq-eqb _ _ (λ e. omega (arith, e, lz, la, lt)) in
                  let l1 : length (take (a + z) rest) ≡ a + z = length-take-le (a + z) rest ge in
                  let l2 : length (take (a + z + 1) rest) ≡ a + z + 1 = length-take-le (a + z + 1) rest (omega (arith, lt)) in
                  let fits : nat_le (length (take (a + z) rest)) (a + z) ≡ true = le-leb _ _ (omega (arith, l1)) in
                  let over : nat_le (length (take (a + z + 1) rest)) (a + z) ≡ false = lt-leb _ _ (omega (arith, l2)) in
                  let n1 : take (3 + a + z) bytes ≡ sid ∷ 0 ∷ digits ∷ take (a + z) rest = take_three (3 + a + z) (a + z) sid 0 digits rest (omega arith) in
                  let n2 : take (3 + a + z + 1) bytes ≡ sid ∷ 0 ∷ digits ∷ take (a + z + 1) rest = take_three (3 + a + z + 1) (a + z + 1) sid 0 digits rest (omega arith) in
                  let within : 3 + a + z < length bytes = omega (arith, lt) in
                  let some : 1 ≤ 3 + a + z = omega arith in
                  rw (f, t) (bad bytes (3 + a + z) within some
                  (ap begins n1 ∙ begun (0 ∷ digits ∷ take (a + z) rest) ∙ rw (ws, wa, fits) refl)
                  (ap begins n2 ∙ begun (0 ∷ digits ∷ take (a + z + 1) rest) ∙ rw (ws, wa, over) refl)
                  (read (0 ∷ digits ∷ rest) ∙ rw (ws, wa, h, more) refl))
              | inr le ↦
                  let g : nat_lt (3 + a + z) (length bytes) ≡ false = le-ltb _ _ (omega (arith, le)) in
                  let none : (length (drop z (drop a rest)) == 0) ≡ true = (Decides-eqb (length (drop z (drop a rest))) 0).1 (omega (arith, lz, la, le)) in
                  let all : take z (drop a rest) ≡ drop a rest = take_all z (drop a rest) (omega (arith, la, le, ge)) in
                  let after : drop (3 + a) bytes ≡ drop a rest = drop_three (3 + a) a sid 0 digits rest (omega arith) in
                  let here : request_of bytes ≡ Some (load (record { size = z; at = a }) (number_of (take a rest)) (number_of (take z (drop a rest)))) = read (0 ∷ digits ∷ rest) ∙ rw (ws, wa, h, none) refl in
                  rw (f, g) (here ∙ ap (λ (l : List ℕ). Some (load (record { size = z; at = a }) (number_of (take a rest)) (number_of l))) (all ∙ sym after))
            ]
      ]

  widths_reads : (digits : ℕ) (rest : List ℕ) → Reads (sid ∷ 0 ∷ digits ∷ rest) (loaded load (widths_at (sid ∷ 0 ∷ digits ∷ rest) (digits / 16) (digits % 16)))
  widths_reads digits rest = elim (cases_lt (digits / 16) 1) [
    | inl lt ↦ let t = lt-ltb (digits / 16) 1 lt in rw t (bad_widths digits rest (first_false _ _ (narrow_size (digits / 16) lt)))
    | inr s1 ↦ elim (cases_lt 4 (digits / 16)) [
      | inl lt ↦
          let a = le-ltb (digits / 16) 1 s1 in
          let t = lt-ltb 4 (digits / 16) lt in
          rw (a, t) (bad_widths digits rest (first_false _ _ (wide_size (digits / 16) lt)))
      | inr s4 ↦ elim (cases_lt (digits % 16) 1) [
        | inl lt ↦
            let a = le-ltb (digits / 16) 1 s1 in
            let b = le-ltb 4 (digits / 16) s4 in
            let t = lt-ltb (digits % 16) 1 lt in
            rw (a, b, t) (bad_widths digits rest (second_false _ _ (narrow_at (digits % 16) lt)))
        | inr a1 ↦ elim (cases_lt 5 (digits % 16)) [
          | inl lt ↦
              let a = le-ltb (digits / 16) 1 s1 in
              let b = le-ltb 4 (digits / 16) s4 in
              let c = le-ltb (digits % 16) 1 a1 in
              let t = lt-ltb 5 (digits % 16) lt in
              rw (a, b, c, t) (bad_widths digits rest (second_false _ _ (wide_at (digits % 16) lt)))
          | inr a5 ↦
              let a = le-ltb (digits / 16) 1 s1 in
              let b = le-ltb 4 (digits / 16) s4 in
              let c = le-ltb (digits % 16) 1 a1 in
              let d = le-ltb 5 (digits % 16) a5 in
              rw (a, b, c, d) (range_reads digits rest (size_width_ok (digits / 16) s1 s4) (at_width_ok (digits % 16) a1 a5))
        ]
      ]
    ]
  ]

  load_reads : (rest : List ℕ) → Reads (sid ∷ rest) (load_at load (sid ∷ rest))
  load_reads [] = (read [], begun [])
  load_reads (form ∷ rest) = elim (cases_Bool (form == 0)) [ inr e ↦ other e | inl e ↦ good rest e ]
    where
      other : (form == 0) ≡ false → Reads (sid ∷ form ∷ rest) (load_at load (sid ∷ form ∷ rest))
      other e =
          let two : nat_lt (length (sid ∷ form ∷ rest)) 2 ≡ false = le-ltb _ _ (omega arith) in
          rw (two, e) (bad (sid ∷ form ∷ rest) 1 (omega arith) (omega arith) (begun []) (begun (form ∷ []) ∙ rw e refl) (read (form ∷ rest) ∙ rw e refl))

      good : (rest : List ℕ) → (form == 0) ≡ true → Reads (sid ∷ form ∷ rest) (load_at load (sid ∷ form ∷ rest))
      good rest e = subst (λ (x : ℕ). Reads (sid ∷ x ∷ rest) (load_at load (sid ∷ x ∷ rest))) (sym ((Decides-eqb form 0).0 e)) (zero_form rest)
        where
          zero_form : (rest : List ℕ) → Reads (sid ∷ 0 ∷ rest) (load_at load (sid ∷ 0 ∷ rest))
          zero_form [] = (read (0 ∷ []), begun (0 ∷ []))
          zero_form (digits ∷ rest) =
              let two : nat_lt (length (sid ∷ 0 ∷ digits ∷ rest)) 2 ≡ false = le-ltb _ _ (omega arith) in
              let three : nat_lt (length (sid ∷ 0 ∷ digits ∷ rest)) 3 ≡ false = le-ltb _ _ (omega arith) in
              rw (two, three) (widths_reads digits rest)

-- ------ all services
unknown : (sid : ℕ) (rest : List ℕ) → is_service sid ≡ false → request_of (sid ∷ rest) ≡ None → Reads (sid ∷ rest) (Err (UnknownSid sid))
unknown sid rest e none = (none, record { rest = rest; first = refl; unlisted = e })

-- a first byte is one of the table's or of no service
at_sid : (n sid : ℕ) (rest : List ℕ) → (sid == n) ≡ true → Reads (n ∷ rest) (decoded_at (n ∷ rest) n) → Reads (sid ∷ rest) (decoded_at (sid ∷ rest) sid)
at_sid n sid rest e r = subst (λ (x : ℕ). Reads (x ∷ rest) (decoded_at (x ∷ rest) x)) (sym ((Decides-eqb sid n).0 e)) r

by_sid : (sid : ℕ) (rest : List ℕ) → Reads (sid ∷ rest) (decoded_at (sid ∷ rest) sid)
by_sid sid rest = elim (cases_Bool (sid == 16)) [
  | inl e ↦ at_sid 16 sid rest e (session_reads rest)
  | inr e16 ↦ elim (cases_Bool (sid == 17)) [
    | inl e ↦ at_sid 17 sid rest e (reset_reads rest)
    | inr e17 ↦ elim (cases_Bool (sid == 34)) [
      | inl e ↦ at_sid 34 sid rest e (read_id_reads rest)
      | inr e34 ↦ elim (cases_Bool (sid == 39)) [
        | inl e ↦ at_sid 39 sid rest e (security_reads rest)
        | inr e39 ↦ elim (cases_Bool (sid == 49)) [
          | inl e ↦ at_sid 49 sid rest e (routine_reads rest)
          | inr e49 ↦ elim (cases_Bool (sid == 52)) [
            | inl e ↦ at_sid 52 sid rest e (load_reads 52 Download (λ l. refl) (λ l. refl) rest)
            | inr e52 ↦ elim (cases_Bool (sid == 53)) [
              | inl e ↦ at_sid 53 sid rest e (load_reads 53 Upload (λ l. refl) (λ l. refl) rest)
              | inr e53 ↦ elim (cases_Bool (sid == 54)) [
                | inl e ↦ at_sid 54 sid rest e (transfer_reads rest)
                | inr e54 ↦ elim (cases_Bool (sid == 55)) [
                  | inl e ↦ at_sid 55 sid rest e (exit_reads rest)
                  | inr e55 ↦ elim (cases_Bool (sid == 133)) [
                    | inl e ↦ at_sid 133 sid rest e (setting_reads rest)
                    | inr e133 ↦ elim (cases_Bool (sid == 40)) [
                      | inl e ↦ at_sid 40 sid rest e (messages_reads rest)
                      | inr e40 ↦ rw (e16, e17, e34, e39, e49, e52, e53, e54, e55, e133, e40) (unknown sid rest (rw (e16, e17, e34, e39, e49, e52, e53, e54, e55, e133, e40) refl) (rw (e16, e17, e34, e39, e49, e52, e53, e54, e55, e133, e40) refl))
                    ]
                  ]
                ]
              ]
            ]
          ]
        ]
      ]
    ]
  ]
]

pub reads : (s : List ℕ) → Reads s (decoded s)
reads [] = (refl, refl)
reads (sid ∷ rest) =
    let some : (length (sid ∷ rest) == 0) ≡ false = neq-eqb _ _ (λ z. omega (arith, z)) in
    rw some (by_sid sid rest)
