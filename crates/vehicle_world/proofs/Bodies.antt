-- A message that was cut out of a stream has user data.
use Rattle.std.proofs.Common.{◌≡◌, inl, inr, ℕ, zero, suc, ◌≤◌, true, false, List, [], ◌∷◌, ◌++◌, length, take, refl, arith}
use Rattle.std.specs.Prelude.{Bool, Option, ◌==◌, ◌&&◌, nat_le, nat_lt, if◌then◌else◌, Some, None}
use Rattle.std.proofs.lemmas.Bool.{cases_Bool, cases_lt, lt-ltb, le-ltb, leb-true}
use Rattle.std.proofs.lemmas.List.{length-take-le}
use Rattle.flash_base.specs.Lists.{Each}
use Rattle.flash_base.specs.Numbers.{number2, number4}
use Rattle.doip_frame.specs.Deframe.{frames_in}
use Rattle.doip_frame.specs.Frame.{Cut, Partial, Wrong, Whole, cut_frame, cut_body, cut_sized, is_length, frame_of, addressed_of, ack_of, nack_of, activate_of, activated_of, alive_of, header_nack_of, stream_in, stream_after}
use Rattle.doip_frame.specs.declared.frame.Frame.{Frame}
use Rattle.doip_frame.specs.declared.frame.Frame.TheVariants.{Message}
use Rattle.vehicle_world.specs.Running.{HasBody}

-- a payload that has one of the lengths of its kind
abbrev Formed : Cut → Type 0
Formed Partial = Unit {0}
Formed (Wrong bad) = Unit {0}
Formed (Whole kind payload rest) = is_length kind (length payload) ≡ true

sized : (kind n : ℕ) (rest : List ℕ) → Formed (cut_sized kind n rest)
sized kind n rest = elim (cases_Bool (nat_lt 65600 n)) [
  | inl e ↦ rw e tt
  | inr e ↦ elim (cases_Bool (is_length kind n)) [
    | inr f ↦ rw (e, f) tt
    | inl f ↦ elim (cases_lt (length rest) n) [
      | inl lt ↦ let s : nat_lt (length rest) n ≡ true = lt-ltb _ _ lt in rw (e, f, s) tt
      | inr ge ↦
          let s : nat_lt (length rest) n ≡ false = le-ltb _ _ ge in
          let l : length (take n rest) ≡ n = length-take-le n rest ge in
          rw (e, f, s) (rw l f)
    ]
  ]
]

body : (bytes : List ℕ) → Formed (cut_body bytes)
body [] = tt
body (a ∷ []) = tt
body (a ∷ b ∷ []) = tt
body (a ∷ b ∷ c ∷ []) = tt
body (a ∷ b ∷ c ∷ d ∷ []) = tt
body (a ∷ b ∷ c ∷ d ∷ e ∷ []) = tt
body (a ∷ b ∷ c ∷ d ∷ e ∷ f ∷ rest) = sized (number2 a b) (number4 c d e f) rest

formed : (bytes : List ℕ) → Formed (cut_frame bytes)
formed [] = tt
formed (p ∷ []) = elim (cases_Bool (p == 3)) [ inl e ↦ rw e tt | inr e ↦ rw e tt ]
formed (p ∷ q ∷ rest) = elim (cases_Bool (p == 3 && q == 252)) [ inl e ↦ rw e (body rest) | inr e ↦ rw e tt ]

-- ------ by kinds
header : (payload : List ℕ) → HasBody (header_nack_of payload)
header [] = tt
header (code ∷ more) = tt

activate : (payload : List ℕ) → HasBody (activate_of payload)
activate [] = tt
activate (a ∷ []) = tt
activate (a ∷ b ∷ []) = tt
activate (a ∷ b ∷ c ∷ []) = tt
activate (a ∷ b ∷ c ∷ d ∷ []) = tt
activate (a ∷ b ∷ c ∷ d ∷ e ∷ []) = tt
activate (a ∷ b ∷ c ∷ d ∷ e ∷ f ∷ []) = tt
activate (a ∷ b ∷ c ∷ d ∷ e ∷ f ∷ g ∷ more) = tt

activated : (payload : List ℕ) → HasBody (activated_of payload)
activated [] = tt
activated (a ∷ []) = tt
activated (a ∷ b ∷ []) = tt
activated (a ∷ b ∷ c ∷ []) = tt
activated (a ∷ b ∷ c ∷ d ∷ []) = tt
activated (a ∷ b ∷ c ∷ d ∷ e ∷ []) = tt
activated (a ∷ b ∷ c ∷ d ∷ e ∷ f ∷ []) = tt
activated (a ∷ b ∷ c ∷ d ∷ e ∷ f ∷ g ∷ []) = tt
activated (a ∷ b ∷ c ∷ d ∷ e ∷ f ∷ g ∷ h ∷ []) = tt
activated (a ∷ b ∷ c ∷ d ∷ e ∷ f ∷ g ∷ h ∷ i ∷ more) = tt

alive : (payload : List ℕ) → HasBody (alive_of payload)
alive [] = tt
alive (a ∷ []) = tt
alive (a ∷ b ∷ more) = tt

acked : (s t : ℕ) (old : List ℕ) → HasBody (ack_of s t old)
acked s t [] = tt
acked s t (code ∷ more) = tt

nacked : (s t : ℕ) (old : List ℕ) → HasBody (nack_of s t old)
nacked s t [] = tt
nacked s t (code ∷ more) = tt

addressed : (kind : ℕ) (f : ℕ → ℕ → List ℕ → Frame) → ((s t : ℕ) (old : List ℕ) → HasBody (f s t old)) → (payload : List ℕ) → HasBody (addressed_of kind f payload)
addressed kind f has [] = tt
addressed kind f has (a ∷ []) = tt
addressed kind f has (a ∷ b ∷ []) = tt
addressed kind f has (a ∷ b ∷ c ∷ []) = tt
addressed kind f has (a ∷ b ∷ c ∷ d ∷ more) = has (number2 a b) (number2 c d) more

message : (payload : List ℕ) → 5 ≤ length payload → HasBody (addressed_of 32769 Message payload)
message [] le = tt
message (a ∷ []) le = tt
message (a ∷ b ∷ []) le = tt
message (a ∷ b ∷ c ∷ []) le = tt
message (a ∷ b ∷ c ∷ d ∷ more) le = omega (arith, le)

choose : (b : Bool) (x y : Frame) → (b ≡ true → HasBody x) → (b ≡ false → HasBody y) → HasBody (if b then x else y)
choose true x y yes' no' = yes' refl
choose false x y yes' no' = no' refl

of_frame : (kind : ℕ) (payload : List ℕ) → is_length kind (length payload) ≡ true → HasBody (frame_of kind payload)
of_frame kind payload form =
    choose (kind == 0) _ _ (λ e. header payload) (λ e0.
    choose (kind == 5) _ _ (λ e. activate payload) (λ e5.
    choose (kind == 6) _ _ (λ e. activated payload) (λ e6.
    choose (kind == 7) _ _ (λ e. tt) (λ e7.
    choose (kind == 8) _ _ (λ e. alive payload) (λ e8.
    choose (kind == 32769) _ _ (λ e.
    let five : nat_le 5 (length payload) ≡ true = rw (e0, e5, e6, e7, e8, e) at form in
    message payload (leb-true _ _ five)) (λ e.
    choose (kind == 32770) _ _ (λ e. addressed 32770 ack_of acked payload) (λ f.
    choose (kind == 32771) _ _ (λ e. addressed 32771 nack_of nacked payload) (λ g. tt))))))))

in_stream : (n : ℕ) (bytes : List ℕ) → Each HasBody (stream_in n bytes).frames
in_stream zero bytes = tt
in_stream (suc n) bytes = go (in_stream n) (cut_frame bytes) (formed bytes)
  where
    go : ((rest : List ℕ) → Each HasBody (stream_in n rest).frames) → (cut : Cut) → Formed cut → Each HasBody (stream_after cut (stream_in n) bytes).frames
    go again Partial form = tt
    go again (Wrong bad) form = tt
    go again (Whole kind payload rest) form = (of_frame kind payload form, again rest)

pub have_bodies : (held : Option (List ℕ)) (piece : List ℕ) → Each HasBody (frames_in held piece)
have_bodies None piece = tt
have_bodies (Some h) piece = in_stream (suc (length (h ++ piece))) (h ++ piece)
