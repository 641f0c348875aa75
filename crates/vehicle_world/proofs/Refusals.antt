-- The refusal of a stream is that of a header.
use Rattle.std.proofs.Common.{◌≡◌, inl, inr, ℕ, zero, suc, List, [], ◌∷◌, length, None, Some, Option, refl}
use Rattle.std.specs.Prelude.{nat_lt, ◌==◌, ◌&&◌}
use Rattle.std.proofs.lemmas.Bool.{cases_Bool}
use Rattle.flash_base.specs.Numbers.{number2, number4}
use Rattle.doip_frame.specs.declared.frame.Bad.{Bad}
use Rattle.doip_frame.specs.declared.frame.Bad.TheVariants.{Pattern, Length, TooLarge, Failed}
use Rattle.doip_frame.specs.Frame.{Cut, Partial, Wrong, Whole, cut_frame, cut_body, cut_sized, is_length, stream_of, stream_in, stream_after, nack_code, header_nack_bytes}
use Rattle.gateway_sim.specs.Gates.{Gate}
use Rattle.gateway_sim.specs.Handling.{refusing, says}

abbrev pub IsOfHeader : Option Bad → Type 0
IsOfHeader None = Unit {0}
IsOfHeader (Some Pattern) = Unit {0}
IsOfHeader (Some (Length kind)) = Unit {0}
IsOfHeader (Some (TooLarge said)) = Unit {0}
IsOfHeader (Some Failed) = ⊥

abbrev InHeader : Cut → Type 0
InHeader Partial = Unit {0}
InHeader (Wrong bad) = IsOfHeader (Some bad)
InHeader (Whole kind payload rest) = Unit {0}

sized : (kind n : ℕ) (rest : List ℕ) → InHeader (cut_sized kind n rest)
sized kind n rest = elim (cases_Bool (nat_lt 65600 n)) [
  | inl e ↦ rw e tt
  | inr e ↦ elim (cases_Bool (is_length kind n)) [
    | inr f ↦ rw (e, f) tt
    | inl f ↦ elim (cases_Bool (nat_lt (length rest) n)) [ inl g ↦ rw (e, f, g) tt | inr g ↦ rw (e, f, g) tt ]
  ]
]

body : (s : List ℕ) → InHeader (cut_body s)
body [] = tt
body (a ∷ []) = tt
body (a ∷ b ∷ []) = tt
body (a ∷ b ∷ c ∷ []) = tt
body (a ∷ b ∷ c ∷ d ∷ []) = tt
body (a ∷ b ∷ c ∷ d ∷ e ∷ []) = tt
body (a ∷ b ∷ c ∷ d ∷ e ∷ f ∷ rest) = sized (number2 a b) (number4 c d e f) rest

in_header : (s : List ℕ) → InHeader (cut_frame s)
in_header [] = tt
in_header (p ∷ []) = elim (cases_Bool (p == 3)) [ inl e ↦ rw e tt | inr e ↦ rw e tt ]
in_header (p ∷ q ∷ rest) = elim (cases_Bool (p == 3 && q == 252)) [ inl e ↦ rw e (body rest) | inr e ↦ rw e tt ]

of_stream : (n : ℕ) (s : List ℕ) → IsOfHeader (stream_in n s).bad
of_stream zero s = tt
of_stream (suc n) s = go (of_stream n) (cut_frame s) (in_header s)
  where
    go : ((rest : List ℕ) → IsOfHeader (stream_in n rest).bad) → (cut : Cut) → InHeader cut → IsOfHeader (stream_after cut (stream_in n) s).bad
    go again Partial is = tt
    go again (Wrong bad) is = is
    go again (Whole kind payload rest) is = again rest

pub of_header : (s : List ℕ) → IsOfHeader (stream_of s).bad
of_header s = of_stream (suc (length s)) s

pub refusal_is : (bad : Bad) (g : Gate) → IsOfHeader (Some bad) → refusing (Some bad) g ≡ says g (header_nack_bytes (nack_code bad))
refusal_is Pattern g is = refl
refusal_is (Length kind) g is = refl
refusal_is (TooLarge said) g is = refl
refusal_is Failed g is = absurd is
