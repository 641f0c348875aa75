-- What the first item of a list does to the whole.
use Rattle.std.proofs.Common.{◌≡◌, refl, zero, suc, ◌+◌, ◌-◌, ◌<◌, ◌≤◌, inl, inr, nat_lt, ℕ, List, [], ◌∷◌, length, arith, cond, Bool, true, false, Option, Result, Ok, Err}
use Rattle.std.proofs.lemmas.Bool.{cases_lt, lt-ltb}
use Rattle.std.specs.Prelude.{slice_index_or}
use Rattle.flash_base.specs.Lists.{Each}
use Rattle.span_store.specs.ByteMap.{top}
use Rattle.ecu_mem.specs.declared.types.Block.{Block}
use Rattle.session_image.specs.Kept.{IsPlaced, IsWithin}
use Rattle.session_image.specs.Pieces.{◌>>=◌, bodies, byte_of, filled, is_outside, target_of, moved}
use Rattle.session_image.specs.declared.content.Content.{Content}
use Rattle.session_image.specs.declared.pieces.Piece.{Piece}
use Rattle.session_image.specs.declared.types.ImageFault.{ImageFault}
use Rattle.session_image.specs.declared.types.ImageFault.TheVariants.{OutOfRange}
use Rattle.session_image.proofs.Joins.{Begins}

-- what holds of each holds of the one at a place
pub each_at : {A : Type 0} (P : A → Type 0) (xs : List A) (i : ℕ) (d : A) → i < length xs → Each P xs → P (slice_index_or xs i d)
each_at P [] i d within h = absurd (omega arith)
each_at P (x ∷ xs) zero d within h = h.0
each_at P (x ∷ xs) (suc i) d within h = each_at P xs i d (omega arith) h.1

-- ------ one segment at its target address
abbrev pub one_moved : Block → ℕ → ℕ × List ℕ → Result Piece ImageFault
one_moved b number s = cond (is_outside b s.0 (length s.1)) (Err (OutOfRange number)) (Ok (record { source = s.0; target = target_of b s.0; body = s.1 }))

first_moved : (t : Bool) (e : ImageFault) (y : Piece) (r : Result (List Piece) ImageFault) → cond t (Err e) (r >>= λ rest. Ok (y ∷ rest)) ≡ (cond t (Err e) (Ok y) >>= λ y. r >>= λ ys. Ok (y ∷ ys))
first_moved true e y r = refl
first_moved false e y r = refl

pub moved_begins : (b : Block) (number : ℕ) (s : ℕ × List ℕ) → Begins (moved b number) s (one_moved b number s) (moved b (number + 1))
moved_begins b number s = λ rest. first_moved (is_outside b s.0 (length s.1)) (OutOfRange number) (record { source = s.0; target = target_of b s.0; body = s.1 }) (moved b (number + 1) rest)

pub moved_inside : (b : Block) (number : ℕ) (s : ℕ × List ℕ) → is_outside b s.0 (length s.1) ≡ false → one_moved b number s ≡ Ok (record { source = s.0; target = target_of b s.0; body = s.1 })
moved_inside b number s h = rw h refl

pub moved_outside : (b : Block) (number : ℕ) (s : ℕ × List ℕ) → is_outside b s.0 (length s.1) ≡ true → one_moved b number s ≡ Err (OutOfRange number)
moved_outside b number s h = rw h refl

at_target : (down : Bool) (at offset size : ℕ) → at + size ≤ top → cond down (nat_lt at offset) (nat_lt top (at + offset + size)) ≡ false → cond down (at - offset) (at + offset) + size ≤ top
at_target true at offset size h inside = omega arith
at_target false at offset size h inside = elim (cases_lt top (at + offset + size)) [
  | inl lt ↦ let t : nat_lt top (at + offset + size) ≡ true = lt-ltb top (at + offset + size) lt in cc
  | inr le ↦ omega arith
]

-- it is within the addresses there too
pub placed_one : (b : Block) (s : ℕ × List ℕ) → IsWithin s → is_outside b s.0 (length s.1) ≡ false → IsPlaced (record { source = s.0; target = target_of b s.0; body = s.1 })
placed_one b s within inside = record {
  some = within.0;
  source = within.1;
  target = at_target b.down s.0 b.offset (length s.1) within.1 inside;
}

-- ------ one range with its bytes
abbrev pub with_start : ℕ → Result (List ℕ) ImageFault → Result (ℕ × List ℕ) ImageFault
with_start at (Ok body) = Ok (at, body)
with_start at (Err e) = Err e

first_body : (at : ℕ) (f : Result (List ℕ) ImageFault) (r : Result (List (ℕ × List ℕ)) ImageFault) → (f >>= λ body. r >>= λ rest. Ok ((at, body) ∷ rest)) ≡ (with_start at f >>= λ y. r >>= λ ys. Ok (y ∷ ys))
first_body at (Ok body) r = refl
first_body at (Err e) r = refl

pub bodies_begin : (c : Content) (filters : List (ℕ × ℕ)) (fill : Option ℕ) (number before : ℕ) (s : ℕ × ℕ) →
    Begins (bodies c filters fill number before) s (with_start s.0 (filled number (byte_of c filters s.0 before) fill s.0 s.1)) (bodies c filters fill (number + 1) (before + s.1))
bodies_begin c filters fill number before s =
    λ rest. first_body s.0 (filled number (byte_of c filters s.0 before) fill s.0 s.1) (bodies c filters fill (number + 1) (before + s.1) rest)
