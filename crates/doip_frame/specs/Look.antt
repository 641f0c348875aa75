-- What the head of a stream says, byte by byte.
use Rattle.std.specs.Prelude.{◌≡◌, ℕ, ◌+◌, ◌-◌, ◌*◌, ◌≤◌, true, ◌&&◌, ◌==◌, not, List, length, take, drop, slice_index, nat_lt, if◌then◌else◌}
use Rattle.doip_frame.specs.declared.frame.Bad.TheVariants.{Pattern, Length, TooLarge}
use Rattle.doip_frame.specs.declared.cut.Look.{Look}
use Rattle.doip_frame.specs.declared.cut.Look.TheVariants.{Part, Refused, Complete}
use Rattle.doip_frame.specs.Frame.{Partial, Wrong, Whole, cut_frame, is_length}

-- the numbers of two and of four bytes from a place on
abbrev pub two_at : List ℕ → ℕ → ℕ
two_at s i = slice_index s i * 256 + slice_index s (i + 1)

abbrev pub four_at : List ℕ → ℕ → ℕ
four_at s i = ((slice_index s i * 256 + slice_index s (i + 1)) * 256 + slice_index s (i + 2)) * 256
    + slice_index s (i + 3)

-- a header with this kind and length, before so many bytes
abbrev pub look_sized : ℕ → ℕ → ℕ → Look
look_sized kind said have =
    if nat_lt 65600 said then Refused (TooLarge said)
    else if not (is_length kind said) then Refused (Length kind)
    else if nat_lt have said then Part
    else Complete kind said

abbrev pub look_of : List ℕ → Look
look_of s =
    if nat_lt 0 (length s) && not (slice_index s 0 == 3) then Refused Pattern
    else if nat_lt 1 (length s) && not (slice_index s 1 == 252) then Refused Pattern
    else if nat_lt (length s) 8 then Part
    else look_sized (two_at s 2) (four_at s 4) (length s - 8)

-- a whole frame at the front
pub record CutsWhole (kind size : ℕ) (s : List ℕ) : Type 0 where
  pub cuts : cut_frame s ≡ Whole kind (take size (drop 8 s)) (drop (8 + size) s)
  pub within : 8 + size ≤ length s
  pub few : size ≤ 65600
  pub form : is_length kind size ≡ true

-- what is seen is what is cut
abbrev pub Cuts : Look → List ℕ → Type 0
Cuts Part s = cut_frame s ≡ Partial
Cuts (Refused bad) s = cut_frame s ≡ Wrong bad
Cuts (Complete kind size) s = CutsWhole kind size s

-- how many bytes the beginning of a frame lacks, to its header's end or to its own
abbrev pub missing_of : List ℕ → ℕ
missing_of s = if nat_lt (length s) 8 then 8 - length s else 8 + four_at s 4 - length s
