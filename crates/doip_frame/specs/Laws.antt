-- Laws of frames on a stream.
use Rattle.std.specs.Prelude.{◌≡◌, ℕ, ◌<◌, List, [], ◌∷◌, ◌++◌, Option, Some, None}
use Rattle.doip_frame.specs.declared.frame.Bad.{Bad}
use Rattle.doip_frame.specs.declared.frame.Bad.TheVariants.{Failed}
use Rattle.doip_frame.specs.declared.frame.Frame.{Frame}
use Rattle.doip_frame.specs.declared.frame.Frame.TheVariants.{HeaderNack, Activate, Activated, AliveAsk, AliveSay, Message, Ack, Nack, Other}
use Rattle.doip_frame.specs.Deframe.{frames_in, bad_in, held_after, kept}
use Rattle.doip_frame.specs.Form.{IsFrame}
use Rattle.doip_frame.specs.Frame.{frame_of, written, stream_of}

-- ------ pieces
-- the bytes of pieces, one after another
abbrev pub joined : List (List ℕ) → List ℕ
joined [] = []
joined (piece ∷ pieces) = piece ++ joined pieces

-- what is held after pieces
abbrev pub held_behind : Option (List ℕ) → List (List ℕ) → Option (List ℕ)
held_behind held [] = held
held_behind held (piece ∷ pieces) = held_behind (held_after held piece) pieces

-- the frames that pieces give
abbrev pub frames_behind : Option (List ℕ) → List (List ℕ) → List Frame
frames_behind held [] = []
frames_behind held (piece ∷ pieces) = frames_in held piece ++ frames_behind (held_after held piece) pieces

-- the refusal that one piece more gives: none, the first, or Failed behind it
abbrev pub next_bad : Option Bad → Option Bad → Option Bad
next_bad None now = now
next_bad (Some before) now = Some Failed

-- Any pieces give the frames of all their bytes, and a refusal comes in the piece in which it first stands.
pub record AnyPieces : Type 0 where
  pub frames : (pieces : List (List ℕ)) → frames_behind (Some []) pieces ≡ (stream_of (joined pieces)).frames
  pub held : (pieces : List (List ℕ))
      → held_behind (Some []) pieces ≡ kept (stream_of (joined pieces)).bad (stream_of (joined pieces)).rest
  pub bad : (pieces : List (List ℕ)) (piece : List ℕ)
      → bad_in (held_behind (Some []) pieces) piece ≡ next_bad (stream_of (joined pieces)).bad
      (stream_of (joined pieces ++ piece)).bad

-- ------ one frame
-- what is written alone is that frame alone
abbrev pub FitsOem : Option ℕ → Type 0
FitsOem None = Unit {0}
FitsOem (Some oem) = oem < 4294967296

-- its numbers are of their types
abbrev pub Fits : Frame → Type 0
Fits (HeaderNack code) = Unit {0}
Fits (Activate source kind oem) = (source < 65536) × FitsOem oem
Fits (Activated tester entity code oem) = (tester < 65536) × (entity < 65536) × FitsOem oem
Fits AliveAsk = Unit {0}
Fits (AliveSay source) = source < 65536
Fits (Message source target body) = (source < 65536) × (target < 65536)
Fits (Ack source target code old) = (source < 65536) × (target < 65536)
Fits (Nack source target code old) = (source < 65536) × (target < 65536)
Fits (Other kind payload) = kind < 65536

abbrev pub IsReadAgain : Type 0
IsReadAgain = (f : Frame) (more : List ℕ) → IsFrame f → Fits f
    → stream_of (written f ++ more) ≡ record {
      frames = f ∷ (stream_of more).frames;
      rest = (stream_of more).rest;
      bad = (stream_of more).bad;
    }

-- no frame's bytes begin another's
abbrev pub IsOnlyOne : Type 0
IsOnlyOne = (f g : Frame) (x y : List ℕ) → IsFrame f → IsFrame g → Fits f → Fits g
    → written f ++ x ≡ written g ++ y → (f ≡ g) × (x ≡ y)

-- reserved bytes are read as anything
pub record IgnoresReserved : Type 0 where
  pub activate : (s1 s0 kind a b c d w x y z : ℕ) (oem : List ℕ)
      → frame_of 5 (s1 ∷ s0 ∷ kind ∷ a ∷ b ∷ c ∷ d ∷ oem) ≡ frame_of 5 (s1 ∷ s0 ∷ kind ∷ w ∷ x ∷ y ∷ z ∷ oem)
  pub activated : (t1 t0 e1 e0 code a b c d w x y z : ℕ) (oem : List ℕ)
      → frame_of 6 (t1 ∷ t0 ∷ e1 ∷ e0 ∷ code ∷ a ∷ b ∷ c ∷ d ∷ oem) ≡ frame_of 6
      (t1 ∷ t0 ∷ e1 ∷ e0 ∷ code ∷ w ∷ x ∷ y ∷ z ∷ oem)
