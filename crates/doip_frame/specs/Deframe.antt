-- What a deframer gives for a piece, by what it holds: the beginning of a frame, or None after a refusal.
use Rattle.std.specs.Prelude.{◌≡◌, ℕ, Bool, true, false, List, [], ◌++◌, Option, Some, None}
use Rattle.doip_frame.specs.declared.frame.Bad.{Bad}
use Rattle.doip_frame.specs.declared.frame.Bad.TheVariants.{Failed}
use Rattle.doip_frame.specs.declared.frame.Frame.{Frame}
use Rattle.doip_frame.specs.Frame.{stream_of, Cut, Partial, Wrong, Whole}

-- the frames that end in the piece
abbrev pub frames_in : Option (List ℕ) → List ℕ → List Frame
frames_in None piece = []
frames_in (Some held) piece = (stream_of (held ++ piece)).frames

abbrev pub bad_in : Option (List ℕ) → List ℕ → Option Bad
bad_in None piece = Some Failed
bad_in (Some held) piece = (stream_of (held ++ piece)).bad

-- what is held behind frames, this rest and this refusal
abbrev pub kept : Option Bad → List ℕ → Option (List ℕ)
kept None rest = Some rest
kept (Some bad) rest = None

abbrev pub held_after : Option (List ℕ) → List ℕ → Option (List ℕ)
held_after None piece = None
held_after (Some held) piece = kept (stream_of (held ++ piece)).bad (stream_of (held ++ piece)).rest

-- what stays of a rest behind this refusal
abbrev pub left : Option Bad → List ℕ → List ℕ
left None rest = rest
left (Some bad) rest = []

-- nothing stands behind a whole frame
abbrev pub EndsThere : Cut → Type 0
EndsThere Partial = Unit {0}
EndsThere (Wrong bad) = Unit {0}
EndsThere (Whole kind payload more) = more ≡ []

-- the bytes of a piece are used up where they end no frame
abbrev pub Stops : Cut → List ℕ → Type 0
Stops Partial unused = unused ≡ []
Stops (Wrong bad) unused = Unit {0}
Stops (Whole kind payload more) unused = more ≡ []

abbrev pub is_partial : Cut → Bool
is_partial Partial = true
is_partial (Wrong bad) = false
is_partial (Whole kind payload more) = false
