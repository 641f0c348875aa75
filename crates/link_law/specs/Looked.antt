-- What the frames of one connection say, and which of them are looked at (ISO 13400-2:2019, sections 7 and 9).
use Rattle.std.specs.Prelude.{ℕ, ◌+◌, Bool, false, ◌&&◌, ◌||◌, ◌==◌, not, is_some, List, [], ◌∷◌, Option, Some, None, if◌then◌else◌}
use Rattle.bay_core.specs.LinkLaws.{refuses_header, first_code}
use Rattle.doip_frame.specs.Frame.{Stream, stream_of}
use Rattle.doip_frame.specs.declared.frame.Frame.{Frame}
use Rattle.doip_frame.specs.declared.frame.Frame.TheVariants.{HeaderNack, Activated, AliveAsk}
use Rattle.run_model.specs.Ways.{UnitMessage, messages_in}

-- the frames before the first refused header
abbrev pub before_refusal : List Frame → List Frame
before_refusal [] = []
before_refusal (HeaderNack code ∷ fs) = []
before_refusal (f ∷ fs) = f ∷ before_refusal fs

-- the frames before the first answer to the activation
abbrev pub before_answer : List Frame → List Frame
before_answer [] = []
before_answer (Activated t entity code oem ∷ fs) = []
before_answer (f ∷ fs) = f ∷ before_answer fs

-- the code of the answer to the activation: the first one, if it comes before a refused header
abbrev pub answer_in : List Frame → Option ℕ
answer_in fs = first_code (before_refusal fs)

-- another code than the accepting one, 10 in hexadecimal
abbrev pub is_denial : Option ℕ → Bool
is_denial None = false
is_denial (Some code) = not (code == 16)

-- the frames that are looked at: those before a refused header, and before an answer that denies the activation
abbrev pub looked_at : List Frame → List Frame
looked_at fs = if is_denial (answer_in fs) then before_answer fs else before_refusal fs

-- the bytes end the connection: a refused header or no frame, unless the activation was denied before
abbrev pub is_broken : Stream → Bool
is_broken s = not (is_denial (answer_in s.frames)) && (refuses_header s.frames || is_some s.bad)

-- how many alive checks are looked at
abbrev pub checks_in : List Frame → ℕ
checks_in [] = 0
checks_in (AliveAsk ∷ fs) = 1 + checks_in fs
checks_in (f ∷ fs) = checks_in fs

abbrev pub checks_of : List ℕ → ℕ
checks_of bytes = checks_in (looked_at (stream_of bytes).frames)

-- the messages of a unit to the tester that are looked at, in their order
abbrev pub unit_messages : ℕ → ℕ → List ℕ → List UnitMessage
unit_messages tester a bytes = messages_in tester a (looked_at (stream_of bytes).frames)
