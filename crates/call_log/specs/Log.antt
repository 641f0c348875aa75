-- The calls that a file keeps: how they are written, and what a file says (framed as ISO 13400-2:2019, section 9).
use Rattle.std.specs.Prelude.{ℕ, ◌+◌, ◌*◌, ◌/◌, ◌%◌, ◌≤◌, Bool, false, ◌&&◌, ◌==◌, List, [], ◌∷◌, ◌++◌, length, drop, bytes_eq, Option, Some, None, if◌then◌else◌}
use Rattle.flash_base.specs.Numbers.{number4}
use Rattle.doip_frame.specs.declared.frame.Frame.{Frame}
use Rattle.doip_frame.specs.declared.frame.Frame.TheVariants.{Other}
use Rattle.doip_frame.specs.Frame.{stream_of, written}
use Rattle.call_log.specs.declared.call.LinkCall.{LinkCall}
use Rattle.call_log.specs.declared.call.LinkCall.TheVariants.{Redial, Receive, Send}

-- a number as four bytes
abbrev pub four : ℕ → List ℕ
four n = n / 16777216 ∷ n / 65536 % 256 ∷ n / 256 % 256 ∷ n % 256 ∷ []

-- the checksum that bytes make of one
abbrev pub mixed : ℕ → List ℕ → ℕ
mixed sum [] = sum
mixed sum (b ∷ bytes) = mixed ((sum * 16777619 + b) % 4294967296) bytes

-- ------ writing
-- a send has 1 to 65,600 bytes
abbrev pub IsKeepable : LinkCall → Type 0
IsKeepable Redial = Unit {0}
IsKeepable (Receive room) = Unit {0}
IsKeepable (Send bytes) = (1 ≤ length bytes) × (length bytes ≤ 65600)

-- the seal of a frame of this payload type
abbrev pub seal_bytes : ℕ → List ℕ → List ℕ
seal_bytes kind payload = written (Other 61444 (four (mixed kind payload)))

-- a frame and its seal
abbrev pub sealed_bytes : ℕ → List ℕ → List ℕ
sealed_bytes kind payload = written (Other kind payload) ++ seal_bytes kind payload

-- what a call adds to the file
abbrev pub call_bytes : LinkCall → List ℕ
call_bytes Redial = sealed_bytes 61441 []
call_bytes (Receive room) = sealed_bytes 61442 (four room)
call_bytes (Send bytes) = sealed_bytes 61443 bytes

-- the head of a file whose calls stand on the state with this digest
abbrev pub head_bytes : List ℕ → List ℕ
head_bytes digest = written (Other 61440 digest)

-- ------ reading
abbrev pub redial_of : List ℕ → Option LinkCall
redial_of [] = Some Redial
redial_of (b ∷ more) = None

abbrev pub receive_of : List ℕ → Option LinkCall
receive_of (a ∷ b ∷ c ∷ d ∷ []) = Some (Receive (number4 a b c d))
receive_of payload = None

abbrev pub send_of : List ℕ → Option LinkCall
send_of [] = None
send_of (b ∷ more) = Some (Send (b ∷ more))

-- the call that a frame of this payload type says
abbrev pub call_said : ℕ → List ℕ → Option LinkCall
call_said kind payload =
    if kind == 61441 then redial_of payload
    else if kind == 61442 then receive_of payload
    else if kind == 61443 then send_of payload
    else None

abbrev pub is_head : List ℕ → Frame → Bool
is_head digest (Other kind payload) = kind == 61440 && bytes_eq payload digest
is_head digest frame = false

abbrev pub is_seal : ℕ → Frame → Bool
is_seal sum (Other kind payload) = kind == 61444 && bytes_eq payload (four sum)
is_seal sum frame = false

-- the call that a frame and the next say, if that is its seal
abbrev pub sealed_call : Frame → Frame → Option LinkCall
sealed_call (Other kind payload) next =
    if is_seal (mixed kind payload) next then call_said kind payload else None
sealed_call frame next = None

-- a call, and then those behind it; or no more
abbrev pub before : Option LinkCall → List LinkCall → List LinkCall
before None calls = []
before (Some call) calls = call ∷ calls

-- the calls of frames, up to the first two that are none
abbrev pub calls_in : List Frame → List LinkCall
calls_in [] = []
calls_in (frame ∷ []) = []
calls_in (frame ∷ next ∷ frames) = before (sealed_call frame next) (calls_in frames)

-- the first frame is the head
abbrev pub is_headed : List ℕ → List Frame → Bool
is_headed digest [] = false
is_headed digest (frame ∷ frames) = is_head digest frame

-- the calls of frames behind the head, if there is that head
abbrev pub calls_behind : List ℕ → List Frame → List LinkCall
calls_behind digest frames = if is_headed digest frames then calls_in (drop 1 frames) else []

-- the calls that a file keeps on the state with this digest
abbrev pub calls_of : List ℕ → List ℕ → List LinkCall
calls_of digest bytes = calls_behind digest (stream_of bytes).frames
