-- Frames: how they are written, and how bytes are cut into them (ISO 13400-2:2019, section 9).
use Rattle.std.specs.Prelude.{ℕ, zero, suc, ◌/◌, ◌%◌, Bool, true, ◌&&◌, ◌||◌, ◌==◌, not, nat_lt, nat_le, List, [], ◌∷◌, length, take, drop, Option, Some, None, if◌then◌else◌}
use Rattle.flash_base.specs.Numbers.{number2, number4}
use Rattle.doip_frame.specs.declared.frame.Bad.{Bad}
use Rattle.doip_frame.specs.declared.frame.Bad.TheVariants.{Pattern, Length, TooLarge, Failed}
use Rattle.doip_frame.specs.declared.frame.Frame.{Frame}
use Rattle.doip_frame.specs.declared.frame.Frame.TheVariants.{HeaderNack, Activate, Activated, AliveAsk, AliveSay, Message, Ack, Nack, Other}

-- what stands at the front of bytes: the beginning of a frame, a refusal, or a frame and the bytes behind it
pub data Cut : Type 0 where
  Partial : Cut
  Wrong : Bad → Cut
  Whole : ℕ → List ℕ → List ℕ → Cut

-- the payload lengths of a kind
abbrev pub is_length : ℕ → ℕ → Bool
is_length kind n =
    if kind == 0 then n == 1
    else if kind == 5 then n == 7 || n == 11
    else if kind == 6 then n == 9 || n == 13
    else if kind == 7 then n == 0
    else if kind == 8 then n == 2
    else if kind == 32769 || kind == 32770 || kind == 32771 then nat_le 5 n
    else true

abbrev pub cut_sized : ℕ → ℕ → List ℕ → Cut
cut_sized kind n rest =
    if nat_lt 65600 n then Wrong (TooLarge n)
    else if not (is_length kind n) then Wrong (Length kind)
    else if nat_lt (length rest) n then Partial
    else Whole kind (take n rest) (drop n rest)

abbrev pub cut_body : List ℕ → Cut
cut_body (k1 ∷ k0 ∷ l3 ∷ l2 ∷ l1 ∷ l0 ∷ rest) = cut_sized (number2 k1 k0) (number4 l3 l2 l1 l0) rest
cut_body xs = Partial

abbrev pub cut_frame : List ℕ → Cut
cut_frame [] = Partial
cut_frame (p ∷ []) = if p == 3 then Partial else Wrong Pattern
cut_frame (p ∷ q ∷ rest) = if p == 3 && q == 252 then cut_body rest else Wrong Pattern

abbrev pub oem_of : List ℕ → Option ℕ
oem_of (o3 ∷ o2 ∷ o1 ∷ o0 ∷ []) = Some (number4 o3 o2 o1 o0)
oem_of xs = None

abbrev pub header_nack_of : List ℕ → Frame
header_nack_of [] = Other 0 []
header_nack_of (code ∷ more) = HeaderNack code

abbrev pub activate_of : List ℕ → Frame
activate_of (s1 ∷ s0 ∷ kind ∷ r3 ∷ r2 ∷ r1 ∷ r0 ∷ more) = Activate (number2 s1 s0) kind (oem_of more)
activate_of xs = Other 5 xs

abbrev pub activated_of : List ℕ → Frame
activated_of (t1 ∷ t0 ∷ e1 ∷ e0 ∷ code ∷ r3 ∷ r2 ∷ r1 ∷ r0 ∷ more) =
    Activated (number2 t1 t0) (number2 e1 e0) code (oem_of more)
activated_of xs = Other 6 xs

abbrev pub alive_of : List ℕ → Frame
alive_of (s1 ∷ s0 ∷ more) = AliveSay (number2 s1 s0)
alive_of xs = Other 8 xs

abbrev pub addressed_of : ℕ → (ℕ → ℕ → List ℕ → Frame) → List ℕ → Frame
addressed_of kind f (s1 ∷ s0 ∷ t1 ∷ t0 ∷ body) = f (number2 s1 s0) (number2 t1 t0) body
addressed_of kind f xs = Other kind xs

abbrev pub ack_of : ℕ → ℕ → List ℕ → Frame
ack_of s t [] = Other 32770 []
ack_of s t (code ∷ old) = Ack s t code old

abbrev pub nack_of : ℕ → ℕ → List ℕ → Frame
nack_of s t [] = Other 32771 []
nack_of s t (code ∷ old) = Nack s t code old

-- the frame of a kind with a payload of one of its lengths
abbrev pub frame_of : ℕ → List ℕ → Frame
frame_of kind payload =
    if kind == 0 then header_nack_of payload
    else if kind == 5 then activate_of payload
    else if kind == 6 then activated_of payload
    else if kind == 7 then AliveAsk
    else if kind == 8 then alive_of payload
    else if kind == 32769 then addressed_of 32769 Message payload
    else if kind == 32770 then addressed_of 32770 ack_of payload
    else if kind == 32771 then addressed_of 32771 nack_of payload
    else Other kind payload

-- the frames of bytes, what is left, and the refusal of what is left
pub record Stream : Type 0 where
  pub frames : List Frame
  pub rest : List ℕ
  pub bad : Option Bad

abbrev pub with_frame : Frame → Stream → Stream
with_frame f s = record s { frames = f ∷ s.frames }

abbrev pub stream_after : Cut → (List ℕ → Stream) → List ℕ → Stream
stream_after Partial go bytes = record { frames = []; rest = bytes; bad = None }
stream_after (Wrong bad) go bytes = record { frames = []; rest = bytes; bad = Some bad }
stream_after (Whole kind payload rest) go bytes = with_frame (frame_of kind payload) (go rest)

abbrev pub stream_in : ℕ → List ℕ → Stream
stream_in zero bytes = record { frames = []; rest = bytes; bad = None }
stream_in (suc n) bytes = stream_after (cut_frame bytes) (stream_in n) bytes

abbrev pub stream_of : List ℕ → Stream
stream_of bytes = stream_in (suc (length bytes)) bytes

-- ------ writing
abbrev pub frame_bytes : ℕ → List ℕ → List ℕ
frame_bytes kind payload =
    3 ∷ 252 ∷ kind / 256 ∷ kind % 256
    ∷ length payload / 16777216 ∷ length payload / 65536 % 256 ∷ length payload / 256 % 256
    ∷ length payload % 256 ∷ payload

abbrev pub addressed : ℕ → ℕ → List ℕ → List ℕ
addressed source target body = source / 256 ∷ source % 256 ∷ target / 256 ∷ target % 256 ∷ body

abbrev pub oem_bytes : Option ℕ → List ℕ
oem_bytes None = []
oem_bytes (Some oem) = oem / 16777216 ∷ oem / 65536 % 256 ∷ oem / 256 % 256 ∷ oem % 256 ∷ []

abbrev pub kind_of : Frame → ℕ
kind_of (HeaderNack code) = 0
kind_of (Activate source kind oem) = 5
kind_of (Activated tester entity code oem) = 6
kind_of AliveAsk = 7
kind_of (AliveSay source) = 8
kind_of (Message source target body) = 32769
kind_of (Ack source target code old) = 32770
kind_of (Nack source target code old) = 32771
kind_of (Other kind payload) = kind

-- the payload of a frame, with the reserved bytes 0
abbrev pub payload_of : Frame → List ℕ
payload_of (HeaderNack code) = code ∷ []
payload_of (Activate source kind oem) = source / 256 ∷ source % 256 ∷ kind ∷ 0 ∷ 0 ∷ 0 ∷ 0 ∷ oem_bytes oem
payload_of (Activated tester entity code oem) =
    tester / 256 ∷ tester % 256 ∷ entity / 256 ∷ entity % 256 ∷ code ∷ 0 ∷ 0 ∷ 0 ∷ 0 ∷ oem_bytes oem
payload_of AliveAsk = []
payload_of (AliveSay source) = source / 256 ∷ source % 256 ∷ []
payload_of (Message source target body) = addressed source target body
payload_of (Ack source target code old) = addressed source target (code ∷ old)
payload_of (Nack source target code old) = addressed source target (code ∷ old)
payload_of (Other kind payload) = payload

-- the bytes that a frame is written as
abbrev pub written : Frame → List ℕ
written f = frame_bytes (kind_of f) (payload_of f)

-- the code with which a gateway refuses a header, 255 for what is no refusal of one
abbrev pub nack_code : Bad → ℕ
nack_code Pattern = 0
nack_code (TooLarge said) = 2
nack_code (Length kind) = 4
nack_code Failed = 255

-- the default activation
abbrev pub activate_bytes : ℕ → List ℕ
activate_bytes tester = written (Activate tester 0 None)

abbrev pub activated_bytes : ℕ → ℕ → ℕ → List ℕ
activated_bytes tester entity code = written (Activated tester entity code None)

abbrev pub alive_ask_bytes : List ℕ
alive_ask_bytes = written AliveAsk

abbrev pub alive_say_bytes : ℕ → List ℕ
alive_say_bytes tester = written (AliveSay tester)

abbrev pub message_bytes : ℕ → ℕ → List ℕ → List ℕ
message_bytes source target body = written (Message source target body)

abbrev pub ack_bytes : ℕ → ℕ → List ℕ
ack_bytes source target = written (Ack source target 0 [])

abbrev pub nack_bytes : ℕ → ℕ → ℕ → List ℕ
nack_bytes source target code = written (Nack source target code [])

abbrev pub header_nack_bytes : ℕ → List ℕ
header_nack_bytes code = written (HeaderNack code)
