-- What bytes are read as, place by place.
use Rattle.std.specs.Prelude.{ℕ, ◌+◌, ◌-◌, ◌*◌, ◌/◌, ◌%◌, Bool, true, false, ◌&&◌, ◌==◌, not, nat_lt, nat_le, List, [], ◌∷◌, length, take, drop, slice_index, Result, Ok, Err, if◌then◌else◌}
use Rattle.flash_base.specs.Numbers.{number_of}
use Rattle.flash_base.specs.declared.unit.Width.{Width}
use Rattle.uds_codec.specs.declared.read.Area.{Area}
use Rattle.uds_codec.specs.declared.request.Reply.{Reply}
use Rattle.uds_codec.specs.declared.request.Reply.TheVariants.{Positive, Negative}
use Rattle.uds_codec.specs.declared.request.Request.{Request}
use Rattle.uds_codec.specs.declared.request.Request.TheVariants.{Session, Seed, Key, ReadId, Routine, Download, Upload, Transfer, Pull, Exit, Reset, Setting, Messages}
use Rattle.uds_codec.specs.declared.request.UdsFault.{UdsFault}
use Rattle.uds_codec.specs.declared.request.UdsFault.TheVariants.{Short, UnknownSid, BadForm}
use Rattle.uds_codec.specs.Request.{is_service}

abbrev pub two_at : List ℕ → ℕ → ℕ
two_at s i = slice_index s i * 256 + slice_index s (i + 1)

abbrev pub session_at : List ℕ → Result Request UdsFault
session_at s =
    if nat_lt (length s) 2 then Err Short
    else if nat_lt (slice_index s 1) 1 then Err (BadForm 1)
    else if nat_lt 3 (slice_index s 1) then Err (BadForm 1)
    else if nat_lt 2 (length s) then Err (BadForm 2)
    else Ok (Session (slice_index s 1))

abbrev pub reset_at : List ℕ → Result Request UdsFault
reset_at s =
    if nat_lt (length s) 2 then Err Short
    else if not (slice_index s 1 == 1) then Err (BadForm 1)
    else if nat_lt 2 (length s) then Err (BadForm 2)
    else Ok Reset

abbrev pub read_id_at : List ℕ → Result Request UdsFault
read_id_at s =
    if nat_lt (length s) 3 then Err Short
    else if nat_lt 3 (length s) then Err (BadForm 3)
    else Ok (ReadId (two_at s 1))

abbrev pub seed_at : List ℕ → Result Request UdsFault
seed_at s = if nat_lt 2 (length s) then Err (BadForm 2) else Ok (Seed (slice_index s 1))

abbrev pub key_at : List ℕ → Result Request UdsFault
key_at s =
    if nat_lt (length s) 3 then Err Short
    else if nat_lt 34 (length s) then Err (BadForm 34)
    else Ok (Key (slice_index s 1 - 1) (drop 2 s))

abbrev pub security_at : List ℕ → Result Request UdsFault
security_at s =
    if nat_lt (length s) 2 then Err Short
    else if nat_lt 126 (slice_index s 1) then Err (BadForm 1)
    else if slice_index s 1 == 0 then Err (BadForm 1)
    else if slice_index s 1 % 2 == 1 then seed_at s
    else key_at s

abbrev pub routine_at : List ℕ → Result Request UdsFault
routine_at s =
    if nat_lt (length s) 2 then Err Short
    else if not (slice_index s 1 == 1) then Err (BadForm 1)
    else if nat_lt (length s) 4 then Err Short
    else Ok (Routine (two_at s 2) (drop 4 s))

abbrev pub range_at : List ℕ → ℕ → ℕ → Result Area UdsFault
range_at s size at =
    if nat_lt (length s) (3 + at + size) then Err Short
    else if nat_lt (3 + at + size) (length s) then Err (BadForm (3 + at + size))
    else Ok (record {
      width = record { size = size; at = at };
      at = number_of (take at (drop 3 s));
      size = number_of (drop (3 + at) s);
    })

abbrev pub widths_at : List ℕ → ℕ → ℕ → Result Area UdsFault
widths_at s size at =
    if nat_lt size 1 then Err (BadForm 2)
    else if nat_lt 4 size then Err (BadForm 2)
    else if nat_lt at 1 then Err (BadForm 2)
    else if nat_lt 5 at then Err (BadForm 2)
    else range_at s size at

abbrev pub area_in : List ℕ → Result Area UdsFault
area_in s =
    if nat_lt (length s) 2 then Err Short
    else if not (slice_index s 1 == 0) then Err (BadForm 1)
    else if nat_lt (length s) 3 then Err Short
    else widths_at s (slice_index s 2 / 16) (slice_index s 2 % 16)

-- a download or an upload of the area
abbrev pub loaded : (Width → ℕ → ℕ → Request) → Result Area UdsFault → Result Request UdsFault
loaded load (Ok area) = Ok (load area.width area.at area.size)
loaded load (Err fault) = Err fault

abbrev pub load_at : (Width → ℕ → ℕ → Request) → List ℕ → Result Request UdsFault
load_at load s = loaded load (area_in s)

abbrev pub transfer_at : List ℕ → Result Request UdsFault
transfer_at s =
    if nat_lt (length s) 2 then Err Short
    else if nat_lt (length s) 3 then Ok (Pull (slice_index s 1))
    else if nat_lt 65535 (length s) then Err (BadForm 65535)
    else Ok (Transfer (slice_index s 1) (drop 2 s))

abbrev pub exit_at : List ℕ → Result Request UdsFault
exit_at s = if nat_lt 1 (length s) then Err (BadForm 1) else Ok Exit

abbrev pub setting_at : List ℕ → Result Request UdsFault
setting_at s =
    if nat_lt (length s) 2 then Err Short
    else if nat_lt (slice_index s 1) 1 then Err (BadForm 1)
    else if nat_lt 2 (slice_index s 1) then Err (BadForm 1)
    else if nat_lt 2 (length s) then Err (BadForm 2)
    else Ok (Setting (slice_index s 1 == 2))

abbrev pub messages_with : List ℕ → Bool → Result Request UdsFault
messages_with s off =
    if nat_lt (length s) 3 then Err Short
    else if not (slice_index s 2 == 1) then Err (BadForm 2)
    else if nat_lt 3 (length s) then Err (BadForm 3)
    else Ok (Messages off)

abbrev pub messages_at : List ℕ → Result Request UdsFault
messages_at s =
    if nat_lt (length s) 2 then Err Short
    else if slice_index s 1 == 0 then messages_with s false
    else if slice_index s 1 == 3 then messages_with s true
    else Err (BadForm 1)

abbrev pub decoded_at : List ℕ → ℕ → Result Request UdsFault
decoded_at s sid =
    if sid == 16 then session_at s
    else if sid == 17 then reset_at s
    else if sid == 34 then read_id_at s
    else if sid == 39 then security_at s
    else if sid == 49 then routine_at s
    else if sid == 52 then load_at Download s
    else if sid == 53 then load_at Upload s
    else if sid == 54 then transfer_at s
    else if sid == 55 then exit_at s
    else if sid == 133 then setting_at s
    else if sid == 40 then messages_at s
    else Err (UnknownSid sid)

abbrev pub decoded : List ℕ → Result Request UdsFault
decoded s = if length s == 0 then Err Short else decoded_at s (slice_index s 0)

-- ------ answers
abbrev pub negative_read : List ℕ → Result Reply UdsFault
negative_read [] = Err Short
negative_read (sid ∷ []) = Err Short
negative_read (sid ∷ nrc ∷ []) = Ok (Negative sid nrc)
negative_read (sid ∷ nrc ∷ more ∷ rest) = Err (BadForm 3)

-- what bytes are read as, as an answer to any request
abbrev pub reply_of : List ℕ → Result Reply UdsFault
reply_of [] = Err Short
reply_of (x ∷ rest) =
    if x == 127 then negative_read rest
    else if nat_le 64 x && is_service (x - 64) then Ok (Positive (x - 64) rest)
    else Err (UnknownSid x)
