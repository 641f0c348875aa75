-- The requests and what bytes spell them (ISO 14229-1).
use Rattle.std.specs.Prelude.{ℕ, ◌+◌, ◌-◌, ◌*◌, ◌/◌, ◌%◌, Bool, true, false, ◌&&◌, ◌||◌, ◌==◌, nat_lt, nat_le, List, [], ◌∷◌, ◌++◌, length, take, drop, Option, Some, None, if◌then◌else◌}
use Rattle.flash_base.specs.Numbers.{number2, big_endian, number_of}
use Rattle.flash_base.specs.declared.unit.Width.{Width}
use Rattle.uds_codec.specs.declared.request.Request.{Request}
use Rattle.uds_codec.specs.declared.request.Request.TheVariants.{Session, Seed, Key, ReadId, Routine, Download, Upload, Transfer, Pull, Exit, Reset, Setting, Messages}

-- an address and a size behind the digits of their widths
abbrev pub range_bytes : Width → ℕ → ℕ → List ℕ
range_bytes width at size = (width.size * 16 + width.at)
    ∷ (big_endian width.at at ++ big_endian width.size size)

-- the setting of trouble codes: 1 on, 2 off; normal messages: 0 on, 3 off
abbrev pub setting_code : Bool → ℕ
setting_code off = if off then 2 else 1

abbrev pub messages_code : Bool → ℕ
messages_code off = if off then 3 else 0

-- the bytes of a request
abbrev pub spelled : Request → List ℕ
spelled (Session kind) = 16 ∷ kind ∷ []
spelled Reset = 17 ∷ 1 ∷ []
spelled (ReadId did) = 34 ∷ big_endian 2 did
spelled (Seed level) = 39 ∷ level ∷ []
spelled (Key level key) = 39 ∷ (level + 1) ∷ key
spelled (Routine id option) = 49 ∷ 1 ∷ (big_endian 2 id ++ option)
spelled (Download width at size) = 52 ∷ 0 ∷ range_bytes width at size
spelled (Upload width at size) = 53 ∷ 0 ∷ range_bytes width at size
spelled (Transfer counter body) = 54 ∷ counter ∷ body
spelled (Pull counter) = 54 ∷ counter ∷ []
spelled Exit = 55 ∷ []
spelled (Setting off) = 133 ∷ setting_code off ∷ []
spelled (Messages off) = 40 ∷ messages_code off ∷ 1 ∷ []

abbrev pub one_byte : List ℕ → (ℕ → Option Request) → Option Request
one_byte (x ∷ []) f = f x
one_byte xs f = None

abbrev pub read_id_of : List ℕ → Option Request
read_id_of (hi ∷ lo ∷ []) = Some (ReadId (number2 hi lo))
read_id_of xs = None

-- an odd level alone asks for a seed; the even number behind it comes with a key
abbrev pub security_of : List ℕ → Option Request
security_of [] = None
security_of (level ∷ key) =
    if nat_lt 126 level || level == 0 then None
    else if level % 2 == 1 then (if length key == 0 then Some (Seed level) else None)
    else if nat_le 1 (length key) && nat_le (length key) 32 then Some (Key (level - 1) key)
    else None

abbrev pub routine_of : List ℕ → Option Request
routine_of (kind ∷ hi ∷ lo ∷ option) = if kind == 1 then Some (Routine (number2 hi lo) option) else None
routine_of xs = None

-- the widths, the address, the size, and the bytes behind
pub record Range : Type 0 where
  pub width : Width
  pub at : ℕ
  pub size : ℕ
  pub more : List ℕ

-- so many bytes for a size, for an address
abbrev pub is_size_width : ℕ → Bool
is_size_width n = nat_le 1 n && nat_le n 4

abbrev pub is_at_width : ℕ → Bool
is_at_width n = nat_le 1 n && nat_le n 5

abbrev pub range_with : ℕ → ℕ → List ℕ → Option Range
range_with s a rest =
    if is_size_width s && is_at_width a && nat_le (a + s) (length rest) then
    Some (record {
      width = record { size = s; at = a };
      at = number_of (take a rest);
      size = number_of (take s (drop a rest));
      more = drop s (drop a rest);
    })
    else None

-- the range at the beginning of bytes: of a download's or an upload's, or of a routine's option
abbrev pub range_of : List ℕ → Option Range
range_of [] = None
range_of (digits ∷ rest) = range_with (digits / 16) (digits % 16) rest

-- nothing stands behind the range
abbrev pub load_in : (Width → ℕ → ℕ → Request) → Option Range → Option Request
load_in load None = None
load_in load (Some r) = if length r.more == 0 then Some (load r.width r.at r.size) else None

-- a download or an upload of plain data
abbrev pub load_of : (Width → ℕ → ℕ → Request) → List ℕ → Option Request
load_of load [] = None
load_of load (form ∷ rest) = if form == 0 then load_in load (range_of rest) else None

-- a counter alone asks for a block; with data it sends one
abbrev pub transfer_of : List ℕ → Option Request
transfer_of [] = None
transfer_of (counter ∷ []) = Some (Pull counter)
transfer_of (counter ∷ x ∷ body) =
    if nat_le (length body) 65532 then Some (Transfer counter (x ∷ body)) else None

abbrev pub exit_of : List ℕ → Option Request
exit_of [] = Some Exit
exit_of (x ∷ xs) = None

abbrev pub setting_of : List ℕ → Option Request
setting_of (code ∷ []) =
    if code == 1 then Some (Setting false) else if code == 2 then Some (Setting true) else None
setting_of xs = None

abbrev pub messages_of : List ℕ → Option Request
messages_of (code ∷ kind ∷ []) =
    if kind == 1 && code == 0 then Some (Messages false) else if kind == 1 && code == 3
    then Some (Messages true) else None
messages_of xs = None

-- the request that bytes spell
abbrev pub request_of : List ℕ → Option Request
request_of [] = None
request_of (sid ∷ rest) =
    if sid == 16 then one_byte rest (λ kind. if nat_le 1 kind && nat_le kind 3 then Some (Session kind)
    else None)
    else if sid == 17 then one_byte rest (λ kind. if kind == 1 then Some Reset else None)
    else if sid == 34 then read_id_of rest
    else if sid == 39 then security_of rest
    else if sid == 49 then routine_of rest
    else if sid == 52 then load_of Download rest
    else if sid == 53 then load_of Upload rest
    else if sid == 54 then transfer_of rest
    else if sid == 55 then exit_of rest
    else if sid == 133 then setting_of rest
    else if sid == 40 then messages_of rest
    else None

-- the services of the table
abbrev pub is_service : ℕ → Bool
is_service sid = sid == 16 || sid == 17 || sid == 34 || sid == 39 || sid == 40 || sid == 49 || sid == 52
    || sid == 53 || sid == 54 || sid == 55 || sid == 133

abbrev pub sid_of : List ℕ → ℕ
sid_of [] = 0
sid_of (sid ∷ rest) = sid
