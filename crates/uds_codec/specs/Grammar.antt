-- Which bytes begin a request, and what refused bytes are.
use Rattle.std.specs.Prelude.{◌≡◌, ℕ, ◌+◌, ◌/◌, ◌%◌, ◌<◌, ◌≤◌, Bool, true, false, ◌&&◌, ◌||◌, ◌==◌, nat_le, List, [], ◌∷◌, length, take, Some, None, Result, Ok, Err, if◌then◌else◌}
use Rattle.uds_codec.specs.declared.request.Request.{Request}
use Rattle.uds_codec.specs.declared.request.UdsFault.{UdsFault}
use Rattle.uds_codec.specs.declared.request.UdsFault.TheVariants.{Short, UnknownSid, BadForm, NoMemory}
use Rattle.uds_codec.specs.Request.{request_of, is_service, is_size_width, is_at_width}

-- the bytes behind a service's that begin one of its requests
abbrev pub begins_one : (ℕ → Bool) → List ℕ → Bool
begins_one good [] = true
begins_one good (x ∷ rest) = good x && length rest == 0

abbrev pub begins_security : List ℕ → Bool
begins_security [] = true
begins_security (level ∷ key) =
    nat_le 1 level && nat_le level 126 && (if level % 2 == 1 then length key == 0 else nat_le (length key) 32)

abbrev pub begins_routine : List ℕ → Bool
begins_routine [] = true
begins_routine (kind ∷ rest) = kind == 1

abbrev pub begins_range : List ℕ → Bool
begins_range [] = true
begins_range (digits ∷ rest) = is_size_width (digits / 16) && is_at_width (digits % 16)
    && nat_le (length rest) (digits % 16 + digits / 16)

-- a download or an upload
abbrev pub begins_load : List ℕ → Bool
begins_load [] = true
begins_load (form ∷ rest) = form == 0 && begins_range rest

abbrev pub begins_messages : List ℕ → Bool
begins_messages [] = true
begins_messages (code ∷ rest) = (code == 0 || code == 3) && begins_one (λ kind. kind == 1) rest

abbrev pub begins_transfer : List ℕ → Bool
begins_transfer [] = true
begins_transfer (counter ∷ body) = nat_le (length body) 65533

-- a request's bytes begin so
abbrev pub begins : List ℕ → Bool
begins [] = true
begins (sid ∷ rest) =
    if sid == 16 then begins_one (λ kind. nat_le 1 kind && nat_le kind 3) rest
    else if sid == 17 then begins_one (λ kind. kind == 1) rest
    else if sid == 34 then nat_le (length rest) 2
    else if sid == 39 then begins_security rest
    else if sid == 49 then begins_routine rest
    else if sid == 52 then begins_load rest
    else if sid == 53 then begins_load rest
    else if sid == 54 then begins_transfer rest
    else if sid == 55 then length rest == 0
    else if sid == 133 then begins_one (λ code. code == 1 || code == 2) rest
    else if sid == 40 then begins_messages rest
    else false

-- the first place up to which, with it, the bytes begin none
pub record Stops (bytes : List ℕ) (at : ℕ) : Type 0 where
  pub within : at < length bytes
  pub before : begins (take at bytes) ≡ true
  pub there : begins (take (at + 1) bytes) ≡ false

-- the first byte is of no service
pub record IsUnknown (bytes : List ℕ) (sid : ℕ) : Type 0 where
  pub rest : List ℕ
  pub first : bytes ≡ sid ∷ rest
  pub unlisted : is_service sid ≡ false

-- why bytes that spell no request are refused
abbrev pub IsRefusal : List ℕ → UdsFault → Type 0
IsRefusal bytes Short = begins bytes ≡ true
IsRefusal bytes (UnknownSid sid) = IsUnknown bytes sid
IsRefusal bytes (BadForm at) = Stops bytes at × (1 ≤ at)
IsRefusal bytes NoMemory = ⊥

-- what bytes are read as
abbrev pub Reads : List ℕ → Result Request UdsFault → Type 0
Reads bytes (Ok r) = request_of bytes ≡ Some r
Reads bytes (Err fault) = (request_of bytes ≡ None) × IsRefusal bytes fault
