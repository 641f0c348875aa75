-- What was put into a file of calls is read again.
use Rattle.std.specs.Prelude.{◌≡◌, ◌≢◌, ℕ, ◌<◌, List, [], ◌∷◌, ◌++◌, length, take}
use Rattle.flash_base.specs.Lists.{Each}
use Rattle.doip_frame.specs.Frame.{stream_of}
use Rattle.call_log.specs.declared.call.LinkCall.{LinkCall}
use Rattle.call_log.specs.Log.{IsKeepable, call_bytes, head_bytes, calls_in, calls_of}

-- the bytes of calls, one after another
abbrev pub bytes_of : List LinkCall → List ℕ
bytes_of [] = []
bytes_of (call ∷ calls) = call_bytes call ++ bytes_of calls

-- a file with these calls on the state with this digest
abbrev pub file_of : List ℕ → List LinkCall → List ℕ
file_of digest calls = head_bytes digest ++ bytes_of calls

pub record IsKept : Type 0 where
  -- the calls that were put are those that are read
  pub whole : (digest : List ℕ) (calls : List LinkCall) → length digest ≡ 32 → Each IsKeepable calls
      → calls_of digest (file_of digest calls) ≡ calls
  -- whatever stands behind them
  pub behind : (digest : List ℕ) (calls : List LinkCall) (more : List ℕ) → length digest ≡ 32
      → Each IsKeepable calls
      → calls_of digest (file_of digest calls ++ more) ≡ calls ++ calls_in (stream_of more).frames
  -- of a file that was cut short in a call the calls before it
  pub cut : (digest : List ℕ) (calls : List LinkCall) (call : LinkCall) (n : ℕ) → length digest ≡ 32
      → Each IsKeepable calls → IsKeepable call → n < length (call_bytes call)
      → calls_of digest (file_of digest calls ++ take n (call_bytes call)) ≡ calls
  -- of one that was cut short in its head none
  pub headless : (digest own : List ℕ) (n : ℕ) → length digest ≡ 32 → n < length (head_bytes digest)
      → calls_of own (take n (head_bytes digest)) ≡ []
  -- of a file on another state none
  pub other : (digest own more : List ℕ) → length digest ≡ 32 → digest ≢ own
      → calls_of own (head_bytes digest ++ more) ≡ []
