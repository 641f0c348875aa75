-- What an answer to a request says.
use Rattle.std.specs.Prelude.{ℕ, ◌+◌, ◌/◌, Bool, ◌&&◌, ◌||◌, ◌==◌, nat_le, List, [], ◌∷◌, length, take, Option, Some, None, if◌then◌else◌}
use Rattle.flash_base.specs.Numbers.{number2, number_of}
use Rattle.uds_codec.specs.declared.request.Request.{Request}
use Rattle.uds_codec.specs.declared.request.Request.TheVariants.{Session, Seed, Key, ReadId, Routine, Download, Upload, Transfer, Pull, Exit, Reset, Setting, Messages}
use Rattle.uds_codec.specs.Request.{sid_of, request_of, setting_code, messages_code}

-- Later: a response pending. Again: busy. Good: a positive answer in the form, with what stands behind its beginning.
pub data Verdict : Type 0 where
  Pending : Verdict
  Busy : Verdict
  Refusal : ℕ → Verdict
  Accepted : List ℕ → Verdict
  BadStatus : ℕ → Verdict
  Malformed : Verdict

-- the codes of the table: of the service, its place and its range, of access, of a transfer, and of waiting
abbrev pub is_code : ℕ → Bool
is_code nrc =
    nrc == 17 || nrc == 18 || nrc == 19 || nrc == 33 || nrc == 34 || nrc == 36 || nrc == 49 || nrc == 51
    || nrc == 53
    || nrc == 112 || nrc == 113 || nrc == 114 || nrc == 115 || nrc == 120 || nrc == 126 || nrc == 127

abbrev pub negative : ℕ → Verdict
negative nrc = if nrc == 120 then Pending else if nrc == 33 then Busy else Refusal nrc

-- behind a first byte that is expected
abbrev pub after_one : List ℕ → ℕ → (List ℕ → Verdict) → Verdict
after_one [] a f = Malformed
after_one (x ∷ xs) a f = if x == a then f xs else Malformed

abbrev pub seed_form : List ℕ → Verdict
seed_form seed = if nat_le 1 (length seed) && nat_le (length seed) 32 then Accepted seed else Malformed

abbrev pub status_form : List ℕ → Verdict
status_form [] = Malformed
status_form (status ∷ more) = if status == 0 then Accepted more else BadStatus status

abbrev pub routine_form : ℕ → List ℕ → Verdict
routine_form id (a ∷ hi ∷ lo ∷ rest) = if a == 1 && number2 hi lo == id then status_form rest else Malformed
routine_form id xs = Malformed

abbrev pub id_form : ℕ → List ℕ → Verdict
id_form id (hi ∷ lo ∷ rest) = if number2 hi lo == id then Accepted rest else Malformed
id_form id xs = Malformed

abbrev pub block_form : List ℕ → Verdict
block_form [] = Malformed
block_form (n0 ∷ rest) =
    if nat_le 1 (n0 / 16) && nat_le (n0 / 16) 8 && nat_le (n0 / 16) (length rest)
    && nat_le 3 (number_of (take (n0 / 16) rest))
    then Accepted (take (n0 / 16) rest) else Malformed

abbrev pub form_of : Request → List ℕ → Verdict
form_of (Session kind) rest = after_one rest kind Accepted
form_of Reset rest = after_one rest 1 Accepted
form_of (ReadId did) rest = id_form did rest
form_of (Seed level) rest = after_one rest level seed_form
form_of (Key level key) rest = after_one rest (level + 1) Accepted
form_of (Routine id option) rest = routine_form id rest
form_of (Download width at size) rest = block_form rest
form_of (Upload width at size) rest = block_form rest
form_of (Transfer counter body) rest = after_one rest counter Accepted
form_of (Pull counter) rest = after_one rest counter Accepted
form_of Exit rest = Accepted rest
form_of (Setting off) rest = after_one rest (setting_code off) Accepted
form_of (Messages off) rest = after_one rest (messages_code off) Accepted

abbrev pub form_in : Option Request → List ℕ → Verdict
form_in None rest = Malformed
form_in (Some r) rest = form_of r rest

abbrev pub negative_of : ℕ → List ℕ → Verdict
negative_of sid (s ∷ nrc ∷ []) = if s == sid then negative nrc else Malformed
negative_of sid xs = Malformed

-- the answer to a request, given by its bytes
abbrev pub judge : List ℕ → List ℕ → Verdict
judge request [] = Malformed
judge request (x ∷ rest) =
    if x == 127 then negative_of (sid_of request) rest
    else if x == sid_of request + 64 then form_in (request_of request) rest
    else Malformed
