-- Which bytes answer a request, by the rows of the table of services (ISO 14229-1).
use Rattle.std.specs.Prelude.{◌≡◌, ℕ, ◌+◌, ◌/◌, ◌≤◌, true, false, List, [], ◌∷◌, ◌++◌, length}
use Rattle.flash_base.specs.Numbers.{number_of}
use Rattle.uds_codec.specs.declared.request.Request.{Request}
use Rattle.uds_codec.specs.declared.request.Request.TheVariants.{Session, Seed, Key, ReadId, Routine, Download, Upload, Transfer, Pull, Exit, Reset, Setting, Messages}
use Rattle.uds_codec.specs.Answer.{Pending, Busy, Refusal, Accepted, BadStatus, judge}
use Rattle.uds_codec.specs.Form.{HasLength}
use Rattle.uds_codec.specs.Laws.{IsPair, Spells}
use Rattle.uds_codec.specs.Request.{sid_of}

-- a number of 1 to 8 bytes, 3 at least, behind the byte whose high digit says how many
pub record IsBlockNumber (digits : ℕ) (number : List ℕ) : Type 0 where
  pub said : digits / 16 ≡ length number
  pub some : 1 ≤ length number
  pub few : length number ≤ 8
  pub least : 3 ≤ number_of number

-- the answer to a download or an upload: its first byte, and the bytes of the number
abbrev pub AnswersLoad : ℕ → List ℕ → List ℕ → Type 0
AnswersLoad first bytes number = (digits : ℕ) × (rest : List ℕ) × (bytes ≡ first ∷ digits ∷ (number ++ rest))
    × IsBlockNumber digits number

-- The bytes answer the request positively, and this is what they say beyond the form.
abbrev pub Answers : Request → List ℕ → List ℕ → Type 0
Answers (Session kind) bytes more = bytes ≡ 80 ∷ kind ∷ more
Answers Reset bytes more = bytes ≡ 81 ∷ 1 ∷ more
Answers (ReadId did) bytes more = (hi : ℕ) × (lo : ℕ) × (bytes ≡ 98 ∷ hi ∷ lo ∷ more) × IsPair hi lo did
Answers (Seed level) bytes more = (bytes ≡ 103 ∷ level ∷ more) × HasLength 1 32 more
Answers (Key level key) bytes more = bytes ≡ 103 ∷ (level + 1) ∷ more
Answers (Routine id option) bytes more = (hi : ℕ) × (lo : ℕ) × (bytes ≡ 113 ∷ 1 ∷ hi ∷ lo ∷ 0 ∷ more)
    × IsPair hi lo id
Answers (Download width at size) bytes more = AnswersLoad 116 bytes more
Answers (Upload width at size) bytes more = AnswersLoad 117 bytes more
Answers (Transfer counter body) bytes more = bytes ≡ 118 ∷ counter ∷ more
Answers (Pull counter) bytes more = bytes ≡ 118 ∷ counter ∷ more
Answers Exit bytes more = bytes ≡ 119 ∷ more
Answers (Setting true) bytes more = bytes ≡ 197 ∷ 2 ∷ more
Answers (Setting false) bytes more = bytes ≡ 197 ∷ 1 ∷ more
Answers (Messages true) bytes more = bytes ≡ 104 ∷ 3 ∷ more
Answers (Messages false) bytes more = bytes ≡ 104 ∷ 0 ∷ more

-- The bytes say that the routine ended with this status, which is not 0.
abbrev pub EndsWith : Request → List ℕ → ℕ → Type 0
EndsWith (Routine id option) bytes status =
    (hi : ℕ) × (lo : ℕ) × (more : List ℕ) × (bytes ≡ 113 ∷ 1 ∷ hi ∷ lo ∷ status ∷ more) × IsPair hi lo id
    × (1 ≤ status)
EndsWith (Session kind) bytes status = ⊥
EndsWith Reset bytes status = ⊥
EndsWith (ReadId did) bytes status = ⊥
EndsWith (Seed level) bytes status = ⊥
EndsWith (Key level key) bytes status = ⊥
EndsWith (Download width at size) bytes status = ⊥
EndsWith (Upload width at size) bytes status = ⊥
EndsWith (Transfer counter body) bytes status = ⊥
EndsWith (Pull counter) bytes status = ⊥
EndsWith Exit bytes status = ⊥
EndsWith (Setting off) bytes status = ⊥
EndsWith (Messages off) bytes status = ⊥

-- The bytes refuse the request's service with this code.
abbrev pub Refuses : List ℕ → List ℕ → ℕ → Type 0
Refuses request bytes code = bytes ≡ 127 ∷ sid_of request ∷ code ∷ []

-- Each verdict stands exactly where the answer is as it says.
pub record IsAnswered : Type 0 where
  pub good : (r : Request) (request bytes more : List ℕ) → Spells r request
      → judge request bytes ≡ Accepted more → Answers r bytes more
  pub answers : (r : Request) (request bytes more : List ℕ) → Spells r request → Answers r bytes more
      → judge request bytes ≡ Accepted more
  pub status : (r : Request) (request bytes : List ℕ) (status : ℕ) → Spells r request
      → judge request bytes ≡ BadStatus status → EndsWith r bytes status
  pub ends : (r : Request) (request bytes : List ℕ) (status : ℕ) → Spells r request → EndsWith r bytes status
      → judge request bytes ≡ BadStatus status
  pub later : (request bytes : List ℕ) → judge request bytes ≡ Pending → Refuses request bytes 120
  pub again : (request bytes : List ℕ) → judge request bytes ≡ Busy → Refuses request bytes 33
  pub refusal : (request bytes : List ℕ) (code : ℕ) → judge request bytes ≡ Refusal code
      → Refuses request bytes code
  pub waits : (request bytes : List ℕ) → Refuses request bytes 120 → judge request bytes ≡ Pending
  pub busy : (request bytes : List ℕ) → Refuses request bytes 33 → judge request bytes ≡ Busy
  pub refused : (request bytes : List ℕ) (code : ℕ) → (code ≡ 120 → ⊥) → (code ≡ 33 → ⊥)
      → Refuses request bytes code → judge request bytes ≡ Refusal code
