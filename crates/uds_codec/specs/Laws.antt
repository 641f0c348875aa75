-- Laws of the spellings.
use Rattle.std.specs.Prelude.{◌≡◌, ℕ, ◌+◌, ◌*◌, true, false, List, [], ◌∷◌, ◌++◌, length, Some}
use Rattle.flash_base.specs.Numbers.{number2, number_of}
use Rattle.flash_base.specs.declared.unit.Width.{Width}
use Rattle.uds_codec.specs.declared.request.Request.{Request}
use Rattle.uds_codec.specs.declared.request.Request.TheVariants.{Session, Seed, Key, ReadId, Routine, Download, Upload, Transfer, Pull, Exit, Reset, Setting, Messages}
use Rattle.uds_codec.specs.Form.{IsLevel, IsWidth, HasLength, HasForm, AreBytes, Fits}
use Rattle.uds_codec.specs.Grammar.{begins}
use Rattle.uds_codec.specs.Request.{spelled, request_of}

-- an identifier of two bytes
abbrev pub IsPair : ℕ → ℕ → ℕ → Type 0
IsPair hi lo number = number ≡ number2 hi lo

-- an address and a size in so many bytes each
pub record AreNumbers (size_width at_width at size : ℕ) (address amount : List ℕ) : Type 0 where
  pub address_length : length address ≡ at_width
  pub amount_length : length amount ≡ size_width
  pub address_number : number_of address ≡ at
  pub amount_number : number_of amount ≡ size

-- an address and a size behind their digits, for the service
abbrev pub SpellsLoad : ℕ → Width → ℕ → ℕ → List ℕ → Type 0
SpellsLoad sid width at size bytes = (address : List ℕ) × (amount : List ℕ)
    × (bytes ≡ sid ∷ 0 ∷ (width.size * 16 + width.at) ∷ (address ++ amount))
    × AreNumbers width.size width.at at size address amount × IsWidth width

-- The grammar: the bytes spell the request, by its rows.
abbrev pub Spells : Request → List ℕ → Type 0
Spells (Session kind) bytes = (bytes ≡ 16 ∷ kind ∷ []) × HasForm (Session kind)
Spells Reset bytes = bytes ≡ 17 ∷ 1 ∷ []
Spells (ReadId did) bytes = (hi : ℕ) × (lo : ℕ) × (bytes ≡ 34 ∷ hi ∷ lo ∷ []) × IsPair hi lo did
Spells (Seed level) bytes = (bytes ≡ 39 ∷ level ∷ []) × IsLevel level
Spells (Key level key) bytes = (bytes ≡ 39 ∷ (level + 1) ∷ key) × IsLevel level × HasLength 1 32 key
Spells (Routine id option) bytes = (hi : ℕ) × (lo : ℕ) × (bytes ≡ 49 ∷ 1 ∷ hi ∷ lo ∷ option) × IsPair hi lo id
Spells (Download width at size) bytes = SpellsLoad 52 width at size bytes
Spells (Upload width at size) bytes = SpellsLoad 53 width at size bytes
Spells (Transfer counter body) bytes = (bytes ≡ 54 ∷ counter ∷ body) × HasLength 1 65533 body
Spells (Pull counter) bytes = bytes ≡ 54 ∷ counter ∷ []
Spells Exit bytes = bytes ≡ 55 ∷ []
Spells (Setting true) bytes = bytes ≡ 133 ∷ 2 ∷ []
Spells (Setting false) bytes = bytes ≡ 133 ∷ 1 ∷ []
Spells (Messages true) bytes = bytes ≡ 40 ∷ 3 ∷ 1 ∷ []
Spells (Messages false) bytes = bytes ≡ 40 ∷ 0 ∷ 1 ∷ []

-- what is written is read again
abbrev pub IsReadAgain : Type 0
IsReadAgain = (r : Request) → HasForm r → Fits r → request_of (spelled r) ≡ Some r

-- what is read is written so
pub record IsWritten (bytes : List ℕ) (r : Request) : Type 0 where
  pub same : bytes ≡ spelled r
  pub form : HasForm r
  pub fits : Fits r

abbrev pub IsWrittenAgain : Type 0
IsWrittenAgain = (bytes : List ℕ) (r : Request) → AreBytes bytes → request_of bytes ≡ Some r
    → IsWritten bytes r

-- the bytes spell what is read, and nothing else
pub record IsGrammar : Type 0 where
  pub spells : (bytes : List ℕ) (r : Request) → request_of bytes ≡ Some r → Spells r bytes
  pub only : (bytes : List ℕ) (r : Request) → Spells r bytes → request_of bytes ≡ Some r

-- one request's spellings are one, and one spelling's requests
pub record IsDetermined : Type 0 where
  pub one_meaning : (bytes : List ℕ) (q r : Request) → Spells q bytes → Spells r bytes → q ≡ r
  pub one_spelling : (a b : List ℕ) (r : Request) → AreBytes a → AreBytes b → Spells r a → Spells r b → a ≡ b

-- some bytes behind these make a spelling
pub record GoesOn (bytes : List ℕ) : Type 0 where
  pub more : List ℕ
  pub request : Request
  pub are : AreBytes more
  pub read : request_of (bytes ++ more) ≡ Some request

pub record AreBeginnings : Type 0 where
  pub goes_on : (bytes : List ℕ) → begins bytes ≡ true → GoesOn bytes
  pub only : (bytes more : List ℕ) (r : Request) → request_of (bytes ++ more) ≡ Some r → begins bytes ≡ true
