-- The requests that there are.
use Rattle.std.specs.Prelude.{◌≡◌, ℕ, ◌%◌, ◌<◌, ◌≤◌, List, [], ◌∷◌, length}
use Rattle.flash_base.specs.Numbers.{pow256}
use Rattle.flash_base.specs.declared.unit.Width.{Width}
use Rattle.uds_codec.specs.declared.request.Request.{Request}
use Rattle.uds_codec.specs.declared.request.Request.TheVariants.{Session, Seed, Key, ReadId, Routine, Download, Upload, Transfer, Pull, Exit, Reset, Setting, Messages}

-- odd, from 1 to 0x7D
pub record IsLevel (level : ℕ) : Type 0 where
  pub odd : level % 2 ≡ 1
  pub most : level ≤ 125

-- a size of 1 to 4 bytes and an address of 1 to 5
pub record IsWidth (width : Width) : Type 0 where
  pub some_size : 1 ≤ width.size
  pub few_size : width.size ≤ 4
  pub some_at : 1 ≤ width.at
  pub few_at : width.at ≤ 5

pub record IsRange (width : Width) (at size : ℕ) : Type 0 where
  pub widths : IsWidth width
  pub at_fits : at < pow256 width.at
  pub size_fits : size < pow256 width.size

-- from the least to the most bytes
pub record HasLength (low high : ℕ) (bytes : List ℕ) : Type 0 where
  pub least : low ≤ length bytes
  pub most : length bytes ≤ high

-- a request that has a spelling
abbrev pub HasForm : Request → Type 0
HasForm (Session kind) = (1 ≤ kind) × (kind ≤ 3)
HasForm Reset = Unit {0}
HasForm (ReadId did) = Unit {0}
HasForm (Seed level) = IsLevel level
HasForm (Key level key) = IsLevel level × HasLength 1 32 key
HasForm (Routine id option) = Unit {0}
HasForm (Download width at size) = IsRange width at size
HasForm (Upload width at size) = IsRange width at size
HasForm (Transfer counter body) = HasLength 1 65533 body
HasForm (Pull counter) = Unit {0}
HasForm Exit = Unit {0}
HasForm (Setting off) = Unit {0}
HasForm (Messages off) = Unit {0}

abbrev pub AreBytes : List ℕ → Type 0
AreBytes [] = Unit {0}
AreBytes (x ∷ xs) = (x < 256) × AreBytes xs

-- its numbers are of their types
abbrev pub Fits : Request → Type 0
Fits (Session kind) = Unit {0}
Fits Reset = Unit {0}
Fits (ReadId did) = did < 65536
Fits (Seed level) = Unit {0}
Fits (Key level key) = AreBytes key
Fits (Routine id option) = (id < 65536) × AreBytes option
Fits (Download width at size) = Unit {0}
Fits (Upload width at size) = Unit {0}
Fits (Transfer counter body) = (counter < 256) × AreBytes body
Fits (Pull counter) = counter < 256
Fits Exit = Unit {0}
Fits (Setting off) = Unit {0}
Fits (Messages off) = Unit {0}
