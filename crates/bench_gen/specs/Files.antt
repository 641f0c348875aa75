-- The files of a drill: the order, the catalogue, and an Intel HEX file for each unit.
use Rattle.std.specs.Prelude.{◌≡◌, ℕ, suc, true, List, [], ◌∷◌, ◌++◌, codes, length, Some}
use Rattle.std.specs.Str.{is_utf8}
use Rattle.std.specs.FinMap as map
use Rattle.serde_json.specs.Data.{Data}
use Rattle.serde_json.specs.Read.{read}
use Rattle.serde_json.specs.Written.{compact_text}
use Rattle.hex_rec.specs.Writing.{IsWritten}
use Rattle.span_store.specs.ByteMap.{over}
use Rattle.bench_gen.specs.Catalogue.{catalogue_data, hex_name}
use Rattle.bench_gen.specs.Order.{order_data}
use Rattle.bench_gen.specs.Sizes.{units_of, image_of, base}

-- the text is the shortest that JSON is written as, in UTF-8, and is read as just this
pub record IsTextOf (d : Data) (text : List ℕ) : Type 0 where
  pub utf8 : is_utf8 text ≡ true
  pub written : text ≡ compact_text d
  pub reads : read text ≡ Some d

-- the file of unit k has its image, in the one text that Intel HEX is written as
pub record IsHexFile (n k : ℕ) (file : List ℕ × List ℕ) : Type 0 where
  pub name : file.0 ≡ hex_name k
  pub text : IsWritten (over map.empty base (image_of n k)) file.1

-- the files of units, of which the first has number k
abbrev pub AreHexFiles : ℕ → ℕ → List (List ℕ × List ℕ) → Type 0
AreHexFiles n k [] = Unit {0}
AreHexFiles n k (f ∷ fs) = IsHexFile n k f × AreHexFiles n (suc k) fs

-- the files of so many units, from the first on, stand behind those from before
pub record AddsHexFiles (n units : ℕ) (old new : List (List ℕ × List ℕ)) : Type 0 where
  pub images : List (List ℕ × List ℕ)
  pub behind : new ≡ old ++ images
  pub number : length images ≡ units
  pub each : AreHexFiles n 0 images

-- the order, the catalogue, and a file for each unit
pub record AreFiles (n : ℕ) (files : List (List ℕ × List ℕ)) : Type 0 where
  pub order : List ℕ
  pub catalogue : List ℕ
  pub images : List (List ℕ × List ℕ)
  pub are : files ≡ (codes "drill.json", order) ∷ (codes "cat.json", catalogue) ∷ images
  pub order_text : IsTextOf (order_data n) order
  pub catalogue_text : IsTextOf (catalogue_data n) catalogue
  pub number : length images ≡ units_of n
  pub each : AreHexFiles n 0 images
