-- What the flash data of a datablock say: bytes by source address, or bytes that fill the segments in order.
use Rattle.std.specs.Prelude.{ℕ, ◌||◌, Bool, true, false, List, [], ◌∷◌, Option, Some, None, Result, Ok, Err, if◌then◌else◌}
use Rattle.flash_base.specs.ByteMaps.{is_in}
use Rattle.flash_base.specs.Files.{first_of}
use Rattle.span_store.specs.ByteMap.{ByteMap}
use Rattle.ecu_mem.specs.declared.types.Flash.{Flash}
use Rattle.ecu_mem.specs.declared.types.Format.{Format}
use Rattle.ecu_mem.specs.declared.types.Format.TheVariants.{IntelHex, MotorolaS, Binary, UserDefined}
use Rattle.ecu_mem.specs.declared.types.Source.{Source}
use Rattle.ecu_mem.specs.declared.types.Source.TheVariants.{Inside, File}
use Rattle.hex_rec.specs.Reading.{reading_of as hex_map}
use Rattle.srec_rec.specs.Reading.{reading_of as srec_map}
use Rattle.rec_text.specs.declared.fault.RecFault.{RecFault}
use Rattle.text_forms.specs.Bytes.{bytes_text}
use Rattle.session_image.specs.declared.content.Content.{Content}
use Rattle.session_image.specs.declared.content.Content.TheVariants.{Mapped, Plain}
use Rattle.session_image.specs.declared.types.ImageFault.{ImageFault}
use Rattle.session_image.specs.declared.types.ImageFault.TheVariants.{Compressed, UserDefined as User, BadText, Lines}

abbrev pub or_none : Option (List ℕ) → List ℕ
or_none None = []
or_none (Some bytes) = bytes

-- the text in the catalogue, or the bytes of the file
abbrev pub text_of : List (List ℕ × List ℕ) → Source → List ℕ
text_of files (Inside text) = text
text_of files (File name) = or_none (first_of name files)

abbrev pub mapped : List ℕ → Result ByteMap RecFault → Result Content ImageFault
mapped id (Ok m) = Ok (Mapped m)
mapped id (Err e) = Err (Lines id e)

abbrev pub decoded : List ℕ → Option (List ℕ) → Result Content ImageFault
decoded id None = Err (BadText id)
decoded id (Some bytes) = Ok (Plain bytes)

-- a text in the catalogue is hexadecimal
abbrev pub binary : List (List ℕ × List ℕ) → List ℕ → Source → Result Content ImageFault
binary files id (Inside text) = decoded id (bytes_text text)
binary files id (File name) = Ok (Plain (or_none (first_of name files)))

abbrev pub read_as : List (List ℕ × List ℕ) → Flash → Format → Result Content ImageFault
read_as files f IntelHex = mapped f.id (hex_map (text_of files f.source))
read_as files f MotorolaS = mapped f.id (srec_map (text_of files f.source))
read_as files f Binary = binary files f.id f.source
read_as files f UserDefined = Err (User f.id)

abbrev pub content : List (List ℕ × List ℕ) → Flash → Result Content ImageFault
content files f = if f.plain then read_as files f f.format else Err (Compressed f.id)

-- ------ filters
abbrev pub is_in_one : List (ℕ × ℕ) → ℕ → Bool
is_in_one [] a = false
is_in_one (r ∷ rs) a = is_in r.0 r.1 a || is_in_one rs a

-- some filter has the address; without filters all are kept
abbrev pub is_kept : List (ℕ × ℕ) → ℕ → Bool
is_kept [] a = true
is_kept (r ∷ rs) a = is_in_one (r ∷ rs) a
