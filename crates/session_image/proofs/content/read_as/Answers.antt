use Rattle.std.proofs.Common.{◌≡◌, ◌⊎◌, sym, subst, List, ℕ, Err}
use Rattle.hex_rec.specs.Reading.{reading_of as hex_map}
use Rattle.srec_rec.specs.Reading.{reading_of as srec_map}
use Rattle.rec_text.specs.declared.fault.RecFault.TheVariants as records
use Rattle.ecu_mem.specs.declared.types.Format.{Format}
use Rattle.session_image.specs.Content.{text_of, read_as}
use Rattle.session_image.specs.declared.types.ImageFault.TheVariants.{NoMemory}
use Rattle.session_image.proofs.Readings.{read_mapped}
use Rattle.session_image.proofs.content.read_as.Goals as goal

pub returns-in-IntelHex : goal.returns-in-IntelHex
returns-in-IntelHex c =
    subst (λ (f : Format). (c.mapped.result ≡ Err NoMemory) ⊎ (c.mapped.result ≡ read_as c.args.files.now c.args.flash.now f)) (sym c.in-IntelHex.is)
    (read_mapped c.args.flash.now.id c.read-read.result (hex_map (text_of c.args.files.now c.args.flash.now.source)) c.mapped.result
    (subst (λ (t : List ℕ). (c.read-read.result ≡ Err records.NoMemory) ⊎ (c.read-read.result ≡ hex_map t)) c.text_of.ensures c.read-read.ensures)
    c.mapped.ensures.memory c.mapped.ensures.mapped)

pub returns-in-MotorolaS : goal.returns-in-MotorolaS
returns-in-MotorolaS c =
    subst (λ (f : Format). (c.mapped-in-MotorolaS.result ≡ Err NoMemory) ⊎ (c.mapped-in-MotorolaS.result ≡ read_as c.args.files.now c.args.flash.now f)) (sym c.in-MotorolaS.is)
    (read_mapped c.args.flash.now.id c.read-read-in-MotorolaS.result (srec_map (text_of c.args.files.now c.args.flash.now.source)) c.mapped-in-MotorolaS.result
    (subst (λ (t : List ℕ). (c.read-read-in-MotorolaS.result ≡ Err records.NoMemory) ⊎ (c.read-read-in-MotorolaS.result ≡ srec_map t)) c.text_of-in-MotorolaS.ensures c.read-read-in-MotorolaS.ensures)
    c.mapped-in-MotorolaS.ensures.memory c.mapped-in-MotorolaS.ensures.mapped)
