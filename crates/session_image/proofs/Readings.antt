-- What a reader of records gave.
use Rattle.std.proofs.Common.{◌≡◌, ◌∙◌, ◌⊎◌, inl, inr, ap, ℕ, List, Result, Err}
use Rattle.span_store.specs.ByteMap.{ByteMap}
use Rattle.rec_text.specs.declared.fault.RecFault.{RecFault}
use Rattle.rec_text.specs.declared.fault.RecFault.TheVariants as records
use Rattle.session_image.specs.Content.{mapped}
use Rattle.session_image.specs.declared.content.Content.{Content}
use Rattle.session_image.specs.declared.types.ImageFault.{ImageFault}
use Rattle.session_image.specs.declared.types.ImageFault.TheVariants.{NoMemory}

pub read_mapped : (id : List ℕ) (r said : Result ByteMap RecFault) (x : Result Content ImageFault) → (r ≡ Err records.NoMemory) ⊎ (r ≡ said) → (r ≡ Err records.NoMemory → x ≡ Err NoMemory)
    → (x ≡ Err NoMemory) ⊎ (x ≡ mapped id r) → (x ≡ Err NoMemory) ⊎ (x ≡ mapped id said)
read_mapped id r said x (inl h) memory is = inl (memory h)
read_mapped id r said x (inr h) memory (inl e) = inl e
read_mapped id r said x (inr h) memory (inr e) = inr (e ∙ ap (mapped id) h)
