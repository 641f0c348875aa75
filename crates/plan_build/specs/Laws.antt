-- What the building of plans means, in words that do not follow its steps.
use Rattle.std.specs.Prelude.{◌≡◌, ◌⊎◌, ℕ, List, Result, Err}
use Rattle.flash_shelf.specs.Memory.{file_in}
use Rattle.plan_build.specs.Building.{built}
use Rattle.plan_build.specs.declared.built.Built.{Built}
use Rattle.plan_build.specs.declared.fault.BuildFault.{BuildFault}
use Rattle.plan_build.specs.declared.fault.BuildFault.TheVariants.{NoMemory}

-- two answers are one, where memory was there for both
abbrev pub IsOne : {A : Type 0} → Result A BuildFault → Result A BuildFault → Type 0
IsOne r s = (r ≡ Err NoMemory) ⊎ (s ≡ Err NoMemory) ⊎ (r ≡ s)

-- files that are alike under each name have one answer for each order file
abbrev pub FilesGiveOneAnswer : Type 0
FilesGiveOneAnswer =
    (files others : List (List ℕ × List ℕ)) → ((name : List ℕ) → file_in files name ≡ file_in others name) →
    (name : List ℕ) (r s : Result Built BuildFault) → built files name r → built others name s → IsOne r s
