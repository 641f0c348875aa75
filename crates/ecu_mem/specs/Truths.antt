-- What a refusal says of a tree: the element at its place lacks the part, or is there at all.
use Rattle.std.specs.Prelude.{◌≡◌, ◌⊎◌, ℕ, ◌<◌, List, [], ◌∷◌, length, get_or, codes, Some, None, Ok, Err, ⊤}
use Rattle.odx_tree.specs.declared.element.Element.{Element}
use Rattle.ecu_mem.specs.declared.fault.MemFault.{MemFault}
use Rattle.ecu_mem.specs.declared.fault.MemFault.TheVariants as fault
use Rattle.ecu_mem.specs.declared.refusal.Wrong.{Wrong}
use Rattle.ecu_mem.specs.declared.refusal.Wrong.TheVariants.{Missing, BadNumber, Twice}
use Rattle.ecu_mem.specs.Refusals.{Reading}
use Rattle.ecu_mem.specs.Parts.{kids_of, kid, attribute}

-- there is no such attribute, or no such kid
abbrev pub Lacks : Element → List ℕ → Type 0
Lacks e tag = (attribute tag e ≡ None) ⊎ (kid tag e ≡ None)

-- a place, by the kid positions that lead to it, is one of the tree, and its element is as it is told
abbrev pub IsSo : Element → List ℕ → Wrong → Type 0
IsSo e [] (Missing tag) = Lacks e tag
IsSo e [] BadNumber = ⊤
IsSo e [] (Twice id) = attribute (codes "ID") e ≡ Some id
IsSo e (i ∷ p) w = (i < length (kids_of e)) × IsSo (get_or (kids_of e) i e) p w

-- a refusal of an element, if there is one, tells what is so
abbrev pub IsRight : {A : Type 0} → Element → Reading A → Type 0
IsRight e (Ok x) = ⊤
IsRight e (Err f) = IsSo e f.path f.wrong

-- what a refusal of a tree tells is so
abbrev pub IsTrueOf : Element → MemFault → Type 0
IsTrueOf root (fault.Missing path tag) = IsSo root path (Missing tag)
IsTrueOf root (fault.BadNumber path) = IsSo root path BadNumber
IsTrueOf root (fault.Twice id) = (path : List ℕ) × IsSo root path (Twice id)
IsTrueOf root (fault.Dangling id) = ⊤
IsTrueOf root fault.NoMemory = ⊤
