-- What the reading of a tree means, in words that do not follow its steps.
use Rattle.std.specs.Prelude.{◌≡◌, List, [], ◌∷◌, Option, Some, None, Result, Ok, Err}
use Rattle.serde_json.specs.Data.{Data}
use Rattle.odx_tree.specs.declared.fault.TreeFault.{TreeFault}
use Rattle.odx_tree.specs.declared.fault.TreeFault.TheVariants.{NotTree}
use Rattle.odx_tree.specs.Tree.{element}
use Rattle.odx_tree.specs.Places.{Place, misplaced}

abbrev pub refusal_of : {A : Type 0} → Result A TreeFault → Option TreeFault
refusal_of (Ok x) = None
refusal_of (Err e) = Some e

abbrev pub first_refusal : List Place → Option TreeFault
first_refusal [] = None
first_refusal (p ∷ ps) = Some (NotTree p)

-- a value is read as an element exactly where all of it is in the form, and is refused at the first place that is not
abbrev pub FirstPlaceDecides : Type 0
FirstPlaceDecides = (d : Data) → refusal_of (element d) ≡ first_refusal (misplaced d)
