-- The fault of a kid, as its parent sees it.
use Rattle.std.specs.Prelude.{ℕ, ◌∷◌}
use Rattle.odx_tree.specs.declared.fault.TreeFault.{TreeFault}
use Rattle.odx_tree.specs.declared.fault.TreeFault.TheVariants.{TooLarge, NotJson, NotTree, NoMemory}

abbrev pub below : ℕ → TreeFault → TreeFault
below i TooLarge = TooLarge
below i NotJson = NotJson
below i (NotTree path) = NotTree (i ∷ path)
below i NoMemory = NoMemory
