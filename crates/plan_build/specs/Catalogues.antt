-- The order and the catalogue, as their files have them.
use Rattle.std.specs.Prelude.{ℕ, List, Option, Some, None, Result, Ok, Err}
use Rattle.odx_tree.specs.Tree.{tree_of}
use Rattle.odx_tree.specs.declared.element.Element.{Element}
use Rattle.odx_tree.specs.declared.fault.TreeFault.{TreeFault}
use Rattle.ecu_mem.specs.Catalogue.{catalogue}
use Rattle.ecu_mem.specs.declared.types.EcuMem.{EcuMem}
use Rattle.ecu_mem.specs.declared.fault.MemFault.{MemFault}
use Rattle.flash_order.specs.Orders.{order_of}
use Rattle.flash_order.specs.declared.order.Order.{Order}
use Rattle.flash_order.specs.declared.fault.OrderFault.{OrderFault}
use Rattle.flash_shelf.specs.declared.shelf.ShelfFault.{ShelfFault}
use Rattle.plan_build.specs.Answers.{just, ◌>>=◌}
use Rattle.plan_build.specs.Fetched.{fetched}
use Rattle.plan_build.specs.Refusals.{order_refusal, tree_refusal, mem_refusal}
use Rattle.plan_build.specs.declared.built.Catalogue.{Catalogue}
use Rattle.plan_build.specs.declared.fault.BuildFault.{BuildFault}

abbrev pub order_from : List ℕ → Result Order OrderFault → Result Order BuildFault
order_from name (Ok o) = Ok o
order_from name (Err e) = Err (order_refusal name e)

abbrev pub order_in : List ℕ → List ℕ → Result Order BuildFault
order_in name bytes = order_from name (order_of bytes)

-- the order of a file
abbrev pub ordered : (List ℕ → Result (List ℕ) ShelfFault → Type 0) → List ℕ → Result Order BuildFault
    → Type 0
ordered read name = fetched read name >>= λ bytes. just (order_in name bytes)

abbrev pub mem_from : List ℕ → Result EcuMem MemFault → Result (Option Catalogue) BuildFault
mem_from name (Ok m) = Ok (Some (record { name = name; mem = m }))
mem_from name (Err e) = Err (mem_refusal name e)

abbrev pub tree_from : List ℕ → Result Element TreeFault → Result (Option Catalogue) BuildFault
tree_from name (Ok root) = mem_from name (catalogue root)
tree_from name (Err e) = Err (tree_refusal name e)

abbrev pub catalogue_in : List ℕ → List ℕ → Result (Option Catalogue) BuildFault
catalogue_in name bytes = tree_from name (tree_of bytes)

-- the catalogue of a file, where an order names one
abbrev pub catalogued : (List ℕ → Result (List ℕ) ShelfFault → Type 0) → Option (List ℕ)
    → Result (Option Catalogue) BuildFault → Type 0
catalogued read None = just (Ok None)
catalogued read (Some name) = fetched read name >>= λ bytes. just (catalogue_in name bytes)
