-- The order that the bytes of a file are, or the first refusal.
use Rattle.std.specs.Prelude.{ℕ, suc, ◌&&◌, nat_le, Bool, true, List, [], ◌∷◌, codes, Option, Some, None, option_map, is_some, Result, Ok, Err, if◌then◌else◌}
use Rattle.std.specs.Str.{is_utf8}
use Rattle.serde_json.specs.Data.{Data, Items, no_items, item}
use Rattle.serde_json.specs.Find.{as_array, as_object}
use Rattle.serde_json.specs.Read.{read}
use Rattle.flash_base.specs.declared.unit.KeyRule.TheVariants.{Free}
use Rattle.flash_order.specs.declared.fault.FieldFault.{FieldFault}
use Rattle.flash_order.specs.declared.fault.FieldFault.TheVariants.{Bad, NoMemory}
use Rattle.flash_order.specs.declared.fault.OrderFault.{OrderFault}
use Rattle.flash_order.specs.declared.fault.OrderFault.TheVariants as order
use Rattle.flash_order.specs.declared.order.Order.{Order}
use Rattle.flash_order.specs.declared.order.Task.{Task}
use Rattle.flash_order.specs.declared.reading.Head.{Head}
use Rattle.flash_order.specs.Fields.{◌>>=◌, ◌>=>◌, needed, chosen, address, check, relinks, file, task_name, width}
use Rattle.flash_order.specs.Keys.{key_rule}
use Rattle.flash_order.specs.Lists.{names}
use Rattle.flash_order.specs.Listed.{is_order_member, is_task_member, stranger_in}
use Rattle.flash_order.specs.Sources.{source}

-- a member that is not in the table is refused by its name
abbrev pub unless_strange : {A : Type 0} → Option (List ℕ) → A → Result A FieldFault
unless_strange None x = Ok x
unless_strange (Some name) x = Err (Bad name)

-- ------ one task
abbrev pub task : Data → Result Task FieldFault
task d =
    needed (codes "name") task_name d >>= λ name.
    needed (codes "unit") address d >>= λ unit.
    chosen (codes "width") (record { size = 4; at = 4 }) width d >>= λ width.
    needed (codes "check") check d >>= λ check.
    chosen (codes "key") Free key_rule d >>= λ key.
    source d >>= λ source.
    chosen (codes "after") [] names d >>= λ after.
    unless_strange (stranger_in is_task_member d)
    (record {
      name = name;
      unit = unit;
      width = width;
      check = check;
      key = key;
      source = source;
      after = after;
    })

-- ------ all tasks, of which the first is task i
abbrev pub fault_in : Option ℕ → FieldFault → OrderFault
fault_in i (Bad field) = order.BadField i field
fault_in i NoMemory = order.NoMemory

abbrev pub in_task : {A : Type 0} → Option ℕ → Result A FieldFault → Result A OrderFault
in_task i (Ok x) = Ok x
in_task i (Err e) = Err (fault_in i e)

abbrev pub tasks_from : ℕ → Items → Result (List Task) OrderFault
tasks_from i no_items = Ok []
tasks_from i (item d ds) = in_task (Some i) (task d) >>= λ t. tasks_from (suc i) ds >>= λ ts. Ok (t ∷ ts)

abbrev pub are_objects : Items → Bool
are_objects no_items = true
are_objects (item d ds) = is_some (as_object d) && are_objects ds

abbrev pub item_count : Items → ℕ
item_count no_items = 0
item_count (item d ds) = suc (item_count ds)

-- at most 1,000 objects
abbrev pub task_list : Data → Option Items
task_list d = as_array d >=> λ ds. if nat_le (item_count ds) 1000 && are_objects ds then Some ds else None

-- ------ the whole
abbrev pub named_file : Data → Option (Option (List ℕ))
named_file d = option_map Some (file d)

abbrev pub head : Data → Result Head FieldFault
head d =
    needed (codes "tester") address d >>= λ tester.
    chosen (codes "relinks") 1 relinks d >>= λ relinks.
    chosen (codes "catalogue") None named_file d >>= λ catalogue.
    Ok (record { tester = tester; relinks = relinks; catalogue = catalogue })

abbrev pub tasks_at : Data → Result (List Task) OrderFault
tasks_at d = in_task None (needed (codes "tasks") task_list d) >>= tasks_from 0

abbrev pub order_with : Head → List Task → Order
order_with h tasks = record { tester = h.tester; relinks = h.relinks; catalogue = h.catalogue; tasks = tasks }

abbrev pub order_in : Data → Result Order OrderFault
order_in d =
    in_task None (head d) >>= λ h. tasks_at d
    >>= λ tasks. in_task None (unless_strange (stranger_in is_order_member d) (order_with h tasks))

abbrev pub order_from : Option Data → Result Order OrderFault
order_from None = Err order.NotJson
order_from (Some d) = order_in d

-- the value of a JSON text: UTF-8, and as `serde_json` reads it
abbrev pub order_of : List ℕ → Result Order OrderFault
order_of bytes = order_from (if is_utf8 bytes then read bytes else None)
