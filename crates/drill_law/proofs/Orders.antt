-- The order of a drill is read as its order.
use Rattle.std.proofs.Common.{◌≡◌, ℕ, ◌%◌, codes, map, Some, Ok, refl, arith}
use Rattle.std.specs.List.{range_with_len}
use Rattle.hex.specs.Hex.{encode_with, decode_pairs}
use Rattle.serde_json.specs.Data.{Data, number, unsigned, string, array, object, member, no_members}
use Rattle.serde_json.specs.View.{items_of}
use Rattle.bench_gen.specs.Order as file
use Rattle.flash_order.specs.Orders.{order_in}
use Rattle.flash_order.specs.declared.order.Order.{Order}
use Rattle.drill_law.specs.Plans.{order_of_drill, task_of}
use Rattle.drill_law.proofs.Tables.{Rows, row}

abbrev pub data_for : ℕ → Data
data_for units =
    object (member (codes "catalogue") (string (codes "cat.json"))
    (member (codes "relinks") (number (unsigned 1))
    (member (codes "tasks") (array (items_of (file.tasks units)))
    (member (codes "tester") (string (codes "0E80")) no_members))))

abbrev pub order_for : ℕ → Order
order_for units = record {
  tester = 3712;
  relinks = 1;
  catalogue = Some (codes "cat.json");
  tasks = map task_of (range_with_len 0 units);
}

abbrev IsRead : ℕ → Type 0
IsRead units = order_in (data_for units) ≡ Ok (order_for units)

orders_read : Rows IsRead 2 11
unfolding encode_with decode_pairs
orders_read = (refl, (refl, (refl, (refl, (refl, (refl, (refl, (refl, (refl, (refl, (refl, tt)))))))))))

pub order_read : (n : ℕ) → order_in (file.order_data n) ≡ Ok (order_of_drill n)
order_read n = row IsRead 2 11 orders_read (n % 11) (omega arith)
