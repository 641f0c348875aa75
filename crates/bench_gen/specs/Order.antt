-- The order: tester 0E80, one lost connection made anew, a task for each unit, in groups of four.
use Rattle.std.specs.Prelude.{ℕ, List, [], ◌∷◌, codes, map}
use Rattle.std.specs.List.{range_with_len}
use Rattle.hex.specs.Hex.{encode_upper}
use Rattle.serde_json.specs.Data.{Data, number, unsigned, string, array, object, member, no_members}
use Rattle.serde_json.specs.View.{items_of}
use Rattle.bench_gen.specs.Sizes.{units_of, before, numbered}

-- 1000 and the unit's number, in four hexadecimal digits
abbrev pub address_text : ℕ → List ℕ
address_text k = encode_upper (16 ∷ k ∷ [])

-- the name of unit k
abbrev pub name : ℕ → Data
name k = string (numbered (codes "U") k)

abbrev pub key : Data
key =
    object (member (codes "level") (string (codes "01"))
    (member (codes "mask") (string (codes "5A")) (member (codes "rule") (string (codes "xor")) no_members)))

abbrev pub dids : Data
dids = object (member (codes "SWNR") (string (codes "F195")) no_members)

-- the members of an object stand in the order of their names
abbrev pub task : ℕ → Data
task k =
    object (member (codes "after") (array (items_of (map name (before k))))
    (member (codes "check") (string (codes "0202"))
    (member (codes "dids") dids
    (member (codes "key") key
    (member (codes "name") (name k)
    (member (codes "session") (string (numbered (codes "S") k))
    (member (codes "unit") (string (address_text k))
    (member (codes "width") (string (codes "44")) no_members))))))))

abbrev pub tasks : ℕ → List Data
tasks units = map task (range_with_len 0 units)

abbrev pub order_data : ℕ → Data
order_data n =
    object (member (codes "catalogue") (string (codes "cat.json"))
    (member (codes "relinks") (number (unsigned 1))
    (member (codes "tasks") (array (items_of (tasks (units_of n))))
    (member (codes "tester") (string (codes "0E80")) no_members))))
