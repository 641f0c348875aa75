-- The vehicle, as its file has it: entity 4000, and obedient units, each with one region of FF where its
-- image goes.
use Rattle.std.specs.Prelude.{ℕ, List, [], ◌∷◌, codes, map}
use Rattle.std.specs.List.{range_with_len}
use Rattle.serde_json.specs.Data.{Data, number, unsigned, string, array, object, member, no_members}
use Rattle.serde_json.specs.View.{items_of}
use Rattle.bench_gen.specs.Order.{address_text, key}
use Rattle.bench_gen.specs.Sizes.{units_of, bytes_of}

abbrev pub region : ℕ → Data
region size =
    object (member (codes "at") (string (codes "00010000"))
    (member (codes "fill") (string (codes "FF"))
    (member (codes "size") (number (unsigned size)) no_members)))

-- identifier F195 says `OLD`
abbrev pub idents : Data
idents = object (member (codes "F195") (string (codes "4F4C44")) no_members)

abbrev pub unit : ℕ → ℕ → Data
unit size k =
    object (member (codes "address") (string (address_text k))
    (member (codes "block") (number (unsigned 4095))
    (member (codes "check") (string (codes "0202"))
    (member (codes "idents") idents
    (member (codes "key") key
    (member (codes "regions") (array (items_of (region size ∷ [])))
    (member (codes "seed") (string (codes "1234")) no_members)))))))

abbrev pub units : ℕ → List Data
units n = map (unit (bytes_of n)) (range_with_len 0 (units_of n))

abbrev pub vehicle_data : ℕ → Data
vehicle_data n =
    object (member (codes "entity") (string (codes "4000"))
    (member (codes "units") (array (items_of (units n))) no_members))
