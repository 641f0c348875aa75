-- How values are printed.
use Rattle.std.specs.Prelude.{ℕ, nat_lt, List, [], ◌∷◌, ◌++◌, codes, decimal, map, Option, Some, None, if◌then◌else◌}
use Rattle.std.specs.List.{flat_map}
use Rattle.hex.specs.Hex.{encode_upper}
use Rattle.flash_base.specs.Numbers.{big_endian}

-- an address of memory: ten hexadecimal digits
abbrev pub ten : ℕ → List ℕ
ten n = encode_upper (big_endian 5 n)

-- '?' stands for a byte below 20 (hexadecimal), so that a name is never more than a part of one line
abbrev pub shown_byte : ℕ → ℕ
shown_byte b = if nat_lt b 32 then 63 else b

-- an ID or a name that comes from a file
abbrev pub shown : List ℕ → List ℕ
shown name = map shown_byte name

abbrev pub place_text : ℕ → List ℕ
place_text k = codes "/" ++ decimal k

-- the path of an element: '/' for the root, else each position on the way to it behind a '/'
abbrev pub path_text : List ℕ → List ℕ
path_text [] = codes "/"
path_text (k ∷ ks) = flat_map place_text (k ∷ ks)

-- a task's number, or '-' for what belongs to no task
abbrev pub task_text : Option ℕ → List ℕ
task_text None = codes "-"
task_text (Some n) = decimal n
