-- Names of tasks.
use Rattle.std.specs.Prelude.{ℕ, Bool, ◌&&◌, nat_lt, nat_le, List, length}
use Rattle.std.specs.List.{list_all}
use Rattle.text_forms.specs.FileNames.{may_begin}

-- 1 to 32 letters, digits and `_`
abbrev pub task_name : List ℕ → Bool
task_name text = nat_lt 0 (length text) && nat_le (length text) 32 && list_all may_begin text
