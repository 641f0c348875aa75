-- File names.
use Rattle.std.specs.Prelude.{ℕ, Bool, false, ◌||◌, ◌&&◌, ◌==◌, nat_le, List, [], ◌∷◌, length}
use Rattle.std.specs.List.{list_all}
use Rattle.text_forms.specs.Numbers.{is_between}

-- a letter, a digit or `_`
abbrev pub may_begin : ℕ → Bool
may_begin c = is_between 48 57 c || is_between 65 90 c || is_between 97 122 c || c == 95

-- also `.` and `-`
abbrev pub may_follow : ℕ → Bool
may_follow c = may_begin c || c == 46 || c == 45

abbrev pub begins : List ℕ → Bool
begins [] = false
begins (c ∷ cs) = may_begin c

abbrev pub file_name : List ℕ → Bool
file_name text = begins text && nat_le (length text) 128 && list_all may_follow text
