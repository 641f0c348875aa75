-- A name among names.
use Rattle.std.proofs.Common.{◌≡◌, ◌∙◌, sym, ap, ◌+◌, ◌||◌, ℕ, List, Bool, Some, drop, bytes_eq}
use Rattle.std.specs.Prelude.{slice_get}
use Rattle.session_image.specs.Files.{is_among}
use Rattle.session_image.proofs.Joins.{drop_here}

-- the test of one name
pub told : (x text name : List ℕ) (r b : Bool) → r ≡ bytes_eq x text → text ≡ name → r ≡ b → bytes_eq x name ≡ b
told x text name r b same is test = ap (bytes_eq x) (sym is) ∙ sym same ∙ test

pub at_name : (name : List ℕ) (names : List (List ℕ)) (i : ℕ) (x : List ℕ) (b : Bool) → slice_get names i ≡ Some x → bytes_eq x name ≡ b
    → is_among name (drop i names) ≡ (b || is_among name (drop (i + 1) names))
at_name name names i x b here same = ap (is_among name) (drop_here names i x here) ∙ ap (λ t. t || is_among name (drop (i + 1) names)) same
