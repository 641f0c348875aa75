-- The members that an object may have.
use Rattle.std.specs.Prelude.{ℕ, suc, ◌||◌, ◌==◌, Bool, false, List, codes, bytes_eq, Option, Some, None, if◌then◌else◌}
use Rattle.serde_json.specs.Data.{Data, Members, no_members, member}
use Rattle.serde_json.specs.Find.{as_object}

abbrev pub is_order_member : List ℕ → Bool
is_order_member name =
    bytes_eq name (codes "tester") || bytes_eq name (codes "relinks") || bytes_eq name (codes "catalogue")
    || bytes_eq name (codes "tasks")

abbrev pub is_task_head : List ℕ → Bool
is_task_head name =
    bytes_eq name (codes "name") || bytes_eq name (codes "unit") || bytes_eq name (codes "width")
    || bytes_eq name (codes "check")
    || bytes_eq name (codes "key") || bytes_eq name (codes "after")

abbrev pub is_source_member : List ℕ → Bool
is_source_member name =
    bytes_eq name (codes "raw") || bytes_eq name (codes "session") || bytes_eq name (codes "at")
    || bytes_eq name (codes "idents")
    || bytes_eq name (codes "dids") || bytes_eq name (codes "fill")

abbrev pub is_task_member : List ℕ → Bool
is_task_member name = is_task_head name || is_source_member name

-- the first name that the test refuses; members stand in the order of their names
abbrev pub stranger : (List ℕ → Bool) → Members → Option (List ℕ)
stranger is_member no_members = None
stranger is_member (member k d ms) = if is_member k then stranger is_member ms else Some k

abbrev pub stranger_of : (List ℕ → Bool) → Option Members → Option (List ℕ)
stranger_of is_member None = None
stranger_of is_member (Some ms) = stranger is_member ms

abbrev pub stranger_in : (List ℕ → Bool) → Data → Option (List ℕ)
stranger_in is_member d = stranger_of is_member (as_object d)

abbrev pub member_count : Members → ℕ
member_count no_members = 0
member_count (member k d ms) = suc (member_count ms)

abbrev pub counts : ℕ → Option Members → Bool
counts n None = false
counts n (Some ms) = member_count ms == n

-- an object with so many members
abbrev pub has_members : ℕ → Data → Bool
has_members n d = counts n (as_object d)
