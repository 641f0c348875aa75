-- Objects as lists of members, some of which may be absent, and the tokens that are written for them.
use Rattle.std.specs.Prelude.{ℕ, ◌&&◌, Bool, true, List, [], ◌∷◌, ◌++◌, bytes_eq, Option, Some, None, if◌then◌else◌}
use Rattle.json.specs.Token.{Token}
use Rattle.json.specs.Tree.{json_tokens}
use Rattle.serde_json.specs.Data.{Data, Members, no_members, member, object}
use Rattle.serde_json.specs.Written.{outline}

abbrev pub Fields : Type 0
Fields = List (List ℕ × Option Data)

-- a member before others, where there is a value
abbrev pub member_some : List ℕ → Option Data → Members → Members
member_some name None ms = ms
member_some name (Some d) ms = member name d ms

-- the members in their order
abbrev pub members_in : Fields → Members
members_in [] = no_members
members_in (f ∷ fs) = member_some f.0 f.1 (members_in fs)

-- the object with these members
abbrev pub object_in : Fields → Data
object_in fs = object (members_in fs)

-- ------ tokens, behind those that there are
abbrev pub tokens_of : Data → List Token
tokens_of d = json_tokens (outline d)

abbrev pub put_value : Data → List Token → List Token
put_value d ts = ts ++ tokens_of d

abbrev pub put_values : List Data → List Token → List Token
put_values [] ts = ts
put_values (d ∷ ds) ts = put_values ds (put_value d ts)

abbrev pub put_some : List ℕ → Option Data → List Token → List Token
put_some name None ts = ts
put_some name (Some d) ts = ts ++ (Token.key name ∷ tokens_of d)

abbrev pub put_all : Fields → List Token → List Token
put_all [] ts = ts
put_all (f ∷ fs) ts = put_all fs (put_some f.0 f.1 ts)

-- ------ members that are found
abbrev pub or_else : {A : Type 0} → Option A → Option A → Option A
or_else None later = later
or_else (Some x) later = Some x

-- the value of a member: the last that is given, or else this one
abbrev pub find_or : List ℕ → Fields → Option Data → Option Data
find_or name [] found = found
find_or name (f ∷ fs) found = find_or name fs (if bytes_eq name f.0 then or_else f.1 found else found)

abbrev pub find : List ℕ → Fields → Option Data
find name fs = find_or name fs None

abbrev pub all_known : (List ℕ → Bool) → Fields → Bool
all_known is_member [] = true
all_known is_member (f ∷ fs) = is_member f.0 && all_known is_member fs

-- a value that is left out where it is the one that an absent member stands for
abbrev pub unless : Bool → Data → Option Data
unless left_out d = if left_out then None else Some d

abbrev pub unless_empty : {A : Type 0} → List A → Data → Option Data
unless_empty [] d = None
unless_empty (x ∷ xs) d = Some d
