-- How one value is read, and the path to what is refused.
use Rattle.std.specs.Prelude.{ℕ, ◌+◌, ◌-◌, ◌^◌, ◌&&◌, ◌==◌, nat_lt, nat_le, Bool, true, false, List, [], ◌∷◌, ◌++◌, length, codes, bytes_eq, decimal, is_some, Option, Some, None, Result, Ok, Err, if◌then◌else◌}
use Rattle.serde_json.specs.Data.{Data, Items, no_items, item, Members, no_members, member}
use Rattle.serde_json.specs.Find.{get, as_str, as_bool, as_number, as_u64, as_array, as_object}
use Rattle.text_forms.specs.Bytes.{byte_text, bytes_text}
use Rattle.text_forms.specs.Numbers.{hex_text}
use Rattle.unit_model.specs.RegionTests.{LIMIT}
use Rattle.vehicle_file.specs.declared.fault.Refused.{Refused}
use Rattle.vehicle_file.specs.declared.fault.Refused.TheVariants.{Bad, NoMemory}

abbrev pub Reading : Type 0 → Type 0
Reading A = Result A Refused

-- the second step, if the first gave a value
infixl 10 ◌>>=◌
abbrev pub ◌>>=◌ : {A B : Type 0} → Reading A → (A → Reading B) → Reading B
Ok x >>= f = f x
Err e >>= f = Err e

infixl 10 ◌>=>◌
abbrev pub ◌>=>◌ : {A B : Type 0} → Option A → (A → Option B) → Option B
Some x >=> f = f x
None >=> f = None

abbrev pub only_if : {A : Type 0} → Bool → A → Option A
only_if b x = if b then Some x else None

-- ------ refusals
-- a name before a path
abbrev pub step_to : List ℕ → List ℕ → List ℕ
step_to name path = 47 ∷ (name ++ path)

-- the value itself
abbrev pub refused : {A : Type 0} → Reading A
refused = Err (Bad [])

-- something that stands under this name
abbrev pub refused_at : {A : Type 0} → List ℕ → Reading A
refused_at name = Err (Bad (step_to name []))

abbrev pub deeper : List ℕ → Refused → Refused
deeper name (Bad path) = Bad (step_to name path)
deeper name NoMemory = NoMemory

abbrev pub under : {A : Type 0} → List ℕ → Reading A → Reading A
under name (Ok x) = Ok x
under name (Err e) = Err (deeper name e)

-- the value in one form, or else it is refused
abbrev pub of_form : {A : Type 0} → Option A → Reading A
of_form None = refused
of_form (Some x) = Ok x

-- a value against a rule is refused itself
abbrev pub hold_to : {A : Type 0} → Bool → A → Reading A
hold_to b x = if b then Ok x else refused

-- ------ members
abbrev pub needed_of : {A : Type 0} → List ℕ → (Data → Reading A) → Option Data → Reading A
needed_of name read None = refused_at name
needed_of name read (Some v) = under name (read v)

-- a member that must be there
abbrev pub needed : {A : Type 0} → List ℕ → (Data → Reading A) → Data → Reading A
needed name read d = needed_of name read (get name d)

abbrev pub chosen_of : {A : Type 0} → List ℕ → A → (Data → Reading A) → Option Data → Reading A
chosen_of name otherwise read None = Ok otherwise
chosen_of name otherwise read (Some v) = under name (read v)

-- a member that may be absent, with the value that it then has
abbrev pub chosen : {A : Type 0} → List ℕ → A → (Data → Reading A) → Data → Reading A
chosen name otherwise read d = chosen_of name otherwise read (get name d)

-- the first name that the test refuses; members stand in the order of their names
abbrev pub stranger : (List ℕ → Bool) → Members → Option (List ℕ)
stranger is_member no_members = None
stranger is_member (member k d ms) = if is_member k then stranger is_member ms else Some k

abbrev pub unless_strange : {A : Type 0} → Option (List ℕ) → A → Reading A
unless_strange None x = Ok x
unless_strange (Some name) x = refused_at name

abbrev pub inside : {A : Type 0} → (List ℕ → Bool) → (Data → Reading A) → Data → Option Members → Reading A
inside is_member read d None = refused
inside is_member read d (Some ms) = read d >>= unless_strange (stranger is_member ms)

-- an object with members of these names alone: what is read of them comes first, then the least name that is none of them
abbrev pub object_of : {A : Type 0} → (List ℕ → Bool) → (Data → Reading A) → Data → Reading A
object_of is_member read d = inside is_member read d (as_object d)

-- an object, whose members are known by one of them
abbrev pub an_object : {A : Type 0} → (Data → Reading A) → Data → Reading A
an_object read d = if is_some (as_object d) then read d else refused

-- ------ lists
-- behind these, of which the next is entry i
abbrev pub entries_from : {A : Type 0} → (Data → Reading A) → List A → ℕ → Items → Reading (List A)
entries_from read before i no_items = Ok before
entries_from read before i (item d ds) =
    under (decimal i) (read d) >>= λ x. entries_from read (before ++ x ∷ []) (i + 1) ds

abbrev pub list_with : {A : Type 0} → (Items → Reading A) → Option Items → Reading A
list_with read None = refused
list_with read (Some ds) = read ds

abbrev pub list_of : {A : Type 0} → (Data → Reading A) → Data → Reading (List A)
list_of read d = list_with (entries_from read [] 0) (as_array d)

-- ------ the forms of single values
-- four hexadecimal digits
abbrev pub four_digits : List ℕ → Option ℕ
four_digits text = if length text == 4 then (hex_text text >=> λ n. only_if (nat_lt n 65536) n) else None

abbrev pub four : Data → Reading ℕ
four d = of_form (as_str d >=> four_digits)

-- two hexadecimal digits
abbrev pub two : Data → Reading ℕ
two d = of_form (as_str d >=> byte_text)

-- 1 to 16 hexadecimal digits that say an address
abbrev pub place : Data → Reading ℕ
place d = of_form (as_str d >=> λ t. hex_text t >=> λ n. only_if (nat_lt n LIMIT) n)

-- 1 to 16 hexadecimal digits that say an address, or the limit itself, where a range may end
abbrev pub end_place : Data → Reading ℕ
end_place d = of_form (as_str d >=> λ t. hex_text t >=> λ n. only_if (nat_le n LIMIT) n)

-- bytes, one at least and at most so many
abbrev pub bytes_to : ℕ → Data → Reading (List ℕ)
bytes_to most d = of_form (as_str d >=> bytes_text
    >=> λ bytes. only_if (nat_le 1 (length bytes) && nat_le (length bytes) most) bytes)

-- bytes, at most so many
abbrev pub bytes_up_to : ℕ → Data → Reading (List ℕ)
bytes_up_to most d = of_form (as_str d >=> bytes_text >=> λ bytes. only_if (nat_le (length bytes) most) bytes)

-- bytes, of any number
abbrev pub any_bytes : Data → Reading (List ℕ)
any_bytes d = of_form (as_str d >=> bytes_text)

-- a whole number from one to another
abbrev pub whole : ℕ → ℕ → Data → Reading ℕ
whole least most d = of_form (as_number d >=> as_u64 >=> λ n. only_if (nat_le least n && nat_le n most) n)

abbrev pub flag : Data → Reading Bool
flag d = of_form (as_bool d)

abbrev pub text : Data → Reading (List ℕ)
text d = of_form (as_str d)

-- "on" or "off": whether it is off
abbrev pub off_in : List ℕ → Option Bool
off_in t = if bytes_eq t (codes "on") then Some false else if bytes_eq t (codes "off") then Some true
    else None

abbrev pub is_off : Data → Reading Bool
is_off d = of_form (as_str d >=> off_in)

abbrev pub LAST_NTH : ℕ
LAST_NTH = 2 ^ 32 - 1

abbrev pub LAST_COUNT : ℕ
LAST_COUNT = 2 ^ 64 - 1
