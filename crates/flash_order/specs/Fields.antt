-- How one member of an object is read.
use Rattle.std.specs.Prelude.{ℕ, ◌-◌, ◌&&◌, ◌||◌, ◌==◌, nat_lt, nat_le, Bool, List, [], ◌∷◌, length, Option, Some, None, Result, Ok, Err, if◌then◌else◌}
use Rattle.serde_json.specs.Data.{Data}
use Rattle.serde_json.specs.Find.{get, as_str, as_number, as_u64}
use Rattle.flash_base.specs.declared.unit.Width.{Width}
use Rattle.flash_order.specs.declared.fault.FieldFault.{FieldFault}
use Rattle.flash_order.specs.declared.fault.FieldFault.TheVariants.{Bad}
use Rattle.span_store.specs.ByteMap.{top}
use Rattle.text_forms.specs.Bytes.{byte_text}
use Rattle.text_forms.specs.FileNames.{file_name}
use Rattle.text_forms.specs.Numbers.{hex_text}
use Rattle.text_forms.specs.TaskNames as form

-- the second step, if the first gave a value
infixl 10 ◌>>=◌
abbrev pub ◌>>=◌ : {E A B : Type 0} → Result A E → (A → Result B E) → Result B E
Ok x >>= f = f x
Err e >>= f = Err e

abbrev pub mapped : {E A B : Type 0} → (A → B) → Result A E → Result B E
mapped f (Ok x) = Ok (f x)
mapped f (Err e) = Err e

infixl 10 ◌>=>◌
abbrev pub ◌>=>◌ : {A B : Type 0} → Option A → (A → Option B) → Option B
Some x >=> f = f x
None >=> f = None

abbrev pub only_if : {A : Type 0} → Bool → A → Option A
only_if b x = if b then Some x else None

-- ------ members
abbrev pub given : {A : Type 0} → List ℕ → Option A → Result A FieldFault
given name None = Err (Bad name)
given name (Some x) = Ok x

-- a member that must be there
abbrev pub needed : {A : Type 0} → List ℕ → (Data → Option A) → Data → Result A FieldFault
needed name form d = given name (get name d >=> form)

abbrev pub chosen_of : {A : Type 0} → List ℕ → A → (Data → Option A) → Option Data → Result A FieldFault
chosen_of name otherwise form None = Ok otherwise
chosen_of name otherwise form (Some v) = given name (form v)

-- a member that may be absent, with the value that it then has
abbrev pub chosen : {A : Type 0} → List ℕ → A → (Data → Option A) → Data → Result A FieldFault
chosen name otherwise form d = chosen_of name otherwise form (get name d)

-- a member that must be absent
abbrev pub absent_of : {A : Type 0} → List ℕ → Option Data → Result A FieldFault → Result A FieldFault
absent_of name None then_read = then_read
absent_of name (Some v) then_read = Err (Bad name)

abbrev pub absent : {A : Type 0} → List ℕ → Data → Result A FieldFault → Result A FieldFault
absent name d then_read = absent_of name (get name d) then_read

-- ------ the forms of single values
-- four hexadecimal digits
abbrev pub four_digits : List ℕ → Option ℕ
four_digits text = if length text == 4 then (hex_text text >=> λ n. only_if (nat_lt n 65536) n) else None

abbrev pub address : Data → Option ℕ
address d = as_str d >=> four_digits

-- the check routine, which is neither FF00 nor FF01
abbrev pub check : Data → Option ℕ
check d = address d >=> λ c. if c == 65280 || c == 65281 then None else Some c

abbrev pub whole : Data → Option ℕ
whole d = as_number d >=> as_u64

-- a whole number from 0 to 8
abbrev pub relinks : Data → Option ℕ
relinks d = whole d >=> λ n. only_if (nat_le n 8) n

abbrev pub file : Data → Option (List ℕ)
file d = as_str d >=> λ t. only_if (file_name t) t

abbrev pub task_name : Data → Option (List ℕ)
task_name d = as_str d >=> λ t. only_if (form.task_name t) t

-- 1 to 128 bytes of UTF-8
abbrev pub session_id : Data → Option (List ℕ)
session_id d = as_str d >=> λ t. only_if (nat_le 1 (length t) && nat_le (length t) 128) t

-- 1 to 16 hexadecimal digits that say an address
abbrev pub place : Data → Option ℕ
place d = as_str d >=> λ t. hex_text t >=> λ n. only_if (nat_lt n top) n

-- the value of a digit from '1' to a last one
abbrev pub width_digit : ℕ → ℕ → Option ℕ
width_digit last c = only_if (nat_le 49 c && nat_le c last) (c - 48)

abbrev pub width_text : List ℕ → Option Width
width_text (s ∷ a ∷ []) =
    width_digit 52 s >=> λ size. width_digit 53 a >=> λ at. Some (record { size = size; at = at })
width_text _ = None

-- two digits: the bytes of a size, 1 to 4, and of an address, 1 to 5
abbrev pub width : Data → Option Width
width d = as_str d >=> width_text

-- two hexadecimal digits
abbrev pub one_byte : Data → Option ℕ
one_byte d = as_str d >=> byte_text
