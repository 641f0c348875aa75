-- Finding and reading the parts of an element.
use Rattle.std.specs.Prelude.{ℕ, suc, Bool, List, [], ◌∷◌, bytes_eq, Option, Some, None, Ok, Err, ◌||◌, if◌then◌else◌}
use Rattle.odx_tree.specs.declared.element.Element.{Element, out-Element}
use Rattle.flash_base.specs.Files.{first_of}
use Rattle.ecu_mem.specs.Refusals.{Reading, ◌>>=◌, in_kid, missing}

abbrev pub tag_of : Element → List ℕ
tag_of e = (out-Element e).tag

abbrev pub kids_of : Element → List Element
kids_of e = (out-Element e).kids

-- the first element that counts, and its position, where positions begin at i
abbrev pub first_from : ℕ → (Element → Bool) → List Element → Option (ℕ × Element)
first_from i counts [] = None
first_from i counts (e ∷ es) = if counts e then Some (i, e) else first_from (suc i) counts es

abbrev pub has_tag : List ℕ → Element → Bool
has_tag tag e = bytes_eq (tag_of e) tag

abbrev pub has_either_tag : List ℕ → List ℕ → Element → Bool
has_either_tag tag other e = bytes_eq (tag_of e) tag || bytes_eq (tag_of e) other

-- of kids that may stand once the first counts
abbrev pub kid : List ℕ → Element → Option (ℕ × Element)
kid tag e = first_from 0 (has_tag tag) (kids_of e)

-- the first kid with either of two tags
abbrev pub kid_of_two : List ℕ → List ℕ → Element → Option (ℕ × Element)
kid_of_two tag other e = first_from 0 (has_either_tag tag other) (kids_of e)

abbrev pub read_at : {A : Type 0} → (Element → Reading A) → ℕ × Element → Reading A
read_at read p = in_kid p.0 (read p.1)

abbrev pub required_of : {A : Type 0} → List ℕ → (Element → Reading A) → Option (ℕ × Element) → Reading A
required_of tag read None = Err (missing tag)
required_of tag read (Some p) = read_at read p

-- a part that has to be there
abbrev pub required : {A : Type 0} → List ℕ → (Element → Reading A) → Element → Reading A
required tag read e = required_of tag read (kid tag e)

abbrev pub some_of : {A : Type 0} → Reading A → Reading (Option A)
some_of (Ok x) = Ok (Some x)
some_of (Err r) = Err r

abbrev pub optional_of : {A : Type 0} → (Element → Reading A) → Option (ℕ × Element) → Reading (Option A)
optional_of read None = Ok None
optional_of read (Some p) = some_of (read_at read p)

-- a part that may be absent
abbrev pub optional : {A : Type 0} → List ℕ → (Element → Reading A) → Element → Reading (Option A)
optional tag read e = optional_of read (kid tag e)

abbrev pub choice_of : {A : Type 0} → List ℕ → (Element → Reading A) → List ℕ → (Element → Reading A)
    → Element → Option (ℕ × Element) → Reading A
choice_of tag read other read_other e None = required_of tag read_other (kid other e)
choice_of tag read other read_other e (Some p) = read_at read p

-- one of two parts: where both are there the one named first counts, and where none is, it is the one that is missing
abbrev pub choice : {A : Type 0} → List ℕ → (Element → Reading A) → List ℕ → (Element → Reading A) → Element
    → Reading A
choice tag read other read_other e = choice_of tag read other read_other e (kid tag e)

abbrev pub each_from : {A : Type 0} → ℕ → List ℕ → (Element → Reading A) → List Element → Reading (List A)
each_from i tag read [] = Ok []
each_from i tag read (e ∷ es) =
    if has_tag tag e then (in_kid i (read e) >>= λ x. each_from (suc i) tag read es >>= λ xs. Ok (x ∷ xs))
    else each_from (suc i) tag read es

-- all kids with a tag, in order
abbrev pub each : {A : Type 0} → List ℕ → (Element → Reading A) → Element → Reading (List A)
each tag read e = each_from 0 tag read (kids_of e)

abbrev pub listed_of : {A : Type 0} → List ℕ → (Element → Reading A) → Option (ℕ × Element) → Reading (List A)
listed_of tag read None = Ok []
listed_of tag read (Some p) = read_at (each tag read) p

-- all kids with a tag of a part that may be absent
abbrev pub listed : {A : Type 0} → List ℕ → List ℕ → (Element → Reading A) → Element → Reading (List A)
listed holder tag read e = listed_of tag read (kid holder e)

abbrev pub attribute_of : List ℕ → Option (List ℕ) → Reading (List ℕ)
attribute_of name None = Err (missing name)
attribute_of name (Some text) = Ok text

-- the text of an attribute, where it is there
abbrev pub attribute : List ℕ → Element → Option (List ℕ)
attribute name e = first_of name (out-Element e).attrs

-- an attribute that has to be there
abbrev pub attribute_in : List ℕ → Element → Reading (List ℕ)
attribute_in name e = attribute_of name (attribute name e)
