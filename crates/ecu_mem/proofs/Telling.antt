-- Each refusal of a reading tells what is so.
use Rattle.std.proofs.Common.{◌≡◌, ◌∙◌, ◌⊎◌, inl, inr, sym, refl, ap, subst, ℕ, suc, ◌+◌, ◌-◌, ◌<◌, List, [], ◌∷◌, ◌++◌, length, get_or, Bool, true, false, cond, ◌||◌, bytes_eq, codes, is_some, Option, Some, None, Result, Ok, Err, arith}
use Rattle.std.specs.Prelude.{⊤, nat_le, IfErr}
use Rattle.std.proofs.lemmas.Bool.{and_parts}
use Rattle.odx_tree.specs.declared.element.Element.{Element}
use Rattle.ecu_mem.specs.declared.entry.Entry.{Entry}
use Rattle.ecu_mem.specs.declared.fault.MemFault.{MemFault}
use Rattle.ecu_mem.specs.declared.kind.Kind.{Kind}
use Rattle.ecu_mem.specs.declared.kind.Kind.TheVariants as kind
use Rattle.ecu_mem.specs.declared.kind.Seen.{Seen}
use Rattle.ecu_mem.specs.declared.refusal.Refusal.{Refusal}
use Rattle.ecu_mem.specs.declared.refusal.Wrong.{Wrong}
use Rattle.ecu_mem.specs.declared.refusal.Wrong.TheVariants.{Missing, BadNumber, Twice}
use Rattle.ecu_mem.specs.Refusals.{Reading, ◌>>=◌, read_as, both, before, first_of, in_kid, missing, bad_number, twice}
use Rattle.ecu_mem.specs.Parts.{kids_of, kid, kid_of_two, first_from, has_tag, has_either_tag, tag_of, required_of, required, some_of, optional_of, optional, choice_of, choice, each_from, each, listed_of, listed, attribute, attribute_of, attribute_in}
use Rattle.ecu_mem.specs.Values.{or_bad, text_in, address_in, byte_in, bytes_in, size_to, end_in, size_in, or_0, extent_in, segment_in, filter_in, is_bytefield, if_filled, ident_value_in, format_of, format_in, plain_in, inside_in, file_in, text_of}
use Rattle.ecu_mem.specs.Elements.{at_least_one, values_in, one_value_in, ident_in, check_in, session_in, signed, up_of, offset_in, block_in, flash_in, entry_in}
use Rattle.ecu_mem.specs.Places.{counting_from, is_member, group_kind, new_kind, members_of, seen_after, groups_from, groups, carriers_of}
use Rattle.ecu_mem.specs.Catalogue.{unique, target_of, with_element, with_ecu_mem, over_places, fault_at, fault_of, and_then, position_or_dangling, block_found, flash_found, positions_of, linked_block, with_session, with_block, with_flash, linked}
use Rattle.ecu_mem.specs.Index.{after}
use Rattle.ecu_mem.specs.declared.entry.Entry.TheVariants as entry
use Rattle.ecu_mem.specs.declared.entry.Target.{Target}
use Rattle.ecu_mem.specs.declared.types.Block.{Block}
use Rattle.ecu_mem.specs.declared.types.EcuMem.{EcuMem}
use Rattle.ecu_mem.specs.declared.fault.MemFault.TheVariants.{NoMemory}
use Rattle.ecu_mem.specs.Truths.{IsSo, IsRight, IsTrueOf}
use Rattle.ecu_mem.proofs.Walk.{kid_of-same, over-under, over-here, over-kid, kid-at}
use Rattle.text_forms.specs.FileNames.{file_name}

first-right : (e : Element) (r s : Refusal) → IsSo e r.path r.wrong → IsSo e s.path s.wrong → IsSo e (first_of r s).path (first_of r s).wrong
first-right e r s h k = go (before s.path r.path)
  where
    go : (b : Bool) → IsSo e (cond b s r).path (cond b s r).wrong
    go true = k
    go false = h

both-right : {A B : Type 0} (e : Element) (r : Reading A) (s : Reading B) → IsRight e r → IsRight e s → IsRight e (both r s)
both-right e (Ok a) (Ok b) h k = tt
both-right e (Ok a) (Err g) h k = k
both-right e (Err f) (Ok b) h k = h
both-right e (Err f) (Err g) h k = first-right e f g h k

bind-right : {A B : Type 0} (e : Element) (r : Reading A) (f : A → Reading B) → IsRight e r → ((x : A) → r ≡ Ok x → IsRight e (f x)) → IsRight e (r >>= f)
bind-right e (Ok x) f h k = k x refl
bind-right e (Err g) f h k = h

as-right : {A B : Type 0} (e : Element) (f : A → B) (r : Reading A) → IsRight e r → IsRight e (read_as f r)
as-right e f (Ok x) h = tt
as-right e f (Err g) h = h

kid-right : {A : Type 0} (e : Element) (i : ℕ) (k : Element) (r : Reading A) → i < length (kids_of e) → get_or (kids_of e) i e ≡ k → IsRight k r → IsRight e (in_kid i r)
kid-right e i k (Ok x) h is p = tt
kid-right e i k (Err f) h is p = (h, subst (λ (d : Element). IsSo d f.path f.wrong) (sym is) p)

-- a kid that was found is there
found-within : (j : ℕ) (test : Element → Bool) (es : List Element) (i : ℕ) (k d : Element) → first_from j test es ≡ Some (i, k) → (m : ℕ) × (i ≡ j + m) × (m < length es) × (get_or es m d ≡ k)
found-within j test [] i k d h = cc
found-within j test (e ∷ es) i k d h =
    elim (test e) as (λ b. cond b (Some (j, e)) (first_from (suc j) test es) ≡ Some (i, k) → (m : ℕ) × (i ≡ j + m) × (m < length (e ∷ es)) × (get_or (e ∷ es) m d ≡ k)) [
      | true ↦ λ p. let pair : ◌≡◌ {A = ℕ × Element} (j, e) (i, k) = cc in let same : j ≡ i = ap (λ (q : ℕ × Element). q.0) pair in let here : e ≡ k = ap (λ (q : ℕ × Element). q.1) pair in let place : i ≡ j + 0 = omega arith in let low : 0 < suc (length es) = omega arith in (0, place, low, here)
      | false ↦ λ p. let rest = found-within (suc j) test es i k d p in let after : i ≡ suc j + rest.0 = rest.1 in let place : i ≡ j + suc rest.0 = omega arith in let low : rest.0 < length es = rest.2 in let lower : suc rest.0 < suc (length es) = omega arith in (suc rest.0, place, lower, rest.3)
    ] h

-- what is read of a kid that was found
found-right : {A : Type 0} (e : Element) (test : Element → Bool) (p : ℕ × Element) (r : Reading A) → first_from 0 test (kids_of e) ≡ Some p → IsRight p.1 r → IsRight e (in_kid p.0 r)
found-right {A} e test p r h k =
    let at = found-within 0 test (kids_of e) p.0 p.1 e h in
    let place : p.0 ≡ 0 + at.0 = at.1 in
    let same : at.0 ≡ p.0 = omega arith in
    kid-right e p.0 p.1 r (subst (λ n. n < length (kids_of e)) same at.2) (subst (λ n. get_or (kids_of e) n e ≡ p.1) same at.3) k

required_of-right : {A : Type 0} (e : Element) (tag : List ℕ) (read : Element → Reading A) (test : Element → Bool) (found : Option (ℕ × Element)) → first_from 0 test (kids_of e) ≡ found →
    (first_from 0 test (kids_of e) ≡ None → kid tag e ≡ None) → ((d : Element) → IsRight d (read d)) → IsRight e (required_of tag read found)
required_of-right e tag read test None h none k = inr (none h)
required_of-right e tag read test (Some p) h none k = found-right e test p (read p.1) h (k p.1)

required-right : {A : Type 0} (e : Element) (tag : List ℕ) (read : Element → Reading A) → ((d : Element) → IsRight d (read d)) → IsRight e (required tag read e)
required-right e tag read k = required_of-right e tag read (has_tag tag) (kid tag e) refl (λ n. n) k

some-right : {A : Type 0} (e : Element) (r : Reading A) → IsRight e r → IsRight e (some_of r)
some-right e (Ok x) h = tt
some-right e (Err f) h = h

optional-right : {A : Type 0} (e : Element) (tag : List ℕ) (read : Element → Reading A) → ((d : Element) → IsRight d (read d)) → IsRight e (optional tag read e)
optional-right {A} e tag read k = go (kid tag e) refl
  where
    go : (found : Option (ℕ × Element)) → kid tag e ≡ found → IsRight e (optional_of read found)
    go None h = tt
    go (Some p) h = some-right e (in_kid p.0 (read p.1)) (found-right e (has_tag tag) p (read p.1) h (k p.1))

choice-right : {A : Type 0} (e : Element) (tag : List ℕ) (read : Element → Reading A) (other : List ℕ) (read_other : Element → Reading A) → ((d : Element) → IsRight d (read d)) → ((d : Element) → IsRight d (read_other d)) →
    IsRight e (choice tag read other read_other e)
choice-right {A} e tag read other read_other h k = go (kid tag e) refl
  where
    go : (found : Option (ℕ × Element)) → kid tag e ≡ found → IsRight e (choice_of tag read other read_other e found)
    go None n = required_of-right e tag read_other (has_tag other) (kid other e) refl (λ m. n) k
    go (Some p) is = found-right e (has_tag tag) p (read p.1) is (h p.1)

-- these are the kids of an element from position i on
abbrev pub AreKids : Element → ℕ → List Element → Type 0
AreKids e i es = (m : ℕ) → m < length es → (i + m < length (kids_of e)) × (get_or (kids_of e) (i + m) e ≡ get_or es m e)

all-kids : (e : Element) → AreKids e 0 (kids_of e)
all-kids e m h = let same : m ≡ 0 + m = omega arith in (subst (λ n. n < length (kids_of e)) same h, subst (λ n. get_or (kids_of e) n e ≡ get_or (kids_of e) m e) same refl)

later-kids : (e : Element) (i : ℕ) (x : Element) (es : List Element) → AreKids e i (x ∷ es) → AreKids e (suc i) es
later-kids e i x es h m low =
    let lower : suc m < suc (length es) = omega arith in
    let both = h (suc m) lower in
    let same : i + suc m ≡ suc i + m = omega arith in
    (subst (λ n. n < length (kids_of e)) same both.0, subst (λ n. get_or (kids_of e) n e ≡ get_or es m e) same both.1)

first-kid : {A : Type 0} (e : Element) (i : ℕ) (x : Element) (es : List Element) (r : Reading A) → AreKids e i (x ∷ es) → IsRight x r → IsRight e (in_kid i r)
first-kid e i x es r h k =
    let low : 0 < suc (length es) = omega arith in
    let both = h 0 low in
    let same : i + 0 ≡ i = omega arith in
    kid-right e i x r (subst (λ n. n < length (kids_of e)) same both.0) (subst (λ n. get_or (kids_of e) n e ≡ x) same both.1) k

each_from-right : {A : Type 0} (e : Element) (i : ℕ) (tag : List ℕ) (read : Element → Reading A) (es : List Element) → AreKids e i es → ((d : Element) → IsRight d (read d)) → IsRight e (each_from i tag read es)
each_from-right e i tag read [] h k = tt
each_from-right e i tag read (x ∷ es) h k = step (has_tag tag x) (first-kid e i x es (read x) h (k x)) (each_from-right e (suc i) tag read es (later-kids e i x es h) k)
  where
    step : (b : Bool) → IsRight e (in_kid i (read x)) → IsRight e (each_from (suc i) tag read es) → IsRight e (cond b (in_kid i (read x) >>= λ y. each_from (suc i) tag read es >>= λ ys. Ok (y ∷ ys)) (each_from (suc i) tag read es))
    step true p q = bind-right e (in_kid i (read x)) (λ y. each_from (suc i) tag read es >>= λ ys. Ok (y ∷ ys)) p (λ y is. bind-right e (each_from (suc i) tag read es) (λ ys. Ok (y ∷ ys)) q (λ ys is. tt))
    step false p q = q

listed-right : {A : Type 0} (e : Element) (holder tag : List ℕ) (read : Element → Reading A) → ((d : Element) → IsRight d (read d)) → IsRight e (listed holder tag read e)
listed-right {A} e holder tag read k = go (kid holder e) refl
  where
    go : (found : Option (ℕ × Element)) → kid holder e ≡ found → IsRight e (listed_of tag read found)
    go None h = tt
    go (Some p) h = found-right e (has_tag holder) p (each tag read p.1) h (each_from-right p.1 0 tag read (kids_of p.1) (all-kids p.1) k)

attribute-right : (name : List ℕ) (e : Element) → IsRight e (attribute_in name e)
attribute-right name e = go (attribute name e) refl
  where
    go : (a : Option (List ℕ)) → attribute name e ≡ a → IsRight e (attribute_of name a)
    go None h = inl h
    go (Some t) h = tt

or_bad-right : {A : Type 0} (e : Element) (o : Option A) → IsRight e (or_bad o)
or_bad-right e None = tt
or_bad-right e (Some x) = tt

bad-right : {A : Type 0} (e : Element) (b : Bool) (x : A) → IsRight e (cond b (Ok x) (Err bad_number))
bad-right e true x = tt
bad-right e false x = tt

end-right : (start : ℕ) (e : Element) → IsRight e (end_in start e)
end-right start e = bind-right e (address_in e) (λ last. size_to start last) (or_bad-right e _) (λ last h. bad-right e (nat_le start last) (last + 1 - start))

extent-right : (e : Element) (last size : List ℕ) (start : Reading ℕ) → IsRight e (extent_in last size start e)
extent-right e last size start = choice-right e last (end_in (or_0 start)) size (size_in (or_0 start)) (end-right (or_0 start)) (λ d. or_bad-right d _)

address-right : (e : Element) → IsRight e (address_in e)
address-right e = or_bad-right e _

segment-right : (e : Element) → IsRight e (segment_in e)
segment-right e =
    both-right e (required (codes "SOURCE-START-ADDRESS") address_in e) (extent_in (codes "SOURCE-END-ADDRESS") (codes "UNCOMPRESSED-SIZE") (required (codes "SOURCE-START-ADDRESS") address_in e) e)
    (required-right e (codes "SOURCE-START-ADDRESS") address_in address-right) (extent-right e (codes "SOURCE-END-ADDRESS") (codes "UNCOMPRESSED-SIZE") (required (codes "SOURCE-START-ADDRESS") address_in e))

filter-right : (e : Element) → IsRight e (filter_in e)
filter-right e =
    both-right e (required (codes "FILTER-START") address_in e) (extent_in (codes "FILTER-END") (codes "FILTER-SIZE") (required (codes "FILTER-START") address_in e) e)
    (required-right e (codes "FILTER-START") address_in address-right) (extent-right e (codes "FILTER-END") (codes "FILTER-SIZE") (required (codes "FILTER-START") address_in e))

filled-right : (e : Element) (v : List ℕ) → IsRight e (if_filled v)
filled-right e [] = tt
filled-right e (x ∷ xs) = tt

value-right : (e : Element) → IsRight e (ident_value_in e)
value-right e = bind-right e (cond (is_bytefield (attribute (codes "TYPE") e)) (bytes_in e) (text_in e)) if_filled (go (is_bytefield (attribute (codes "TYPE") e))) (λ v h. filled-right e v)
  where
    go : (b : Bool) → IsRight e (cond b (bytes_in e) (text_in e))
    go true = or_bad-right e _
    go false = tt

-- where no kid with a tag was read, there is none
none-read : {A : Type 0} (i : ℕ) (tag : List ℕ) (read : Element → Reading A) (es : List Element) → each_from i tag read es ≡ Ok [] → first_from i (has_tag tag) es ≡ None
none-read i tag read [] h = refl
none-read {A} i tag read (x ∷ es) h = step (has_tag tag x) h (none-read (suc i) tag read es)
  where
    no : (r : Reading A) (s : Reading (List A)) → (in_kid i r >>= λ y. s >>= λ ys. Ok (y ∷ ys)) ≡ Ok [] → ⊥
    no (Ok y) (Ok ys) q = cc
    no (Ok y) (Err f) q = cc
    no (Err g) s q = cc

    step : (b : Bool) → cond b (in_kid i (read x) >>= λ y. each_from (suc i) tag read es >>= λ ys. Ok (y ∷ ys)) (each_from (suc i) tag read es) ≡ Ok [] → (each_from (suc i) tag read es ≡ Ok [] → first_from (suc i) (has_tag tag) es ≡ None) →
        cond b (Some (i, x)) (first_from (suc i) (has_tag tag) es) ≡ None
    step true p rest = absurd (no (read x) (each_from (suc i) tag read es) p)
    step false p rest = rest p

values-right : (e : Element) → IsRight e (values_in e)
values-right e =
    bind-right e (each (codes "IDENT-VALUE") ident_value_in e) at_least_one (each_from-right e 0 (codes "IDENT-VALUE") ident_value_in (kids_of e) (all-kids e) value-right) go
  where
    go : (vs : List (List ℕ)) → each (codes "IDENT-VALUE") ident_value_in e ≡ Ok vs → IsRight e (at_least_one vs)
    go [] h = inr (none-read 0 (codes "IDENT-VALUE") ident_value_in (kids_of e) h)
    go (v ∷ vs) h = tt

one_value-right : (e : Element) → IsRight e (one_value_in e)
one_value-right e = bind-right e (ident_value_in e) (λ v. Ok (v ∷ [])) (value-right e) (λ v h. tt)

text-right : (e : Element) → IsRight e (text_in e)
text-right e = tt

ident-right : (e : Element) → IsRight e (ident_in e)
ident-right e =
    bind-right e (both name values) (λ p. Ok (record { name = p.0; values = p.1 }))
    (both-right e name values (required-right e (codes "SHORT-NAME") text_in text-right) (choice-right e (codes "IDENT-VALUES") values_in (codes "IDENT-VALUE") one_value_in values-right one_value-right)) (λ p h. tt)
  where
    name : Reading (List ℕ)
    name = required (codes "SHORT-NAME") text_in e

    values : Reading (List (List ℕ))
    values = choice (codes "IDENT-VALUES") values_in (codes "IDENT-VALUE") one_value_in e

check-right : (e : Element) → IsRight e (check_in e)
check-right e =
    as-right e _ _ (both-right e _ _ (required-right e (codes "SHORT-NAME") text_in text-right)
    (both-right e _ _ (optional-right e (codes "FILLBYTE") byte_in (λ d. or_bad-right d _))
    (both-right e _ _ (segment-right e)
    (both-right e _ _ (required-right e (codes "CHECKSUM-ALG") text_in text-right) (required-right e (codes "CHECKSUM-RESULT") bytes_in (λ d. or_bad-right d _))))))

session-right : (e : Element) → IsRight e (session_in e)
session-right e =
    as-right e _ _ (both-right e _ _ (attribute-right (codes "ID") e)
    (both-right e _ _ (required-right e (codes "SHORT-NAME") text_in text-right)
    (both-right e _ _ (listed-right e (codes "EXPECTED-IDENTS") (codes "EXPECTED-IDENT") ident_in ident-right)
    (both-right e _ _ (listed-right e (codes "CHECKSUMS") (codes "CHECKSUM") check_in check-right)
    (listed-right e (codes "DATABLOCK-REFS") (codes "DATABLOCK-REF") (attribute_in (codes "ID-REF")) (attribute-right (codes "ID-REF")))))))

signed-right : (e : Element) (down : Bool) (r : Reading ℕ) → IsRight e r → IsRight e (signed down r)
signed-right e down (Ok n) h = tt
signed-right e down (Err f) h = h

-- where no kid has either tag, none has the first
neither : (i : ℕ) (tag other : List ℕ) (es : List Element) → first_from i (has_either_tag tag other) es ≡ None → first_from i (has_tag tag) es ≡ None
neither i tag other [] h = refl
neither i tag other (x ∷ es) h = step (bytes_eq (tag_of x) tag) (bytes_eq (tag_of x) other) h (neither (suc i) tag other es)
  where
    step : (a b : Bool) → cond (a || b) (Some (i, x)) (first_from (suc i) (has_either_tag tag other) es) ≡ None → (first_from (suc i) (has_either_tag tag other) es ≡ None → first_from (suc i) (has_tag tag) es ≡ None) →
        cond a (Some (i, x)) (first_from (suc i) (has_tag tag) es) ≡ None
    step true b p rest = p
    step false true p rest = cc
    step false false p rest = rest p

offset-right : (e : Element) → IsRight e (offset_in e)
offset-right e = up (kid_of_two (codes "POSITIVE-OFFSET") (codes "POS-OFFSET") e) refl
  where
    down : Element → Bool
    down = has_either_tag (codes "NEGATIVE-OFFSET") (codes "NEG-OFFSET")

    up : (found : Option (ℕ × Element)) → kid_of_two (codes "POSITIVE-OFFSET") (codes "POS-OFFSET") e ≡ found → IsRight e (up_of e found)
    up None h =
        signed-right e true (required_of (codes "POSITIVE-OFFSET") address_in (kid_of_two (codes "NEGATIVE-OFFSET") (codes "NEG-OFFSET") e))
        (required_of-right e (codes "POSITIVE-OFFSET") address_in (has_either_tag (codes "NEGATIVE-OFFSET") (codes "NEG-OFFSET")) (kid_of_two (codes "NEGATIVE-OFFSET") (codes "NEG-OFFSET") e) refl
        (λ m. neither 0 (codes "POSITIVE-OFFSET") (codes "POS-OFFSET") (kids_of e) h) address-right)
    up (Some p) h = signed-right e false (in_kid p.0 (address_in p.1)) (found-right e (has_either_tag (codes "POSITIVE-OFFSET") (codes "POS-OFFSET")) p (address_in p.1) h (address-right p.1))

block-right : (e : Element) → IsRight e (block_in e)
block-right e =
    as-right e _ _ (both-right e _ _ (attribute-right (codes "ID") e)
    (both-right e _ _ (required-right e (codes "SHORT-NAME") text_in text-right)
    (both-right e _ _ (required-right e (codes "FLASHDATA-REF") (attribute_in (codes "ID-REF")) (attribute-right (codes "ID-REF")))
    (both-right e _ _ (listed-right e (codes "FILTERS") (codes "FILTER") filter_in filter-right)
    (both-right e _ _ (listed-right e (codes "SEGMENTS") (codes "SEGMENT") segment_in segment-right)
    (both-right e _ _ (optional-right e (codes "TARGET-ADDR-OFFSET") offset_in offset-right) (listed-right e (codes "OWN-IDENTS") (codes "OWN-IDENT") ident_in ident-right)))))))

format-right : (e : Element) → IsRight e (format_in e)
format-right e = bind-right e (attribute_in (codes "SELECTION") e) (λ name. or_bad (format_of name)) (attribute-right (codes "SELECTION") e) (λ name h. or_bad-right e (format_of name))

file-right : (e : Element) → IsRight e (file_in e)
file-right e = bad-right e (file_name (text_of e)) _

flash-right : (e : Element) → IsRight e (flash_in e)
flash-right e =
    as-right e _ _ (both-right e _ _ (attribute-right (codes "ID") e)
    (both-right e _ _ (required-right e (codes "DATAFORMAT") format_in format-right)
    (both-right e _ _ (optional-right e (codes "ENCRYPT-COMPRESS-METHOD") plain_in (λ d. tt)) (choice-right e (codes "DATA") inside_in (codes "DATAFILE") file_in (λ d. tt) file-right))))

-- an element that carries an ID, or one without MEM
abbrev pub IsEntry : Element → Type 0
IsEntry e = (has_tag (codes "SESSION") e ≡ true) ⊎ ((has_tag (codes "DATABLOCK") e ≡ true) ⊎ ((has_tag (codes "FLASHDATA") e ≡ true) ⊎ (kid (codes "MEM") e ≡ None)))

entry-right : (e : Element) → IsEntry e → IsRight e (entry_in e)
entry-right e is = go (has_tag (codes "SESSION") e) (has_tag (codes "DATABLOCK") e) (has_tag (codes "FLASHDATA") e) is
  where
    go : (s d f : Bool) → (s ≡ true) ⊎ ((d ≡ true) ⊎ ((f ≡ true) ⊎ (kid (codes "MEM") e ≡ None))) → IsRight e (cond s (session_in e) (cond d (block_in e) (cond f (flash_in e) (Err (missing (codes "MEM"))))))
    go true d f h = session-right e
    go false true f h = block-right e
    go false false true h = flash-right e
    go false false false (inl h) = cc
    go false false false (inr (inl h)) = cc
    go false false false (inr (inr (inl h))) = cc
    go false false false (inr (inr (inr h))) = inr h

taken-right : (e : Element) (id : List ℕ) (u : ⊤) (b : Bool) → attribute (codes "ID") e ≡ Some id → IsRight e (cond b (Err (twice id)) (Ok u))
taken-right e id u true h = h
taken-right e id u false h = tt

unique-right : (es : List Entry) (e : Element) → IsRight e (unique es (attribute (codes "ID") e))
unique-right es e = go (attribute (codes "ID") e) refl
  where
    go : (a : Option (List ℕ)) → attribute (codes "ID") e ≡ a → IsRight e (unique es a)
    go None h = tt
    go (Some id) h = taken-right e id tt (is_some (target_of es id)) h

with_entry-right : (e : Element) (es : List Entry) → IsEntry e → IsRight e (with_element e es)
unfolding with_element
with_entry-right e es is =
    bind-right e (both (entry_in e) (unique es (attribute (codes "ID") e))) (λ p. Ok (es ++ p.0 ∷ []))
    (both-right e (entry_in e) (unique es (attribute (codes "ID") e)) (entry-right e is) (unique-right es e)) (λ p h. tt)

member-entry : (k : Kind) (e : Element) → is_member k e ≡ true → IsEntry e
member-entry kind.Session e h = inl h
member-entry kind.Block e h = inr (inl (and_parts (has_tag (codes "DATABLOCK") e) (is_some (kid (codes "FLASHDATA-REF") e)) h).0)
member-entry kind.Flash e h = inr (inr (inl h))

-- the members among the kids from position i on
counting-right : (e : Element) (k : Kind) (i : ℕ) (xs : List Element) (es : List Entry) → AreKids e i xs → IsRight e (over_places with_element e (counting_from i (is_member k) xs) es)
counting-right e k i [] es h = tt
counting-right e k i (x ∷ xs) es h = step (is_member k x) refl (λ now. counting-right e k (suc i) xs now (later-kids e i x xs h))
  where
    at : get_or (kids_of e) i e ≡ x
    at = let low : 0 < suc (length xs) = omega arith in let same : i + 0 ≡ i = omega arith in subst (λ n. get_or (kids_of e) n e ≡ x) same (h 0 low).1

    one : IsEntry x → IsRight x (with_element x es)
    one is = with_entry-right x es is

    step : (b : Bool) → is_member k x ≡ b → ((now : List Entry) → IsRight e (over_places with_element e (counting_from (suc i) (is_member k) xs) now)) →
        IsRight e (over_places with_element e (cond b ((i ∷ []) ∷ []) [] ++ counting_from (suc i) (is_member k) xs) es)
    step true is rest =
        bind-right e (in_kid i (with_element (get_or (kids_of e) i e) es)) (λ more. over_places with_element e (counting_from (suc i) (is_member k) xs) more)
        (subst (λ (d : Element). IsRight e (in_kid i (with_element d es))) (sym at) (first-kid e i x xs (with_element x es) h (one (member-entry k x is)))) (λ more q. rest more)
    step false is rest = rest es

members-right : (x : Element) (o : Option Kind) (es : List Entry) → IsRight x (over_places with_element x (members_of o x) es)
members-right x None es = tt
members-right x (Some k) es = counting-right x k 0 (kids_of x) es (all-kids x)

groups-right : (e : Element) (i : ℕ) (seen : Seen) (xs : List Element) (es : List Entry) → AreKids e i xs → IsRight e (over_places with_element e (groups_from i seen xs) es)
groups-right e i seen [] es h = tt
groups-right e i seen (x ∷ xs) es h =
    subst (λ (r : Reading (List Entry)). IsRight e r) (sym (over-under with_element e i (members_of new x) (groups_from (suc i) (seen_after seen new) xs) es))
    (bind-right e (in_kid i (over_places with_element (get_or (kids_of e) i e) (members_of new x) es)) (λ t. over_places with_element e (groups_from (suc i) (seen_after seen new) xs) t)
    (subst (λ (d : Element). IsRight e (in_kid i (over_places with_element d (members_of new x) es))) (sym at) (first-kid e i x xs (over_places with_element x (members_of new x) es) h (members-right x new es)))
    (λ t q. groups-right e (suc i) (seen_after seen (new_kind seen (group_kind x))) xs t (later-kids e i x xs h)))
  where
    new : Option Kind
    new = new_kind seen (group_kind x)

    at : get_or (kids_of e) i e ≡ x
    at = let low : 0 < suc (length xs) = omega arith in let same : i + 0 ≡ i = omega arith in subst (λ n. get_or (kids_of e) n e ≡ x) same (h 0 low).1

-- what an ECU-MEM adds, or its refusal
pub ecu_mem-right : (e : Element) (es : List Entry) → IsRight e (with_ecu_mem e es)
unfolding with_ecu_mem
ecu_mem-right e es = go (kid (codes "MEM") e) refl
  where
    go : (found : Option (ℕ × Element)) → kid (codes "MEM") e ≡ found → IsRight e (over_places with_element e (carriers_of found) es)
    go None h = subst (λ (r : Reading (List Entry)). IsRight e r) (sym (over-here with_element e es)) (with_entry-right e es (inr (inr (inr h))))
    go (Some p) h =
        subst (λ (r : Reading (List Entry)). IsRight e r)
        (sym (over-kid with_element e p.0 (groups p.1) es ∙ ap (λ (x : Element). in_kid p.0 (over_places with_element x (groups p.1) es)) (kid-at (codes "MEM") e p.0 p.1 h)))
        (found-right e (has_tag (codes "MEM")) p (over_places with_element p.1 (groups p.1) es) h (groups-right p.1 0 (record { sessions = false; blocks = false; flashes = false }) (kids_of p.1) es (all-kids p.1)))

-- a refusal of the whole tree
pub fault-right : (root : Element) (f : Refusal) → IsSo root f.path f.wrong → IsTrueOf root (fault_of f)
fault-right root f h = go f.path f.wrong h
  where
    go : (p : List ℕ) (w : Wrong) → IsSo root p w → IsTrueOf root (fault_at p w)
    go p (Missing tag) h = h
    go p BadNumber h = h
    go p (Twice id) h = (p, h)

-- what was read of an element, as its steps say it
pub told-after : (e : Element) (r : Reading ⊤) (now : List Entry) (whole : Reading (List Entry)) → after r now ≡ whole → IsRight e whole → IsRight e r
told-after e (Ok x) now whole h k = tt
told-after e (Err f) now whole h k = subst (λ (w : Reading (List Entry)). IsRight e w) (sym h) k

-- what was refused in a kid
pub kid-told : (e : Element) (ks : List Element) (i : ℕ) (x : Element) (r : Reading ⊤) (f : Refusal) → ks ≡ kids_of e → i < length ks → x ≡ get_or ks i x → IsRight x r → Err f ≡ in_kid i r → IsSo e f.path f.wrong
kid-told e ks i x r f same low is h refused =
    let lower : i < length (kids_of e) = subst (λ (l : List Element). i < length l) same low in
    subst (λ (q : Reading ⊤). IsRight e q) (sym refused) (kid-right e i x r lower (kid_of-same e ks i x same low is) h)

then-told : {A B : Type 0} (P : MemFault → Type 0) (r : Result A MemFault) (f : A → Result B MemFault) → IfErr r P → ((x : A) → IfErr (f x) P) → IfErr (and_then r f) P
then-told P (Ok x) f h k = k x
then-told P (Err g) f h k = h

module _ (root : Element) (find : List ℕ → Option Target) where
  position-told : (id : List ℕ) (o : Option ℕ) → IfErr (position_or_dangling id o) (IsTrueOf root)
  position-told id None = tt
  position-told id (Some i) = tt

  positions-told : (ids : List (List ℕ)) → IfErr (positions_of find ids) (IsTrueOf root)
  positions-told [] = tt
  positions-told (id ∷ ids) =
      then-told (IsTrueOf root) (position_or_dangling id (block_found (find id))) (λ i. and_then (positions_of find ids) (λ is. Ok (i ∷ is))) (position-told id (block_found (find id)))
      (λ i. then-told (IsTrueOf root) (positions_of find ids) (λ is. Ok (i ∷ is)) (positions-told ids) (λ is. tt))

  block-told : (b : Block) (id : List ℕ) → IfErr (linked_block find b id) (IsTrueOf root)
  block-told b id = then-told (IsTrueOf root) (position_or_dangling id (flash_found (find id))) (λ i. Ok (record b { flash = i })) (position-told id (flash_found (find id))) (λ i. tt)

  linked-told : (es : List Entry) → IfErr (linked find es) (IsTrueOf root)
  linked-told [] = tt
  linked-told (entry.Session s ids ∷ es) =
      then-told (IsTrueOf root) (positions_of find ids) (λ is. and_then (linked find es) (λ m. Ok (with_session (record s { blocks = is }) m))) (positions-told ids)
      (λ is. then-told (IsTrueOf root) (linked find es) (λ m. Ok (with_session (record s { blocks = is }) m)) (linked-told es) (λ m. tt))
  linked-told (entry.Block b id ∷ es) =
      then-told (IsTrueOf root) (linked_block find b id) (λ x. and_then (linked find es) (λ m. Ok (with_block x m))) (block-told b id)
      (λ x. then-told (IsTrueOf root) (linked find es) (λ m. Ok (with_block x m)) (linked-told es) (λ m. tt))
  linked-told (entry.Flash f ∷ es) = then-told (IsTrueOf root) (linked find es) (λ m. Ok (with_flash f m)) (linked-told es) (λ m. tt)

  pub link-told : (es : List Entry) (r : Result EcuMem MemFault) → (r ≡ Err NoMemory) ⊎ (r ≡ linked find es) → IfErr r (IsTrueOf root)
  link-told es r (inl p) = subst (λ (q : Result EcuMem MemFault). IfErr q (IsTrueOf root)) (sym p) tt
  link-told es r (inr p) = subst (λ (q : Result EcuMem MemFault). IfErr q (IsTrueOf root)) (sym p) (linked-told es)
