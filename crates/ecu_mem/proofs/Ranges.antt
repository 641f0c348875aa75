-- What elements are read as has its ranges, idents and offsets within their bounds.
use Rattle.std.proofs.Common.{◌≡◌, refl, ℕ, suc, ◌+◌, ◌-◌, ◌<◌, ◌≤◌, List, [], ◌∷◌, length, Bool, true, false, cond, codes, Option, Some, None, Ok, Err, arith}
use Rattle.std.specs.Prelude.{⊤, IfOk, IfSome, nat_lt, nat_le, ◌&&◌}
use Rattle.std.proofs.lemmas.Bool.{and_parts, ltb-true, leb-true}
use Rattle.flash_base.specs.Lists.{Each}
use Rattle.text_forms.specs.Numbers.{hex_text, decimal_text}
use Rattle.odx_tree.specs.declared.element.Element.{Element}
use Rattle.ecu_mem.specs.declared.types.Ident.{Ident}
use Rattle.ecu_mem.specs.declared.types.Check.{Check}
use Rattle.ecu_mem.specs.declared.types.Format.{Format}
use Rattle.ecu_mem.specs.declared.types.Source.{Source}
use Rattle.ecu_mem.specs.declared.refusal.Refusal.{Refusal}
use Rattle.ecu_mem.specs.declared.entry.Entry.{Entry}
use Rattle.ecu_mem.specs.declared.entry.Entry.TheVariants as entry
use Rattle.ecu_mem.specs.Refusals.{Reading, ◌>>=◌, read_as, both, in_kid, missing, bad_number}
use Rattle.ecu_mem.specs.Parts.{kid, kid_of_two, required_of, required, some_of, optional_of, optional, choice_of, choice, each_from, each, listed_of, listed, attribute, attribute_in, has_tag, kids_of}
use Rattle.span_store.specs.ByteMap.{top}
use Rattle.ecu_mem.specs.Values.{text_of, or_bad, if_within, text_in, address_in, byte_in, bytes_in, size_to, end_in, size_from, size_in, extent_in, segment_in, filter_in, is_bytefield, if_filled, ident_value_in, format_in, plain_in, inside_in, file_in}
use Rattle.ecu_mem.specs.Elements.{at_least_one, values_in, one_value_in, ident_in, check_of, check_in, session_of, session_in, signed, up_of, offset_in, offset_or_0, block_of, block_in, flash_of, flash_in, entry_in}
use Rattle.ecu_mem.specs.Bounds.{IsRange, IsCheck, AreValues, IsIdent}

any : {A : Type 0} (r : Reading A) → IfOk r (λ x. ⊤)
any (Ok x) = tt
any (Err f) = tt

both-gives : {A B : Type 0} (P : A → Type 0) (Q : B → Type 0) (r : Reading A) (s : Reading B) → IfOk r P → IfOk s Q → IfOk (both r s) (λ p. P p.0 × Q p.1)
both-gives P Q (Ok a) (Ok b) p q = (p, q)
both-gives P Q (Ok a) (Err g) p q = tt
both-gives P Q (Err f) (Ok b) p q = tt
both-gives P Q (Err f) (Err g) p q = tt

pub bind-gives : {A B : Type 0} (P : A → Type 0) (Q : B → Type 0) (r : Reading A) (f : A → Reading B) → IfOk r P → ((x : A) → P x → IfOk (f x) Q) → IfOk (r >>= f) Q
bind-gives P Q (Ok x) f p h = h x p
bind-gives P Q (Err g) f p h = tt

as-gives : {A B : Type 0} (P : A → Type 0) (Q : B → Type 0) (f : A → B) (r : Reading A) → ((x : A) → P x → Q (f x)) → IfOk r P → IfOk (read_as f r) Q
as-gives P Q f (Ok x) h p = h x p
as-gives P Q f (Err g) h p = tt

pub kid-gives : {A : Type 0} (P : A → Type 0) (i : ℕ) (r : Reading A) → IfOk r P → IfOk (in_kid i r) P
kid-gives P i (Ok x) p = p
kid-gives P i (Err g) p = tt

required_of-gives : {A : Type 0} (P : A → Type 0) (tag : List ℕ) (read : Element → Reading A) (found : Option (ℕ × Element)) → ((e : Element) → IfOk (read e) P) → IfOk (required_of tag read found) P
required_of-gives P tag read None h = tt
required_of-gives P tag read (Some p) h = kid-gives P p.0 (read p.1) (h p.1)

some-gives : {A : Type 0} (P : A → Type 0) (r : Reading A) → IfOk r P → IfOk (some_of r) (λ o. IfSome o P)
some-gives P (Ok x) p = p
some-gives P (Err g) p = tt

optional_of-gives : {A : Type 0} (P : A → Type 0) (read : Element → Reading A) (found : Option (ℕ × Element)) → ((e : Element) → IfOk (read e) P) → IfOk (optional_of read found) (λ o. IfSome o P)
optional_of-gives P read None h = tt
optional_of-gives P read (Some p) h = some-gives P (in_kid p.0 (read p.1)) (kid-gives P p.0 (read p.1) (h p.1))

choice_of-gives : {A : Type 0} (P : A → Type 0) (tag : List ℕ) (read : Element → Reading A) (other : List ℕ) (read_other : Element → Reading A) (e : Element) (found : Option (ℕ × Element)) →
    ((d : Element) → IfOk (read d) P) → ((d : Element) → IfOk (read_other d) P) → IfOk (choice_of tag read other read_other e found) P
choice_of-gives P tag read other read_other e None h k = required_of-gives P tag read_other (kid other e) k
choice_of-gives P tag read other read_other e (Some p) h k = kid-gives P p.0 (read p.1) (h p.1)

each_step-gives : {A : Type 0} (P : A → Type 0) (i : ℕ) (r : Reading A) (rest : Reading (List A)) (b : Bool) → IfOk r P → IfOk rest (Each P) →
    IfOk (cond b (in_kid i r >>= λ x. rest >>= λ xs. Ok (x ∷ xs)) rest) (Each P)
each_step-gives P i r rest true h k =
    bind-gives P (Each P) (in_kid i r) (λ x. rest >>= λ xs. Ok (x ∷ xs)) (kid-gives P i r h) (λ x p. bind-gives (Each P) (Each P) rest (λ xs. Ok (x ∷ xs)) k (λ xs q. (p, q)))
each_step-gives P i r rest false h k = k

each_from-gives : {A : Type 0} (P : A → Type 0) (i : ℕ) (tag : List ℕ) (read : Element → Reading A) (es : List Element) → ((e : Element) → IfOk (read e) P) → IfOk (each_from i tag read es) (Each P)
each_from-gives P i tag read [] h = tt
each_from-gives P i tag read (e ∷ es) h = each_step-gives P i (read e) (each_from (suc i) tag read es) (has_tag tag e) (h e) (each_from-gives P (suc i) tag read es h)

listed_of-gives : {A : Type 0} (P : A → Type 0) (tag : List ℕ) (read : Element → Reading A) (found : Option (ℕ × Element)) → ((e : Element) → IfOk (read e) P) → IfOk (listed_of tag read found) (Each P)
listed_of-gives P tag read None h = tt
listed_of-gives P tag read (Some p) h = kid-gives (Each P) p.0 (each tag read p.1) (each_from-gives P 0 tag read (kids_of p.1) h)

within-gives : (limit : ℕ) (o : Option ℕ) → IfOk (or_bad (if_within limit o)) (λ n. n < limit)
within-gives limit None = tt
within-gives limit (Some n) = go (nat_lt n limit) refl
  where
    go : (b : Bool) → nat_lt n limit ≡ b → IfOk (or_bad (cond b (Some n) None)) (λ m. m < limit)
    go true h = ltb-true n limit h
    go false h = tt

address-gives : (e : Element) → IfOk (address_in e) (λ n. n < top)
address-gives e = within-gives top (hex_text (text_of e))

size_to-gives : (start last : ℕ) → last < top → IfOk (size_to start last) (λ s. IsRange (start, s))
size_to-gives start last h = go (nat_le start last) refl
  where
    within : (start last : ℕ) → last < top → start ≤ last → IsRange (start, last + 1 - start)
    within start last h k = (omega arith, omega arith)

    go : (b : Bool) → nat_le start last ≡ b → IfOk (cond b (Ok (last + 1 - start)) (Err bad_number)) (λ s. IsRange (start, s))
    go true k = within start last h (leb-true start last k)
    go false k = tt

end-gives : (start : ℕ) (e : Element) → IfOk (end_in start e) (λ s. IsRange (start, s))
end-gives start e = bind-gives (λ n. n < top) (λ s. IsRange (start, s)) (address_in e) (λ last. size_to start last) (address-gives e) (λ last h. size_to-gives start last h)

size-gives : (start : ℕ) (e : Element) → IfOk (size_in start e) (λ s. IsRange (start, s))
size-gives start e = of_text (decimal_text (text_of e))
  where
    of_text : (o : Option ℕ) → IfOk (or_bad (size_from start o)) (λ s. IsRange (start, s))
    of_text None = tt
    of_text (Some n) = go (nat_lt 0 n && nat_le (start + n) top) refl
      where
        go : (b : Bool) → (nat_lt 0 n && nat_le (start + n) top) ≡ b → IfOk (or_bad (cond b (Some n) None)) (λ s. IsRange (start, s))
        go true k = let parts : (nat_lt 0 n ≡ true) × (nat_le (start + n) top ≡ true) = and_parts (nat_lt 0 n) (nat_le (start + n) top) k in (ltb-true 0 n parts.0, leb-true (start + n) top parts.1)
        go false k = tt

extent-gives : (last size : List ℕ) (start : ℕ) (e : Element) → IfOk (choice last (end_in start) size (size_in start) e) (λ s. IsRange (start, s))
extent-gives last size start e = choice_of-gives (λ s. IsRange (start, s)) last (end_in start) size (size_in start) e (kid last e) (end-gives start) (size-gives start)

pair-gives : (n : ℕ) (x : Reading ℕ) → IfOk x (λ s. IsRange (n, s)) → IfOk (both (Ok n) x) IsRange
pair-gives n (Ok s) h = h
pair-gives n (Err f) h = tt

refused-gives : (f : Refusal) (x : Reading ℕ) → IfOk (both {A = ℕ} (Err f) x) IsRange
refused-gives f (Ok s) = tt
refused-gives f (Err g) = tt

range-gives : (last size : List ℕ) (r : Reading ℕ) (e : Element) → IfOk (both r (extent_in last size r e)) IsRange
range-gives last size (Ok n) e = pair-gives n (choice last (end_in n) size (size_in n) e) (extent-gives last size n e)
range-gives last size (Err f) e = refused-gives f (extent_in last size (Err f) e)

segment-gives : (e : Element) → IfOk (segment_in e) IsRange
segment-gives e = range-gives (codes "SOURCE-END-ADDRESS") (codes "UNCOMPRESSED-SIZE") (required (codes "SOURCE-START-ADDRESS") address_in e) e

filter-gives : (e : Element) → IfOk (filter_in e) IsRange
filter-gives e = range-gives (codes "FILTER-END") (codes "FILTER-SIZE") (required (codes "FILTER-START") address_in e) e

filled-gives : (v : List ℕ) → IfOk (if_filled v) (λ w. 1 ≤ length w)
filled-gives [] = tt
filled-gives (x ∷ xs) = omega arith

value-gives : (e : Element) → IfOk (ident_value_in e) (λ v. 1 ≤ length v)
value-gives e = bind-gives (λ x. ⊤) (λ v. 1 ≤ length v) (cond (is_bytefield (attribute (codes "TYPE") e)) (bytes_in e) (text_in e)) if_filled (any (cond (is_bytefield (attribute (codes "TYPE") e)) (bytes_in e) (text_in e))) (λ v h. filled-gives v)

some-values : (vs : List (List ℕ)) → Each (λ v. 1 ≤ length v) vs → IfOk (at_least_one vs) AreValues
some-values [] h = tt
some-values (v ∷ vs) h = (omega arith, h)

values-gives : (e : Element) → IfOk (values_in e) AreValues
values-gives e = bind-gives (Each (λ v. 1 ≤ length v)) AreValues (each (codes "IDENT-VALUE") ident_value_in e) at_least_one (each_from-gives (λ v. 1 ≤ length v) 0 (codes "IDENT-VALUE") ident_value_in (kids_of e) value-gives) some-values

one_value-gives : (e : Element) → IfOk (one_value_in e) AreValues
one_value-gives e = bind-gives (λ v. 1 ≤ length v) AreValues (ident_value_in e) (λ v. Ok (v ∷ [])) (value-gives e) (λ v h. (omega arith, (h, tt)))

ident-gives : (e : Element) → IfOk (ident_in e) IsIdent
ident-gives e =
    bind-gives (λ p. ⊤ × AreValues p.1) IsIdent (both name values) (λ p. Ok (record { name = p.0; values = p.1 }))
    (both-gives (λ x. ⊤) AreValues name values (any name) (choice_of-gives AreValues (codes "IDENT-VALUES") values_in (codes "IDENT-VALUE") one_value_in e (kid (codes "IDENT-VALUES") e) values-gives one_value-gives))
    (λ p h. h.1)
  where
    name : Reading (List ℕ)
    name = required (codes "SHORT-NAME") text_in e

    values : Reading (List (List ℕ))
    values = choice (codes "IDENT-VALUES") values_in (codes "IDENT-VALUE") one_value_in e

check-gives : (e : Element) → IfOk (check_in e) IsCheck
check-gives e = of_parts (required (codes "SHORT-NAME") text_in e) (optional (codes "FILLBYTE") byte_in e) (segment_in e) (both (required (codes "CHECKSUM-ALG") text_in e) (required (codes "CHECKSUM-RESULT") bytes_in e)) (segment-gives e)
  where
    of_parts : (name : Reading (List ℕ)) (fill : Reading (Option ℕ)) (range : Reading (ℕ × ℕ)) (rest : Reading (List ℕ × List ℕ)) → IfOk range IsRange → IfOk (read_as check_of (both name (both fill (both range rest)))) IsCheck
    of_parts name fill range rest h =
        as-gives (λ p. ⊤ × (⊤ × (IsRange p.1.1.0 × ⊤))) IsCheck check_of (both name (both fill (both range rest))) (λ p k. k.1.1.0)
        (both-gives (λ x. ⊤) (λ p. ⊤ × (IsRange p.1.0 × ⊤)) name (both fill (both range rest)) (any name)
        (both-gives (λ x. ⊤) (λ p. IsRange p.0 × ⊤) fill (both range rest) (any fill)
        (both-gives IsRange (λ x. ⊤) range rest h (any rest))))

-- what is kept of an entry
abbrev pub IsGood : Entry → Type 0
IsGood (entry.Session s refs) = Each IsIdent s.idents × Each IsCheck s.checks
IsGood (entry.Block b ref) = Each IsRange b.filters × (Each IsRange b.segments × ((b.offset < top) × Each IsIdent b.own))
IsGood (entry.Flash f) = ⊤

session-gives : (e : Element) → IfOk (session_in e) IsGood
session-gives e =
    of_parts (attribute_in (codes "ID") e) (required (codes "SHORT-NAME") text_in e) (listed (codes "EXPECTED-IDENTS") (codes "EXPECTED-IDENT") ident_in e) (listed (codes "CHECKSUMS") (codes "CHECKSUM") check_in e)
    (listed (codes "DATABLOCK-REFS") (codes "DATABLOCK-REF") (attribute_in (codes "ID-REF")) e)
    (listed_of-gives IsIdent (codes "EXPECTED-IDENT") ident_in (kid (codes "EXPECTED-IDENTS") e) ident-gives)
    (listed_of-gives IsCheck (codes "CHECKSUM") check_in (kid (codes "CHECKSUMS") e) check-gives)
  where
    of_parts : (id name : Reading (List ℕ)) (idents : Reading (List Ident)) (checks : Reading (List Check)) (refs : Reading (List (List ℕ))) → IfOk idents (Each IsIdent) → IfOk checks (Each IsCheck) →
        IfOk (read_as session_of (both id (both name (both idents (both checks refs))))) IsGood
    of_parts id name idents checks refs h k =
        as-gives (λ p. ⊤ × (⊤ × (Each IsIdent p.1.1.0 × (Each IsCheck p.1.1.1.0 × ⊤)))) IsGood session_of (both id (both name (both idents (both checks refs)))) (λ p g. (g.1.1.0, g.1.1.1.0))
        (both-gives (λ x. ⊤) (λ p. ⊤ × (Each IsIdent p.1.0 × (Each IsCheck p.1.1.0 × ⊤))) id (both name (both idents (both checks refs))) (any id)
        (both-gives (λ x. ⊤) (λ p. Each IsIdent p.0 × (Each IsCheck p.1.0 × ⊤)) name (both idents (both checks refs)) (any name)
        (both-gives (Each IsIdent) (λ p. Each IsCheck p.0 × ⊤) idents (both checks refs) h
        (both-gives (Each IsCheck) (λ x. ⊤) checks refs k (any refs)))))

signed-gives : (down : Bool) (r : Reading ℕ) → IfOk r (λ n. n < top) → IfOk (signed down r) (λ q. q.1 < top)
signed-gives down (Ok n) h = h
signed-gives down (Err g) h = tt

offset-gives : (e : Element) → IfOk (offset_in e) (λ q. q.1 < top)
offset-gives e = up (kid_of_two (codes "POSITIVE-OFFSET") (codes "POS-OFFSET") e)
  where
    up : (found : Option (ℕ × Element)) → IfOk (up_of e found) (λ q. q.1 < top)
    up None = signed-gives true (required_of (codes "POSITIVE-OFFSET") address_in found) (required_of-gives (λ n. n < top) (codes "POSITIVE-OFFSET") address_in found address-gives)
      where
        found : Option (ℕ × Element)
        found = kid_of_two (codes "NEGATIVE-OFFSET") (codes "NEG-OFFSET") e
    up (Some p) = signed-gives false (in_kid p.0 (address_in p.1)) (kid-gives (λ n. n < top) p.0 (address_in p.1) (address-gives p.1))

or_0-below : (o : Option (Bool × ℕ)) → IfSome o (λ q. q.1 < top) → (offset_or_0 o).1 < top
or_0-below None h = omega arith
or_0-below (Some q) h = h

block-gives : (e : Element) → IfOk (block_in e) IsGood
block-gives e =
    of_parts (attribute_in (codes "ID") e) (required (codes "SHORT-NAME") text_in e) (required (codes "FLASHDATA-REF") (attribute_in (codes "ID-REF")) e)
    (listed (codes "FILTERS") (codes "FILTER") filter_in e) (listed (codes "SEGMENTS") (codes "SEGMENT") segment_in e) (optional (codes "TARGET-ADDR-OFFSET") offset_in e) (listed (codes "OWN-IDENTS") (codes "OWN-IDENT") ident_in e)
    (listed_of-gives IsRange (codes "FILTER") filter_in (kid (codes "FILTERS") e) filter-gives)
    (listed_of-gives IsRange (codes "SEGMENT") segment_in (kid (codes "SEGMENTS") e) segment-gives)
    (optional_of-gives (λ q. q.1 < top) offset_in (kid (codes "TARGET-ADDR-OFFSET") e) offset-gives)
    (listed_of-gives IsIdent (codes "OWN-IDENT") ident_in (kid (codes "OWN-IDENTS") e) ident-gives)
  where
    of_parts : (id name ref : Reading (List ℕ)) (filters segments : Reading (List (ℕ × ℕ))) (offset : Reading (Option (Bool × ℕ))) (own : Reading (List Ident)) →
        IfOk filters (Each IsRange) → IfOk segments (Each IsRange) → IfOk offset (λ o. IfSome o (λ q. q.1 < top)) → IfOk own (Each IsIdent) →
        IfOk (read_as block_of (both id (both name (both ref (both filters (both segments (both offset own))))))) IsGood
    of_parts id name ref filters segments offset own f s o w =
        as-gives (λ p. ⊤ × (⊤ × (⊤ × (Each IsRange p.1.1.1.0 × (Each IsRange p.1.1.1.1.0 × (IfSome p.1.1.1.1.1.0 (λ q. q.1 < top) × Each IsIdent p.1.1.1.1.1.1)))))) IsGood block_of
        (both id (both name (both ref (both filters (both segments (both offset own))))))
        (λ p g. (g.1.1.1.0, (g.1.1.1.1.0, (or_0-below p.1.1.1.1.1.0 g.1.1.1.1.1.0, g.1.1.1.1.1.1))))
        (both-gives (λ x. ⊤) (λ p. ⊤ × (⊤ × (Each IsRange p.1.1.0 × (Each IsRange p.1.1.1.0 × (IfSome p.1.1.1.1.0 (λ q. q.1 < top) × Each IsIdent p.1.1.1.1.1))))) id _ (any id)
        (both-gives (λ x. ⊤) (λ p. ⊤ × (Each IsRange p.1.0 × (Each IsRange p.1.1.0 × (IfSome p.1.1.1.0 (λ q. q.1 < top) × Each IsIdent p.1.1.1.1)))) name _ (any name)
        (both-gives (λ x. ⊤) (λ p. Each IsRange p.0 × (Each IsRange p.1.0 × (IfSome p.1.1.0 (λ q. q.1 < top) × Each IsIdent p.1.1.1))) ref _ (any ref)
        (both-gives (Each IsRange) (λ p. Each IsRange p.0 × (IfSome p.1.0 (λ q. q.1 < top) × Each IsIdent p.1.1)) filters _ f
        (both-gives (Each IsRange) (λ p. IfSome p.0 (λ q. q.1 < top) × Each IsIdent p.1) segments _ s
        (both-gives (λ o. IfSome o (λ q. q.1 < top)) (Each IsIdent) offset own o w))))))

flash-gives : (e : Element) → IfOk (flash_in e) IsGood
flash-gives e = of_parts (both (attribute_in (codes "ID") e) (both (required (codes "DATAFORMAT") format_in e) (both (optional (codes "ENCRYPT-COMPRESS-METHOD") plain_in e) (choice (codes "DATA") inside_in (codes "DATAFILE") file_in e))))
  where
    of_parts : (r : Reading (List ℕ × (Format × (Option Bool × Source)))) → IfOk (read_as flash_of r) IsGood
    of_parts (Ok p) = tt
    of_parts (Err g) = tt

pub entry-gives : (e : Element) → IfOk (entry_in e) IsGood
entry-gives e =
    elim (has_tag (codes "SESSION") e) as (λ o. IfOk (cond o (session_in e) (cond (has_tag (codes "DATABLOCK") e) (block_in e) (cond (has_tag (codes "FLASHDATA") e) (flash_in e) (Err (missing (codes "MEM")))))) IsGood) [
      | true ↦ session-gives e
      | false ↦ elim (has_tag (codes "DATABLOCK") e) as (λ o. IfOk (cond o (block_in e) (cond (has_tag (codes "FLASHDATA") e) (flash_in e) (Err (missing (codes "MEM"))))) IsGood) [
        | true ↦ block-gives e
        | false ↦ elim (has_tag (codes "FLASHDATA") e) as (λ o. IfOk (cond o (flash_in e) (Err (missing (codes "MEM")))) IsGood) [ true ↦ flash-gives e | false ↦ tt ]
      ]
    ]
