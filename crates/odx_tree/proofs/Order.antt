-- The refusal of a value is its first place in document order.
use Rattle.std.proofs.Common.{◌≡◌, ◌∙◌, refl, ℕ, suc, List, [], ◌∷◌, ◌++◌, map, codes, Bool, true, false, cond, ◌&&◌, Option, Some, None, Result, Ok, Err, Less, Equal, Greater}
use Rattle.std.specs.Ordering.{nat_cmp, match_ordering}
use Rattle.std.specs.Cmp.Lexicographic.{slice_cmp}
use Rattle.serde_json.specs.Data.{Data, null, boolean, number, string, array, object, Items, no_items, item, Members, no_members, member}
use Rattle.serde_json.specs.Find.{get_member}
use Rattle.odx_tree.specs.declared.element.Element.{Element, roll-Element}
use Rattle.odx_tree.specs.declared.fault.TreeFault.{TreeFault}
use Rattle.odx_tree.specs.declared.fault.TreeFault.TheVariants.{TooLarge, NotJson, NotTree, NoMemory}
use Rattle.odx_tree.specs.Tree.{◌>>=◌, tag_of, text_of, attrs_of, attributes, in_kid, kids_in, kids_of, element, elements}
use Rattle.odx_tree.specs.Places.{Place, here, is_text, is_filled_text, are_texts, is_texts, if_there, is_there, misplaced, misplaced_kids, misplaced_list, misplaced_items}
use Rattle.odx_tree.specs.Laws.{refusal_of, first_refusal}

abbrev unless : Bool → List Place
unless b = cond b [] here

-- one part, and then the rest
one_part : {A D : Type 0} (r : Result A TreeFault) (b : Bool) (rest : A → Result D TreeFault) (ps : List Place) → refusal_of r ≡ first_refusal (unless b) →
    ((x : A) → refusal_of (rest x) ≡ first_refusal ps) → refusal_of (r >>= rest) ≡ first_refusal (unless b ++ ps)
one_part (Ok x) true rest ps h k = k x
one_part (Ok x) false rest ps h k = cc
one_part (Err e) true rest ps h k = cc
one_part (Err e) false rest ps h k = h

three_parts : (a b c : Bool) (ps : List Place) → first_refusal (unless a ++ (unless b ++ (unless c ++ ps))) ≡ first_refusal (unless (a && b && c) ++ ps)
three_parts true true true ps = refl
three_parts true true false ps = refl
three_parts true false c ps = refl
three_parts false b c ps = refl

tag-test : (o : Option Data) → refusal_of (tag_of o) ≡ first_refusal (unless (is_there is_filled_text o))
tag-test None = refl
tag-test (Some (string (c ∷ s))) = refl
tag-test (Some (string [])) = refl
tag-test (Some null) = refl
tag-test (Some (boolean b)) = refl
tag-test (Some (number n)) = refl
tag-test (Some (array ds)) = refl
tag-test (Some (object ms)) = refl

text-test : (o : Option Data) → refusal_of (text_of o) ≡ first_refusal (unless (if_there is_text o))
text-test None = refl
text-test (Some (string s)) = refl
text-test (Some null) = refl
text-test (Some (boolean b)) = refl
text-test (Some (number n)) = refl
text-test (Some (array ds)) = refl
text-test (Some (object ms)) = refl

passed_on : {A B : Type 0} (r : Result A TreeFault) (f : A → B) → refusal_of (r >>= λ x. Ok (f x)) ≡ refusal_of r
passed_on (Ok x) f = refl
passed_on (Err e) f = refl

attributes-test : (ms : Members) → refusal_of (attributes ms) ≡ first_refusal (unless (are_texts ms))
attributes-test no_members = refl
attributes-test (member k (string s) ms) = passed_on (attributes ms) (λ rest. (k, s) ∷ rest) ∙ attributes-test ms
attributes-test (member k null ms) = refl
attributes-test (member k (boolean b) ms) = refl
attributes-test (member k (number n) ms) = refl
attributes-test (member k (array ds) ms) = refl
attributes-test (member k (object os) ms) = refl

attrs-test : (o : Option Data) → refusal_of (attrs_of o) ≡ first_refusal (unless (if_there is_texts o))
attrs-test None = refl
attrs-test (Some (object ms)) = attributes-test ms
attrs-test (Some (string s)) = refl
attrs-test (Some null) = refl
attrs-test (Some (boolean b)) = refl
attrs-test (Some (number n)) = refl
attrs-test (Some (array ds)) = refl

-- an element and the elements after it
one_kid : (i : ℕ) (r : Result Element TreeFault) (s : Result (List Element) TreeFault) (ps qs : List Place) → refusal_of r ≡ first_refusal ps → refusal_of s ≡ first_refusal qs →
    refusal_of (in_kid i r >>= λ e. s >>= λ rest. Ok (e ∷ rest)) ≡ first_refusal (map (λ p. i ∷ p) ps ++ qs)
one_kid i (Ok e) s [] qs h k = passed_on s (λ rest. e ∷ rest) ∙ k
one_kid i (Ok e) s (p ∷ ps) qs h k = cc
one_kid i (Err f) s [] qs h k = cc
one_kid i (Err (NotTree q)) s (p ∷ ps) qs h k = cc
one_kid i (Err TooLarge) s (p ∷ ps) qs h k = cc
one_kid i (Err NotJson) s (p ∷ ps) qs h k = cc
one_kid i (Err NoMemory) s (p ∷ ps) qs h k = cc

mutual
  pub element-order : (d : Data) → refusal_of (element d) ≡ first_refusal (misplaced d)
  element-order (object ms) =
      one_part (tag_of (get_member (codes "tag") ms)) (is_there is_filled_text (get_member (codes "tag") ms)) _ _ (tag-test (get_member (codes "tag") ms)) (λ tag.
      one_part (attrs_of (get_member (codes "attrs") ms)) (if_there is_texts (get_member (codes "attrs") ms)) _ _ (attrs-test (get_member (codes "attrs") ms)) (λ attrs.
      one_part (text_of (get_member (codes "text") ms)) (if_there is_text (get_member (codes "text") ms)) _ _ (text-test (get_member (codes "text") ms)) (λ text.
      passed_on (kids_in ms) (λ kids. roll-Element (record { tag = tag; attrs = attrs; kids = kids; text = text })) ∙ kids-order ms)))
      ∙ three_parts (is_there is_filled_text (get_member (codes "tag") ms)) (if_there is_texts (get_member (codes "attrs") ms)) (if_there is_text (get_member (codes "text") ms)) (misplaced_kids ms)
  element-order null = refl
  element-order (boolean b) = refl
  element-order (number n) = refl
  element-order (string s) = refl
  element-order (array ds) = refl

  kids-order : (ms : Members) → refusal_of (kids_in ms) ≡ first_refusal (misplaced_kids ms)
  kids-order no_members = refl
  kids-order (member k d ms) =
      elim (slice_cmp nat_cmp (codes "kids") k) as (λ o. refusal_of (match_ordering o (kids_in ms) (kids_of d) (kids_in ms)) ≡ first_refusal (match_ordering o (misplaced_kids ms) (misplaced_list d) (misplaced_kids ms)))
      [ Less ↦ kids-order ms | Equal ↦ list-order d | Greater ↦ kids-order ms ]

  list-order : (d : Data) → refusal_of (kids_of d) ≡ first_refusal (misplaced_list d)
  list-order (array ds) = items-order 0 ds
  list-order null = refl
  list-order (boolean b) = refl
  list-order (number n) = refl
  list-order (string s) = refl
  list-order (object ms) = refl

  items-order : (i : ℕ) (ds : Items) → refusal_of (elements i ds) ≡ first_refusal (misplaced_items i ds)
  items-order i no_items = refl
  items-order i (item d ds) = one_kid i (element d) (elements (suc i) ds) (misplaced d) (misplaced_items (suc i) ds) (element-order d) (items-order (suc i) ds)
