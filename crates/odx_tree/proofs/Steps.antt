-- The steps of reading a tree.
use Rattle.std.proofs.Common.{◌≡◌, ℕ, zero, suc, nat_lt, cond, length, get_or, ◌<◌, ◌≤◌, List, [], ◌∷◌, ◌++◌, codes, true, false, is_some, Some, None, Result, Ok, Err, Less, Equal, Greater, append_assoc, refl, ap, arith}
use Rattle.std.specs.Ordering.{nat_cmp, match_ordering}
use Rattle.std.specs.Cmp.Lexicographic.{slice_cmp}
use Rattle.serde_json.specs.Data.{Data, null, boolean, number, string, array, object, Items, Members, no_members, member, depth, items_depth, members_depth}
use Rattle.std.specs.Str.{IsUtf8, is_utf8}
use Rattle.std.proofs.lemmas.Str.{is_utf8-from_IsUtf8, IsUtf8-from_is_utf8}
use Rattle.serde_json.specs.Find.{get, get_member, as_str, as_object, as_array}
use Rattle.serde_json.specs.Read.{read}
use Rattle.serde_json.specs.View.{view, items_view}
use Rattle.serde_json.specs.declared.value.Value.{Value}
use Rattle.odx_tree.specs.declared.element.Element.{roll-Element}
use Rattle.odx_tree.specs.declared.fault.TreeFault.{TreeFault}
use Rattle.odx_tree.specs.declared.fault.TreeFault.TheVariants.{NotJson}
use Rattle.odx_tree.specs.Tree.{◌>>=◌, not_tree, tag_of, text_of, attrs_of, attributes, kids_in, kids_of, kids_at, element, value_of, tree_of}

-- these, and then the rest
abbrev pub prepend : {A : Type 0} → List A → Result (List A) TreeFault → Result (List A) TreeFault
prepend xs (Ok ys) = Ok (xs ++ ys)
prepend xs (Err e) = Err e

pub prepend-nil : {A : Type 0} (r : Result (List A) TreeFault) → prepend [] r ≡ r
prepend-nil (Ok ys) = refl
prepend-nil (Err e) = refl

pub prepend-one : {A : Type 0} (xs : List A) (x : A) (r : Result (List A) TreeFault) → prepend (xs ++ x ∷ []) r ≡ prepend xs (r >>= λ rest. Ok (x ∷ rest))
prepend-one xs x (Ok ys) = ap Ok (append_assoc xs (x ∷ []) ys)
prepend-one xs x (Err e) = refl

pub attribute_is : (k : List ℕ) (d : Data) (ms : Members) (s : List ℕ) → as_str d ≡ Some s → attributes (member k d ms) ≡ (attributes ms >>= λ rest. Ok ((k, s) ∷ rest))
attribute_is k (string t) ms s h = grind arith
attribute_is k null ms s h = cc
attribute_is k (boolean b) ms s h = cc
attribute_is k (number n) ms s h = cc
attribute_is k (array ds) ms s h = cc
attribute_is k (object os) ms s h = cc

pub attribute_refused : (k : List ℕ) (d : Data) (ms : Members) → as_str d ≡ None → attributes (member k d ms) ≡ not_tree
attribute_refused k (string t) ms h = cc
attribute_refused k null ms h = refl
attribute_refused k (boolean b) ms h = refl
attribute_refused k (number n) ms h = refl
attribute_refused k (array ds) ms h = refl
attribute_refused k (object os) ms h = refl

kids_in-at : (ms : Members) → kids_in ms ≡ kids_at (get_member (codes "kids") ms)
kids_in-at no_members = refl
kids_in-at (member k d ms) =
    elim (slice_cmp nat_cmp (codes "kids") k) as (λ o. match_ordering o (kids_in ms) (kids_of d) (kids_in ms) ≡ kids_at (match_ordering o (get_member (codes "kids") ms) (Some d) (get_member (codes "kids") ms)))
    [ Less ↦ kids_in-at ms | Equal ↦ refl | Greater ↦ kids_in-at ms ]

-- the element of an object, by its members
pub element-object : (d : Data) → is_some (as_object d) ≡ true → element d ≡
    (tag_of (get (codes "tag") d) >>= λ tag. attrs_of (get (codes "attrs") d) >>= λ attrs. text_of (get (codes "text") d) >>= λ text.
    kids_at (get (codes "kids") d) >>= λ kids. Ok (roll-Element (record { tag = tag; attrs = attrs; kids = kids; text = text })))
element-object (object ms) h =
    ap (λ r. tag_of (get_member (codes "tag") ms) >>= λ tag. attrs_of (get_member (codes "attrs") ms) >>= λ attrs. text_of (get_member (codes "text") ms) >>= λ text.
    r >>= λ kids. Ok (roll-Element (record { tag = tag; attrs = attrs; kids = kids; text = text }))) (kids_in-at ms)
element-object null h = cc
element-object (boolean b) h = cc
element-object (number n) h = cc
element-object (string s) h = cc
element-object (array ds) h = cc

depth-get_member : (k : List ℕ) (ms : Members) (d : Data) → get_member k ms ≡ Some d → depth d ≤ members_depth ms
depth-get_member k no_members d h = cc
depth-get_member k (member l e ms) d h =
    elim (slice_cmp nat_cmp k l) as (λ o. match_ordering o (get_member k ms) (Some e) (get_member k ms) ≡ Some d → depth d ≤ members_depth (member l e ms))
    [ Less ↦ λ p. omega (arith, depth-get_member k ms d p) | Equal ↦ λ p. omega (arith, ap depth (injected e d p)) | Greater ↦ λ p. omega (arith, depth-get_member k ms d p) ] h
  where
    injected : (a b : Data) → Some a ≡ Some b → a ≡ b
    injected a b p = cc

-- what a member holds nests less deep than its object
pub depth-get : (k : List ℕ) (d e : Data) → get k d ≡ Some e → depth e < depth d
depth-get k (object ms) e h = omega (arith, depth-get_member k ms e h)
depth-get k null e h = cc
depth-get k (boolean b) e h = cc
depth-get k (number n) e h = cc
depth-get k (string s) e h = cc
depth-get k (array ds) e h = cc

-- an item nests at most as deep as the items
pub depth-item : (vs : List Value) (i : ℕ) (d : Value) → i < length vs → depth (view (get_or vs i d)) ≤ items_depth (items_view vs)
depth-item [] i d h = omega arith
depth-item (v ∷ vs) zero d h = omega arith
depth-item (v ∷ vs) (suc i) d h = omega (arith, depth-item vs i d (omega arith))

-- the items of an array nest less deep than it
pub depth-as_array : (d : Data) (ds : Items) → as_array d ≡ Some ds → suc (items_depth ds) ≤ depth d
depth-as_array (array es) ds h = let same : es ≡ ds = cc in omega (arith, ap items_depth same)
depth-as_array null ds h = cc
depth-as_array (boolean b) ds h = cc
depth-as_array (number n) ds h = cc
depth-as_array (string s) ds h = cc
depth-as_array (object ms) ds h = cc

pub tree_of-value : (bytes : List ℕ) (d : Data) → length bytes ≤ 67108864 → IsUtf8 bytes → read bytes ≡ Some d → tree_of bytes ≡ element d
tree_of-value bytes d h u r =
    let short : nat_lt 67108864 (length bytes) ≡ false = grind (arith, h) in
    rw (short, is_utf8-from_IsUtf8 bytes u, r) refl

pub tree_of-none : (bytes : List ℕ) → length bytes ≤ 67108864 → (IsUtf8 bytes → read bytes ≡ None) → tree_of bytes ≡ Err NotJson
tree_of-none bytes h r =
    let short : nat_lt 67108864 (length bytes) ≡ false = grind (arith, h) in
    let value : value_of bytes ≡ None = elim (is_utf8 bytes) as (λ b. is_utf8 bytes ≡ b → cond b (read bytes) None ≡ None) [ true ↦ λ e. r (IsUtf8-from_is_utf8 bytes e) | false ↦ λ e. refl ] refl in
    rw (short, value) refl
