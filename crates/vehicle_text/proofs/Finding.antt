-- What is found in an object, and how a member of it is read.
use Rattle.std.proofs.Common.{◌≡◌, inl, inr, ℕ, Bool, true, false, true≢false, List, [], ◌∷◌, Option, Some, None, refl, sym, ◌∙◌, ap, subst, Ordering, Less, Equal, Greater, nat_cmp, bytes_eq}
use Rattle.std.specs.Prelude.{Ok, is_some, if◌then◌else◌, option_map}
use Rattle.std.specs.Ordering.{match_ordering}
use Rattle.std.specs.Cmp.Lexicographic.{slice_cmp}
use Rattle.std.proofs.lemmas.Bool.{and_parts, cases_Bool}
use Rattle.std.proofs.lemmas.Slice.Eq.{bytes_eq-Decides}
use Rattle.serde_json.proofs.Views.{get_member-put, get_member-put_other}
use Rattle.serde_json.specs.Data.{Data, Members, no_members, member, put}
use Rattle.serde_json.specs.Find.{get, get_member}
use Rattle.vehicle_file.specs.Fields.{Reading, ◌>>=◌, chosen, chosen_of, needed, needed_of, object_of, stranger, under, unless_strange}
use Rattle.vehicle_text.specs.Objects.{Fields, all_known, find, find_or, members_in, object_in, or_else}
use Rattle.vehicle_text.proofs.Sorted.{normal, normal_into}

-- ------ steps of reading
pub bind : {A B : Type 0} (r : Reading A) (f : A → Reading B) (x : A) (s : Reading B) → r ≡ Ok x → f x ≡ s → (r >>= f) ≡ s
bind r f x s e h = rw e h

-- ------ one member
-- the object as it is read
abbrev pub read_in : Fields → Data
read_in fs = normal (object_in fs)

abbrev pub normal_some : Option Data → Option Data
normal_some o = option_map normal o

either_way : (b : Bool) (r : Option Data) → (if b then r else r) ≡ r
either_way true r = refl
either_way false r = refl

-- behind one more member
abbrev Next : List ℕ → List ℕ → Option Data → Option Data → Option Data
Next name l o found = if bytes_eq name l then or_else o found else found

found_at : (name l : List ℕ) (d : Data) (ms : Members) (found : Option Data) → get_member name ms ≡ normal_some found
    → get_member name (put l (normal d) ms) ≡ normal_some (Next name l (Some d) found)
found_at name l d ms found e = elim (cases_Bool (bytes_eq name l)) [
  | inl y ↦
      let same : name ≡ l = (bytes_eq-Decides name l).0 y in
      subst (λ (q : List ℕ). get_member q (put l (normal d) ms) ≡ Some (normal d)) (sym same) (get_member-put l (normal d) ms)
      ∙ sym (ap (λ (b : Bool). normal_some (if b then Some d else found)) y)
  | inr n ↦
      get_member-put_other name l (normal d) ms (λ h. true≢false (sym ((bytes_eq-Decides name l).1 h) ∙ n)) ∙ e
      ∙ sym (ap (λ (b : Bool). normal_some (if b then Some d else found)) n)
]

found_in : (name : List ℕ) (fs : Fields) (ms : Members) (found : Option Data) → get_member name ms ≡ normal_some found
    → get_member name (normal_into (members_in fs) ms) ≡ normal_some (find_or name fs found)
found_in name [] ms found e = e
found_in name ((l, None) ∷ fs) ms found e = found_in name fs ms (Next name l None found) (e ∙ sym (ap normal_some (either_way (bytes_eq name l) found)))
found_in name ((l, Some d) ∷ fs) ms found e = found_in name fs (put l (normal d) ms) (Next name l (Some d) found) (found_at name l d ms found e)

pub found : (name : List ℕ) (fs : Fields) → get name (read_in fs) ≡ normal_some (find name fs)
found name fs = found_in name fs no_members None refl

pub needed_is : {A : Type 0} (name : List ℕ) (read : Data → Reading A) (fs : Fields) (d : Data) (x : A) → find name fs ≡ Some d → read (normal d) ≡ Ok x
    → needed name read (read_in fs) ≡ Ok x
needed_is name read fs d x e h = ap (needed_of name read) (found name fs ∙ ap normal_some e) ∙ ap (under name) h

pub chosen_is : {A : Type 0} (name : List ℕ) (otherwise : A) (read : Data → Reading A) (fs : Fields) (o : Option Data) (x : A) → find name fs ≡ o → chosen_of name otherwise read (normal_some o) ≡ Ok x
    → chosen name otherwise read (read_in fs) ≡ Ok x
chosen_is name otherwise read fs o x e h = ap (chosen_of name otherwise read) (found name fs ∙ ap normal_some e) ∙ h

pub given_is : {A : Type 0} (name : List ℕ) (otherwise : A) (read : Data → Reading A) (d : Data) (x : A) → read (normal d) ≡ Ok x → chosen_of name otherwise read (normal_some (Some d)) ≡ Ok x
given_is name otherwise read d x h = ap (under name) h

-- ------ names that are known
any_order : (P : Members → Type 0) (o : Ordering) (a b c : Members) → P a → P b → P c → P (match_ordering o a b c)
any_order P Less a b c p q r = p
any_order P Equal a b c p q r = q
any_order P Greater a b c p q r = r

some_is_not_none : (l : List ℕ) → Some l ≡ None → ⊥
some_is_not_none l e = true≢false (ap is_some e)

first_known : (b : Bool) (l : List ℕ) (r : Option (List ℕ)) → (if b then r else Some l) ≡ None → (b ≡ true) × (r ≡ None)
first_known true l r e = (refl, e)
first_known false l r e = absurd (some_is_not_none l e)

abbrev none_found : Option (List ℕ)
none_found = None

known_put : (p : List ℕ → Bool) (k : List ℕ) (d : Data) (ms : Members) → p k ≡ true → stranger p ms ≡ None → stranger p (put k d ms) ≡ None
known_put p k d no_members is all = ap (λ (b : Bool). if b then none_found else Some k) is
known_put p k d (member l e ms) is all =
    let parts = first_known (p l) l (stranger p ms) all in
    any_order (λ ns. stranger p ns ≡ None) (slice_cmp nat_cmp k l) (member k d (member l e ms)) (member l d ms) (member l e (put k d ms))
    (ap (λ (b : Bool). if b then stranger p (member l e ms) else Some k) is ∙ all)
    (ap (λ (b : Bool). if b then stranger p ms else Some l) parts.0 ∙ parts.1)
    (ap (λ (b : Bool). if b then stranger p (put k d ms) else Some l) parts.0 ∙ known_put p k d ms is parts.1)

no_stranger : (p : List ℕ → Bool) (fs : Fields) (ms : Members) → all_known p fs ≡ true → stranger p ms ≡ None → stranger p (normal_into (members_in fs) ms) ≡ None
no_stranger p [] ms all none = none
no_stranger p ((l, None) ∷ fs) ms all none = no_stranger p fs ms (and_parts (p l) (all_known p fs) all).1 none
no_stranger p ((l, Some d) ∷ fs) ms all none =
    let parts = and_parts (p l) (all_known p fs) all in
    no_stranger p fs (put l (normal d) ms) parts.1 (known_put p l (normal d) ms parts.0 none)

pub object_is : {A : Type 0} (p : List ℕ → Bool) (read : Data → Reading A) (fs : Fields) (x : A) → all_known p fs ≡ true → read (read_in fs) ≡ Ok x
    → object_of p read (read_in fs) ≡ Ok x
object_is p read fs x all e =
    bind (read (read_in fs)) (unless_strange (stranger p (normal_into (members_in fs) no_members))) x (Ok x) e (ap (λ o. unless_strange o x) (no_stranger p fs no_members all refl))

-- the same, where the names and what is read are known by a word of the object
pub tabled : {D A : Type 0} (p : D → List ℕ → Bool) (read : D → Data → Reading A) (word : D) (fs : Fields) (x : A) → all_known (p word) fs ≡ true → read word (read_in fs) ≡ Ok x
    → object_of (p word) (read word) (read_in fs) ≡ Ok x
tabled p read word fs x all e = object_is (p word) (read word) fs x all e

-- what a word stands for
abbrev pub from_some : {A : Type 0} (o : Option A) → is_some o ≡ true → A
from_some None e = absurd (true≢false (sym e))
from_some (Some x) e = x
