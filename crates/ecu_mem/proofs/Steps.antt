-- The steps of reading the kids of an element.
use Rattle.std.proofs.Common.{◌≡◌, refl, ap, ℕ, suc, ◌+◌, ◌<◌, List, [], ◌∷◌, ◌++◌, append_assoc, length, get_or, drop, drop-cons, add-one, Bool, true, false, Some, Ok, Err}
use Rattle.odx_tree.specs.declared.element.Element.{Element}
use Rattle.ecu_mem.specs.declared.refusal.Refusal.{Refusal}
use Rattle.ecu_mem.specs.Refusals.{Reading, ◌>>=◌, in_kid, both}
use Rattle.ecu_mem.specs.Parts.{first_from, has_tag, each_from}

pub found_here : (i : ℕ) (counts : Element → Bool) (es : List Element) (d : Element) → i < length es → counts (get_or es i d) ≡ true → first_from i counts (drop i es) ≡ Some (i, get_or es i d)
found_here i counts es d h t = rw (drop-cons es i d h, t) refl

pub found_later : (i : ℕ) (counts : Element → Bool) (es : List Element) (d : Element) → i < length es → counts (get_or es i d) ≡ false → first_from i counts (drop i es) ≡ first_from (i + 1) counts (drop (i + 1) es)
found_later i counts es d h t = rw (drop-cons es i d h, t, add-one) refl

-- these, and then the rest
abbrev pub prepend : {A : Type 0} → List A → Reading (List A) → Reading (List A)
prepend xs (Ok ys) = Ok (xs ++ ys)
prepend xs (Err r) = Err r

pub prepend-nil : {A : Type 0} (r : Reading (List A)) → prepend [] r ≡ r
prepend-nil (Ok ys) = refl
prepend-nil (Err e) = refl

pub prepend-one : {A : Type 0} (xs : List A) (x : A) (r : Reading (List A)) → prepend (xs ++ x ∷ []) r ≡ prepend xs (r >>= λ rest. Ok (x ∷ rest))
prepend-one xs x (Ok ys) = ap Ok (append_assoc xs (x ∷ []) ys)
prepend-one xs x (Err e) = refl

pub each-skipped : {A : Type 0} (i : ℕ) (tag : List ℕ) (read : Element → Reading A) (es : List Element) (d : Element) → i < length es → has_tag tag (get_or es i d) ≡ false →
    each_from i tag read (drop i es) ≡ each_from (i + 1) tag read (drop (i + 1) es)
each-skipped i tag read es d h t = rw (drop-cons es i d h, t, add-one) refl

pub each-refused : {A : Type 0} (i : ℕ) (tag : List ℕ) (read : Element → Reading A) (es : List Element) (d : Element) (r : Refusal) → i < length es → has_tag tag (get_or es i d) ≡ true →
    Err r ≡ in_kid i (read (get_or es i d)) → each_from i tag read (drop i es) ≡ Err r
each-refused i tag read es d r h t e = rw (drop-cons es i d h, t, ← e) refl

pub each-taken : {A : Type 0} (i : ℕ) (tag : List ℕ) (read : Element → Reading A) (es : List Element) (d : Element) (found : List A) (x : A) → i < length es → has_tag tag (get_or es i d) ≡ true →
    Ok x ≡ in_kid i (read (get_or es i d)) → prepend found (each_from i tag read (drop i es)) ≡ prepend (found ++ x ∷ []) (each_from (i + 1) tag read (drop (i + 1) es))
each-taken i tag read es d found x h t e = rw (drop-cons es i d h, t, ← e, add-one, prepend-one found x (each_from (suc i) tag read (drop (suc i) es))) refl

pub both-same : {A B : Type 0} {r t : Reading A} {s u : Reading B} → r ≡ t → s ≡ u → both r s ≡ both t u
both-same p q = cc
