-- Tokens that are put one after another.
use Rattle.std.proofs.Common.{◌≡◌, ℕ, ◌+◌, ◌<◌, ◌≤◌, List, [], ◌∷◌, ◌++◌, Option, Some, None, drop, get_or, length, map, refl, sym, ◌∙◌, ap, subst, append_assoc}
use Rattle.std.specs.Prelude.{Result, Ok, Err, OnOk}
use Rattle.std.proofs.lemmas.List.{drop_more, drop_all}
use Rattle.json.specs.Token.{Token}
use Rattle.json.specs.Tree.{items_tokens, members_tokens}
use Rattle.serde_json.specs.Data.{Data, array}
use Rattle.serde_json.specs.View.{items_of}
use Rattle.serde_json.specs.Written.{items_outline, members_outline}
use Rattle.flash_base.specs.Lists.{Each}
use Rattle.vehicle_text.specs.Objects.{Fields, members_in, object_in, put_all, put_some, put_value, put_values, tokens_of}

abbrev Tokens : Type 0
Tokens = List Token

pub on_ok : {A E : Type 0} (r : Result A E) (P Q : Type 0) → (P → Q) → OnOk r P → OnOk r Q
on_ok (Ok x) P Q f p = f p
on_ok (Err e) P Q f p = p

-- two tokens, one after the other
pub both : (a b c : Tokens) (s t : Token) → b ≡ a ++ s ∷ [] → c ≡ b ++ t ∷ [] → c ≡ a ++ (s ∷ t ∷ [])
both a b c s t one two = two ∙ ap (λ (x : Tokens). x ++ t ∷ []) one ∙ append_assoc a (s ∷ []) (t ∷ [])

-- a key, and then a value
pub keyed : (a b c : Tokens) (name : List ℕ) (d : Data) → b ≡ a ++ Token.key name ∷ [] → c ≡ put_value d b → c ≡ put_some name (Some d) a
keyed a b c name d one two = two ∙ ap (put_value d) one ∙ append_assoc a (Token.key name ∷ []) (tokens_of d)

-- ------ objects
some_outline : (f : List ℕ × Option Data) (fs : Fields) (ts : Tokens) → put_some f.0 f.1 ts ++ members_tokens (members_outline (members_in fs)) ≡ ts ++ members_tokens (members_outline (members_in (f ∷ fs)))
some_outline (name, None) fs ts = refl
some_outline (name, Some d) fs ts = append_assoc ts (Token.key name ∷ tokens_of d) (members_tokens (members_outline (members_in fs)))

closed : (fs : Fields) (ts : Tokens) → put_all fs ts ++ Token.end_object ∷ [] ≡ ts ++ members_tokens (members_outline (members_in fs))
closed [] ts = refl
closed (f ∷ fs) ts = closed fs (put_some f.0 f.1 ts) ∙ some_outline f fs ts

pub an_object : (fs : Fields) (a b c d : Tokens) → b ≡ a ++ Token.begin_object ∷ [] → c ≡ put_all fs b → d ≡ c ++ Token.end_object ∷ [] → d ≡ put_value (object_in fs) a
an_object fs a b c d one two three =
    three ∙ ap (λ (x : Tokens). x ++ Token.end_object ∷ []) two ∙ closed fs b ∙ ap (λ (x : Tokens). x ++ members_tokens (members_outline (members_in fs))) one
    ∙ append_assoc a (Token.begin_object ∷ []) (members_tokens (members_outline (members_in fs)))

-- ------ lists
ended : (ds : List Data) (ts : Tokens) → put_values ds ts ++ Token.end_array ∷ [] ≡ ts ++ items_tokens (items_outline (items_of ds))
ended [] ts = refl
ended (d ∷ ds) ts = ended ds (put_value d ts) ∙ append_assoc ts (tokens_of d) (items_tokens (items_outline (items_of ds)))

pub a_list : (name : List ℕ) (ds : List Data) (a b c d e : Tokens) → b ≡ a ++ Token.key name ∷ [] → c ≡ b ++ Token.begin_array ∷ [] → d ≡ put_values ds c → e ≡ d ++ Token.end_array ∷ []
    → e ≡ put_some name (Some (array (items_of ds))) a
a_list name ds a b c d e one two three four =
    let inner : Tokens = items_tokens (items_outline (items_of ds)) in
    four ∙ ap (λ (x : Tokens). x ++ Token.end_array ∷ []) three ∙ ended ds c ∙ ap (λ (x : Tokens). x ++ inner) (both a b c (Token.key name) Token.begin_array one two)
    ∙ append_assoc a (Token.key name ∷ Token.begin_array ∷ []) inner

-- ------ loops: what is left of a list
pub record IsPut {A : Type 0} (f : A → Data) (P : A → Type 0) (xs : List A) (i : ℕ) (first now : Tokens) : Type 0 where
  pub rest : put_values (map f (drop i xs)) now ≡ put_values (map f xs) first
  pub fits : Each P (drop i xs) → Each P xs

pub put_none : {A : Type 0} (f : A → Data) (P : A → Type 0) (xs : List A) (first : Tokens) → IsPut f P xs 0 first first
put_none f P xs first = record { rest = refl; fits = λ all. all }

pub put_more : {A : Type 0} (f : A → Data) (P : A → Type 0) (xs : List A) (i : ℕ) (x : A) (first old new : Tokens) → i < length xs → x ≡ get_or xs i x → IsPut f P xs i first old → new ≡ put_value (f x) old → P x
    → IsPut f P xs (i + 1) first new
put_more f P xs i x first old new lt at so is one =
    let more : drop i xs ≡ x ∷ drop (i + 1) xs = drop_more xs i x lt ∙ ap (λ y. y ∷ drop (i + 1) xs) (sym at) in
    record {
      rest = ap (put_values (map f (drop (i + 1) xs))) is ∙ sym (ap (λ ys. put_values (map f ys) old) more) ∙ so.rest;
      fits = λ all. so.fits (subst (Each P) (sym more) (one, all));
    }

pub put_end : {A : Type 0} (f : A → Data) (P : A → Type 0) (xs : List A) (i : ℕ) (first now : Tokens) → length xs ≤ i → IsPut f P xs i first now → now ≡ put_values (map f xs) first
put_end f P xs i first now le so = sym (ap (λ ys. put_values (map f ys) now) (drop_all i xs le)) ∙ so.rest

pub fits_end : {A : Type 0} (f : A → Data) (P : A → Type 0) (xs : List A) (i : ℕ) (first now : Tokens) → length xs ≤ i → IsPut f P xs i first now → Each P xs
fits_end f P xs i first now le so = so.fits (subst (Each P) (sym (drop_all i xs le)) tt)

-- the same, of members
pub record AreIn {A : Type 0} (f : A → List ℕ × Option Data) (P : A → Type 0) (xs : List A) (i : ℕ) (first now : Tokens) : Type 0 where
  pub rest : put_all (map f (drop i xs)) now ≡ put_all (map f xs) first
  pub fits : Each P (drop i xs) → Each P xs

pub in_none : {A : Type 0} (f : A → List ℕ × Option Data) (P : A → Type 0) (xs : List A) (first : Tokens) → AreIn f P xs 0 first first
in_none f P xs first = record { rest = refl; fits = λ all. all }

pub in_more : {A : Type 0} (f : A → List ℕ × Option Data) (P : A → Type 0) (xs : List A) (i : ℕ) (x : A) (first old new : Tokens) → i < length xs → x ≡ get_or xs i x → AreIn f P xs i first old
    → new ≡ put_some (f x).0 (f x).1 old → P x → AreIn f P xs (i + 1) first new
in_more f P xs i x first old new lt at so is one =
    let more : drop i xs ≡ x ∷ drop (i + 1) xs = drop_more xs i x lt ∙ ap (λ y. y ∷ drop (i + 1) xs) (sym at) in
    record {
      rest = ap (put_all (map f (drop (i + 1) xs))) is ∙ sym (ap (λ ys. put_all (map f ys) old) more) ∙ so.rest;
      fits = λ all. so.fits (subst (Each P) (sym more) (one, all));
    }

pub in_end : {A : Type 0} (f : A → List ℕ × Option Data) (P : A → Type 0) (xs : List A) (i : ℕ) (first now : Tokens) → length xs ≤ i → AreIn f P xs i first now → now ≡ put_all (map f xs) first
in_end f P xs i first now le so = sym (ap (λ ys. put_all (map f ys) now) (drop_all i xs le)) ∙ so.rest

pub in_fits : {A : Type 0} (f : A → List ℕ × Option Data) (P : A → Type 0) (xs : List A) (i : ℕ) (first now : Tokens) → length xs ≤ i → AreIn f P xs i first now → Each P xs
in_fits f P xs i first now le so = so.fits (subst (Each P) (sym (drop_all i xs le)) tt)
