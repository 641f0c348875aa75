-- Lists that are made one item after another, where each may be refused.
use Rattle.std.proofs.Common.{◌≡◌, ◌∙◌, ◌⊎◌, inl, inr, sym, refl, ap, zero, suc, arith, Some, ◌+◌, ◌<◌, ℕ, List, [], ◌∷◌, ◌++◌, length, get_or, drop, append_assoc, Result, Ok, Err}
use Rattle.std.proofs.lemmas.List.{drop_more}
use Rattle.std.specs.Prelude.{slice_get}
use Rattle.session_image.specs.Pieces.{◌>>=◌}
use Rattle.session_image.specs.declared.types.ImageFault.{ImageFault}
use Rattle.session_image.specs.declared.types.ImageFault.TheVariants.{NoMemory}

-- these, and then the rest
abbrev pub joined : {A : Type 0} → List A → Result (List A) ImageFault → Result (List A) ImageFault
joined xs (Ok ys) = Ok (xs ++ ys)
joined xs (Err e) = Err e

pub joined_nil : {A : Type 0} (r : Result (List A) ImageFault) → joined [] r ≡ r
joined_nil (Ok ys) = refl
joined_nil (Err e) = refl

pub joined_one : {A : Type 0} (xs : List A) (x : A) (r : Result (List A) ImageFault) → joined (xs ++ x ∷ []) r ≡ joined xs (r >>= λ rest. Ok (x ∷ rest))
joined_one xs x (Ok ys) = ap Ok (append_assoc xs (x ∷ []) ys)
joined_one xs x (Err e) = refl

pub joined_more : {A : Type 0} (xs zs : List A) (r : Result (List A) ImageFault) → joined (xs ++ zs) r ≡ joined xs (r >>= λ rest. Ok (zs ++ rest))
joined_more xs zs (Ok ys) = ap Ok (append_assoc xs zs ys)
joined_more xs zs (Err e) = refl

-- what a call gave, if it did not want memory
pub given : {A : Type 0} {x : A} {r : Result A ImageFault} → (Ok x ≡ Err NoMemory) ⊎ (Ok x ≡ r) → r ≡ Ok x
given (inl h) = cc
given (inr h) = sym h

-- a refusal that is passed on
pub passed : {A B : Type 0} {e : ImageFault} {r : Result A ImageFault} {s : Result B ImageFault} → (◌≡◌ {A = Result A ImageFault} (Err e) (Err NoMemory)) ⊎ (Err e ≡ r) → (r ≡ Err e → s ≡ Err e) → (◌≡◌ {A = Result B ImageFault} (Err e) (Err NoMemory)) ⊎ (Err e ≡ s)
passed (inl h) k = inl cc
passed (inr h) k = inr (sym (k (sym h)))

-- G on a list that begins with x asks g of x, and H of the rest
abbrev pub Begins : {X Y : Type 0} → (List X → Result (List Y) ImageFault) → X → Result Y ImageFault → (List X → Result (List Y) ImageFault) → Type 0
Begins {X} {Y} G x g H = (rest : List X) → G (x ∷ rest) ≡ (g >>= λ y. H rest >>= λ ys. Ok (y ∷ ys))

-- the rest of a list from an item on
pub drop_at : {X : Type 0} (xs : List X) (i : ℕ) (x : X) → i < length xs → x ≡ get_or xs i x → drop i xs ≡ x ∷ drop (i + 1) xs
drop_at xs i x within is = drop_more xs i x within ∙ ap (λ y. y ∷ drop (i + 1) xs) (sym is)

pub next : {X Y : Type 0} (G H : List X → Result (List Y) ImageFault) (x : X) (g : Result Y ImageFault) (rest : List X) (y : Y) (done more : List Y) (r : Result (List Y) ImageFault) →
    Begins G x g H → g ≡ Ok y → more ≡ done ++ y ∷ [] → r ≡ joined done (G (x ∷ rest)) → r ≡ joined more (H rest)
next G H x g rest y done more r begins ok pushed before =
    before ∙ ap (joined done) (begins rest) ∙ ap (λ s. joined done (s >>= λ y. H rest >>= λ ys. Ok (y ∷ ys))) ok
    ∙ sym (joined_one done y (H rest)) ∙ ap (λ f. joined f (H rest)) (sym pushed)

pub stopped : {X Y : Type 0} (G H : List X → Result (List Y) ImageFault) (x : X) (g : Result Y ImageFault) (rest : List X) (e : ImageFault) (done : List Y) (r : Result (List Y) ImageFault) →
    Begins G x g H → g ≡ Err e → r ≡ joined done (G (x ∷ rest)) → r ≡ Err e
stopped G H x g rest e done r begins err before =
    before ∙ ap (joined done) (begins rest) ∙ ap (λ s. joined done (s >>= λ y. H rest >>= λ ys. Ok (y ∷ ys))) err

-- the rest of a list from an item on that a look-up gives
pub drop_here : {X : Type 0} (xs : List X) (i : ℕ) (x : X) → slice_get xs i ≡ Some x → drop i xs ≡ x ∷ drop (i + 1) xs
drop_here [] i x h = cc
drop_here (y ∷ ys) zero x h = let e : y ≡ x = cc in ap (λ z. z ∷ ys) e
drop_here (y ∷ ys) (suc i) x h = let e : suc (i + 1) ≡ suc i + 1 = omega arith in drop_here ys i x h ∙ ap (λ n. x ∷ drop n (y ∷ ys)) e
