-- Messages in an inbox, by how many of all were taken.
use Rattle.std.proofs.Common.{◌≡◌, ◌⊎◌, inl, inr, ℕ, zero, suc, ◌+◌, ◌≤◌, true, false, List, [], ◌∷◌, ◌++◌, length, drop, refl, sym, ◌∙◌, ap, subst, arith, add-one, length-append, length-drop}
use Rattle.std.specs.Prelude.{Bool, ◌==◌, nat_lt, is_some}
use Rattle.std.proofs.lemmas.Bool.{cases_Bool, false≢true, lt-ltb, le-ltb}
use Rattle.std.proofs.lemmas.List.{drop-append-le}
use Rattle.run_model.specs.Link.{first_message, without_first}
use Rattle.run_model.specs.Ways.{UnitMessage, messages_from}
use Rattle.link_law.specs.Happened.{one}

abbrev pub is_cons : List UnitMessage → Bool
is_cons [] = false
is_cons (w ∷ ws) = true

abbrev tail_of : List UnitMessage → List UnitMessage
tail_of [] = []
tail_of (w ∷ ws) = ws

nil_cons : {C : Type 0} (w : UnitMessage) (ws : List UnitMessage) → [] ≡ w ∷ ws → C
nil_cons {C} w ws e = absurd (false≢true (ap is_some_word e))
  where
    is_some_word : List UnitMessage → Bool
    is_some_word [] = false
    is_some_word (x ∷ xs) = true

-- the oldest message of a unit taken
pub without_tail : (a : ℕ) (ms : List (ℕ × UnitMessage)) → messages_from a (without_first a ms) ≡ tail_of (messages_from a ms)
without_tail a [] = refl
without_tail a (m ∷ ms) = elim (cases_Bool (m.0 == a)) [ inl e ↦ rw e refl | inr e ↦ rw e (rw e (without_tail a ms)) ]

-- the oldest message of another unit taken
pub without_none : (a b : ℕ) (ms : List (ℕ × UnitMessage)) → messages_from a ms ≡ [] → messages_from a (without_first b ms) ≡ []
without_none a b [] e = refl
without_none a b (m ∷ ms) e = elim (cases_Bool (m.0 == a)) [
  | inl f ↦ nil_cons m.1 (messages_from a ms) (sym (rw f at e))
  | inr f ↦ elim (cases_Bool (m.0 == b)) [
    | inl g ↦ rw g (rw f at e)
    | inr g ↦ rw g (rw f (without_none a b ms (rw f at e)))
  ]
]

pub first_some : (a : ℕ) (ms : List (ℕ × UnitMessage)) → is_some (first_message a ms) ≡ true → messages_from a ms ≡ [] → ⊥
first_some a [] is e = false≢true is
first_some a (m ∷ ms) is e = elim (cases_Bool (m.0 == a)) [
  | inl f ↦ nil_cons m.1 (messages_from a ms) (sym (rw f at e))
  | inr f ↦ first_some a ms (rw f at is) (rw f at e)
]

-- ------ the first ones left out
pub drop_next : (k : ℕ) (W : List UnitMessage) (w : UnitMessage) (X : List UnitMessage) → drop k W ≡ w ∷ X → (X ≡ drop (suc k) W) × (suc k ≤ length W)
drop_next zero [] w X e = nil_cons w X e
drop_next zero (v ∷ W) w X e = (sym (ap tail_of e), omega arith)
drop_next (suc k) [] w X e = nil_cons w X e
drop_next (suc k) (v ∷ W) w X e = let more = drop_next k W w X e in (more.0, omega (arith, more.1))

pub drop_same : (k : ℕ) (W : List UnitMessage) → drop k W ≡ drop (k + 0) W
drop_same k W = ap (λ (n : ℕ). drop n W) (none_more k)
  where
    none_more : (n : ℕ) → n ≡ n + 0
    none_more n = omega arith

-- what is taken of a unit's messages, of which k were taken before: none, where there is none
abbrev Taken : List UnitMessage → ℕ → List UnitMessage → Type 0
Taken after k W = ((drop k W ≡ []) × (after ≡ drop k W)) ⊎ ((is_cons (drop k W) ≡ true) × (after ≡ drop (k + 1) W) × (k + 1 ≤ length W))

pub taken_word : (a k : ℕ) (W : List UnitMessage) (ms : List (ℕ × UnitMessage)) → messages_from a ms ≡ drop k W → Taken (messages_from a (without_first a ms)) k W
taken_word a k W ms is = by (drop k W) refl (without_tail a ms ∙ ap tail_of is)
  where
    by : (ws : List UnitMessage) → drop k W ≡ ws → messages_from a (without_first a ms) ≡ tail_of (drop k W) → Taken (messages_from a (without_first a ms)) k W
    by [] e tail = inl (e, tail ∙ ap tail_of e ∙ sym e)
    by (w ∷ ws) e tail =
        let next = drop_next k W w ws e in
        inr (ap is_cons e, tail ∙ ap tail_of e ∙ next.0 ∙ ap (λ (n : ℕ). drop n W) (sym (add-one k)), subst (λ (n : ℕ). n ≤ length W) (sym (add-one k)) next.1)

-- all of them were taken
pub all_taken : (k : ℕ) (W : List UnitMessage) → k ≤ length W → drop k W ≡ [] → k ≡ length W
all_taken k W le e =
    let none : length (drop k W) ≡ 0 = ap (length {A = UnitMessage}) e in
    omega (arith, le, none, length-drop k W)

-- ------ one message kept
pub record IsKept (after : List UnitMessage) (k : ℕ) (took : Bool) (W : List UnitMessage) : Type 0 where
  pub came : k + one took ≤ length W
  pub words : after ≡ drop (k + one took) W

pub kept_word : (a k : ℕ) (W : List UnitMessage) (ms : List (ℕ × UnitMessage)) → is_some (first_message a ms) ≡ true → messages_from a ms ≡ drop k W → IsKept (messages_from a (without_first a ms)) k true W
kept_word a k W ms has is = by (taken_word a k W ms is)
  where
    by : Taken (messages_from a (without_first a ms)) k W → IsKept (messages_from a (without_first a ms)) k true W
    by (inl (none, same)) = absurd (first_some a ms has (is ∙ none))
    by (inr (some, next, le)) = record { came = le; words = next }

pub untaken : (after : List UnitMessage) (k : ℕ) (W : List UnitMessage) → k ≤ length W → after ≡ drop k W → IsKept after k false W
untaken after k W le is = record { came = omega (arith, le); words = is ∙ drop_same k W }

-- ------ more messages came
pub more_words : (before V W : List UnitMessage) (k : ℕ) → k ≤ length W → before ≡ drop k W → before ++ V ≡ drop k (W ++ V)
more_words before V W k le is = ap (λ (ws : List UnitMessage). ws ++ V) is ∙ sym (drop-append-le k W V le)

pub more_long : (V W : List UnitMessage) (k : ℕ) → k ≤ length W → k ≤ length (W ++ V)
more_long V W k le = omega (arith, le, length-append W V)

-- they came into an empty inbox, and the oldest was taken at once
pub came_word : (a k : ℕ) (V W : List UnitMessage) (ms : List (ℕ × UnitMessage)) → k ≤ length W → drop k W ≡ [] → messages_from a ms ≡ drop k (W ++ V) → IsKept (messages_from a (without_first a ms)) k (nat_lt (length W) (length (W ++ V))) (W ++ V)
came_word a k V W ms le none is = by (taken_word a k (W ++ V) ms is)
  where
    full : k ≡ length W
    full = all_taken k W le none

    by : Taken (messages_from a (without_first a ms)) k (W ++ V) → IsKept (messages_from a (without_first a ms)) k (nat_lt (length W) (length (W ++ V))) (W ++ V)
    by (inl (nothing, same)) =
        let more : k ≤ length (W ++ V) = more_long V W k le in
        let all : k ≡ length (W ++ V) = all_taken k (W ++ V) more nothing in
        let test : nat_lt (length W) (length (W ++ V)) ≡ false = le-ltb _ _ (omega (arith, full, all)) in
        subst (λ (b : Bool). IsKept (messages_from a (without_first a ms)) k b (W ++ V)) (sym test) (untaken (messages_from a (without_first a ms)) k (W ++ V) more same)
    by (inr (some, next, long)) =
        let test : nat_lt (length W) (length (W ++ V)) ≡ true = lt-ltb _ _ (omega (arith, full, long)) in
        subst (λ (b : Bool). IsKept (messages_from a (without_first a ms)) k b (W ++ V)) (sym test) (record { came = long; words = next })

-- ------ whether there is one to take
has_first : (a : ℕ) (ms : List (ℕ × UnitMessage)) → is_some (first_message a ms) ≡ is_cons (messages_from a ms)
has_first a [] = refl
has_first a (m ∷ ms) = elim (cases_Bool (m.0 == a)) [ inl e ↦ rw e refl | inr e ↦ rw e (has_first a ms) ]

cons_left : (k : ℕ) (W : List UnitMessage) → is_cons (drop k W) ≡ nat_lt k (length W)
cons_left k W = by (drop k W) refl
  where
    by : (ws : List UnitMessage) → drop k W ≡ ws → is_cons (drop k W) ≡ nat_lt k (length W)
    by [] e =
        let none : length (drop k W) ≡ 0 = ap (length {A = UnitMessage}) e in
        ap is_cons e ∙ sym (le-ltb k (length W) (omega (arith, none, length-drop k W)))
    by (w ∷ ws) e = let next = drop_next k W w ws e in ap is_cons e ∙ sym (lt-ltb k (length W) (omega (arith, next.1)))

pub more_came : (a k : ℕ) (W : List UnitMessage) (ms : List (ℕ × UnitMessage)) → messages_from a ms ≡ drop k W → is_some (first_message a ms) ≡ nat_lt k (length W)
more_came a k W ms is = has_first a ms ∙ ap is_cons is ∙ cons_left k W
