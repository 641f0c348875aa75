-- A list of words is a command just where it is the words of that command.
use Rattle.std.proofs.Common.{◌≡◌, ◌⊎◌, inl, inr, ℕ, ◌<◌, ◌≤◌, ◌^◌, ◌&&◌, Bool, true, false, cond, nat_le, List, [], ◌∷◌, codes, bytes_eq, decimal, Option, Some, None, option_map, Result, Ok, refl, sym, ap, ◌∙◌, subst, arith}
use Rattle.std.proofs.lemmas.Bool.Decides.{nat_tests}
use Rattle.std.proofs.lemmas.Fmt.{decimal_is_IsNumeral, parse-decimal}
use Rattle.std.proofs.lemmas.Slice.Eq.{bytes_eq-Decides}
use Rattle.std.specs.Str.Parse.{digits_value, ParsesUnsigned}
use Rattle.text_forms.specs.FileNames.{file_name}
use Rattle.text_forms.specs.TaskNames.{task_name}
use Rattle.flash_words.specs.Words.{words_of, number_in, check_in, status_in, image_in, run_in, drill_in, pair_in, triple_in, command_of, IsCommand, Law}
use Rattle.flash_words.specs.declared.command.Command.{Command}
use Rattle.flash_words.specs.declared.command.Command.TheVariants.{Check, Image, Status, Run, Drill}

both_true : (a b : Bool) → (a && b) ≡ true → (a ≡ true) × (b ≡ true)
both_true true b h = (refl, h)
both_true false b h = absurd cc

module _ {A : Type 0} where
  -- a choice was made one way or the other
  chosen : (b : Bool) (x y z : A) → cond b x y ≡ z → ((b ≡ true) × (x ≡ z)) ⊎ ((b ≡ false) × (y ≡ z))
  chosen true x y z h = inl (refl, h)
  chosen false x y z h = inr (refl, h)

  only : (b : Bool) (x z : A) → cond b (Some x) None ≡ Some z → (b ≡ true) × (x ≡ z)
  only true x z h = (refl, cc)
  only false x z h = absurd cc

  mapped : {B : Type 0} (f : A → B) (o : Option A) (z : B) → option_map f o ≡ Some z → (x : A) × (o ≡ Some x) × (f x ≡ z)
  mapped f None z h = absurd cc
  mapped f (Some x) z h = (x, refl, cc)

-- a word that is compared is that word
same_word : (a b : List ℕ) → bytes_eq a b ≡ true → a ≡ b
same_word a b h = (bytes_eq-Decides a b).0 h

-- ------ numbers
number_test : ℕ → ℕ → List ℕ → ℕ → Bool
number_test low high word n = nat_le low n && nat_le n high && bytes_eq (decimal n) word

pub number_out : (low high : ℕ) (word : List ℕ) (n : ℕ) → number_in low high word ≡ Some n → (low ≤ n) × (n ≤ high) × (word ≡ decimal n)
number_out low high word n h =
    let v : ℕ = digits_value 10 word in
    let o = only (nat_le low v && nat_le v high && bytes_eq (decimal v) word) v n h in
    let p = both_true (nat_le low v && nat_le v high) (bytes_eq (decimal v) word) o.0 in
    let q = both_true (nat_le low v) (nat_le v high) p.0 in
    let e : v ≡ n = o.1 in
    let a : nat_le low v ≡ true = q.0 in
    let b : nat_le v high ≡ true = q.1 in
    let l : low ≤ v = grind (arith, nat_tests) in
    let m : v ≤ high = grind (arith, nat_tests) in
    (omega arith, omega arith, sym (same_word (decimal v) word p.1) ∙ ap decimal e)

pub number_back : (low high n : ℕ) → low ≤ n → n ≤ high → n < 2 ^ 64 → number_in low high (decimal n) ≡ Some n
number_back low high n l h fits =
    let v : digits_value 10 (decimal n) ≡ n = (decimal_is_IsNumeral n fits).1 in
    let a : nat_le low n ≡ true = grind (arith, nat_tests) in
    let b : nat_le n high ≡ true = grind (arith, nat_tests) in
    let e : bytes_eq (decimal n) (decimal n) ≡ true = (bytes_eq-Decides (decimal n) (decimal n)).1 refl in
    rw (v, a, b, e) refl

-- a text that a parser does not take for a number of the range is none
pub missed : {E : Type 0} (low high : ℕ) (word : List ℕ) (r : Result ℕ E) → high < 2 ^ 64 → ParsesUnsigned 64 10 word r
    → ((n : ℕ) → low ≤ n → n ≤ high → word ≡ decimal n → r ≡ Ok n → ⊥) → number_in low high word ≡ None
missed low high word r fits parsed never = by (number_in low high word) refl
  where
    by : (o : Option ℕ) → number_in low high word ≡ o → o ≡ None
    by None e = refl
    by (Some n) e =
        let is = number_out low high word n e in
        let below : n < 2 ^ 64 = omega (arith, is.1, fits) in
        absurd (never n is.0 is.1 is.2 (parse-decimal 64 n word r below below is.2 parsed))

-- ------ from words to a command
abbrev IsFrom : List (List ℕ) → Command → Type 0
IsFrom words c = IsCommand c × (words ≡ words_of c)

check_out : (order : List ℕ) (c : Command) → check_in order ≡ Some c → IsFrom (codes "check" ∷ order ∷ []) c
check_out order c h = let o = only (file_name order) (Check order) c h in subst (IsFrom (codes "check" ∷ order ∷ [])) o.1 (o.0, refl)

status_out : (order : List ℕ) (c : Command) → status_in order ≡ Some c → IsFrom (codes "status" ∷ order ∷ []) c
status_out order c h = let o = only (file_name order) (Status order) c h in subst (IsFrom (codes "status" ∷ order ∷ [])) o.1 (o.0, refl)

image_out : (order task : List ℕ) (c : Command) → image_in order task ≡ Some c → IsFrom (codes "image" ∷ order ∷ task ∷ []) c
image_out order task c h =
    let o = only (file_name order && task_name task) (Image order task) c h in
    subst (IsFrom (codes "image" ∷ order ∷ task ∷ [])) o.1 (both_true (file_name order) (task_name task) o.0, refl)

drill_out : (word : List ℕ) (c : Command) → drill_in word ≡ Some c → IsFrom (codes "drill" ∷ word ∷ []) c
drill_out word c h =
    let m = mapped Drill (number_in 0 999999 word) c h in
    let n : ℕ = m.0 in
    let o = number_out 0 999999 word n m.1 in
    subst (IsFrom (codes "drill" ∷ word ∷ [])) m.2 (o.1, ap (λ (w : List ℕ). codes "drill" ∷ w ∷ []) o.2)

run_out : (order word : List ℕ) (c : Command) → run_in order word ≡ Some c → IsFrom (codes "run" ∷ order ∷ word ∷ []) c
run_out order word c h = by (chosen (file_name order) (option_map (Run order) (number_in 1 16 word)) None (Some c) h)
  where
    by : ((file_name order ≡ true) × (option_map (Run order) (number_in 1 16 word) ≡ Some c)) ⊎ ((file_name order ≡ false) × (let none : Option Command = None in none ≡ Some c)) → IsFrom (codes "run" ∷ order ∷ word ∷ []) c
    by (inr q) = let e : let none : Option Command = None in none ≡ Some c = q.1 in absurd cc
    by (inl q) =
        let m = mapped (Run order) (number_in 1 16 word) c q.1 in
        let n : ℕ = m.0 in
        let o = number_out 1 16 word n m.1 in
        subst (IsFrom (codes "run" ∷ order ∷ word ∷ [])) m.2 ((q.0, o.0, o.1), ap (λ (w : List ℕ). codes "run" ∷ order ∷ w ∷ []) o.2)

-- the first word names the command
named : (name word : List ℕ) (rest : List (List ℕ)) (c : Command) → bytes_eq word name ≡ true → IsFrom (name ∷ rest) c → IsFrom (word ∷ rest) c
named name word rest c is h = subst (λ (w : List ℕ). IsFrom (w ∷ rest) c) (sym (same_word word name is)) h

none_out : (words : List (List ℕ)) (c : Command) → (let none : Option Command = None in none ≡ Some c) → IsFrom words c
none_out words c e = absurd cc

-- the words with two parts, by the three tests
second_out : (word second : List ℕ) (c : Command) → cond (bytes_eq word (codes "drill")) (drill_in second) None ≡ Some c → IsFrom (word ∷ second ∷ []) c
second_out word second c h = by (chosen (bytes_eq word (codes "drill")) (drill_in second) None (Some c) h)
  where
    by : ((bytes_eq word (codes "drill") ≡ true) × (drill_in second ≡ Some c)) ⊎ ((bytes_eq word (codes "drill") ≡ false) × (let none : Option Command = None in none ≡ Some c)) → IsFrom (word ∷ second ∷ []) c
    by (inl q) = named (codes "drill") word (second ∷ []) c q.0 (drill_out second c q.1)
    by (inr q) = none_out (word ∷ second ∷ []) c q.1

pair_out : (word second : List ℕ) (c : Command) → pair_in word second ≡ Some c → IsFrom (word ∷ second ∷ []) c
pair_out word second c h =
    first (chosen (bytes_eq word (codes "check")) (check_in second) (cond (bytes_eq word (codes "status")) (status_in second) (cond (bytes_eq word (codes "drill")) (drill_in second) None)) (Some c) h)
  where
    next : ((bytes_eq word (codes "status") ≡ true) × (status_in second ≡ Some c)) ⊎ ((bytes_eq word (codes "status") ≡ false) × (cond (bytes_eq word (codes "drill")) (drill_in second) None ≡ Some c))
        → IsFrom (word ∷ second ∷ []) c
    next (inl q) = named (codes "status") word (second ∷ []) c q.0 (status_out second c q.1)
    next (inr q) = second_out word second c q.1

    first : ((bytes_eq word (codes "check") ≡ true) × (check_in second ≡ Some c))
        ⊎ ((bytes_eq word (codes "check") ≡ false) × (cond (bytes_eq word (codes "status")) (status_in second) (cond (bytes_eq word (codes "drill")) (drill_in second) None) ≡ Some c))
        → IsFrom (word ∷ second ∷ []) c
    first (inl q) = named (codes "check") word (second ∷ []) c q.0 (check_out second c q.1)
    first (inr q) = next (chosen (bytes_eq word (codes "status")) (status_in second) (cond (bytes_eq word (codes "drill")) (drill_in second) None) (Some c) q.1)

triple_out : (word order third : List ℕ) (c : Command) → triple_in word order third ≡ Some c → IsFrom (word ∷ order ∷ third ∷ []) c
triple_out word order third c h = first (chosen (bytes_eq word (codes "image")) (image_in order third) (cond (bytes_eq word (codes "run")) (run_in order third) None) (Some c) h)
  where
    next : ((bytes_eq word (codes "run") ≡ true) × (run_in order third ≡ Some c)) ⊎ ((bytes_eq word (codes "run") ≡ false) × (let none : Option Command = None in none ≡ Some c)) → IsFrom (word ∷ order ∷ third ∷ []) c
    next (inl q) = named (codes "run") word (order ∷ third ∷ []) c q.0 (run_out order third c q.1)
    next (inr q) = none_out (word ∷ order ∷ third ∷ []) c q.1

    first : ((bytes_eq word (codes "image") ≡ true) × (image_in order third ≡ Some c)) ⊎ ((bytes_eq word (codes "image") ≡ false) × (cond (bytes_eq word (codes "run")) (run_in order third) None ≡ Some c)) → IsFrom (word ∷ order ∷ third ∷ []) c
    first (inl q) = named (codes "image") word (order ∷ third ∷ []) c q.0 (image_out order third c q.1)
    first (inr q) = next (chosen (bytes_eq word (codes "run")) (run_in order third) None (Some c) q.1)

out : (words : List (List ℕ)) (c : Command) → command_of words ≡ Some c → IsFrom words c
out [] c h = absurd cc
out (a ∷ []) c h = absurd cc
out (a ∷ b ∷ []) c h = pair_out a b c h
out (a ∷ b ∷ d ∷ []) c h = triple_out a b d c h
out (a ∷ b ∷ d ∷ e ∷ rest) c h = absurd cc

-- ------ from a command to its words
back : (c : Command) → IsCommand c → command_of (words_of c) ≡ Some c
back (Check order) is = rw is refl
back (Image order task) is = let a : file_name order ≡ true = is.0 in let b : task_name task ≡ true = is.1 in rw (a, b) refl
back (Status order) is = rw is refl
back (Run order n) is = let a : file_name order ≡ true = is.0 in rw (a, number_back 1 16 n is.1 is.2 (omega (arith, is.2))) refl
back (Drill n) is = rw (number_back 0 999999 n (omega arith) is (omega (arith, is))) refl

pub written_out : Law
written_out = λ words c. (out words c, λ is. subst (λ (ws : List (List ℕ)). command_of ws ≡ Some c) (sym is.1) (back c is.0))
