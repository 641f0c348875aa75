-- The bytes of a range, one stretch after another.
use Rattle.std.proofs.Common.{◌≡◌, ◌∙◌, ◌⊎◌, sym, refl, ap, subst, zero, suc, ◌+◌, ◌-◌, ◌<◌, ◌≤◌, inl, inr, ℕ, List, [], ◌∷◌, ◌++◌, length, get_or, Option, Some, None, Result, Ok, Err, arith, replicate, append_assoc, append-nil}
use Rattle.std.proofs.lemmas.Bool.{cases_lt}
use Rattle.std.proofs.lemmas.Option.{none-some, slice_get-get_or}
use Rattle.std.specs.Prelude.{slice_get}
use Rattle.std.specs.Ordering.{nat_cmp}
use Rattle.std.specs.FinMap.{empty, entries, get, get-empty, len-empty, len-entries}
use Rattle.span_store.specs.ByteMap.{ByteMap, top}
use Rattle.span_store.specs.Extents.{Extent, end_of}
use Rattle.span_store.specs.Runs.{runs, runs_of}
use Rattle.span_store.specs.Walks.{TakesFront}
use Rattle.span_store.proofs.Fronts.{front_holds, front_none, front_rest}
use Rattle.session_image.specs.Filling.{gap}
use Rattle.session_image.specs.Pieces.{◌>>=◌, or_fill, with_byte, filled}
use Rattle.session_image.specs.declared.types.ImageFault.{ImageFault}
use Rattle.session_image.specs.declared.types.ImageFault.TheVariants.{Hole}
use Rattle.session_image.proofs.Filled.{filled_same}
use Rattle.session_image.proofs.Joins.{joined, joined_nil}

-- these, those, and then the rest
joined_two : {A : Type 0} (xs ys : List A) (r : Result (List A) ImageFault) → joined xs (joined ys r) ≡ joined (xs ++ ys) r
joined_two xs ys (Ok zs) = ap Ok (sym (append_assoc xs ys zs))
joined_two xs ys (Err e) = refl

one_joined : (x : ℕ) (xs : List ℕ) (r : Result (List ℕ) ImageFault) → (joined xs r >>= λ ys. Ok (x ∷ ys)) ≡ joined (x ∷ xs) r
one_joined x xs (Ok ys) = refl
one_joined x xs (Err e) = refl

-- ------ bytes that are there
held_first : (number : ℕ) (look : ℕ → Option ℕ) (fill : Option ℕ) (a n : ℕ) (bs : List ℕ) → ((k : ℕ) → k < length bs → look (a + k) ≡ slice_get bs k)
    → filled number look fill a (length bs + n) ≡ joined bs (filled number look fill (a + length bs) n)
held_first number look fill a n [] h =
    let z : 0 + n ≡ n = omega arith in
    let y : a ≡ a + 0 = omega arith in
    ap (filled number look fill a) z ∙ ap (λ x. filled number look fill x n) y ∙ sym (joined_nil (filled number look fill (a + 0) n))
held_first number look fill a n (b ∷ bs) h =
    let s : suc (length bs) + n ≡ suc (length bs + n) = omega arith in
    let z : a ≡ a + 0 = omega arith in
    let first : look a ≡ Some b = ap look z ∙ h 0 (omega arith) in
    let at : a + 1 + length bs ≡ a + suc (length bs) = omega arith in
    ap (filled number look fill a) s
    ∙ ap (λ o. with_byte number a (or_fill o fill) (filled number look fill (a + 1) (length bs + n))) first
    ∙ ap (λ r. r >>= λ xs. Ok (b ∷ xs)) (held_first number look fill (a + 1) n bs (λ k l. let f : a + 1 + k ≡ a + suc k = omega arith in ap look f ∙ h (suc k) (omega arith)))
    ∙ one_joined b bs (filled number look fill (a + 1 + length bs) n)
    ∙ ap (λ x. joined (b ∷ bs) (filled number look fill x n)) at

-- ------ a gap
gap_filled : (number : ℕ) (look : ℕ → Option ℕ) (x a g n : ℕ) → ((b : ℕ) → a ≤ b → b < a + g → look b ≡ None)
    → filled number look (Some x) a (g + n) ≡ joined (replicate g x) (filled number look (Some x) (a + g) n)
gap_filled number look x a zero n none =
    let z : 0 + n ≡ n = omega arith in
    let y : a ≡ a + 0 = omega arith in
    ap (filled number look (Some x) a) z ∙ ap (λ k. filled number look (Some x) k n) y ∙ sym (joined_nil (filled number look (Some x) (a + 0) n))
gap_filled number look x a (suc g) n none =
    let s : suc g + n ≡ suc (g + n) = omega arith in
    let at : a + 1 + g ≡ a + suc g = omega arith in
    ap (filled number look (Some x) a) s
    ∙ ap (λ o. with_byte number a (or_fill o (Some x)) (filled number look (Some x) (a + 1) (g + n))) (none a (omega arith) (omega arith))
    ∙ ap (λ r. r >>= λ xs. Ok (x ∷ xs)) (gap_filled number look x (a + 1) g n (λ b l u. none b (omega arith) (omega arith)))
    ∙ one_joined x (replicate g x) (filled number look (Some x) (a + 1 + g) n)
    ∙ ap (λ k. joined (x ∷ replicate g x) (filled number look (Some x) k n)) at

-- what a gap comes to, and then the rest
abbrev pub then_joined : Result (List ℕ) ImageFault → Result (List ℕ) ImageFault → Result (List ℕ) ImageFault
then_joined p r = p >>= λ xs. joined xs r

gap_first : (number : ℕ) (look : ℕ → Option ℕ) (fill : Option ℕ) (a g n : ℕ) → ((b : ℕ) → a ≤ b → b < a + g → look b ≡ None)
    → filled number look fill a (g + n) ≡ then_joined (gap number a g fill) (filled number look fill (a + g) n)
gap_first number look None a zero n none =
    let z : 0 + n ≡ n = omega arith in
    let y : a ≡ a + 0 = omega arith in
    ap (filled number look None a) z ∙ ap (λ k. filled number look None k n) y ∙ sym (joined_nil (filled number look None (a + 0) n))
gap_first number look None a (suc g) n none =
    let s : suc g + n ≡ suc (g + n) = omega arith in
    ap (filled number look None a) s ∙ ap (λ o. with_byte number a (or_fill o None) (filled number look None (a + 1) (g + n))) (none a (omega arith) (omega arith))
gap_first number look (Some x) a zero n none = gap_filled number look x a zero n none
gap_first number look (Some x) a (suc g) n none = gap_filled number look x a (suc g) n none

-- ------ a piece of a walk, behind a gap
next_stretch : (number : ℕ) (fill : Option ℕ) (m n : ByteMap) (here stop : ℕ) (e : Extent) → TakesFront m (Some e) n → here ≤ e.0 → end_of e ≤ stop
    → filled number (get m) fill here (stop - here) ≡ then_joined (gap number here (e.0 - here) fill) (joined e.1 (filled number (get n) fill (end_of e) (stop - end_of e)))
next_stretch number fill m n here stop e t le fits =
    let all : stop - here ≡ e.0 - here + (length e.1 + (stop - end_of e)) = omega arith in
    let start : here + (e.0 - here) ≡ e.0 = omega arith in
    ap (filled number (get m) fill here) all
    ∙ gap_first number (get m) fill here (e.0 - here) (length e.1 + (stop - end_of e)) (λ b l u. front_none m n e t b (omega arith))
    ∙ ap (λ k. then_joined (gap number here (e.0 - here) fill) (filled number (get m) fill k (length e.1 + (stop - end_of e)))) start
    ∙ ap (then_joined (gap number here (e.0 - here) fill))
    (held_first number (get m) fill e.0 (stop - end_of e) e.1 (front_holds m n e t)
    ∙ ap (joined e.1) (filled_same number (get m) (get n) fill (end_of e) (stop - end_of e) (λ b l u. front_rest m n e t b l)))

pub stretched : (number : ℕ) (fill : Option ℕ) (m n : ByteMap) (here stop : ℕ) (e : Extent) (p out new : List ℕ) (whole : Result (List ℕ) ImageFault) → TakesFront m (Some e) n → here ≤ e.0 → end_of e ≤ stop
    → gap number here (e.0 - here) fill ≡ Ok p → new ≡ (out ++ p) ++ e.1 → whole ≡ joined out (filled number (get m) fill here (stop - here))
    → whole ≡ joined new (filled number (get n) fill (end_of e) (stop - end_of e))
stretched number fill m n here stop e p out new whole t le fits padded is before =
    let rest : Result (List ℕ) ImageFault = filled number (get n) fill (end_of e) (stop - end_of e) in
    before
    ∙ ap (joined out) (next_stretch number fill m n here stop e t le fits ∙ ap (λ q. then_joined q (joined e.1 rest)) padded)
    ∙ joined_two out p (joined e.1 rest)
    ∙ joined_two (out ++ p) e.1 rest
    ∙ ap (λ l. joined l rest) (sym is)

pub holed : (number : ℕ) (fill : Option ℕ) (m n : ByteMap) (here stop : ℕ) (e : Extent) (x : ImageFault) (out : List ℕ) (whole : Result (List ℕ) ImageFault) → TakesFront m (Some e) n → here ≤ e.0 → end_of e ≤ stop
    → gap number here (e.0 - here) fill ≡ Err x → whole ≡ joined out (filled number (get m) fill here (stop - here)) → whole ≡ Err x
holed number fill m n here stop e x out whole t le fits refused before =
    before
    ∙ ap (joined out) (next_stretch number fill m n here stop e t le fits
    ∙ ap (λ q. then_joined q (joined e.1 (filled number (get n) fill (end_of e) (stop - end_of e)))) refused)

-- ------ the end of the range
last_stretch : (number : ℕ) (fill : Option ℕ) (m : ByteMap) (here stop : ℕ) → m ≡ empty → filled number (get m) fill here (stop - here) ≡ then_joined (gap number here (stop - here) fill) (Ok [])
last_stretch number fill m here stop none =
    let all : stop - here ≡ stop - here + 0 = omega arith in
    ap (filled number (get m) fill here) all
    ∙ gap_first number (get m) fill here (stop - here) 0 (λ b l u. ap (λ k. get k b) none ∙ get-empty nat_cmp b)

pub stretched_last : (number : ℕ) (fill : Option ℕ) (m : ByteMap) (here stop : ℕ) (p out new : List ℕ) (whole : Result (List ℕ) ImageFault) → m ≡ empty
    → gap number here (stop - here) fill ≡ Ok p → new ≡ out ++ p → whole ≡ joined out (filled number (get m) fill here (stop - here)) → whole ≡ Ok new
stretched_last number fill m here stop p out new whole none padded is before =
    before
    ∙ ap (joined out) (last_stretch number fill m here stop none ∙ ap (λ q. then_joined q (Ok [])) padded)
    ∙ ap Ok (ap (λ l. out ++ l) (append-nil p) ∙ sym is)

pub holed_last : (number : ℕ) (fill : Option ℕ) (m : ByteMap) (here stop : ℕ) (x : ImageFault) (out : List ℕ) (whole : Result (List ℕ) ImageFault) → m ≡ empty
    → gap number here (stop - here) fill ≡ Err x → whole ≡ joined out (filled number (get m) fill here (stop - here)) → whole ≡ Err x
holed_last number fill m here stop x out whole none refused before =
    before ∙ ap (joined out) (last_stretch number fill m here stop none ∙ ap (λ q. then_joined q (Ok [])) refused)

-- ------ a walk within a range
begins_there : (m n : ByteMap) (e : Extent) (a : ℕ) → TakesFront m (Some e) n → e.0 ≤ a → a < end_of e → get m a ≡ None → ⊥
begins_there m n e a t l u none =
    let k : a ≡ e.0 + (a - e.0) = omega arith in
    none-some (get_or e.1 (a - e.0) 0) (sym none ∙ ap (get m) k ∙ front_holds m n e t (a - e.0) (omega arith) ∙ slice_get-get_or e.1 (a - e.0) 0 (omega arith))

pub front_from : (m n : ByteMap) (e : Extent) (low : ℕ) → TakesFront m (Some e) n → ((a : ℕ) → a < low → get m a ≡ None) → low ≤ e.0
front_from m n e low t none =
    let some : 0 < length e.1 = t.0 in
    elim (cases_lt e.0 low) [
      | inl l ↦ absurd (begins_there m n e e.0 t (omega arith) (omega arith) (none e.0 l))
      | inr g ↦ g
    ]

pub front_to : (m n : ByteMap) (e : Extent) (high : ℕ) → TakesFront m (Some e) n → ((a : ℕ) → high ≤ a → get m a ≡ None) → end_of e ≤ high
front_to m n e high t none =
    let some : 0 < length e.1 = t.0 in
    elim (cases_lt high (end_of e)) [
      | inr g ↦ g
      | inl l ↦ absurd (begins_there m n e (end_of e - 1) t (omega arith) (omega arith) (none (end_of e - 1) (omega arith)))
    ]

pub rest_low : (m n : ByteMap) (e : Extent) → TakesFront m (Some e) n → (a : ℕ) → a < end_of e → get n a ≡ None
rest_low m n e t = t.3

pub rest_high : (m n : ByteMap) (e : Extent) (high : ℕ) → TakesFront m (Some e) n → ((a : ℕ) → high ≤ a → get m a ≡ None) → (a : ℕ) → high ≤ a → get n a ≡ None
rest_high m n e high t none a l = let fits : end_of e ≤ high = front_to m n e high t none in sym (front_rest m n e t a (omega arith)) ∙ none a l

-- no bytes, no runs
nil_of_length : (ps : List (ℕ × ℕ)) → length ps ≡ 0 → ps ≡ []
nil_of_length [] e = refl
nil_of_length (p ∷ ps) e = absurd (omega arith)

pub runs_none : (m : ByteMap) → m ≡ empty → runs m ≡ []
runs_none m none = ap runs none ∙ ap runs_of (nil_of_length (entries (empty {R = nat_cmp})) (sym (len-entries (empty {R = nat_cmp})) ∙ len-empty nat_cmp ℕ))
