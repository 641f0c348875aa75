-- What is kept of a piece in hand and of those behind it.
use Rattle.std.proofs.Common.{◌≡◌, ◌∙◌, sym, refl, ap, ℕ, ◌+◌, ◌-◌, ◌*◌, ◌<◌, ◌≤◌, ◌⊎◌, inl, inr, zero, suc, get_or, Bool, true, false, cond, List, [], ◌∷◌, ◌++◌, length, take, drop, Some, None, length-drop, arith}
use Rattle.std.proofs.lemmas.Bool.{cases_lt, and_parts, leb-true, le-leb, lt-leb, lt-ltb, le-ltb, ne_eqb}
use Rattle.std.proofs.lemmas.List.{length-take-le, take-append-drop, take_rest}
use Rattle.std.specs.Prelude.{◌||◌, ◌&&◌, ◌==◌, nat_le, nat_lt}
use Rattle.std.specs.List.{AllWithin}
use Rattle.std.specs.List.Sorted.{IsPartitionedBy, IsPartitionPoint}
use Rattle.std.specs.Ordering.{nat_cmp}
use Rattle.std.specs.Cmp.{nat_cmp_total}
use Rattle.std.specs.FinMap.{get, get-empty, empty, len, retain_keys, same_map, nat_cmp-IsAntisymmetric}
use Rattle.flash_base.specs.ByteMaps.{is_in}
use Rattle.flash_base.specs.Lists.{Each}
use Rattle.span_store.specs.ByteMap.{ByteMap, over, top}
use Rattle.span_store.specs.Walks.{TakesFront}
use Rattle.span_store.proofs.Lookups.{get-over, reads, reads_before, reads_hit, reads_other, reads-append, cases_in}
use Rattle.span_store.proofs.Fronts.{len-over}
use Rattle.span_store.proofs.Settled.{slice_get-take}
use Rattle.session_image.specs.Content.{is_in_one, is_kept}
use Rattle.session_image.specs.Filtering.{ends_by, Apart, AreFor, IsRest}
use Rattle.session_image.specs.Keeping.{keeps}
use Rattle.session_image.proofs.Retained.{get_kept, in_after, in_before, in_there, is_in_one-append, none_kept, retain_none, retain_same}

-- nothing stands behind the bytes up to their end
abbrev pub Behind : ByteMap → ℕ → List ℕ → Type 0
Behind rest at bs = (a : ℕ) → a < at + length bs → get rest a ≡ None

pub before_hand : (rest : ByteMap) (at : ℕ) (bs : List ℕ) → Behind rest at bs → (q : ℕ) → q < at → get (over rest at bs) q ≡ None
before_hand rest at bs behind q l = get-over rest at bs q ∙ reads_before at bs q (get rest q) l ∙ behind q (omega arith)

pub behind_more : (rest : ByteMap) (at n : ℕ) (bs : List ℕ) → n ≤ length bs → Behind rest at bs → Behind rest (at + n) (drop n bs)
behind_more rest at n bs fits behind a l = let size : length (drop n bs) ≡ length bs - n = length-drop n bs in behind a (omega arith)

-- ------ without the first bytes
later_same : (rest : ByteMap) (at n : ℕ) (bs : List ℕ) (q : ℕ) → n ≤ length bs → (q < at) ⊎ (at + n ≤ q) → get (over rest at bs) q ≡ get (over rest (at + n) (drop n bs)) q
later_same rest at n bs q fits out =
    let size : length (take n bs) ≡ n = length-take-le n bs fits in
    let away : (q < at) ⊎ (at + length (take n bs) ≤ q) = elim out [ inl l ↦ inl l | inr g ↦ inr (omega arith) ] in
    get-over rest at bs q
    ∙ ap (λ l. reads at l q (get rest q)) (sym (take-append-drop n bs))
    ∙ reads-append at (take n bs) (drop n bs) q (get rest q)
    ∙ reads_other at (take n bs) q (reads (at + length (take n bs)) (drop n bs) q (get rest q)) away
    ∙ ap (λ k. reads (at + k) (drop n bs) q (get rest q)) size
    ∙ sym (get-over rest (at + n) (drop n bs) q)

front_none : (rest : ByteMap) (at n : ℕ) (bs : List ℕ) (q : ℕ) → n ≤ length bs → Behind rest at bs → q < at + n → get (over rest (at + n) (drop n bs)) q ≡ None
front_none rest at n bs q fits behind l = before_hand rest (at + n) (drop n bs) (behind_more rest at n bs fits behind) q l

-- bytes that are not kept
pub skipped : (rest : ByteMap) (at n : ℕ) (bs : List ℕ) (f : ℕ → Bool) → n ≤ length bs → ((a : ℕ) → at ≤ a → a < at + n → f a ≡ false)
    → retain_keys (over rest (at + n) (drop n bs)) f ≡ retain_keys (over rest at bs) f
skipped rest at n bs f fits out =
    same_map nat_cmp_total nat_cmp-IsAntisymmetric _ _ (λ q.
    get_kept (over rest (at + n) (drop n bs)) f q
    ∙ elim (cases_lt q at) [
      | inl l ↦ ap (λ o. cond (f q) o None) (sym (later_same rest at n bs q fits (inl l)))
      | inr g ↦ elim (cases_lt q (at + n)) [
        | inl u ↦ ap (λ t. cond t (get (over rest (at + n) (drop n bs)) q) None) (out q g u) ∙ sym (ap (λ t. cond t (get (over rest at bs) q) None) (out q g u))
        | inr v ↦ ap (λ o. cond (f q) o None) (sym (later_same rest at n bs q fits (inr v)))
      ]
    ]
    ∙ sym (get_kept (over rest at bs) f q))

-- bytes that are kept
given_same : (rest : ByteMap) (at n : ℕ) (bs : List ℕ) (f : ℕ → Bool) → n ≤ length bs → ((a : ℕ) → at ≤ a → a < at + n → f a ≡ true)
    → retain_keys (over rest at bs) f ≡ over (retain_keys (over rest (at + n) (drop n bs)) f) at (take n bs)
given_same rest at n bs f fits in_all =
    let more : ByteMap = retain_keys (over rest (at + n) (drop n bs)) f in
    let size : length (take n bs) ≡ n = length-take-le n bs fits in
    same_map nat_cmp_total nat_cmp-IsAntisymmetric _ _ (λ q.
    get_kept (over rest at bs) f q
    ∙ elim (cases_in at (length (take n bs)) q) [
      | inl hit ↦
          let e : q ≡ at + hit.0 = hit.1 in
          let l : hit.0 < length (take n bs) = hit.2 in
          ap (λ t. cond t (get (over rest at bs) q) None) (in_all q (omega arith) (omega arith))
          ∙ get-over rest at bs q
          ∙ reads_hit at bs q hit.0 (get rest q) e (omega arith)
          ∙ sym (slice_get-take bs n hit.0 (omega arith))
          ∙ sym (reads_hit at (take n bs) q hit.0 (get more q) e l)
      | inr out ↦
          let away : (q < at) ⊎ (at + n ≤ q) = elim out [ inl l ↦ inl l | inr g ↦ inr (omega arith) ] in
          ap (λ o. cond (f q) o None) (later_same rest at n bs q fits away)
          ∙ sym (get_kept (over rest (at + n) (drop n bs)) f q)
          ∙ sym (reads_other at (take n bs) q (get more q) out)
    ]
    ∙ sym (get-over more at (take n bs) q))

pub given_front : (rest : ByteMap) (at n : ℕ) (bs : List ℕ) (f : ℕ → Bool) → 0 < n → n ≤ length bs → at + length bs ≤ top → Behind rest at bs → ((a : ℕ) → at ≤ a → a < at + n → f a ≡ true)
    → TakesFront (retain_keys (over rest at bs) f) (Some (at, take n bs)) (retain_keys (over rest (at + n) (drop n bs)) f)
given_front rest at n bs f some fits ends behind in_all =
    let size : length (take n bs) ≡ n = length-take-le n bs fits in (
      omega arith,
      omega arith,
      given_same rest at n bs f fits in_all,
      λ a l. get_kept (over rest (at + n) (drop n bs)) f a ∙ none_kept (f a) (get (over rest (at + n) (drop n bs)) a) (front_none rest at n bs a fits behind (omega arith)),
    )

-- ------ which addresses ranges have
pub none_in : (low : ℕ) (rs : List (ℕ × ℕ)) (a : ℕ) → Apart low rs → a < low → is_in_one rs a ≡ false
none_in low [] a s l = refl
none_in low (r ∷ rs) a s l =
    let first : low ≤ r.0 = s.0 in
    ap (λ t. t || is_in_one rs a) (in_before r a (omega arith)) ∙ none_in (r.0 + r.1) rs a s.3 (omega arith)

pub first_keeps : (r : ℕ × ℕ) (rs : List (ℕ × ℕ)) (a : ℕ) → r.0 ≤ a → a < r.0 + r.1 → keeps false (r ∷ rs) a ≡ true
first_keeps r rs a l u = ap (λ t. t || is_in_one rs a) (in_there r a l u)

pub none_keeps : (r : ℕ × ℕ) (rs : List (ℕ × ℕ)) (a : ℕ) → Apart 0 (r ∷ rs) → a < r.0 → keeps false (r ∷ rs) a ≡ false
none_keeps r rs a s l = ap (λ t. t || is_in_one rs a) (in_before r a l) ∙ none_in (r.0 + r.1) rs a s.3 (omega arith)

-- a range that ends before all that is still to come
pub passed_range : (m : ByteMap) (r : ℕ × ℕ) (rs : List (ℕ × ℕ)) (at : ℕ) → r.0 + r.1 ≤ at → ((q : ℕ) → q < at → get m q ≡ None) → retain_keys m (keeps false rs) ≡ retain_keys m (keeps false (r ∷ rs))
passed_range m r rs at ends none =
    retain_same m (keeps false rs) (keeps false (r ∷ rs)) (λ q. elim (cases_lt q at) [
      | inl l ↦ inr (none q l)
      | inr g ↦ inl (sym (ap (λ t. t || is_in_one rs q) (in_after r q (omega arith))))
    ])

-- no range is left
pub no_range_left : (m : ByteMap) → empty ≡ retain_keys m (keeps false [])
no_range_left m = retain_none m

-- ------ ranges without the first ones
pub Apart_less : (m n : ℕ) (rs : List (ℕ × ℕ)) → Apart n rs → m ≤ n → Apart m rs
Apart_less m n [] s h = tt
Apart_less m n (r ∷ rs) s h = (let l = s.0 in omega arith, s.1, s.2, s.3)

pub Apart_back : (low : ℕ) (xs ys : List (ℕ × ℕ)) → Apart low (xs ++ ys) → Apart 0 ys
Apart_back low [] ys s = Apart_less 0 low ys s (omega arith)
Apart_back low (x ∷ xs) ys s = Apart_back (x.0 + x.1) xs ys s.3

ended_none : (xs : List (ℕ × ℕ)) (at a : ℕ) → Each (λ r. r.0 + r.1 ≤ at) xs → at ≤ a → is_in_one xs a ≡ false
ended_none [] at a e l = refl
ended_none (x ∷ xs) at a e l = ap (λ t. t || is_in_one xs a) (let h = e.0 in in_after x a (omega arith)) ∙ ended_none xs at a e.1 l

kept_all : (said : List (ℕ × ℕ)) (all : Bool) (a : ℕ) → all ≡ (length said == 0) → (all || is_in_one said a) ≡ is_kept said a
kept_all [] all a e = ap (λ t. t || false) e
kept_all (f ∷ fs) all a e =
    let some : (length (f ∷ fs) == 0) ≡ false = ne_eqb (length (f ∷ fs)) 0 (λ z. omega arith) in
    ap (λ t. t || is_in_one (f ∷ fs) a) (e ∙ some)

pub kept_rest : (m : ByteMap) (said ranges rest : List (ℕ × ℕ)) (all : Bool) (at : ℕ) → all ≡ (length said == 0) → AreFor said ranges → IsRest ranges at rest → ((q : ℕ) → q < at → get m q ≡ None)
    → retain_keys m (keeps all rest) ≡ retain_keys m (is_kept said)
kept_rest m said ranges rest all at is for cut none =
    retain_same m (keeps all rest) (is_kept said) (λ q. elim (cases_lt q at) [
      | inl l ↦ inr (none q l)
      | inr g ↦ inl (ap (λ t. all || t)
          (sym (ap (λ l. is_in_one l q) cut.all ∙ is_in_one-append cut.first rest q ∙ ap (λ t. t || is_in_one rest q) (ended_none cut.first at q cut.ended g)) ∙ for.same q)
          ∙ kept_all said all q is)
    ])

-- ------ ranges that end at an address or before it
pub ends_true : (at : ℕ) (r : ℕ × ℕ) → ends_by at r ≡ true → r.0 + r.1 ≤ at
ends_true at r e =
    let both = and_parts (nat_le r.0 at) (nat_le r.1 (at - r.0)) e in
    let low : r.0 ≤ at = leb-true r.0 at both.0 in
    let fits : r.1 ≤ at - r.0 = leb-true r.1 (at - r.0) both.1 in
    omega arith

true_ends : (at : ℕ) (r : ℕ × ℕ) → r.0 + r.1 ≤ at → ends_by at r ≡ true
true_ends at r h = ap (λ t. t && nat_le r.1 (at - r.0)) (le-leb r.0 at (omega arith)) ∙ le-leb r.1 (at - r.0) (omega arith)

-- of ranges that ascend, those before one end before it does
ascends : (low : ℕ) (rs : List (ℕ × ℕ)) (i j : ℕ) (d : ℕ × ℕ) → Apart low rs → i ≤ j → j < length rs → (get_or rs i d).0 + (get_or rs i d).1 ≤ (get_or rs j d).0 + (get_or rs j d).1
ascends low [] i j d s le l = absurd (omega arith)
ascends low (r ∷ rs) zero zero d s le l = omega arith
ascends low (r ∷ rs) zero (suc j) d s le l = later (r.0 + r.1) rs j d s.3 (omega arith) where
  later : (n : ℕ) (xs : List (ℕ × ℕ)) (k : ℕ) (e : ℕ × ℕ) → Apart n xs → k < length xs → n ≤ (get_or xs k e).0 + (get_or xs k e).1
  later n [] k e t m = absurd (omega arith)
  later n (x ∷ xs) zero e t m = let first = t.0 in omega arith
  later n (x ∷ xs) (suc k) e t m = let first : n ≤ x.0 = t.0 in let rest = later (x.0 + x.1) xs k e t.3 (omega arith) in omega arith
ascends low (r ∷ rs) (suc i) zero d s le l = absurd (omega arith)
ascends low (r ∷ rs) (suc i) (suc j) d s le l = ascends (r.0 + r.1) rs i j d s.3 (omega arith) (omega arith)

pub partitioned : (at : ℕ) (rs : List (ℕ × ℕ)) → Apart 0 rs → IsPartitionedBy (ends_by at) rs
partitioned at rs s i j d le l e =
    let order = ascends 0 rs i j d s le l in
    let end = ends_true at (get_or rs j d) e in
    true_ends at (get_or rs i d) (omega arith)

each_front : (at : ℕ) (rs : List (ℕ × ℕ)) (n : ℕ) → AllWithin (λ r. ends_by at r ≡ true) rs 0 n → Each (λ r. r.0 + r.1 ≤ at) (take n rs)
each_front at [] zero h = tt
each_front at [] (suc n) h = tt
each_front at (r ∷ rs) zero h = tt
each_front at (r ∷ rs) (suc n) h = (ends_true at r (h 0 r (omega arith) (omega arith)), each_front at rs n (λ k d low high. h (suc k) d (omega arith) (omega arith)))

pub rest_from : (at : ℕ) (rs : List (ℕ × ℕ)) (n : ℕ) → IsPartitionPoint (λ r. ends_by at r ≡ true) (λ r. ends_by at r ≡ false) rs n → IsRest rs at (take (length rs - n) (drop n rs))
rest_from at rs n split = record {
  first = take n rs;
  all = sym (ap (λ l. take n rs ++ l) (take_rest rs n) ∙ take-append-drop n rs);
  ended = each_front at rs n split.0;
}

-- ------ the next piece
pub loaded : (rest more : ByteMap) (at first : ℕ) (bs next : List ℕ) (f : ℕ → Bool) → bs ≡ [] → TakesFront rest (Some (first, next)) more → retain_keys (over more first next) f ≡ retain_keys (over rest at bs) f
loaded rest more at first bs next f e t = ap (λ m. retain_keys m f) (sym t.2) ∙ ap (λ b. retain_keys (over rest at b) f) (sym e)

pub ended : (rest : ByteMap) (at : ℕ) (bs : List ℕ) (f : ℕ → Bool) → bs ≡ [] → rest ≡ empty → retain_keys (over rest at bs) f ≡ empty
ended rest at bs f e none =
    ap (λ b. retain_keys (over rest at b) f) e
    ∙ ap (λ m. retain_keys m f) none
    ∙ same_map nat_cmp_total nat_cmp-IsAntisymmetric _ _ (λ q. get_kept empty f q ∙ none_kept (f q) (get {R = nat_cmp} empty q) (get-empty nat_cmp q) ∙ sym (get-empty nat_cmp q))

pub lighter : (rest more : ByteMap) (first : ℕ) (next : List ℕ) → TakesFront rest (Some (first, next)) more → 2 * len more + length next < 2 * len rest
lighter rest more first next t =
    let some : 0 < length next = t.0 in
    let all : len rest ≡ length next + len more = ap len t.2 ∙ len-over more first next t.3 in
    omega arith
