-- The bytes of one segment, as filters keep its data.
use Rattle.std.proofs.Common.{◌≡◌, ◌∙◌, sym, refl, ap, ℕ, suc, ◌+◌, ◌-◌, ◌<◌, ◌≤◌, ◌⊎◌, cond, List, [], ◌∷◌, length, take, drop, Option, Some, None, Ok, arith}
use Rattle.std.specs.Prelude.{slice_get}
use Rattle.std.specs.Ordering.{nat_cmp}
use Rattle.std.specs.FinMap.{get, get-empty, empty, retain_keys}
use Rattle.span_store.specs.ByteMap.{ByteMap, over, part}
use Rattle.span_store.specs.Putting.{Extracts}
use Rattle.span_store.proofs.Lookups.{get-over, reads_hit, reads_other}
use Rattle.span_store.proofs.Maps.{part_in, part_out}
use Rattle.span_store.proofs.Pieces.{slice_get-drop}
use Rattle.span_store.proofs.Settled.{slice_get-take}
use Rattle.session_image.specs.Content.{is_kept}
use Rattle.session_image.specs.Pieces.{◌>>=◌, or_fill, with_byte, byte_of, filled, if_kept}
use Rattle.session_image.specs.declared.content.Content.TheVariants.{Mapped, Plain}
use Rattle.session_image.proofs.Filled.{filled_same}
use Rattle.session_image.proofs.Retained.{get_kept, none_kept}

-- ------ all are there
filled_held : (number : ℕ) (look : ℕ → Option ℕ) (fill : Option ℕ) (a : ℕ) (bs : List ℕ) → ((k : ℕ) → k < length bs → look (a + k) ≡ slice_get bs k) → filled number look fill a (length bs) ≡ Ok bs
filled_held number look fill a [] h = refl
filled_held number look fill a (b ∷ bs) h =
    let z : a ≡ a + 0 = omega arith in
    let first : look a ≡ Some b = ap look z ∙ h 0 (omega arith) in
    ap (λ o. with_byte number a (or_fill o fill) (filled number look fill (a + 1) (length bs))) first
    ∙ ap (λ r. r >>= λ xs. Ok (b ∷ xs)) (filled_held number look fill (a + 1) bs (λ k l. let f : a + 1 + k ≡ a + suc k = omega arith in ap look f ∙ h (suc k) (omega arith)))

unfiltered : (fs : List (ℕ × ℕ)) (a : ℕ) (o : Option ℕ) → length fs ≡ 0 → if_kept fs a o ≡ o
unfiltered [] a o e = refl
unfiltered (f ∷ fs) a o e = absurd (omega arith)

-- bytes that were taken out of a map
pub taken_is : (number : ℕ) (fill : Option ℕ) (m n : ByteMap) (fs : List (ℕ × ℕ)) (from size : ℕ) (bs : List ℕ) → length fs ≡ 0 → Extracts m from size (Some bs) n
    → filled number (byte_of (Mapped m) fs from 0) fill from size ≡ Ok bs
taken_is number fill m n fs from size bs none t =
    ap (filled number (byte_of (Mapped m) fs from 0) fill from) (sym t.0)
    ∙ filled_held number (byte_of (Mapped m) fs from 0) fill from bs (λ k l.
    unfiltered fs (from + k) (get m (from + k)) none
    ∙ ap (λ s. get s (from + k)) t.1
    ∙ get-over n from bs (from + k)
    ∙ reads_hit from bs (from + k) k (get n (from + k)) refl l)

-- ------ a part of a map
pub part_look : (number : ℕ) (fill : Option ℕ) (m : ByteMap) (fs : List (ℕ × ℕ)) (from size : ℕ) →
    filled number (get (retain_keys (part m from size) (is_kept fs))) fill from size ≡ filled number (byte_of (Mapped m) fs from 0) fill from size
part_look number fill m fs from size =
    filled_same number (get (retain_keys (part m from size) (is_kept fs))) (byte_of (Mapped m) fs from 0) fill from size
    (λ a l u. get_kept (part m from size) (is_kept fs) a ∙ ap (λ o. cond (is_kept fs a) o None) (part_in m from size a l u))

pub part_away : (m : ByteMap) (fs : List (ℕ × ℕ)) (from size a : ℕ) → (a < from) ⊎ (from + size ≤ a) → get (retain_keys (part m from size) (is_kept fs)) a ≡ None
part_away m fs from size a out = get_kept (part m from size) (is_kept fs) a ∙ none_kept (is_kept fs a) (get (part m from size) a) (part_out m from size a out)

-- ------ bytes from an address on
bytes_there : (fs : List (ℕ × ℕ)) (at : ℕ) (bs : List ℕ) (a : ℕ) → at ≤ a → a < at + length bs → get (retain_keys (over empty at bs) (is_kept fs)) a ≡ byte_of (Plain bs) fs at 0 a
bytes_there fs at bs a l u =
    let z : a - at ≡ 0 + (a - at) = omega arith in
    get_kept (over empty at bs) (is_kept fs) a
    ∙ ap (λ o. cond (is_kept fs a) o None) (get-over empty at bs a ∙ reads_hit at bs a (a - at) (get {R = nat_cmp} empty a) (omega arith) (omega arith) ∙ ap (slice_get bs) z)

pub bytes_look : (number : ℕ) (fill : Option ℕ) (fs : List (ℕ × ℕ)) (at n : ℕ) (bs : List ℕ) → length bs ≡ n
    → filled number (get (retain_keys (over empty at bs) (is_kept fs))) fill at n ≡ filled number (byte_of (Plain bs) fs at 0) fill at n
bytes_look number fill fs at n bs size =
    filled_same number (get (retain_keys (over empty at bs) (is_kept fs))) (byte_of (Plain bs) fs at 0) fill at n (λ a l u. bytes_there fs at bs a l (omega arith))

pub bytes_away : (fs : List (ℕ × ℕ)) (at a : ℕ) (bs : List ℕ) → (a < at) ⊎ (at + length bs ≤ a) → get (retain_keys (over empty at bs) (is_kept fs)) a ≡ None
bytes_away fs at a bs out =
    get_kept (over empty at bs) (is_kept fs) a
    ∙ none_kept (is_kept fs a) (get (over empty at bs) a) (get-over empty at bs a ∙ reads_other at bs a (get {R = nat_cmp} empty a) out ∙ get-empty nat_cmp a)

-- in the middle of all bytes
pub in_middle : (number : ℕ) (fs : List (ℕ × ℕ)) (fill : Option ℕ) (at before n : ℕ) (bs : List ℕ)
    → filled number (byte_of (Plain (take n (drop before bs))) fs at 0) fill at n ≡ filled number (byte_of (Plain bs) fs at before) fill at n
in_middle number fs fill at before n bs =
    filled_same number (byte_of (Plain (take n (drop before bs))) fs at 0) (byte_of (Plain bs) fs at before) fill at n
    (λ a l u.
    let z : 0 + (a - at) ≡ a - at = omega arith in
    ap (λ o. cond (is_kept fs a) o None) (ap (slice_get (take n (drop before bs))) z ∙ slice_get-take (drop before bs) n (a - at) (omega arith) ∙ slice_get-drop bs before (a - at)))
