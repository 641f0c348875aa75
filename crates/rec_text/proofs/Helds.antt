-- Bytes that are held back.
use Rattle.std.proofs.Common.{◌≡◌, ℕ, ◌+◌, ◌<◌, ◌≤◌, List, ◌++◌, length, None, Ok, sym, ap, ◌∙◌, inl, inr, arith}
use Rattle.std.proofs.lemmas.Bool.{cases_lt}
use Rattle.std.specs.Cmp.{nat_cmp_total}
use Rattle.std.specs.FinMap.{get, same_map, nat_cmp-IsAntisymmetric}
use Rattle.span_store.specs.ByteMap.{ByteMap, over}
use Rattle.span_store.proofs.Lookups.{reads, get-over, reads_before, reads_after, reads-append}
use Rattle.span_store.proofs.Clashes.{clash_none}
use Rattle.rec_text.specs.Putting.{putting, put_unless}

pub over-behind : (m : ByteMap) (s : ℕ) (xs ys : List ℕ) → over (over m s xs) (s + length xs) ys ≡ over m s (xs ++ ys)
over-behind m s xs ys =
    same_map nat_cmp_total nat_cmp-IsAntisymmetric _ _ (λ q.
    let at : ℕ = s + length xs in
    get-over (over m s xs) at ys q
    ∙ ap (reads at ys q) (get-over m s xs q)
    ∙ elim (cases_lt q at) [
      | inl l ↦ reads_before at ys q (reads s xs q (get m q)) l ∙ ap (reads s xs q) (sym (reads_before at ys q (get m q) l))
      | inr l ↦ ap (reads at ys q) (reads_after s xs q (get m q) l) ∙ sym (reads_after s xs q (reads at ys q (get m q)) l)
    ]
    ∙ sym (reads-append s xs ys q (get m q))
    ∙ sym (get-over m s (xs ++ ys) q))

-- behind bytes, where none stands
pub still_free : (m : ByteMap) (s limit : ℕ) (xs : List ℕ) → ((a : ℕ) → s ≤ a → a < limit → get m a ≡ None) → (a : ℕ) → s + length xs ≤ a → a < limit → get (over m s xs) a ≡ None
still_free m s limit xs free a l u = get-over m s xs a ∙ reads_after s xs a (get m a) l ∙ free a (omega arith) u

pub held_more : (m : ByteMap) (s limit : ℕ) (xs ys : List ℕ) → s + length xs + length ys ≤ limit → ((a : ℕ) → s ≤ a → a < limit → get m a ≡ None)
    → putting (over m s xs) (s + length xs) ys ≡ Ok (over m s (xs ++ ys))
held_more m s limit xs ys room free =
    ap (λ c. put_unless c (over (over m s xs) (s + length xs) ys))
    (clash_none (over m s xs) (s + length xs) ys (λ q l u. still_free m s limit xs free q l (omega arith)))
    ∙ ap Ok (over-behind m s xs ys)
