-- Ranges that are kept, and the transfer in hand over a memory that was written into.
use Rattle.std.proofs.Common.{◌≡◌, inl, inr, ℕ, zero, suc, ◌+◌, ◌-◌, ◌≤◌, true, List, [], ◌∷◌, length, Some, refl, sym, ◌∙◌, ap, arith}
use Rattle.std.specs.Prelude.{Bool, filter}
use Rattle.std.proofs.lemmas.Bool.{cases_Bool, and_parts, and_from, le-leb, leb-true}
use Rattle.flash_base.specs.ByteMaps.{MemoryMap, put, has_each}
use Rattle.unit_model.specs.RegionTests.{LIMIT}
use Rattle.unit_model.specs.Rules.{all_ranges, last_in, transfer_in}
use Rattle.unit_model.specs.declared.unit.Transfer.{Transfer}
use Rattle.unit_model.proofs.Domains.{transfer_same, put_same}
use Rattle.unit_model.proofs.Parts.{has_split}
use Rattle.unit_sim.specs.Changes.{IsOpenRange}
use Rattle.unit_sim.specs.Transfers.{IsBlock, begun, gone_on}

pub some_kept : (p : ℕ × ℕ → Bool) (rs : List (ℕ × ℕ)) → all_ranges rs ≡ true → all_ranges (filter p rs) ≡ true
some_kept p [] all = refl
some_kept p (r ∷ rs) all = elim (cases_Bool (p r)) [
  | inl e ↦ rw e (and_from _ _ (and_parts _ _ all).0 (some_kept p rs (and_parts _ _ all).1))
  | inr e ↦ rw e (some_kept p rs (and_parts _ _ all).1)
]

-- a transfer that begins with the range
pub opens : (up : Bool) (at size : ℕ) (m : MemoryMap) → IsOpenRange at size m → transfer_in m (Some (begun up at size)) ≡ true
opens up at size m range = and_from _ _ (le-leb _ _ range.limit) (and_from _ _ range.there refl)

-- what a transfer in hand has
pub record IsInHand (m : MemoryMap) (t : Transfer) : Type 0 where
  pub limit : t.at + t.rest ≤ LIMIT
  pub rest : has_each t.at t.rest m ≡ true
  pub last : last_in m t.at t.last ≡ true

pub in_hand : (m : MemoryMap) (t : Transfer) → transfer_in m (Some t) ≡ true → IsInHand m t
in_hand m t is = record {
  limit = leb-true _ _ (and_parts _ _ is).0;
  rest = (and_parts _ _ (and_parts _ _ is).1).0;
  last = (and_parts _ _ (and_parts _ _ is).1).1;
}

-- the first bytes of a range
pub first_part : (k n at : ℕ) (m : MemoryMap) → has_each at (k + n) m ≡ true → has_each at k m ≡ true
first_part zero n at m all = refl
first_part (suc k) n at m all =
    let e : suc k + n ≡ suc (k + n) = omega arith in
    let parts = and_parts _ _ (sym (ap (λ (j : ℕ). has_each at j m) e) ∙ all) in
    and_from _ _ parts.0 (first_part k n (at + 1) m parts.1)

-- a block of what is left
pub next_block : (m : MemoryMap) (t : Transfer) (size : ℕ) → transfer_in m (Some t) ≡ true → size ≤ t.rest → size ≤ 65533 → IsBlock t.at size m
next_block m t size is le few =
    let had = in_hand m t is in
    let whole : size + (t.rest - size) ≡ t.rest = omega arith in
    record {
      few = few;
      limit = omega (arith, had.limit);
      there = first_part size (t.rest - size) t.at m (ap (λ (n : ℕ). has_each t.at n m) whole ∙ had.rest);
    }

-- one block further
pub goes_on : (m : MemoryMap) (t : Transfer) (size : ℕ) → transfer_in m (Some t) ≡ true → size ≤ t.rest → size ≤ 65533 → transfer_in m (Some (gone_on t size)) ≡ true
goes_on m t size is le few =
    let had = in_hand m t is in
    let block = next_block m t size is le few in
    let whole : size + (t.rest - size) ≡ t.rest = omega arith in
    let back : t.at + size - size ≡ t.at = omega arith in
    and_from _ _ (le-leb _ _ (omega (arith, had.limit)))
    (and_from _ _ (has_split size (t.rest - size) t.at m block.there ∙ ap (λ (n : ℕ). has_each t.at n m) whole ∙ had.rest)
    (and_from _ _ (le-leb _ _ few) (and_from _ _ (le-leb _ _ (omega arith)) (ap (λ (a : ℕ). has_each a size m) back ∙ block.there))))

-- a block that is written
pub writes : (m : MemoryMap) (t : Transfer) (body : List ℕ) → transfer_in m (Some t) ≡ true → length body ≤ t.rest → length body ≤ 65533 → transfer_in (put t.at body m) (Some (gone_on t (length body))) ≡ true
writes m t body is le few = transfer_same _ _ (put_same t.at body m) (Some (gone_on t (length body))) ∙ goes_on m t (length body) is le few
