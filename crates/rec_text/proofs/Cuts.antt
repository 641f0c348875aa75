-- Lines that are being cut.
use Rattle.std.proofs.Common.{zero, suc, ◌≡◌, ℕ, ◌+◌, ◌-◌, ◌^◌, ◌<◌, ◌≤◌, ◌⊎◌, List, [], ◌∷◌, ◌++◌, length, take, min, None, sym, ap, ◌∙◌, inl, inr, arith, append-nil, length-take}
use Rattle.std.proofs.lemmas.Bool.{cases_lt}
use Rattle.std.specs.Prelude.{IsSome}
use Rattle.std.specs.Cmp.{nat_cmp_total}
use Rattle.std.specs.FinMap.{get, same_map, nat_cmp-IsAntisymmetric}
use Rattle.span_store.specs.ByteMap.{ByteMap, over, part, Holds}
use Rattle.span_store.specs.Extents.{Extent, map_of, EndBy, AreExtents}
use Rattle.span_store.proofs.Order.{joined, EndBy-append, EndBy_more}
use Rattle.span_store.proofs.Lookups.{placed}
use Rattle.span_store.proofs.Maps.{part_none, part_same, part_more, part_in, part_out, some_not_none}
use Rattle.rec_text.specs.Cutting.{IsCut, AreCut, Cuts}
use Rattle.rec_text.proofs.Smalls.{Small, AllSmall, AllSmall-push}

-- ------ one line
pub cut_here : (room : ℕ) (m : ByteMap) (at n : ℕ) (line : List ℕ) → n ≤ length line → 0 < n → n ≤ 16 → n ≤ room → at + n ≤ 2 ^ 32 → (n ≡ 16) ⊎ ((n ≡ room) ⊎ (get m (at + n) ≡ None)) → IsCut room m (at, take n line)
cut_here room m at n line long some short inside below full =
    let size : length (take n line) ≡ min n (length line) = length-take n line in
    let same : length (take n line) ≡ n = omega arith in
    record {
      some = omega arith;
      short = omega arith;
      below = omega arith;
      inside = omega arith;
      full = elim full [
        | inl a ↦ inl (same ∙ a)
        | inr b ↦ elim b [ inl c ↦ inr (inl (same ∙ c)) | inr d ↦ inr (inr (ap (λ k. get m (at + k)) same ∙ d)) ]
      ];
    }

pub some_here : (m : ByteMap) (at n : ℕ) → IsSome (get m at) → get m (at + n) ≡ None → 0 < n
some_here m at zero h e = let z : at + 0 ≡ at = omega arith in absurd (some_not_none (get m at) h (ap (get m) (sym z) ∙ e))
some_here m at (suc n) h e = omega arith

-- ------ lines up to an address
AreCut-push : (room : ℕ → ℕ) (m : ByteMap) (cs : List Extent) (c : Extent) → AreCut room m cs → IsCut (room c.0) m c → AreCut room m (cs ++ (c ∷ []))
AreCut-push room m [] c a is = (is, tt)
AreCut-push room m (e ∷ es) c a is = (a.0, AreCut-push room m es c a.1 is)

-- what stands before an address is cut
pub record Progress (room : ℕ → ℕ) (m : ByteMap) (here : ℕ) (cuts : List Extent) : Type 0 where
  pub within : here ≤ 2 ^ 32
  pub all : part m 0 here ≡ map_of cuts
  pub ascending : AreExtents cuts
  pub ends : EndBy here cuts
  pub cut : AreCut room m cuts
  pub small : AllSmall cuts

pub begun : (room : ℕ → ℕ) (m : ByteMap) → Progress room m 0 []
begun room m = record { within = omega arith; all = sym (part_none m 0); ascending = tt; ends = tt; cut = tt; small = tt }

pub advanced : (room : ℕ → ℕ) (m : ByteMap) (here : ℕ) (cuts : List Extent) (at : ℕ) (bs : List ℕ) → Progress room m here cuts → here ≤ at → ((a : ℕ) → here ≤ a → a < at → get m a ≡ None)
    → Holds m at bs → IsCut (room at) m (at, bs) → Small bs → at + length bs ≤ 2 ^ 32 → Progress room m (at + length bs) (cuts ++ ((at, bs) ∷ []))
advanced room m here cuts at bs p le none holds is small within =
    let some : 0 < length bs = is.some in
    let here_at : at ≤ at = omega arith in
    let end_at : at + length bs ≤ at + length bs = omega arith in
    let below : EndBy at cuts = EndBy_more here at cuts p.ends le in
    let z : at ≡ at - 0 = omega arith in
    let y : at + length bs - 0 ≡ at + length bs = omega arith in
    let fits : at + length bs ≤ 2 ^ 40 = omega arith in
    let past : part m 0 here ≡ part m 0 (at - 0) = part_same m 0 here at le (λ q l u. none q (omega arith) (omega arith)) ∙ ap (part m 0) z in
    record {
      within = within;
      all = sym (placed at bs cuts [] [] below tt tt
          ∙ ap (λ t. over (map_of t) at bs) (append-nil cuts)
          ∙ ap (λ t. over t at bs) (sym p.all ∙ past)
          ∙ part_more m 0 at bs (omega arith) holds
          ∙ ap (part m 0) y);
      ascending = joined at cuts ((at, bs) ∷ []) p.ascending (some, fits, tt, tt) below (here_at, tt);
      ends = EndBy-append (at + length bs) cuts ((at, bs) ∷ []) (EndBy_more at (at + length bs) cuts below (omega arith)) (end_at, tt);
      cut = AreCut-push room m cuts (at, bs) p.cut is;
      small = AllSmall-push cuts (at, bs) p.small small;
    }

pub finished : (room : ℕ → ℕ) (m : ByteMap) (here : ℕ) (cuts : List Extent) → Progress room m here cuts → ((a : ℕ) → here ≤ a → get m a ≡ None) → Cuts room m cuts
finished room m here cuts p none =
    let whole : m ≡ part m 0 here = same_map nat_cmp_total nat_cmp-IsAntisymmetric _ _ (λ q. elim (cases_lt q here) [
      | inl l ↦ sym (part_in m 0 here q (omega arith) (omega arith))
      | inr l ↦ none q l ∙ sym (part_out m 0 here q (inr (omega arith)))
    ]) in
    record { all = whole ∙ p.all; ascending = p.ascending; cut = p.cut }
