-- What each positive answer leads to, by the numbers of a session.
use Rattle.std.proofs.Common.{◌≡◌, inl, inr, ℕ, zero, suc, ◌+◌, ◌-◌, ◌<◌, ◌≤◌, true, false, List, [], ◌∷◌, ◌++◌, length, take, drop, Some, None, refl, sym, ◌∙◌, ap, subst, arith, slice_get, length-take, add-one, take-suc, drop-cons}
use Rattle.std.specs.Prelude.{Bool, Option, ◌==◌, nat_lt, min, slice_index_or}
use Rattle.std.proofs.lemmas.Bool.{cases_Bool, cases_lt, lt-ltb, le-ltb, false≢true}
use Rattle.std.proofs.lemmas.List.{drop_all}
use Rattle.flash_base.specs.Numbers.{number_of}
use Rattle.flash_base.specs.declared.unit.KeyRule.TheVariants.{Free}
use Rattle.flash_plan.specs.Plan.{IsAcceptedUnit, size_of, no_segment, segment_of}
use Rattle.flash_plan.specs.declared.outcome.Outcome.TheVariants.{IdentMismatch}
use Rattle.flash_plan.specs.declared.unit.Segment.{Segment}
use Rattle.flash_plan.specs.declared.unit.UnitPlan.{UnitPlan}
use Rattle.flash_plan.specs.declared.unit.Wanted.{Wanted}
use Rattle.run_model.specs.Script.{Blocks, Place, AtIdent, AtEnd, place_next, idents_from, segments_from, after_program, more_blocks, is_empty, has_value}
use Rattle.uds_codec.specs.Key.{all_zero}
use Rattle.unit_model.specs.Unit.{next_counter}
use Rattle.unit_session.specs.Onward.{LeadsTo, blocks_from, erase_next}
use Rattle.unit_session.specs.Session.{place_at, IsStage, IsBlockStage, KnowsNext, cursor_at, seed_bytes, first_open, open_from}
use Rattle.unit_session.specs.declared.stage.KeptSeed.{KeptSeed}
use Rattle.unit_session.specs.declared.stage.Stage.{Stage}
use Rattle.unit_session.specs.declared.stage.Stage.TheVariants.{Ident, Program, Seed, Key, Download, Block, Check, Mark, Ended}

drop_from : {T : Type 0} (xs : List T) (n : ℕ) (x : T) → slice_get xs n ≡ Some x → drop n xs ≡ x ∷ drop (suc n) xs
drop_from [] n x is = cc
drop_from (y ∷ ys) zero x is = cc
drop_from (y ∷ ys) (suc n) x is = drop_from ys n x is

pub drop_at : {T : Type 0} (xs : List T) (n : ℕ) (x : T) → slice_get xs n ≡ Some x → drop n xs ≡ x ∷ drop (n + 1) xs
drop_at {T} xs n x is = drop_from xs n x is ∙ ap (λ (k : ℕ). x ∷ drop k xs) (sym (add-one n))

drop_some : (k : ℕ) (xs : List ℕ) → k < length xs → is_empty (drop k xs) ≡ false
drop_some zero [] lt = absurd (omega (arith, lt))
drop_some zero (x ∷ xs) lt = refl
drop_some (suc k) [] lt = absurd (omega (arith, lt))
drop_some (suc k) (x ∷ xs) lt = drop_some k xs (omega (arith, lt))

take_none : (n : ℕ) → take {A = ℕ} n [] ≡ []
take_none zero = refl
take_none (suc n) = refl

drop_none : (n : ℕ) → drop {A = ℕ} n [] ≡ []
drop_none zero = refl
drop_none (suc n) = refl

take_more : (k m : ℕ) (xs : List ℕ) → take k xs ++ take m (drop k xs) ≡ take (k + m) xs
take_more zero m xs = let e : m ≡ 0 + m = omega arith in ap (λ (n : ℕ). take n xs) e
take_more (suc k) m [] = take_none m ∙ sym (take_none (suc k + m))
take_more (suc k) m (x ∷ xs) =
    ap (λ (ys : List ℕ). x ∷ ys) (take_more k m xs) ∙ (let e : suc (k + m) ≡ suc k + m = omega arith in ap (λ (n : ℕ). take n (x ∷ xs)) e)

drop_more : (k m : ℕ) (xs : List ℕ) → drop m (drop k xs) ≡ drop (k + m) xs
drop_more zero m xs = let e : m ≡ 0 + m = omega arith in ap (λ (n : ℕ). drop n xs) e
drop_more (suc k) m [] = drop_none m ∙ sym (drop_none (suc k + m))
drop_more (suc k) m (x ∷ xs) = drop_more k m xs ∙ (let e : suc (k + m) ≡ suc k + m = omega arith in ap (λ (n : ℕ). drop n (x ∷ xs)) e)

pub not_none : (n : ℕ) (b : Bool) → b ≡ (n == 0) → b ≡ false → 1 ≤ n
not_none zero b is none = absurd (false≢true (sym none ∙ is))
not_none (suc n) b is none = omega arith

-- ------ the first segment that is not marked
module _ (u : UnitPlan) (marks : ℕ → Bool) where
  drop_here : (n : ℕ) → n < length u.segments → drop n u.segments ≡ segment_of u n ∷ drop (n + 1) u.segments
  drop_here n lt = drop-cons u.segments n no_segment lt ∙ ap (λ (k : ℕ). segment_of u n ∷ drop k u.segments) (sym (add-one n))

  pub take_here : (n : ℕ) → n < length u.segments → take n u.segments ++ (segment_of u n ∷ []) ≡ take (n + 1) u.segments
  take_here n lt = sym (ap (λ (k : ℕ). take k u.segments) (add-one n) ∙ take-suc u.segments n no_segment lt)

  pub done_count : (n : ℕ) → n ≤ length u.segments → length (take n u.segments) ≡ n
  done_count n le = let e = length-take n u.segments in omega (arith, e, le)

  abbrev Leaves : ℕ → Option ℕ → Type 0
  Leaves n next = segments_from marks (take n u.segments) (drop n u.segments) ≡ place_at u (erase_next next)

  leaves_here : (n : ℕ) → n < length u.segments → marks n ≡ false → Leaves n (Some n)
  leaves_here n lt out =
      let at : marks (length (take n u.segments)) ≡ false = ap marks (done_count n (omega (arith, lt))) ∙ out in
      ap (segments_from marks (take n u.segments)) (drop_here n lt) ∙ (rw at refl)

  leaves_later : (n : ℕ) (next : Option ℕ) → n < length u.segments → marks n ≡ true → Leaves (n + 1) next → Leaves n next
  leaves_later n next lt out later =
      let at : marks (length (take n u.segments)) ≡ true = ap marks (done_count n (omega (arith, lt))) ∙ out in
      ap (segments_from marks (take n u.segments)) (drop_here n lt)
      ∙ (rw at refl)
      ∙ ap (λ (xs : List Segment). segments_from marks xs (drop (n + 1) u.segments)) (take_here n lt)
      ∙ later

  -- so many segments are left from a number on
  leaves_first : (n left : ℕ) → n + left ≡ length u.segments → Leaves n (first_open marks n left)
  leaves_first n zero all = ap (segments_from marks (take n u.segments)) (drop_all n u.segments (omega (arith, all)))
  leaves_first n (suc left) all =
      let lt : n < length u.segments = omega (arith, all) in
      let again = leaves_first (n + 1) left (omega (arith, all)) in
      elim (cases_Bool (marks n)) [
        | inl e ↦ rw e (leaves_later n (first_open marks (n + 1) left) lt e again)
        | inr e ↦ rw e (leaves_here n lt e)
      ]

  first_stage : (n left : ℕ) → n + left ≡ length u.segments → IsStage u (erase_next (first_open marks n left))
  first_stage n zero all = tt
  first_stage n (suc left) all = let again = first_stage (n + 1) left (omega (arith, all)) in elim (cases_Bool (marks n)) [
    | inl e ↦ rw e again
    | inr e ↦ (let lt : n < length u.segments = omega (arith, all) in rw e lt)
  ]

  pub leaves_open : (n : ℕ) → n ≤ length u.segments → Leaves n (open_from u marks n)
  leaves_open n le = leaves_first n (length u.segments - n) (omega (arith, le))

  pub open_stage : (n : ℕ) → n ≤ length u.segments → IsStage u (erase_next (open_from u marks n))
  open_stage n le = first_stage n (length u.segments - n) (omega (arith, le))

  -- as a search goes on
  left_more : (n : ℕ) → n < length u.segments → length u.segments - n ≡ suc (length u.segments - (n + 1))
  left_more n lt = omega (arith, lt)

  pub open_here : (n : ℕ) → n < length u.segments → marks n ≡ false → open_from u marks n ≡ Some n
  open_here n lt out = ap (first_open marks n) (left_more n lt) ∙ (rw out refl)

  pub open_later : (n : ℕ) → n < length u.segments → marks n ≡ true → open_from u marks n ≡ open_from u marks (n + 1)
  open_later n lt out = ap (first_open marks n) (left_more n lt) ∙ (rw out refl)

  pub open_none : (n : ℕ) → length u.segments ≤ n → open_from u marks n ≡ None
  open_none n le = let none : length u.segments - n ≡ 0 = omega (arith, le) in ap (first_open marks n) none

-- whatever stands before the number makes no difference
first_same : (marks other : ℕ → Bool) (n left : ℕ) → ((k : ℕ) → n ≤ k → marks k ≡ other k) → first_open marks n left ≡ first_open other n left
first_same marks other n zero same = refl
first_same marks other n (suc left) same =
    let here : marks n ≡ other n = same n (omega arith) in
    let again = first_same marks other (n + 1) left (λ k le. same k (omega (arith, le))) in
    rw (here, again) refl

pub open_same : (u : UnitPlan) (marks other : ℕ → Bool) (n : ℕ) → ((k : ℕ) → n ≤ k → marks k ≡ other k) → open_from u marks n ≡ open_from u other n
open_same u marks other n same = first_same marks other n (length u.segments - n) same

-- ------ sizes
size_within : (ss : List Segment) (n : ℕ) → length (slice_index_or ss n no_segment).body ≤ size_of ss
size_within [] n = omega arith
size_within (s ∷ ss) zero = omega arith
size_within (s ∷ ss) (suc n) = omega (arith, size_within ss n)

pub body_small : (u : UnitPlan) (n : ℕ) → IsAcceptedUnit u → length (segment_of u n).body ≤ 16777216
body_small u n ok = omega (arith, size_within u.segments n, ok.bytes)

-- ------ identifiers
pub ident_place : (u : UnitPlan) (n : ℕ) (w : Wanted) → slice_get u.idents n ≡ Some w → place_at u (Ident n) ≡ AtIdent w (drop (n + 1) u.idents)
ident_place u n w is = ap idents_from (drop_at u.idents n w is)

module _ (u : UnitPlan) (marks : ℕ → Bool) where
  erase_knows : (next : Option ℕ) → KnowsNext u marks (erase_next next)
  erase_knows None = tt
  erase_knows (Some n) = tt

  -- ------ the unit is open
  -- a positive answer behind which the first segment follows that is not marked
  open_leads : (stage : Stage) (rest : List ℕ) → place_next u marks (place_at u stage) rest ≡ segments_from marks [] u.segments → LeadsTo u marks stage rest (erase_next (open_from u marks 0))
  open_leads stage rest to = record { place = sym (to ∙ leaves_open u marks 0 (omega arith)); fits = open_stage u marks 0 (omega arith); known = erase_knows (open_from u marks 0) }

  pub program_opens : (rest : List ℕ) → u.key ≡ Free → LeadsTo u marks Program rest (erase_next (open_from u marks 0))
  program_opens rest free = open_leads Program rest (ap (after_program u marks) free)

  pub key_opens : (seed : KeptSeed) (rest : List ℕ) → LeadsTo u marks (Key seed) rest (erase_next (open_from u marks 0))
  key_opens seed rest = open_leads (Key seed) rest refl

  pub seed_opens : (seed : List ℕ) → all_zero seed ≡ true → LeadsTo u marks Seed seed (erase_next (open_from u marks 0))
  seed_opens seed nil = open_leads Seed seed (rw nil refl)

  pub seed_kept : (seed : List ℕ) (kept : KeptSeed) → all_zero seed ≡ false → seed_bytes kept ≡ seed → IsStage u (Key kept) → LeadsTo u marks Seed seed (Key kept)
  seed_kept seed kept other bytes stage = record { place = rw (other, bytes) refl; fits = stage; known = tt }

  -- ------ identifiers
  pub ident_expected : (n : ℕ) (w : Wanted) (value : List ℕ) → slice_get u.idents n ≡ Some w → has_value w.values value ≡ true → n + 1 ≤ length u.idents → LeadsTo u marks (Ident n) value (Ident (n + 1))
  ident_expected n w value is has le =
      let next : place_next u marks (AtIdent w (drop (n + 1) u.idents)) value ≡ idents_from (drop (n + 1) u.idents) = rw has refl in
      record { place = sym (ap (λ (p : Place). place_next u marks p value) (ident_place u n w is) ∙ next); fits = le; known = tt }

  pub ident_other : (n : ℕ) (w : Wanted) (value : List ℕ) → slice_get u.idents n ≡ Some w → has_value w.values value ≡ false → LeadsTo u marks (Ident n) value (Ended (IdentMismatch w.did))
  ident_other n w value is has =
      let next : place_next u marks (AtIdent w (drop (n + 1) u.idents)) value ≡ AtEnd (IdentMismatch w.did) = rw has refl in
      record { place = sym (ap (λ (p : Place). place_next u marks p value) (ident_place u n w is) ∙ next); fits = tt; known = tt }

  -- ------ blocks
  abbrev blocks_at : ℕ → ℕ → ℕ → ℕ → Blocks
  blocks_at n k counter limit = record { sent = take k (segment_of u n).body; rest = drop k (segment_of u n).body; counter = counter; limit = limit }

  from_there : (n k counter limit : ℕ) → more_blocks (cursor_at u n) (blocks_at n k counter limit) ≡ place_at u (blocks_from (length (segment_of u n).body) n k counter limit)
  from_there n k counter limit = elim (cases_lt k (length (segment_of u n).body)) [
    | inl lt ↦ let e = drop_some k (segment_of u n).body lt in let f : nat_lt k (length (segment_of u n).body) ≡ true = lt-ltb _ _ lt in rw (e, f) refl
    | inr ge ↦ let e : drop k (segment_of u n).body ≡ [] = drop_all k (segment_of u n).body ge in let f : nat_lt k (length (segment_of u n).body) ≡ false = le-ltb _ _ ge in rw (f, e) refl
  ]

  blocks_stage : (n k counter limit : ℕ) → n < length u.segments → 3 ≤ limit → limit ≤ 65535 → IsStage u (blocks_from (length (segment_of u n).body) n k counter limit)
  blocks_stage n k counter limit lt low high = elim (cases_lt k (length (segment_of u n).body)) [
    | inl within ↦ let f : nat_lt k (length (segment_of u n).body) ≡ true = lt-ltb _ _ within in rw f (record { segment = lt; within = within; low = low; high = high })
    | inr ge ↦ let f : nat_lt k (length (segment_of u n).body) ≡ false = le-ltb _ _ ge in rw f lt
  ]

  blocks_know : (n k counter limit : ℕ) → KnowsNext u marks (blocks_from (length (segment_of u n).body) n k counter limit)
  blocks_know n k counter limit = elim (cases_Bool (nat_lt k (length (segment_of u n).body))) [ inl e ↦ rw e tt | inr e ↦ rw e tt ]

  pub block_leads : (n sent counter limit : ℕ) (rest : List ℕ) → IsBlockStage u n sent limit
      → LeadsTo u marks (Block n sent counter limit) rest (blocks_from (length (segment_of u n).body) n (sent + (limit - 2)) (next_counter counter) limit)
  block_leads n sent counter limit rest is = record {
    place = sym ((λ i. more_blocks (cursor_at u n) (record { sent = take_more sent (limit - 2) (segment_of u n).body i; rest = drop_more sent (limit - 2) (segment_of u n).body i; counter = next_counter counter; limit = limit }))
        ∙ from_there n (sent + (limit - 2)) (next_counter counter) limit);
    fits = blocks_stage n (sent + (limit - 2)) (next_counter counter) limit is.segment is.low is.high;
    known = blocks_know n (sent + (limit - 2)) (next_counter counter) limit;
  }

  pub download_leads : (n limit : ℕ) (number : List ℕ) → n < length u.segments → 3 ≤ number_of number → limit ≡ min (number_of number) 65535
      → LeadsTo u marks (Download n) number (blocks_from (length (segment_of u n).body) n 0 1 limit)
  download_leads n limit number lt some is = record {
    place = sym (ap (λ (k : ℕ). more_blocks (cursor_at u n) (record { sent = []; rest = (segment_of u n).body; counter = 1; limit = k })) (sym is) ∙ from_there n 0 1 limit);
    fits = blocks_stage n 0 1 limit lt (omega (arith, is, some)) (omega (arith, is));
    known = blocks_know n 0 1 limit;
  }

  pub check_leads : (n : ℕ) (next : Option ℕ) (rest : List ℕ) → n < length u.segments → next ≡ open_from u marks (n + 1) → LeadsTo u marks (Check n) rest (Mark n next)
  check_leads n next rest lt is = record { place = refl; fits = lt; known = is }
