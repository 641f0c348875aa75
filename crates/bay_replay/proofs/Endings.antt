-- Who blocks a unit, and what is allowed, test by test.
use Rattle.std.proofs.Common.{◌≡◌, inl, inr, ℕ, zero, suc, ◌<◌, true, false, List, [], ◌∷◌, length, refl, sym, ◌∙◌, ap, arith}
use Rattle.std.specs.Prelude.{Option, ◌==◌, ◌&&◌, is_some, slice_index}
use Rattle.std.proofs.lemmas.Bool.{cases_Bool}
use Rattle.flash_base.specs.Lists.{Each}
use Rattle.barrier_board.specs.Board.{post_of, says_complete, is_complete}
use Rattle.bay_core.specs.Legal.{is_blocker}
use Rattle.flash_plan.specs.declared.outcome.Entry.TheVariants.{Complete}
use Rattle.flash_plan.specs.declared.outcome.Outcome.{Outcome}
use Rattle.flash_plan.specs.declared.unit.UnitPlan.{UnitPlan}
use Rattle.flash_plan.specs.Plan.{plan_of, count_of}
use Rattle.bay_replay.specs.declared.state.Core as kept
use Rattle.bay_replay.specs.Hears.{blocker}
use Rattle.bay_replay.specs.Held.{Told, HoldsSlot, HoldsBody}

module _ (P : List UnitPlan) (k : kept.Core) (t : Told) (b : HoldsBody P k t) where
  pub blocks_is : (ws : List ℕ) (by : ℕ) → Each (λ w. w < count_of P) ws → is_blocker t.core ws by ≡ blocker k.board ws by
  blocks_is [] by within = refl
  blocks_is (w ∷ ws) by within =
      let h : HoldsSlot (plan_of P w) (post_of k.board w) _ t.core.recorded w (t.core.slots w) = b.slots w within.0 in
      let same : is_complete k.board w ≡ t.core.recorded (Complete w) = ap says_complete h.outcome ∙ h.complete in
      elim (cases_Bool (t.core.recorded (Complete w))) [
        | inl e ↦ (let f : is_complete k.board w ≡ true = same ∙ e in rw (e, f) (blocks_is ws by within.1))
        | inr e ↦ (let f : is_complete k.board w ≡ false = same ∙ e in rw (e, f) (ap (λ (o : Option Outcome). w == by && is_some o) (sym h.outcome)))
      ]

-- of each, by its place
pub each_within : (size : ℕ) (ws : List ℕ) → Each (λ w. w < size) ws → (k : ℕ) → k < length ws → slice_index ws k < size
each_within size [] within k lt = absurd (omega (arith, lt))
each_within size (x ∷ xs) within zero lt = within.0
each_within size (x ∷ xs) within (suc k) lt = each_within size xs within.1 k (omega (arith, lt))
