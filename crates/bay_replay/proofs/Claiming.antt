-- The unit that the board gives is the one that may be claimed.
use Rattle.std.proofs.Common.{◌≡◌, ◌≢◌, inl, inr, ℕ, zero, suc, ◌<◌, true, false, List, [], ◌∷◌, length, Some, None, refl, sym, ◌∙◌, ap, subst, arith}
use Rattle.std.specs.Prelude.{Bool, Option, ◌==◌, ◌&&◌, not, nat_lt, is_none}
use Rattle.std.proofs.lemmas.Bool.{cases_Bool, cases_lt, false≢true, and_parts, and_from, and_left, and_right, lt-ltb, le-ltb, eqb-true, eq-eqb, not-true}
use Rattle.flash_base.specs.Lists.{Each, all_of}
use Rattle.flash_base.specs.Numbers.{each_below}
use Rattle.barrier_board.specs.Board.{post_of, says_complete, is_complete, is_free_at, IsFirstFree, IsNextFree}
use Rattle.bay_core.proofs.Allowed.{claim_facts}
use Rattle.bay_core.specs.Legal.{is_ready, may_claim}
use Rattle.flash_plan.specs.declared.outcome.Entry.TheVariants.{Complete}
use Rattle.flash_plan.specs.declared.outcome.Outcome.{Outcome}
use Rattle.flash_plan.specs.declared.unit.UnitPlan.{UnitPlan}
use Rattle.flash_plan.specs.Plan.{plan_of, count_of, IsAccepted}
use Rattle.bay_replay.specs.declared.state.Core as kept
use Rattle.bay_replay.specs.Held.{Told, HoldsSlot, HoldsBody, names}

-- ------ of each number below another
below_at : (n k : ℕ) (p : ℕ → Bool) → each_below n p ≡ true → k < n → p k ≡ true
below_at zero k p each lt = absurd (omega (arith, lt))
below_at (suc n) k p each lt = elim (cases_Bool (k == n)) [
  | inl e ↦ subst (λ (m : ℕ). p m ≡ true) (sym (eqb-true k n e)) (and_parts _ _ each).1
  | inr e ↦ (let ne : k ≢ n = λ is. false≢true (sym e ∙ eq-eqb k n is) in below_at n k p (and_parts _ _ each).0 (omega (arith, lt, ne)))
]

below_same : (n : ℕ) (p q : ℕ → Bool) → ((k : ℕ) → k < n → p k ≡ q k) → each_below n p ≡ each_below n q
below_same zero p q same = refl
below_same (suc n) p q same = λ i. below_same n p q (λ k lt. same k (omega (arith, lt))) i && same n (omega arith) i

true_not : (b : Bool) → b ≡ true → not b ≡ true → ⊥
true_not true is other = false≢true other
true_not false is other = false≢true is

module _ (P : List UnitPlan) (k : kept.Core) (t : Told) (b : HoldsBody P k t) (ok : IsAccepted P) where
  all_same : (ws : List ℕ) → Each (λ w. w < count_of P) ws → all_of ws (is_complete k.board) ≡ all_of ws (λ w. t.core.recorded (Complete w))
  all_same [] within = refl
  all_same (w ∷ ws) within =
      let h : HoldsSlot (plan_of P w) (post_of k.board w) _ t.core.recorded w (t.core.slots w) = b.slots w within.0 in
      λ i. (ap says_complete h.outcome ∙ h.complete) i && all_same ws within.1 i

  pub free_is : (n : ℕ) → n < count_of P → is_free_at k.board n ≡ is_ready P t.core n
  free_is n lt =
      let h : HoldsSlot (plan_of P n) (post_of k.board n) _ t.core.recorded n (t.core.slots n) = b.slots n lt in
      let e : nat_lt n (count_of P) ≡ true = lt-ltb _ _ lt in
      (λ i. is_none (h.outcome i) && not (h.taken i) && all_of (h.after i) (is_complete k.board))
      ∙ ap (λ (all : Bool). is_none (t.core.slots n).outcome && not (t.core.slots n).claimed && all) (all_same (plan_of P n).after (ok.after n lt))
      ∙ rw e refl

  not_ready : (u : ℕ) → (u < count_of P → is_free_at k.board u ≡ false) → is_ready P t.core u ≡ false
  not_ready u not_free = elim (cases_lt u (count_of P)) [
    | inl lt ↦ sym (free_is u lt) ∙ not_free lt
    | inr le ↦ (let e : nat_lt u (count_of P) ≡ false = le-ltb _ _ le in rw e refl)
  ]

  not_claimed : (u : ℕ) → is_ready P t.core u ≡ false → may_claim P t.core u ≡ false
  not_claimed u is = and_left _ _ (and_right _ _ is)

  -- none is free
  none_claimed : (u : ℕ) → each_below (length k.board) (λ w. not (is_free_at k.board w)) ≡ true → may_claim P t.core u ≡ false
  none_claimed u none = not_claimed u (not_ready u (λ lt. not-true _ (below_at (length k.board) u (λ w. not (is_free_at k.board w)) none (omega (arith, lt, b.posts)))))

  -- another is the first
  other_claimed : (u n : ℕ) → IsFirstFree k.board n → n ≢ u → may_claim P t.core u ≡ false
  other_claimed u n first ne = elim (cases_lt u n) [
    | inl lt ↦ not_claimed u (not_ready u (λ within. not-true _ (below_at n u (λ w. not (is_free_at k.board w)) first.lowest lt)))
    | inr le ↦ and_right _ _ (none_below (each_below u (λ w. not (is_ready P t.core w))) refl (omega (arith, le, ne)))
  ]
    where
      none_below : (each : Bool) → each_below u (λ w. not (is_ready P t.core w)) ≡ each → n < u → each_below u (λ w. not (is_ready P t.core w)) ≡ false
      none_below false is lt = is
      none_below true is lt = absurd (true_not _ (sym (free_is n (omega (arith, first.within, b.posts))) ∙ first.free) (below_at u n (λ w. not (is_ready P t.core w)) is lt))

  below_is : (u : ℕ) → u < count_of P → each_below u (λ w. not (is_free_at k.board w)) ≡ each_below u (λ w. not (is_ready P t.core w))
  below_is u lt = below_same u (λ w. not (is_free_at k.board w)) (λ w. not (is_ready P t.core w)) (λ w less. ap not (free_is w (omega (arith, less, lt))))

  -- it is the first
  first_claimed : (u : ℕ) → t.core.halt.stop ≡ None → IsFirstFree k.board u → may_claim P t.core u ≡ true
  first_claimed u running first =
      let lt : u < count_of P = omega (arith, first.within, b.posts) in
      let ready : is_ready P t.core u ≡ true = sym (free_is u lt) ∙ first.free in
      and_from _ _ (and_from _ _ (ap is_none running) ready) (sym (below_is u lt) ∙ first.lowest)

  -- the unit that may be claimed is the one that the board names
  pub next_claims : (next : Option ℕ) → t.core.halt.stop ≡ None → IsNextFree k.board next → (u : ℕ) → names next u ≡ may_claim P t.core u
  next_claims None running none u = sym (none_claimed u none)
  next_claims (Some n) running first u = elim (cases_Bool (n == u)) [
    | inl e ↦ e ∙ sym (first_claimed u running (subst (IsFirstFree k.board) (eqb-true n u e) first))
    | inr e ↦ e ∙ sym (other_claimed u n first (λ is. false≢true (sym e ∙ eq-eqb n u is)))
  ]

  -- a run that is stopped claims none
  pub stopped_claims : (o : Outcome) → t.core.halt.stop ≡ Some o → (u : ℕ) → false ≡ may_claim P t.core u
  stopped_claims o stopped u = sym (and_left _ _ (and_left _ _ (ap is_none stopped)))

  -- one that may be claimed is the first that is free, and was not claimed
  pub claims_first : (u : ℕ) → may_claim P t.core u ≡ true → IsFirstFree k.board u
  claims_first u may =
      let ready : is_ready P t.core u ≡ true = (and_parts _ _ (and_parts _ _ may).0).1 in
      let lt : u < count_of P = (claim_facts P t.core u ready).below in
      record { within = omega (arith, lt, b.posts); free = free_is u lt ∙ ready; lowest = below_is u lt ∙ (and_parts _ _ may).1 }
