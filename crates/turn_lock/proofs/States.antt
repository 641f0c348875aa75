-- What the state of a pass says of its seat.
use Rattle.std.proofs.Common.{◌≡◌, ◌≢◌, ◌<◌, length, ℕ, List, [], ◌∷◌, true, false, ap, ◌∙◌, subst, None}
use Rattle.std.specs.Prelude.{Option, All, AllPairs}
use Rattle.atomic_table.specs.Table.{Me}
use Rattle.atomic_table.specs.Seated.{TableId}
use Rattle.turn_lock.specs.declared.view.View.{View}
use Rattle.turn_lock.specs.declared.view.Stage.TheVariants.{Idle, Holding}
use Rattle.turn_lock.specs.Lists.{Begins}
use Rattle.turn_lock.specs.PassState.{PassState, HasOwn}
use Rattle.turn_lock.specs.Seats.{OwnsSeen, IsTold, stage_of, slots_in_hand, state_of}
use Rattle.turn_lock.proofs.Prefixes.{begins-at}

module _ {V O E : Type 0} (a b c : ℕ) (t : TableId) (m : Me (Option V) (View O E)) (p : PassState O E) where
  -- a pass that does not hold the value is idle, with no slot in hand
  pub idle_stage : state_of t m ≡ p → IsTold a b c m → p.holds ≡ false → m.0.stage ≡ Idle
  idle_stage is told off = told.stage_is ∙ ap stage_of (ap (λ (q : PassState O E). q.holds) is ∙ off)

  pub no_slots : state_of t m ≡ p → IsTold a b c m → p.holds ≡ false → m.1 ≡ []
  no_slots is told off = told.slots_are ∙ ap slots_in_hand (ap (λ (q : PassState O E). q.holds) is ∙ off)

  -- a pass that holds the value has the empty slot in hand
  pub holding_stage : state_of t m ≡ p → IsTold a b c m → p.holds ≡ true → m.0.stage ≡ Holding
  holding_stage is told on = told.stage_is ∙ ap stage_of (ap (λ (q : PassState O E). q.holds) is ∙ on)

  pub empty_slot : state_of t m ≡ p → IsTold a b c m → p.holds ≡ true → m.1 ≡ (0, None) ∷ []
  empty_slot is told on = told.slots_are ∙ ap slots_in_hand (ap (λ (q : PassState O E). q.holds) is ∙ on)

pub has_own : {O E : Type 0} (p : PassState O E) (v : View O E) (entries : List E) → v.seen ≡ p.seen → v.own ≡ p.own → Begins p.seen entries → OwnsSeen v → HasOwn p entries
has_own {O} {E} p v entries s o begins owns =
    let both = subst (λ (q : List E × List ℕ). AllPairs (λ i j. i ≢ j) q.1 × All (λ i. i < length q.0) q.1) (λ i. (s i, o i)) (owns.once, owns.below) in
    record { once = both.0; kept = λ i d lt. (both.1 i d lt, begins-at p.seen entries _ begins (both.1 i d lt)) }
