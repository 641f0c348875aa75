-- What the workers of a crew know of their passes, and what each holding of the bay did.
use Rattle.std.specs.Prelude.{◌≡◌, ℕ, ◌<◌, Bool, true, false, List, [], ◌∷◌, ◌++◌, Option, Some, None, All, length}
use Rattle.atomic_table.specs.Seated.{TableId}
use Rattle.barrier_board.specs.declared.board.Claimed.{Claimed}
use Rattle.barrier_board.specs.declared.board.Claimed.TheVariants.{Unit as Took, Nothing}
use Rattle.bay_core.specs.Core.{Core}
use Rattle.bay_core.specs.Legal.{is_allowed, is_open_unit}
use Rattle.bay_core.specs.declared.event.Event.{Event}
use Rattle.bay_core.specs.declared.event.Event.TheVariants.{Claimed as Claimed_event}
use Rattle.bay_replay.specs.Replays.{core_by}
use Rattle.flash_bay.specs.declared.bay.Opening.{Opening}
use Rattle.flash_plan.specs.Plan.{count_of, plan_of}
use Rattle.flash_plan.specs.declared.unit.UnitPlan.{UnitPlan}
use Rattle.flash_workers.specs.declared.worker.Worker.{Worker}
use Rattle.turn_lock.specs.Lists.{Begins}
use Rattle.turn_lock.specs.PassState.{PassState}
use Rattle.unit_session.specs.Prepared.{ReadyState}

-- the unit that was claimed, if one was
abbrev pub unit_of : Claimed → Option ℕ
unit_of (Took u) = Some u
unit_of Nothing = None

-- the unit that a worker has claimed, if it has one
abbrev pub HasUnit : List UnitPlan → Option ℕ → Type 0
HasUnit P None = Unit {0}
HasUnit P (Some u) = u < count_of P

-- a request that was made for this unit of the plan, to be sent from this address
pub record IsMade (tester : ℕ) (P : List UnitPlan) (u : ℕ) (ready : ReadyState) : Type 0 where
  pub tester_is : ready.tester ≡ tester
  pub number : ready.number ≡ u
  pub unit : ready.unit ≡ plan_of P u

module _ {S : Type 0} where
  -- the opening is one of this plan
  abbrev pub IsOfPlan : List UnitPlan → Option (Opening S) → Type 0
  IsOfPlan P None = ⊥
  IsOfPlan P (Some o) = o.plan ≡ P

  -- the address from which requests are sent
  abbrev pub IsTesterOf : Option (Opening S) → ℕ → Type 0
  IsTesterOf None tester = ⊥
  IsTesterOf (Some o) tester = tester ≡ o.rules.tester

  -- a request for this unit of the opening
  abbrev pub IsReadyOf : Option (Opening S) → ℕ → ReadyState → Type 0
  IsReadyOf None u ready = ⊥
  IsReadyOf (Some o) u ready = IsMade o.rules.tester o.plan u ready

  -- what events have made of units, link and records
  abbrev pub core_by_list : Opening S → List Event → Core
  core_by_list o es = core_by o.rules o.plan o.found es

  -- ------ passes
  -- a pass that may take the bay of this plan from this turn
  pub record IsAtRest (turn : TableId) (P : List UnitPlan) (p : PassState (Opening S) Event) : Type 0 where
    pub turn_is : p.turn ≡ turn
    pub rests : p.holds ≡ false
    pub plan : IsOfPlan P p.opening

  -- what a pass keeps through takes and gives
  pub record Keeps (old new : PassState (Opening S) Event) : Type 0 where
    pub turn : new.turn ≡ old.turn
    pub holds : new.holds ≡ old.holds
    pub first : new.first ≡ old.first
    pub others : new.others ≡ old.others
    pub opening : new.opening ≡ old.opening
    pub seen : Begins old.seen new.seen

  -- ------ one holding
  -- The bay was taken with these events, and made one step of the unit, exactly where the unit was open by them. A step added
  -- events.
  pub record StepsInTurn (unit : ℕ) (made : Bool) (old new : PassState (Opening S) Event) : Type 0 where
    pub keeps : Keeps old new
    pub opening : Opening S
    pub opened : old.opening ≡ Some opening
    pub taken : List Event
    pub seen : Begins old.seen taken
    pub more : Begins taken new.seen
    pub was_open : made ≡ is_open_unit opening.plan (core_by_list opening taken) unit
    pub rest : made ≡ false → new.seen ≡ taken
    pub event : made ≡ true → length taken < length new.seen

  -- a unit that might be claimed was, by one event, or nothing changed
  abbrev pub ClaimsBy : Opening S → List Event → Option ℕ → List Event → Type 0
  ClaimsBy o taken (Some u) seen =
      (is_allowed o.plan (core_by_list o taken) (Claimed_event u) ≡ true) × (seen ≡ taken ++ Claimed_event u ∷ [])
  ClaimsBy o taken None seen = seen ≡ taken

  -- the bay was taken with these events, and the lowest unit that was ready by them was claimed, if there was one
  pub record ClaimsInTurn (claimed : Option ℕ) (old new : PassState (Opening S) Event) : Type 0 where
    pub keeps : Keeps old new
    pub opening : Opening S
    pub opened : old.opening ≡ Some opening
    pub taken : List Event
    pub seen : Begins old.seen taken
    pub claims : ClaimsBy opening taken claimed new.seen

  -- ------ a crew
  -- a worker between two rounds
  pub record IsHired (turn : TableId) (P : List UnitPlan) (w : Worker S) : Type 0 where
    pub pass : IsAtRest turn P w.pass
    pub unit : HasUnit P w.unit

  -- the first pass, and the workers whose passes were split from it
  pub record IsCrew (turn : TableId) (P : List UnitPlan) (first : PassState (Opening S) Event)
      (crew : List (Worker S)) : Type 0 where
    pub lead : IsAtRest turn P first
    pub is_first : first.first ≡ true
    pub count : first.others ≡ length crew
    pub each : All (IsHired turn P) crew

  -- what the first pass keeps from the hiring of a crew to its end
  pub record Follows (old new : PassState (Opening S) Event) : Type 0 where
    pub opening : new.opening ≡ old.opening
    pub seen : Begins old.seen new.seen
