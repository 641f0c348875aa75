-- What is kept of each unit beside the board.
use Rattle.std.specs.Prelude.{◌≡◌, ◌≢◌, ℕ, ◌<◌, Bool, false, ◌&&◌, nat_lt, List, [], ◌∷◌, length, slice_index_or}
use Rattle.flash_plan.specs.declared.outcome.Entry.{Entry}
use Rattle.flash_plan.specs.declared.outcome.Entry.TheVariants.{Begun}
use Rattle.flash_plan.specs.declared.unit.UnitPlan.{UnitPlan}
use Rattle.flash_plan.specs.Plan.{plan_of, count_of}
use Rattle.barrier_board.specs.Board.{has_entry}
use Rattle.run_model.specs.Entries.{marks_of}
use Rattle.run_model.specs.Talk.{Talk, talk_start, talk_lost}
use Rattle.unit_session.specs.Session.{IsOf, talk_of, is_begun}
use Rattle.unit_session.specs.declared.session.UnitSession.{UnitSession}
use Rattle.unit_session.specs.declared.stage.Stage.TheVariants.{Done}
use Rattle.bay_replay.specs.declared.units.Unit.{Unit as Kept}

abbrev pub no_session : UnitSession
no_session = record {
  stage = Done;
  begun = false;
  marks = record { bits = 0 ∷ 0 ∷ 0 ∷ 0 ∷ [] };
  awaiting = false;
  number = 0;
  since = 0;
  pendings = 0;
  busies = 0;
}

-- of its marks a conversation keeps those below 256: a unit has no more segments
abbrev pub low_marks : (ℕ → Bool) → ℕ → Bool
low_marks marks s = nat_lt s 256 && marks s

abbrev pub kept_talk : Talk → Talk
kept_talk t = record t { marks = low_marks t.marks }

-- of no unit
abbrev pub no_unit : Kept
no_unit = record { session = no_session; claimed = false; begun = false; faulted = false }

-- what is kept of the unit with a number
abbrev pub unit_of : List Kept → ℕ → Kept
unit_of units n = slice_index_or units n no_unit

-- before any event: not claimed, the conversation at its first request
pub record IsFresh (plan : UnitPlan) (found : List Entry) (n : ℕ) (u : Kept) : Type 0 where
  pub claimed : u.claimed ≡ false
  pub faulted : u.faulted ≡ false
  pub begun : u.begun ≡ has_entry found (Begun n)
  pub known : is_begun u.session ≡ has_entry found (Begun n)
  pub talk : talk_of plan u.session ≡ talk_start plan (has_entry found (Begun n))
      (low_marks (marks_of (has_entry found) n))
  pub fits : IsOf plan u.session

pub record AreFresh (P : List UnitPlan) (found : List Entry) (units : List Kept) : Type 0 where
  pub size : length units ≡ count_of P
  pub each : (n : ℕ) → n < count_of P → IsFresh (plan_of P n) found n (unit_of units n)

-- each conversation is one of its unit
pub record AreOf (P : List UnitPlan) (units : List Kept) : Type 0 where
  pub size : length units ≡ count_of P
  pub each : (n : ℕ) → n < count_of P → IsOf (plan_of P n) (unit_of units n).session

-- a conversation after a loss of the link
pub record IsLostSession (plan : UnitPlan) (old new : UnitSession) : Type 0 where
  pub known : is_begun new ≡ is_begun old
  pub talk : talk_of plan new ≡ talk_lost plan (is_begun old) (talk_of plan old)
  pub fits : IsOf plan new

pub record IsLostUnit (plan : UnitPlan) (old new : Kept) : Type 0 where
  pub claimed : new.claimed ≡ old.claimed
  pub faulted : new.faulted ≡ old.faulted
  pub begun : new.begun ≡ old.begun
  pub session : IsLostSession plan old.session new.session

-- one unit is so, and the others stay
pub record IsLostAt (plan : UnitPlan) (n : ℕ) (old new : List Kept) : Type 0 where
  pub size : length new ≡ length old
  pub here : IsLostUnit plan (unit_of old n) (unit_of new n)
  pub others : (k : ℕ) → k ≢ n → unit_of new k ≡ unit_of old k

pub record AreLost (P : List UnitPlan) (old new : List Kept) : Type 0 where
  pub size : length new ≡ count_of P
  pub each : (n : ℕ) → n < count_of P → IsLostUnit (plan_of P n) (unit_of old n) (unit_of new n)
