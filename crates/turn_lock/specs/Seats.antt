-- What a seat at the table knows, as the rule counts and compares it.
use Rattle.std.specs.Prelude.{◌≡◌, ◌≢◌, ◌⊎◌, ℕ, ◌+◌, ◌^◌, ◌<◌, List, [], ◌∷◌, ◌++◌, length, Option, Some, None, Bool, true, false, All, AllPairs}
use Rattle.atomic_table.specs.Table.{Me}
use Rattle.turn_lock.specs.declared.view.View.{View}
use Rattle.turn_lock.specs.declared.view.Stage.{Stage}
use Rattle.turn_lock.specs.declared.view.Stage.TheVariants.{Gone, Idle, Waiting, Holding}
use Rattle.turn_lock.specs.PassState.{PassState}
use Rattle.atomic_table.specs.Seated.{TableId}

-- 1 for a pass that has a ticket
abbrev pub ticket_count : Stage → ℕ
ticket_count Gone = 0
ticket_count Idle = 0
ticket_count Waiting = 1
ticket_count Holding = 1

-- how many passes are counted for a seat: its own, and those that no seat stands for yet
abbrev pub pass_count : Stage → ℕ → ℕ
pass_count Gone unseated = 0
pass_count Idle unseated = unseated + 1
pass_count Waiting unseated = unseated + 1
pass_count Holding unseated = unseated + 1

abbrev pub is_holding : Stage → Bool
is_holding Gone = false
is_holding Idle = false
is_holding Waiting = false
is_holding Holding = true

-- between two calls a pass is idle or holds the value
abbrev pub stage_of : Bool → Stage
stage_of false = Idle
stage_of true = Holding

module _ {O E : Type 0} where
  abbrev pub tickets_of : View O E → ℕ
  tickets_of v = ticket_count v.stage

  abbrev pub passes_of : View O E → ℕ
  passes_of v = pass_count v.stage v.unseated

  abbrev pub own_count : View O E → ℕ
  own_count v = length v.own

  abbrev pub first_view : O → List E → View O E
  first_view opening entries = record {
    first = true;
    stage = Idle;
    ticket = 0;
    others = 0;
    unseated = 0;
    opening = Some opening;
    seen = entries;
    shown = [];
    own = [];
  }

  -- a pass that was split from v has seen the same, and owns nothing
  abbrev pub split_view : View O E → View O E
  split_view v = record {
    first = false;
    stage = Idle;
    ticket = 0;
    others = 0;
    unseated = 0;
    opening = v.opening;
    seen = v.seen;
    shown = [];
    own = [];
  }

  -- what is left of a pass that was joined into another
  abbrev pub spent_view : View O E
  spent_view = record {
    first = false;
    stage = Gone;
    ticket = 0;
    others = 0;
    unseated = 0;
    opening = None;
    seen = [];
    shown = [];
    own = [];
  }

  -- v with what w had seen and owned. No seat stands for the pass of w now
  abbrev pub joined_view : View O E → View O E → View O E
  joined_view v w = record v { unseated = v.unseated + 1; shown = w.seen; own = v.own ++ w.own }

  -- the positions of the seat's own entries are below the length of what it has seen, each once
  pub record OwnsSeen (v : View O E) : Type 0 where
    pub once : AllPairs (λ i j. i ≢ j) v.own
    pub below : All (λ i. i < length v.seen) v.own

  -- the seat has seen all entries
  pub record HasAll (entries : List E) (v : View O E) : Type 0 where
    pub present : v.stage ≢ Gone
    pub all : (v.seen ≡ entries) ⊎ (v.shown ≡ entries)

-- the slots that a seat holds between two calls: a pass that holds the value holds the slot, which is empty
abbrev pub slots_in_hand : {V : Type 0} → Bool → List (ℕ × Option V)
slots_in_hand false = []
slots_in_hand true = (0, None) ∷ []

-- what contracts see of a pass whose seat is at this table with this view
abbrev pub state_of : {V O E : Type 0} → TableId → Me (Option V) (View O E) → PassState O E
state_of t m = record {
  turn = t;
  first = m.0.first;
  holds = is_holding m.0.stage;
  opening = m.0.opening;
  seen = m.0.seen;
  own = m.0.own;
  others = m.0.others;
}

-- between two calls the numbers that a pass keeps are those of its seat's view
pub record IsTold {V O E : Type 0} (seen own others : ℕ) (m : Me (Option V) (View O E)) : Type 0 where
  pub seen_is : seen ≡ length m.0.seen
  pub own_is : own ≡ length m.0.own
  pub others_is : others ≡ m.0.others
  pub seen_few : seen < 2 ^ 63
  pub own_few : own < 2 ^ 63
  pub rest_none : m.0.first ≡ false → m.0.others ≡ 0
  pub seated : m.0.unseated ≡ 0
  pub compared : m.0.shown ≡ []
  pub stage_is : m.0.stage ≡ stage_of (is_holding m.0.stage)
  pub slots_are : m.1 ≡ slots_in_hand (is_holding m.0.stage)
