-- What each step tells the seat that makes it: m before, n after, and r the number that was found.
use Rattle.std.specs.Prelude.{◌≡◌, ◌≢◌, ℕ, ◌+◌, ◌-◌, ◌%◌, ◌^◌, ◌<◌, List, [], ◌∷◌, ◌++◌, length, Option, Some, None}
use Rattle.atomic_table.specs.Table.{Me}
use Rattle.turn_lock.specs.declared.view.View.{View}
use Rattle.turn_lock.specs.declared.view.Stage.TheVariants.{Idle, Waiting, Holding}
use Rattle.turn_lock.specs.Lists.{Begins, longer, new_positions}
use Rattle.turn_lock.specs.Seats.{OwnsSeen}

module _ {V E : Type 0} where
  -- the entries of the value that the seat has put into the slot
  abbrev pub entries_in : (V → List E) → Option V → List E
  entries_in entries_of None = []
  entries_in entries_of (Some y) = entries_of y

  abbrev pub entries_put : (V → List E) → List (ℕ × Option V) → List E
  entries_put entries_of [] = []
  entries_put entries_of (x ∷ xs) = entries_in entries_of x.1

module _ {V O E : Type 0} where
  abbrev pub CountsUp : Me (Option V) (View O E) → Me (Option V) (View O E) → Type 0
  CountsUp m n = n ≡ (record m.0 { others = m.0.others + 1; unseated = m.0.unseated + 1 }, m.1)

  -- what the joined pass had seen is compared here, where the rule shows that both lists begin the same
  pub record CountsDown (m n : Me (Option V) (View O E)) : Type 0 where
    pub some_other : 0 < m.0.others
    pub after : n ≡ (
      record m.0 {
        others = m.0.others - 1;
        unseated = m.0.unseated - 1;
        seen = longer m.0.seen m.0.shown;
        shown = [];
      },
      m.1,
    )
    pub own_few : length m.0.own < 2 ^ 63
    pub seen : Begins m.0.seen n.0.seen
    pub shown : Begins m.0.shown n.0.seen

  -- the ticket has no bound, and the word has it modulo 2^64
  abbrev pub DrawsTicket : Me (Option V) (View O E) → ℕ → Me (Option V) (View O E) → Type 0
  DrawsTicket m r n = (ticket : ℕ) × (r ≡ ticket % 2 ^ 64)
      × (n ≡ (record m.0 { stage = Waiting; ticket = ticket }, m.1))

  -- the seat holds the slot with the value, and has seen all its entries
  pub record Takes (opening_of : V → O) (entries_of : V → List E)
      (m n : Me (Option V) (View O E)) : Type 0 where
    pub value : V
    pub slot : n.1 ≡ (0, Some value) ∷ []
    pub after : n.0 ≡ record m.0 { stage = Holding; seen = entries_of value }
    pub opened : m.0.opening ≡ Some (opening_of value)
    pub grown : Begins m.0.seen (entries_of value)
    pub owns : OwnsSeen m.0

  -- where the seat's ticket is served it takes the value, and else it is as it was
  abbrev pub ReadsServing : (V → O) → (V → List E) → Me (Option V) (View O E) → ℕ → Me (Option V) (View O E)
      → Type 0
  ReadsServing opening_of entries_of m r n = (r ≡ m.0.ticket % 2 ^ 64 → Takes opening_of entries_of m n)
      × (r ≢ m.0.ticket % 2 ^ 64 → n ≡ m)

  -- the slot goes back with the value that was put into it, whose new entries are the seat's own
  pub record AdvancesServing (entries_of : V → List E) (m n : Me (Option V) (View O E)) : Type 0 where
    pub grown : Begins m.0.seen (entries_put entries_of m.1)
    pub after : n ≡ (
      record m.0 {
        stage = Idle;
        seen = entries_put entries_of m.1;
        own = m.0.own ++ new_positions m.0.seen (entries_put entries_of m.1);
      },
      [],
    )
    pub own_few : length n.0.own < 2 ^ 63
