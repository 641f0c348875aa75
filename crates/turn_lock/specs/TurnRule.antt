-- The rule of the turn: what is true of the table between any two steps.
-- Word 0 is the number of passes, word 1 the next ticket and word 2 the ticket that is served, the last two modulo 2^64. Slot 0 has the value.
use Rattle.std.specs.Prelude.{◌≡◌, ◌≢◌, ◌⊎◌, ℕ, ◌+◌, ◌%◌, ◌^◌, ◌<◌, ◌≤◌, List, [], ◌∷◌, length, slice_index, Option, Some, true, All, AllPairs, sum_by}
use mathlib.Core.Option.{some, none}
use mathlib.Core.Option as maybe
use lib.ListN.{get_elem?}
use Rattle.atomic_table.specs.Table.{State}
use Rattle.turn_lock.specs.declared.view.View.{View}
use Rattle.turn_lock.specs.declared.view.Stage.TheVariants.{Gone, Holding}
use Rattle.turn_lock.specs.Lists.{Begins}
use Rattle.turn_lock.specs.Seats.{ticket_count, tickets_of, passes_of, own_count, HasAll}

-- What the rule says of the view of the seat j. The ticket t belongs to the seat `holder_of t`, and the entry at the position p to the seat `owner_of p`, so no two seats share one.
pub record IsSeated {O E : Type 0} (opening : O) (entries : List E) (next serving : ℕ)
    (holder_of owner_of : ℕ → ℕ) (j : ℕ) (v : View O E) : Type 0 where
  pub leads : v.first ≡ true → j ≡ 0
  pub opened : v.stage ≢ Gone → v.opening ≡ Some opening
  pub seen : Begins v.seen entries
  pub shown : Begins v.shown entries
  pub owns : All (λ p. (owner_of p ≡ j) × ((p < length v.seen) ⊎ (p < length v.shown))) v.own
  pub once : AllPairs (λ p q. p ≢ q) v.own
  pub drawn : ticket_count v.stage ≡ 1 → (serving ≤ v.ticket) × (v.ticket < next) × (holder_of v.ticket ≡ j)
  pub served : v.stage ≡ Holding → (v.ticket ≡ serving) × (v.seen ≡ entries)

module _ {V O E : Type 0} (opening_of : V → O) (entries_of : V → List E) where
  -- the slot has the value, or it is out with a pass that holds the value
  abbrev pub IsInPlace : O → List E → List (View O E) → maybe.Option (Option V) → Type 0
  IsInPlace opening entries views (some x) = (y : V) × (x ≡ Some y) × (opening_of y ≡ opening)
      × (entries_of y ≡ entries)
  IsInPlace opening entries views none = (j : ℕ) × (v : View O E) × (get_elem? views j ≡ some v)
      × (v.stage ≡ Holding)

  -- `entries` are those of the value that was put into the slot last, and `next` and `serving` the tickets without modulo
  pub record IsInTurn (s : State (Option V) (View O E)) : Type 0 where
    pub opening : O
    pub entries : List E
    pub next : ℕ
    pub serving : ℕ
    pub holder_of : ℕ → ℕ
    pub owner_of : ℕ → ℕ
    pub slot : maybe.Option (Option V)
    pub reader : ℕ
    -- the words
    pub three : length s.words ≡ 3
    pub next_is : slice_index s.words 1 ≡ next % 2 ^ 64
    pub serving_is : slice_index s.words 2 ≡ serving % 2 ^ 64
    pub few : slice_index s.words 0 ≤ 65536
    -- the slot
    pub slot_is : s.homes ≡ slot ∷ []
    pub in_place : IsInPlace opening entries s.views slot
    pub short : length entries < 2 ^ 63
    -- the seats together
    pub passes : sum_by passes_of s.views ≡ slice_index s.words 0
    pub tickets : next ≡ serving + sum_by tickets_of s.views
    pub owned : sum_by own_count s.views ≤ length entries
    pub counts : (v : View O E) → get_elem? s.views 0 ≡ some v → v.others + 1 ≡ slice_index s.words 0
    pub read : (v : View O E) × (get_elem? s.views reader ≡ some v) × HasAll entries v
    -- each seat
    pub each : (j : ℕ) (v : View O E) → get_elem? s.views j ≡ some v
        → IsSeated opening entries next serving holder_of owner_of j v
