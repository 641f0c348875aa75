-- The board: what is kept of each unit, and which unit is taken up next.
use Rattle.std.specs.Prelude.{◌≡◌, ℕ, ◌<◌, Bool, true, false, ◌&&◌, ◌||◌, not, List, [], ◌∷◌, length, slice_index_or, set, Option, Some, None, is_none, if◌then◌else◌}
use Rattle.flash_base.specs.Lists.{all_of}
use Rattle.flash_base.specs.Numbers.{each_below}
use Rattle.flash_plan.specs.declared.outcome.Entry.{Entry}
use Rattle.flash_plan.specs.declared.outcome.Entry.TheVariants as entry
use Rattle.flash_plan.specs.declared.outcome.Outcome.{Outcome}
use Rattle.flash_plan.specs.declared.outcome.Outcome.TheVariants.{Complete, Blocked}
use Rattle.flash_plan.specs.declared.unit.UnitPlan.{UnitPlan}
use Rattle.flash_plan.specs.Outcomes.{same_entry}
use Rattle.flash_plan.specs.Plan.{plan_of, count_of}
use Rattle.barrier_board.specs.declared.post.Post.{Post}
use Rattle.barrier_board.specs.declared.board.Claimed.{Claimed}
use Rattle.barrier_board.specs.declared.board.Claimed.TheVariants as claimed

-- the entry is among those of a list
abbrev pub has_entry : List Entry → Entry → Bool
has_entry [] e = false
has_entry (x ∷ xs) e = same_entry e x || has_entry xs e

-- of no unit
abbrev pub no_post : Post
no_post = record { after = []; claimed = true; outcome = None }

-- what is kept of the unit with a number
abbrev pub post_of : List Post → ℕ → Post
post_of posts n = slice_index_or posts n no_post

abbrev pub says_complete : Option Outcome → Bool
says_complete None = false
says_complete (Some Complete) = true
says_complete (Some outcome) = false

abbrev pub is_complete : List Post → ℕ → Bool
is_complete posts n = says_complete (post_of posts n).outcome

-- without outcome, not taken up, and all units before it complete
abbrev pub is_free : List Post → Post → Bool
is_free posts p = is_none p.outcome && not p.claimed && all_of p.after (is_complete posts)

abbrev pub is_free_at : List Post → ℕ → Bool
is_free_at posts n = is_free posts (post_of posts n)

abbrev pub take_up : Post → Post
take_up p = record p { claimed = true }

abbrev pub give : Outcome → Post → Post
give outcome p = record p { outcome = Some outcome }

-- one unit's post changes, and no other
abbrev pub at_unit : ℕ → (Post → Post) → List Post → List Post
at_unit n f posts = set posts n (f (post_of posts n))

-- the unit is free, and none below it is
pub record IsFirstFree (posts : List Post) (n : ℕ) : Type 0 where
  pub within : n < length posts
  pub free : is_free_at posts n ≡ true
  pub lowest : each_below n (λ w. not (is_free_at posts w)) ≡ true

-- the lowest free unit, if there is one
abbrev pub IsNextFree : List Post → Option ℕ → Type 0
IsNextFree posts None = each_below (length posts) (λ w. not (is_free_at posts w)) ≡ true
IsNextFree posts (Some n) = IsFirstFree posts n

-- the lowest free unit was taken up
pub record IsTaken (old : List Post) (n : ℕ) (new : List Post) : Type 0 where
  pub first : IsFirstFree old n
  pub rest : new ≡ at_unit n take_up old

-- none is free, and nothing changed
pub record IsNone (old new : List Post) : Type 0 where
  pub none : each_below (length old) (λ w. not (is_free_at old w)) ≡ true
  pub same : new ≡ old

abbrev pub HasClaimed : List Post → Claimed → List Post → Type 0
HasClaimed old (claimed.Unit n) new = IsTaken old n new
HasClaimed old claimed.Nothing new = IsNone old new

-- at the start: complete is what is recorded so
abbrev pub new_post : List ℕ → Bool → Post
new_post after done = record {
  after = after;
  claimed = false;
  outcome = if done then Some Complete
      else None;
}

abbrev pub post_start : List UnitPlan → List Entry → ℕ → Post
post_start P found n = new_post (plan_of P n).after (has_entry found (entry.Complete n))

pub record IsStart (P : List UnitPlan) (found : List Entry) (posts : List Post) : Type 0 where
  pub size : length posts ≡ count_of P
  pub each : (n : ℕ) → n < count_of P → post_of posts n ≡ post_start P found n

-- the outcome names no unit that the plan lacks
abbrev pub NamesWithin : ℕ → Outcome → Type 0
NamesWithin size (Blocked by) = by < size
NamesWithin size outcome = Unit {0}
