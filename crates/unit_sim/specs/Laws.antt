-- Laws of the simulated unit, in the words of the table of troubles.
use Rattle.std.specs.Prelude.{◌≡◌, ℕ, ◌+◌, ◌-◌, Bool, ◌&&◌, ◌==◌, nat_lt, nat_le, List, [], ◌∷◌, ◌++◌, Option, None, Some, option_map, if◌then◌else◌, IsTrue}
use Rattle.unit_model.specs.declared.reply.Due.TheVariants.{Held}
use Rattle.unit_model.specs.declared.spec.Act.{Act}
use Rattle.unit_model.specs.declared.spec.Act.TheVariants.{Refuse, Odd, Fail, Mute, Delay, Busy, Pending}
use Rattle.unit_model.specs.declared.spec.TroubleSpec.{TroubleSpec}
use Rattle.unit_model.specs.Step.{UnitStep, reply_at}
use Rattle.unit_model.specs.Troubles.{all_troubles}
use Rattle.unit_model.specs.Unit.{ControlUnit}
use Rattle.unit_sim.specs.Acting.{acting, counted}

-- of requests with these service bytes, how many have this one
abbrev pub heard_with : ℕ → List ℕ → ℕ
heard_with sid [] = 0
heard_with sid (s ∷ ss) = if sid == s then heard_with sid ss + 1 else heard_with sid ss

-- the list behind requests with these service bytes, one after another
abbrev pub behind : List ℕ → List TroubleSpec → List TroubleSpec
behind [] ts = ts
behind (s ∷ ss) ts = behind ss (counted s ts)

-- how many requests of its service a trouble is for
abbrev pub span : Act → ℕ
span (Busy times) = times
span (Refuse nrc) = 1
span (Odd bytes) = 1
span (Fail status) = 1
span Mute = 1
span (Delay ticks) = 1
span (Pending ticks until) = 1

-- it is for request n of its service: its nth, and the next ones, so many in all
abbrev pub is_for : ℕ → ℕ → Act → Bool
is_for n nth a = nat_le nth n && nat_lt n (nth + span a)

-- of the list as it was made, the first that is for the next request with this service byte, behind these
abbrev pub first_for : ℕ → List ℕ → List TroubleSpec → Option Act
first_for sid before [] = None
first_for sid before (t ∷ ts) = if t.sid == sid && is_for (heard_with sid before + 1) t.nth t.act
    then Some t.act else first_for sid before ts

-- what is done, however often yet
abbrev pub deed : Act → Act
deed (Busy times) = Busy 0
deed (Refuse nrc) = Refuse nrc
deed (Odd bytes) = Odd bytes
deed (Fail status) = Fail status
deed Mute = Mute
deed (Delay ticks) = Delay ticks
deed (Pending ticks until) = Pending ticks until

-- of a trouble under way, behind so many requests of its service, the rest is for the next one
abbrev pub rest_under_way : TroubleSpec → Act → ℕ → List TroubleSpec
rest_under_way t (Busy times) k =
    if nat_lt (k + 1) (t.nth + times) then record t { nth = 1; act = Busy (t.nth + times - (k + 1)) } ∷ []
    else []
rest_under_way t (Refuse nrc) k = []
rest_under_way t (Odd bytes) k = []
rest_under_way t (Fail status) k = []
rest_under_way t Mute k = []
rest_under_way t (Delay ticks) k = []
rest_under_way t (Pending ticks until) k = []

-- What is left of a trouble behind so many requests of its service: one that waits has its number lowered by them; nothing is
-- left of one that is over.
abbrev pub rest_of : TroubleSpec → ℕ → List TroubleSpec
rest_of t k = if nat_lt k t.nth then record t { nth = t.nth - k } ∷ [] else rest_under_way t t.act k

abbrev pub rests : List ℕ → List TroubleSpec → List TroubleSpec
rests before [] = []
rests before (t ∷ ts) = rest_of t (heard_with t.sid before) ++ rests before ts

-- each trouble of the list is counted by itself, over the requests of its service; the first that is for a request acts
pub record AreCounted : Type 0 where
  pub remain : (before : List ℕ) (ts : List TroubleSpec) → IsTrue (all_troubles ts)
      → behind before ts ≡ rests before ts
  pub acts : (sid : ℕ) (before : List ℕ) (ts : List TroubleSpec) → IsTrue (all_troubles ts)
      → option_map deed (acting sid (behind before ts)) ≡ option_map deed (first_for sid before ts)

-- a step with its answer held is a step with the answer at once
abbrev pub MayCome : Type 0
MayCome = (old new : ControlUnit) (bytes : List ℕ) (tick every unit sid : ℕ) (body : List ℕ)
    → UnitStep old bytes tick (record { due = Held every unit sid; body = body } ∷ []) new
    → UnitStep old bytes tick (reply_at tick body ∷ []) new
