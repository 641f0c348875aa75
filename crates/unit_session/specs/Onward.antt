-- What each answer leads to, by the numbers of a session.
use Rattle.std.specs.Prelude.{◌≡◌, ℕ, ◌+◌, ◌*◌, ◌≤◌, min, Bool, List, [], ◌∷◌, length, Option, Some, None, nat_lt, if◌then◌else◌}
use Rattle.flash_base.specs.Numbers.{number_of}
use Rattle.flash_plan.specs.declared.unit.UnitPlan.{UnitPlan}
use Rattle.run_model.specs.Script.{place_next, request_at}
use Rattle.uds_codec.specs.Awaited.{awaited_by}
use Rattle.uds_codec.specs.declared.judging.Awaited.{Awaited}
use Rattle.uds_codec.specs.declared.request.Request.{Request}
use Rattle.unit_session.specs.Session.{place_at, IsStage, KnowsNext}
use Rattle.unit_session.specs.declared.stage.Stage.{Stage}
use Rattle.unit_session.specs.declared.stage.Stage.TheVariants.{Ident, Program, Seed, Key, Erase, Download, Block, Exit, Check, Mark, Finish, Reset, Done, Ended}

-- the service of the request at a stage (ISO 14229-1)
abbrev pub sid_at : Stage → ℕ
sid_at (Ident n) = 34
sid_at Program = 16
sid_at Seed = 39
sid_at (Key seed) = 39
sid_at (Erase n) = 49
sid_at (Download n) = 52
sid_at (Block n sent counter limit) = 54
sid_at (Exit n) = 55
sid_at (Check n) = 49
sid_at (Mark n next) = 0
sid_at Finish = 49
sid_at Reset = 17
sid_at Done = 0
sid_at (Ended outcome) = 0

-- this is awaited behind the request at a stage
abbrev pub IsAwaitedAt : UnitPlan → Stage → Awaited → Type 0
IsAwaitedAt u stage a = (r : Request) → request_at u (place_at u stage) ≡ Some r → awaited_by r ≡ a

-- What a positive answer says behind the beginning of its form: a seed has 1 to 32 bytes, a length limit is 3 at least.
abbrev pub HasRecord : Stage → List ℕ → Type 0
HasRecord Seed rest = (1 ≤ length rest) × (length rest ≤ 32)
HasRecord (Download n) rest = 3 ≤ number_of rest
HasRecord stage rest = Unit {0}

-- A positive answer with these bytes behind the beginning of its form leads from one stage to the other.
pub record LeadsTo (u : UnitPlan) (marks : ℕ → Bool) (stage : Stage) (rest : List ℕ)
    (next : Stage) : Type 0 where
  pub place : place_at u next ≡ place_next u marks (place_at u stage) rest
  pub fits : IsStage u next
  pub known : KnowsNext u marks next

-- the stage once so many of a segment's size bytes were accepted
abbrev pub blocks_from : ℕ → ℕ → ℕ → ℕ → ℕ → Stage
blocks_from size segment sent counter limit =
    if nat_lt sent size then Block segment sent counter limit else Exit segment

-- the segment that is erased next; where there is none, the whole is checked
abbrev pub erase_next : Option ℕ → Stage
erase_next None = Finish
erase_next (Some n) = Erase n

abbrev pub cap_after : ℕ → List ℕ → ℕ
cap_after n [] = n
cap_after n (x ∷ xs) = cap_after (min (n * 256 + x) 65535) xs

-- the number of the bytes, or 65,535 if that is less
abbrev pub cap_of : List ℕ → ℕ
cap_of xs = cap_after 0 xs
