-- A session's numbers as a conversation of its unit.
use Rattle.std.specs.Prelude.{◌≡◌, ℕ, zero, suc, ◌+◌, ◌-◌, ◌/◌, ◌%◌, ◌^◌, ◌==◌, ◌<◌, ◌≤◌, Bool, true, false, List, length, take, drop, slice_index, Option, Some, None, if◌then◌else◌}
use Rattle.flash_plan.specs.declared.unit.UnitPlan.{UnitPlan}
use Rattle.flash_plan.specs.Plan.{no_plan, segment_of}
use Rattle.run_model.specs.Places.{needs_request}
use Rattle.run_model.specs.Script as script
use Rattle.run_model.specs.Script.{Cursor, Place, AtProgram, AtSeed, AtKey, AtErase, AtDownload, AtBlock, AtExit, AtCheck, AtMark, AtFinish, AtReset, AtDone, AtEnd, idents_from, ask_at}
use Rattle.run_model.specs.Talk.{Talk}
use Rattle.uds_codec.specs.Key.{level_of}
use Rattle.unit_session.specs.Left.{requests_left}
use Rattle.unit_session.specs.declared.session.Ask.{Ask}
use Rattle.unit_session.specs.declared.session.Ask.TheVariants as ask
use Rattle.unit_session.specs.declared.marks.Marks.{Marks}
use Rattle.unit_session.specs.declared.session.UnitSession.{UnitSession}
use Rattle.unit_session.specs.declared.stage.KeptSeed.{KeptSeed}
use Rattle.unit_session.specs.declared.stage.Stage.{Stage}
use Rattle.unit_session.specs.declared.stage.Stage.TheVariants.{Ident, Program, Seed, Key, Erase, Download, Block, Exit, Check, Mark, Finish, Reset, Done, Ended}

abbrev pub seed_bytes : KeptSeed → List ℕ
seed_bytes s = take s.size s.bytes

abbrev pub cursor_at : UnitPlan → ℕ → Cursor
cursor_at u n = record { done = take n u.segments; now = segment_of u n; left = drop (n + 1) u.segments }

abbrev pub level_or_none : Option ℕ → ℕ
level_or_none None = 0
level_or_none (Some level) = level

-- the place of the script that a stage is
abbrev pub place_at : UnitPlan → Stage → Place
place_at u (Ident n) = idents_from (drop n u.idents)
place_at u Program = AtProgram
place_at u Seed = AtSeed (level_or_none (level_of u.key))
place_at u (Key seed) = AtKey (level_or_none (level_of u.key)) (seed_bytes seed)
place_at u (Erase n) = AtErase (cursor_at u n)
place_at u (Download n) = AtDownload (cursor_at u n)
place_at u (Block n sent counter limit) =
    AtBlock (cursor_at u n) (record {
      sent = take sent (segment_of u n).body;
      rest = drop sent (segment_of u n).body;
      counter = counter;
      limit = limit;
    })
place_at u (Exit n) = AtExit (cursor_at u n)
place_at u (Check n) = AtCheck (cursor_at u n)
place_at u (Mark n next) = AtMark (cursor_at u n)
place_at u Finish = AtFinish
place_at u Reset = AtReset
place_at u Done = AtDone
place_at u (Ended outcome) = AtEnd outcome

-- a block has a byte, and its request has room for one
pub record IsBlockStage (u : UnitPlan) (n sent limit : ℕ) : Type 0 where
  pub segment : n < length u.segments
  pub within : sent < length (segment_of u n).body
  pub low : 3 ≤ limit
  pub high : limit ≤ 65535

pub record IsKeyStage (u : UnitPlan) (seed : KeptSeed) : Type 0 where
  pub keyed : level_of u.key ≡ Some (level_or_none (level_of u.key))
  pub size : seed.size ≤ 32
  pub some : 1 ≤ length (seed_bytes seed)
  pub few : length (seed_bytes seed) ≤ 32

-- the numbers are those of the unit's task
abbrev pub IsStage : UnitPlan → Stage → Type 0
IsStage u (Ident n) = n ≤ length u.idents
IsStage u Program = Unit {0}
IsStage u Seed = level_of u.key ≡ Some (level_or_none (level_of u.key))
IsStage u (Key seed) = IsKeyStage u seed
IsStage u (Erase n) = n < length u.segments
IsStage u (Download n) = n < length u.segments
IsStage u (Block n sent counter limit) = IsBlockStage u n sent limit
IsStage u (Exit n) = n < length u.segments
IsStage u (Check n) = n < length u.segments
IsStage u (Mark n next) = n < length u.segments
IsStage u Finish = Unit {0}
IsStage u Reset = Unit {0}
IsStage u Done = Unit {0}
IsStage u (Ended outcome) = Unit {0}

-- ------ which segment is next
-- the first of so many segments from number n on that is not marked
abbrev pub first_open : (ℕ → Bool) → ℕ → ℕ → Option ℕ
first_open marks n zero = None
first_open marks n (suc left) = if marks n then first_open marks (n + 1) left else Some n

-- the first segment of the unit from number n on that is not marked
abbrev pub open_from : UnitPlan → (ℕ → Bool) → ℕ → Option ℕ
open_from u marks n = first_open marks n (length u.segments - n)

-- A segment that stands to be marked carries the number of the one behind it: the session is not given its unit when the mark is
-- recorded.
abbrev pub KnowsNext : UnitPlan → (ℕ → Bool) → Stage → Type 0
KnowsNext u marks (Mark n next) = next ≡ open_from u marks (n + 1)
KnowsNext u marks stage = Unit {0}

-- the set that marks are
abbrev pub has_mark : Marks → ℕ → Bool
has_mark m n = slice_index m.bits (n / 64) / 2 ^ (n % 64) % 2 == 1

-- the conversation that a session stands for
abbrev pub talk_of : UnitPlan → UnitSession → Talk
talk_of u s = record {
  place = place_at u s.stage;
  marks = has_mark s.marks;
  number = s.number;
  awaiting = s.awaiting;
  since = s.since;
  pendings = s.pendings;
  busies = s.busies;
}

-- what of it does not lie in the unit's task
abbrev pub talk_of_any : UnitSession → Talk
talk_of_any s = talk_of no_plan s

-- a final answer leads to a place
abbrev pub settled : Place → Talk → Talk
settled place t = record t {
  place = place;
  number = t.number + 1;
  awaiting = false;
  pendings = 0;
  busies = 0;
}

-- fewer requests are left at one place than at the other
abbrev pub IsFewer : UnitPlan → Place → Place → Type 0
IsFewer u next place = requests_left u next + 1 ≤ requests_left u place

-- it is recorded that the unit is begun
abbrev pub is_begun : UnitSession → Bool
is_begun s = s.begun

-- The session is one of this unit: its numbers are of its task, it awaits only where a request was due, and its requests can
-- be counted.
pub record IsOf (u : UnitPlan) (s : UnitSession) : Type 0 where
  pub stage : IsStage u s.stage
  pub known : KnowsNext u (has_mark s.marks) s.stage
  pub awaits : s.awaiting ≡ true → needs_request (place_at u s.stage) ≡ true
  pub pendings : s.pendings ≤ 200
  pub busies : s.busies ≤ 20
  pub few : s.number + requests_left u (place_at u s.stage) ≤ 4294967295

abbrev pub asked : Bool → script.Ask → Ask
asked true a = ask.Wait
asked false script.Begin = ask.Begin
asked false (script.Mark n) = ask.Mark n
asked false (script.Send bytes) = ask.Send
asked false script.Done = ask.Done
asked false (script.Over outcome) = ask.Ended outcome

-- what is next in a conversation
abbrev pub ask_of : UnitPlan → Talk → Ask
ask_of u t = asked t.awaiting (ask_at u t.place)
