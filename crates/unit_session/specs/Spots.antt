-- The spot of a conversation: its place in the script, by numbers and the seed alone.
use Rattle.std.specs.Prelude.{◌≡◌, ℕ, ◌+◌, ◌-◌, ◌==◌, min, true, List, [], ◌++◌, length, take, drop, replicate, if◌then◌else◌}
use Rattle.flash_plan.specs.declared.unit.UnitPlan.{UnitPlan}
use Rattle.run_model.specs.Places.{needs_request}
use Rattle.run_model.specs.Script.{Place, AtIdent, AtBegin, AtProgram, AtSeed, AtKey, AtErase, AtDownload, AtBlock, AtExit, AtCheck, AtMark, AtFinish, AtReset, AtDone, AtEnd, bytes_at}
use Rattle.unit_session.specs.Session.{place_at, IsStage}
use Rattle.unit_session.specs.declared.spot.Spot.{Spot}
use Rattle.unit_session.specs.declared.stage.Stage.{Stage}
use Rattle.unit_session.specs.declared.stage.Stage.TheVariants.{Ident, Program, Seed, Key, Erase, Download, Block, Exit, Check, Mark, Finish, Reset, Done, Ended}

-- a seed, filled up with zeros to 32 bytes
abbrev pub padded : List ℕ → List ℕ
padded seed = seed ++ drop (length seed) (replicate 32 0)

abbrev pub spot_with : ℕ → ℕ → ℕ → Spot
spot_with step part phase = record {
  step = step;
  part = part;
  phase = phase;
  offset = 0;
  counter = 0;
  room = 0;
  seed = padded [];
  seed_length = 0;
}

abbrev pub key_spot : List ℕ → Spot
key_spot seed = record {
  step = 3;
  part = 0;
  phase = 0;
  offset = 0;
  counter = 0;
  room = 0;
  seed = padded seed;
  seed_length = length seed;
}

abbrev pub block_spot : ℕ → ℕ → ℕ → ℕ → Spot
block_spot part offset counter room =
    record {
      step = 4;
      part = part;
      phase = 2;
      offset = offset;
      counter = counter;
      room = room;
      seed = padded [];
      seed_length = 0;
    }

-- The spot of a place of a unit's script. Identifiers and segments go by their numbers; a segment has phases, from its erasure to
-- its mark; within the blocks stand the bytes that were accepted, the counter and the length limit of the next request.
abbrev pub spot_of : UnitPlan → Place → Spot
spot_of u (AtIdent w ws) = spot_with 0 (length u.idents - (length ws + 1)) 0
spot_of u AtBegin = spot_with 0 (length u.idents) 0
spot_of u AtProgram = spot_with 1 0 0
spot_of u (AtSeed level) = spot_with 2 0 0
spot_of u (AtKey level seed) = key_spot seed
spot_of u (AtErase c) = spot_with 4 (length c.done) 0
spot_of u (AtDownload c) = spot_with 4 (length c.done) 1
spot_of u (AtBlock c b) = block_spot (length c.done) (length b.sent) b.counter b.limit
spot_of u (AtExit c) = spot_with 4 (length c.done) 3
spot_of u (AtCheck c) = spot_with 4 (length c.done) 4
spot_of u (AtMark c) = spot_with 4 (length c.done) 5
spot_of u AtFinish = spot_with 5 0 0
spot_of u AtReset = spot_with 6 0 0
spot_of u AtDone = spot_with 7 0 0
spot_of u (AtEnd outcome) = spot_with 8 0 0

-- the stage of a segment by its phase; none of the others sends anything
abbrev pub segment_by : Spot → Stage
segment_by s =
    if s.phase == 0 then Erase s.part
    else if s.phase == 1 then Download s.part
    else if s.phase == 2 then Block s.part s.offset s.counter (min s.room 65535)
    else if s.phase == 3 then Exit s.part
    else if s.phase == 4 then Check s.part
    else Done

-- the stage that a spot names; none of the steps behind the reset sends anything
abbrev pub stage_by : Spot → Stage
stage_by s =
    if s.step == 0 then Ident s.part
    else if s.step == 1 then Program
    else if s.step == 2 then Seed
    else if s.step == 3 then Key (record { bytes = s.seed; size = s.seed_length })
    else if s.step == 4 then segment_by s
    else if s.step == 5 then Finish
    else if s.step == 6 then Reset
    else Done

-- the request of a unit at a spot
abbrev pub request_by : UnitPlan → Spot → List ℕ
request_by u s = bytes_at u (place_at u (stage_by s))

-- the spot is one of the unit's script at which a request is to be sent
pub record IsAsking (u : UnitPlan) (s : Spot) : Type 0 where
  pub stage : IsStage u (stage_by s)
  pub needs : needs_request (place_at u (stage_by s)) ≡ true

-- The spot is that of the place; where a request is due it names that request, so that the next request is a function of the
-- unit's plan and its spot.
pub record IsSpotOf (u : UnitPlan) (place : Place) (s : Spot) : Type 0 where
  pub is : s ≡ spot_of u place
  pub asks : needs_request place ≡ true → IsAsking u s
  pub request : needs_request place ≡ true → request_by u s ≡ bytes_at u place

-- the spot of a stage, by its numbers
abbrev pub spot_at : Stage → Spot
spot_at (Ident n) = spot_with 0 n 0
spot_at Program = spot_with 1 0 0
spot_at Seed = spot_with 2 0 0
spot_at (Key seed) = key_spot (take (min seed.size 32) seed.bytes)
spot_at (Erase n) = spot_with 4 n 0
spot_at (Download n) = spot_with 4 n 1
spot_at (Block n sent counter limit) = block_spot n (min sent 4294967295) counter limit
spot_at (Exit n) = spot_with 4 n 3
spot_at (Check n) = spot_with 4 n 4
spot_at (Mark n next) = spot_with 4 n 5
spot_at Finish = spot_with 5 0 0
spot_at Reset = spot_with 6 0 0
spot_at Done = spot_with 7 0 0
spot_at (Ended outcome) = spot_with 8 0 0
