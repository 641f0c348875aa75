-- The step of a unit on which a trouble acts: the obedient step, or the departure of that trouble in its place.
use Rattle.std.specs.Prelude.{ℕ, zero, suc, ◌+◌, ◌*◌, Bool, true, false, ◌&&◌, ◌||◌, ◌==◌, nat_lt, nat_le, not, List, [], ◌∷◌, ◌++◌, Option, None, Some, if◌then◌else◌}
use Rattle.flash_base.specs.Lists.{same_bytes}
use Rattle.uds_codec.specs.Answer.{Verdict, Pending, Busy, Refusal, Accepted, BadStatus, Malformed, judge}
use Rattle.uds_codec.specs.Request.{request_of, sid_of}
use Rattle.uds_codec.specs.declared.request.Request.{Request}
use Rattle.uds_codec.specs.declared.request.Request.TheVariants as request
use Rattle.unit_model.specs.declared.reply.Due.TheVariants.{Held}
use Rattle.unit_model.specs.declared.reply.UnitReply.{UnitReply}
use Rattle.unit_model.specs.declared.spec.Act.{Act}
use Rattle.unit_model.specs.declared.spec.Act.TheVariants as act
use Rattle.unit_model.specs.declared.spec.Until.{Until}
use Rattle.unit_model.specs.declared.spec.Until.TheVariants.{Times, Heard}
use Rattle.unit_model.specs.Step.{Departure, Refuses, Odd, Fails, Mutes, Busies, raised, said_by, last_replies, reply_at, pendings, timed, is_good}
use Rattle.unit_model.specs.Unit.{ControlUnit, obedient}
use Rattle.unit_sim.specs.Answers.{routine_bytes}

-- a unit, and what it says
abbrev pub Done : Type 0
Done = ControlUnit × List UnitReply

-- an obedient step and its answer, which comes at once
abbrev pub at_once : ControlUnit × List ℕ → ℕ → Done
at_once step tick = (step.0, reply_at tick step.1 ∷ [])

-- in place of the obedient step, the unit stays as it was, the departure is counted, and what is said comes at once
abbrev pub departs : Departure → ControlUnit → List ℕ → ℕ → Done
departs kind u bytes tick = (
  record u { counts = raised kind u.counts },
  last_replies
      (said_by kind (sid_of bytes)) tick,
)

-- no refusal is one that says busy or pending, nor one that the unit says anyway
abbrev pub refuses : ℕ → ControlUnit → ControlUnit × List ℕ → List ℕ → ℕ → Done
refuses nrc u step bytes tick =
    if nrc == 33 || nrc == 120 || same_bytes step.1 (127 ∷ sid_of bytes ∷ nrc ∷ []) then at_once step tick
    else departs (Refuses nrc) u bytes tick

abbrev pub is_strange : Verdict → Bool
is_strange Pending = false
is_strange Busy = false
is_strange (Refusal nrc) = false
is_strange (Accepted rest) = false
is_strange (BadStatus status) = false
is_strange Malformed = true

-- an answer that is in the form is not odd
abbrev pub strays : List ℕ → ControlUnit → ControlUnit × List ℕ → List ℕ → ℕ → Done
strays body u step bytes tick =
    if is_strange (judge bytes body) then departs (Odd body) u bytes tick else at_once step tick

abbrev pub routine_in : Request → Option ℕ
routine_in (request.Routine id option) = Some id
routine_in (request.Session kind) = None
routine_in request.Reset = None
routine_in (request.ReadId did) = None
routine_in (request.Seed level) = None
routine_in (request.Key level key) = None
routine_in (request.Download width at size) = None
routine_in (request.Upload width at size) = None
routine_in (request.Transfer counter body) = None
routine_in (request.Pull counter) = None
routine_in request.Exit = None
routine_in (request.Setting off) = None
routine_in (request.Messages off) = None

-- the routine that a request starts
abbrev pub routine_of : Option Request → Option ℕ
routine_of None = None
routine_of (Some r) = routine_in r

-- a routine that would end well ends with another status
abbrev pub fails : Option ℕ → ℕ → ControlUnit → ControlUnit × List ℕ → List ℕ → ℕ → Done
fails None status u step bytes tick = at_once step tick
fails (Some id) status u step bytes tick =
    if not (status == 0) && is_good (judge bytes step.1)
    then departs (Fails (routine_bytes id status)) u bytes tick else at_once step tick

-- an answer is late by 1,000 ticks or more
abbrev pub is_long : ℕ → Bool
is_long ticks = nat_le 1000 ticks

abbrev pub delays : ℕ → ControlUnit × List ℕ → ℕ → Done
delays ticks step tick = (timed (is_long ticks) false step.0, reply_at (tick + ticks) step.1 ∷ [])

-- so many ticks, each so many behind the one before
abbrev pub turns : ℕ → ℕ → ℕ → List ℕ
turns from every zero = []
turns from every (suc n) = (from + every) ∷ turns (from + every) every n

-- the obedient step, its answer behind responses pending: so many, and more than 200 stall; or it is held
abbrev pub waits : ℕ → Until → ControlUnit × List ℕ → List ℕ → ℕ → Done
waits ticks (Times times) step bytes tick = (
  timed (is_long ticks) (nat_lt 200 times) step.0,
  pendings (sid_of bytes)
      (turns tick ticks times) ++ (reply_at (tick + ticks * times) step.1 ∷ []),
)
waits ticks (Heard unit sid) step bytes tick =
    (step.0, record { due = Held ticks unit sid; body = step.1 } ∷ [])

-- by the trouble that acts
abbrev pub acted : Act → ControlUnit → ControlUnit × List ℕ → List ℕ → ℕ → Done
acted (act.Refuse nrc) u step bytes tick = refuses nrc u step bytes tick
acted (act.Odd body) u step bytes tick = strays body u step bytes tick
acted (act.Fail status) u step bytes tick = fails (routine_of (request_of bytes)) status u step bytes tick
acted act.Mute u step bytes tick = departs Mutes u bytes tick
acted (act.Delay ticks) u step bytes tick = delays ticks step tick
acted (act.Busy times) u step bytes tick = departs Busies u bytes tick
acted (act.Pending ticks until) u step bytes tick = waits ticks until step bytes tick

abbrev pub acted_in : Option Act → ControlUnit → ControlUnit × List ℕ → List ℕ → ℕ → Done
acted_in None u step bytes tick = at_once step tick
acted_in (Some a) u step bytes tick = acted a u step bytes tick

-- the step of a unit that hears these bytes, without the count of what was heard
abbrev pub done : Option Act → ControlUnit → List ℕ → ℕ → Done
done trouble u bytes tick = acted_in trouble u (obedient u bytes) bytes tick
