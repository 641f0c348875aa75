-- The conversation with one unit, attempt by attempt.
use Rattle.std.specs.Prelude.{ℕ, ◌+◌, Bool, true, false, ◌==◌, nat_le, Option, Some, None, if◌then◌else◌}
use Rattle.uds_codec.specs.Request.{sid_of}
use Rattle.uds_codec.specs.Answer.{Verdict, Pending, Busy, Refusal, Accepted, BadStatus, Malformed, judge}
use Rattle.flash_plan.specs.declared.unit.UnitPlan.{UnitPlan}
use Rattle.flash_plan.specs.declared.outcome.Outcome.{Outcome}
use Rattle.flash_plan.specs.declared.outcome.Outcome.TheVariants.{PendingLimit, BusyLimit, NoAnswer, Undelivered}
use Rattle.run_model.specs.Ways.{UnitMessage, Reply, Nacked}
use Rattle.run_model.specs.Entries.{with_mark}
use Rattle.run_model.specs.Script.{Place, AtBegin, AtMark, AtDone, AtEnd, start_place, place_judged, place_marked, bytes_at}

-- marks: the segments that are recorded marked. During an attempt only the one in hand comes to them, so that those which the
-- script still meets are marked exactly if they were when the attempt began. number: how many final answers this attempt has.
pub record Talk : Type 0 where
  pub place : Place
  pub marks : ℕ → Bool
  pub number : ℕ
  pub awaiting : Bool
  pub since : ℕ
  pub pendings : ℕ
  pub busies : ℕ

abbrev pub talk_start : UnitPlan → Bool → (ℕ → Bool) → Talk
talk_start u begun marks = record {
  place = start_place u begun;
  marks = marks;
  number = 0;
  awaiting = false;
  since = 0;
  pendings = 0;
  busies = 0;
}

abbrev pub end_talk : Outcome → Talk → Talk
end_talk outcome t = record t { place = AtEnd outcome; awaiting = false }

abbrev pub sid_at : UnitPlan → Talk → ℕ
sid_at u t = sid_of (bytes_at u t.place)

-- a loss starts an attempt, but not at Begin, at a mark, at Done and at the end
abbrev pub keeps_on_loss : Place → Bool
keeps_on_loss AtBegin = true
keeps_on_loss (AtMark c) = true
keeps_on_loss AtDone = true
keeps_on_loss (AtEnd outcome) = true
keeps_on_loss place = false

abbrev pub talk_lost : UnitPlan → Bool → Talk → Talk
talk_lost u begun t = if keeps_on_loss t.place then t else talk_start u begun t.marks

-- the segment in hand is recorded marked
abbrev pub talk_marked : ℕ → Talk → Talk
talk_marked s t = record t { place = place_marked (with_mark s t.marks) t.place; marks = with_mark s t.marks }

abbrev pub talk_sent : ℕ → Talk → Talk
talk_sent tick t = record t { awaiting = true; since = tick; pendings = 0 }

abbrev pub talk_final : UnitPlan → Verdict → Talk → Talk
talk_final u verdict t = record t {
  place = place_judged u t.marks t.place verdict;
  number = t.number + 1;
  awaiting = false;
  pendings = 0;
  busies = 0;
}

abbrev pub talk_judged : UnitPlan → ℕ → Verdict → Talk → Talk
talk_judged u tick Pending t = if t.pendings == 200 then end_talk (PendingLimit (sid_at u t)) t
    else record t { since = tick; pendings = t.pendings + 1 }
talk_judged u tick Busy t = if t.busies == 20 then end_talk (BusyLimit (sid_at u t)) t
    else record t { awaiting = false; pendings = 0; busies = t.busies + 1 }
talk_judged u tick (Refusal nrc) t = talk_final u (Refusal nrc) t
talk_judged u tick (Accepted rest) t = talk_final u (Accepted rest) t
talk_judged u tick (BadStatus status) t = talk_final u (BadStatus status) t
talk_judged u tick Malformed t = talk_final u Malformed t

abbrev pub talk_hears : UnitPlan → ℕ → UnitMessage → Talk → Talk
talk_hears u tick (Reply body) t = talk_judged u tick (judge (bytes_at u t.place) body) t
talk_hears u tick (Nacked code) t = end_talk (Undelivered code) t

abbrev pub talk_takes : UnitPlan → ℕ → Option UnitMessage → Talk → Talk
talk_takes u tick None t = t
talk_takes u tick (Some word) t = talk_hears u tick word t

abbrev pub talk_quiet : UnitPlan → ℕ → Talk → Talk
talk_quiet u tick t = if nat_le (t.since + 1000) tick then end_talk (NoAnswer (sid_at u t)) t else t
