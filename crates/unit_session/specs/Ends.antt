-- What ends a conversation.
use Rattle.std.specs.Prelude.{◌≡◌, ℕ, ◌+◌, ◌≤◌, false, List, [], ◌∷◌}
use Rattle.flash_plan.specs.declared.outcome.Outcome.{Outcome}
use Rattle.flash_plan.specs.declared.outcome.Outcome.TheVariants.{IdentMismatch, Refused, BadAnswer, CheckFailed, Undelivered, NoAnswer, PendingLimit, BusyLimit}
use Rattle.flash_plan.specs.declared.unit.UnitPlan.{UnitPlan}
use Rattle.flash_plan.specs.declared.unit.Wanted.{Wanted}
use Rattle.run_model.specs.Places.{is_ended}
use Rattle.run_model.specs.Script.{AtIdent, AtEnd, bytes_at, has_value, routine_at}
use Rattle.run_model.specs.Talk.{Talk, talk_hears, talk_quiet, sid_at}
use Rattle.run_model.specs.Ways.{Reply, Nacked}
use Rattle.uds_codec.specs.Answer.{Accepted, BadStatus, Malformed, judge}

-- the answer of an identifier that was expected, with a value that was not
pub record IsOther (u : UnitPlan) (t : Talk) (body : List ℕ) (did : ℕ) : Type 0 where
  pub wanted : Wanted
  pub more : List Wanted
  pub value : List ℕ
  pub place : t.place ≡ AtIdent wanted more
  pub did_is : did ≡ wanted.did
  pub good : judge (bytes_at u t.place) body ≡ Accepted value
  pub other : has_value wanted.values value ≡ false

-- An answer ends a conversation so: a refusal with its code; a routine's status; a value that is not expected; a form that is
-- not the request's; the 201st response pending (code 78) to a sending, the 21st busy answer (code 21) to a request. The service
-- is always that of the request whose answer was awaited.
abbrev pub AnswerEnds : UnitPlan → Talk → List ℕ → Outcome → Type 0
AnswerEnds u t body (Refused sid nrc) = (body ≡ 127 ∷ sid ∷ nrc ∷ []) × (sid ≡ sid_at u t)
AnswerEnds u t body (CheckFailed routine segment status) =
    (judge (bytes_at u t.place) body ≡ BadStatus status) × (routine ≡ (routine_at u t.place).0)
    × (segment ≡ (routine_at u t.place).1)
AnswerEnds u t body (IdentMismatch did) = IsOther u t body did
AnswerEnds u t body (BadAnswer sid) = (judge (bytes_at u t.place) body ≡ Malformed) × (sid ≡ sid_at u t)
AnswerEnds u t body (PendingLimit sid) = (body ≡ 127 ∷ sid ∷ 120 ∷ []) × (sid ≡ sid_at u t)
    × (t.pendings ≡ 200)
AnswerEnds u t body (BusyLimit sid) = (body ≡ 127 ∷ sid ∷ 33 ∷ []) × (sid ≡ sid_at u t) × (t.busies ≡ 20)
AnswerEnds u t body outcome = ⊥

-- Each end of a conversation has its cause: an answer, a refusal to deliver with its code, or 1,000 ticks without an answer.
pub record EndsAreCaused : Type 0 where
  pub answer : (u : UnitPlan) (tick : ℕ) (body : List ℕ) (t : Talk) (outcome : Outcome)
      → is_ended t.place ≡ false → (talk_hears u tick (Reply body) t).place ≡ AtEnd outcome
      → AnswerEnds u t body outcome
  pub refusal : (u : UnitPlan) (tick code : ℕ) (t : Talk) (outcome : Outcome)
      → (talk_hears u tick (Nacked code) t).place ≡ AtEnd outcome → outcome ≡ Undelivered code
  pub silence : (u : UnitPlan) (tick : ℕ) (t : Talk) (outcome : Outcome) → is_ended t.place ≡ false
      → (talk_quiet u tick t).place ≡ AtEnd outcome → (outcome ≡ NoAnswer (sid_at u t))
      × (t.since + 1000 ≤ tick)
