-- The conversation as it is kept is that of the run, where no receive found no memory.
use Rattle.std.proofs.Common.{◌≡◌, ℕ, ◌<◌, false, List, ◌∙◌, ap, subst}
use Rattle.std.specs.Prelude.{Bool, Option}
use Rattle.bay_core.specs.Core.{Core, Slot}
use Rattle.bay_core.specs.declared.event.Event.{Event}
use Rattle.bay_replay.specs.Held.{IsConversation}
use Rattle.bay_replay.specs.Replays.{core_by}
use Rattle.flash_plan.specs.Plan.{IsAccepted, IsAcceptedUnit, count_of, plan_of}
use Rattle.flash_plan.specs.declared.outcome.Entry.{Entry}
use Rattle.flash_plan.specs.declared.unit.LinkRules.{LinkRules}
use Rattle.flash_plan.specs.declared.unit.UnitPlan.{UnitPlan}
use Rattle.flash_run.specs.Run.{RunState, core_of_run, seen_core}
use Rattle.flash_run.specs.Waiting.{waiting_of}
use Rattle.flash_run.proofs.Taking.{fed_core}
use Rattle.run_model.specs.Talk.{Talk}
use Rattle.unit_session.specs.Session.{IsOf, talk_of}
use Rattle.unit_session.specs.Spots.{IsSpotOf}
use Rattle.unit_session.specs.declared.session.UnitSession.{UnitSession}
use Rattle.unit_session.specs.declared.spot.Spot.{Spot}

pub conversation_seen : (r : RunState) (P : List UnitPlan) (rules : LinkRules) (found : List Entry) (events : List Event) (starved : Bool) (u : ℕ) (said : UnitSession) → P ≡ r.plan → rules ≡ r.rules → found ≡ r.found → events ≡ r.events → starved ≡ r.starved
    → r.starved ≡ false → IsConversation (plan_of P u) ((seen_core P starved (core_by rules P found events)).slots u) said → IsConversation (plan_of r.plan u) ((core_of_run r).slots u) said
conversation_seen r P rules found events starved u said p q f e b fed talks =
    let there : IsConversation (plan_of r.plan u) ((seen_core r.plan r.starved (core_of_run r)).slots u) said =
    subst (λ (x : List UnitPlan × LinkRules × List Entry × List Event × Bool). IsConversation (plan_of x.0 u) ((seen_core x.0 x.4 (core_by x.1 x.0 x.2 x.3)).slots u) said) (λ i. (p i, q i, f i, e i, b i)) talks in
    subst (λ (c : Core). IsConversation (plan_of r.plan u) (c.slots u) said) (fed_core r.plan (core_of_run r) r.starved fed) there

pub spot_seen : (P Q : List UnitPlan) (s : Slot) (u : ℕ) (said : UnitSession) (x : Spot) → P ≡ Q → IsAccepted P → u < count_of P → IsConversation (plan_of Q u) s said
    → ((p : UnitPlan) → IsAcceptedUnit p → IsOf p said → IsSpotOf p (talk_of p said).place x) → IsSpotOf (plan_of Q u) s.talk.place x
spot_seen P Q s u said x same ok lt talks is =
    let each : IsAcceptedUnit (plan_of Q u) = subst (λ (X : List UnitPlan). IsAcceptedUnit (plan_of X u)) same (ok.each u lt) in
    subst (λ (t : Talk). IsSpotOf (plan_of Q u) t.place x) talks.talk (is (plan_of Q u) each talks.fits)

pub number_seen : (p : UnitPlan) (s : Slot) (said : UnitSession) (n : ℕ) → IsConversation p s said → ((q : UnitPlan) → n ≡ (talk_of q said).number) → n ≡ s.talk.number
number_seen p s said n talks is = is p ∙ ap (λ (t : Talk). t.number) talks.talk

pub waiting_seen : (p : UnitPlan) (s : Slot) (said : UnitSession) (w : Option ℕ) → IsConversation p s said → ((q : UnitPlan) → w ≡ waiting_of (talk_of q said)) → w ≡ waiting_of s.talk
waiting_seen p s said w talks is = is p ∙ ap (λ (t : Talk). waiting_of t) talks.talk
