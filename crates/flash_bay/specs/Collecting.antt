-- What a bay promises of a look for an answer.
use Rattle.std.specs.Prelude.{◌≡◌, ℕ, ◌==◌, Bool, true, false, not, nat_lt, List, Option, Some, None, is_some, if◌then◌else◌}
use Rattle.bay_core.specs.Core.{heard_link, link_after}
use Rattle.bay_core.specs.declared.event.Event.TheVariants as event
use Rattle.bay_core.specs.declared.event.Heard.{Heard}
use Rattle.bay_core.specs.declared.event.Heard.TheVariants as heard
use Rattle.bay_law.specs.Device.{HearsOnce}
use Rattle.flash_bay.specs.Calls.{Steps}
use Rattle.flash_bay.specs.State.{BayState}
use Rattle.flash_bay.specs.declared.answers.Collected as answer
use Rattle.flash_bay.specs.declared.answers.Collected.TheVariants as says
use Rattle.flash_bay.specs.declared.answers.Why.TheVariants as why
use Rattle.flash_plan.specs.Plan.{plan_of}
use Rattle.flash_plan.specs.declared.unit.LinkRules.{LinkRules}
use Rattle.flash_plan.specs.declared.unit.UnitPlan.{UnitPlan}
use Rattle.flash_run.specs.Run.{core_of_run}
use Rattle.run_model.specs.Link.{Link, first_message}
use Rattle.shop_model.specs.History.{History}

-- ------ what a receive has brought
abbrev pub is_quiet : Heard → Bool
is_quiet heard.Kept = false
is_quiet heard.Quiet = true
is_quiet (heard.Piece bytes) = false
is_quiet heard.Lost = false

-- an answer was awaited, and is no more, or one more response pending has come
abbrev pub differs : Option ℕ → Option ℕ → Bool
differs (Some n) (Some m) = not (m == n)
differs (Some n) None = true
differs None m = false

-- the losses before and after, whether nothing came, and whether the unit waits for something else
abbrev pub collected_by : ℕ → ℕ → Bool → Bool → answer.Collected
collected_by before after quiet word =
    if nat_lt before after then says.Lost else if quiet then says.NotYet why.Quiet else if word
    then says.Heard else says.NotYet why.Others

-- ------ what it has brought for a unit
-- with these bytes a message of the unit is whole
abbrev pub brings_message : LinkRules → List UnitPlan → ℕ → List ℕ → Link → Bool
brings_message rules P u bytes l =
    is_some (first_message (plan_of P u).address (heard_link rules P (heard.Piece bytes) l).inbox)

-- where the link was not lost
abbrev pub looked_for : LinkRules → List UnitPlan → ℕ → Heard → Link → answer.Collected
looked_for rules P u heard.Kept l = says.Heard
looked_for rules P u heard.Quiet l = says.NotYet why.Quiet
looked_for rules P u (heard.Piece bytes) l =
    if brings_message rules P u bytes l then says.Heard else says.NotYet why.Others
looked_for rules P u heard.Lost l = says.Lost

abbrev pub collected_as : LinkRules → List UnitPlan → ℕ → Heard → Link → answer.Collected
collected_as rules P u h l = if nat_lt l.losses (link_after rules P (event.Collected u h) l).losses
    then says.Lost else looked_for rules P u h l

-- ------ the call
-- a message that is in the inbox asks for none
abbrev pub LooksOnce : {S : Type 0} → Bool → (S → History) → Heard → S → S → Type 0
LooksOnce tells_vehicle history heard.Kept old new = new ≡ old
LooksOnce tells_vehicle history heard.Quiet old new =
    HearsOnce tells_vehicle (history old) (history new) heard.Quiet
LooksOnce tells_vehicle history (heard.Piece bytes) old new =
    HearsOnce tells_vehicle (history old) (history new) (heard.Piece bytes)
LooksOnce tells_vehicle history heard.Lost old new =
    HearsOnce tells_vehicle (history old) (history new) heard.Lost

pub record Collects {S : Type 0} (tells_vehicle : Bool) (history : S → History) (u : ℕ) (old : BayState S)
    (said : answer.Collected) (new : BayState S) : Type 0 where
  pub heard_is : Heard
  pub adds : Steps (event.Collected u heard_is) old new
  pub call : LooksOnce tells_vehicle history heard_is old.shop new.shop
  pub answer_is : said ≡ collected_as old.run.rules old.run.plan u heard_is (core_of_run old.run).link
