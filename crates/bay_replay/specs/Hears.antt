-- One unit's conversation and post, as they are kept.
use Rattle.std.specs.Prelude.{◌≡◌, ℕ, Bool, List, [], ◌∷◌, set, false, ◌==◌, ◌&&◌, is_some, if◌then◌else◌}
use Rattle.barrier_board.specs.Board.{is_complete, post_of}
use Rattle.barrier_board.specs.declared.post.Post.{Post}
use Rattle.flash_plan.specs.declared.unit.UnitPlan.{UnitPlan}
use Rattle.link_state.specs.Inboxes.{message_of}
use Rattle.link_state.specs.declared.inbox.Message.{Message}
use Rattle.run_model.specs.Link.{take_message, first_message}
use Rattle.run_model.specs.Talk.{talk_hears, talk_takes}
use Rattle.flash_plan.specs.Plan.{plan_of}
use Rattle.bay_core.specs.Core.{with_slot, with_talk}
use Rattle.bay_replay.specs.Held.{Told}
use Rattle.unit_session.specs.Session.{IsOf, talk_of, is_begun}
use Rattle.unit_session.specs.declared.session.UnitSession.{UnitSession}
use Rattle.bay_replay.specs.declared.state.Core as kept
use Rattle.bay_replay.specs.Units.{unit_of}

-- the conversation has heard a message of its unit
pub record HasHeard (plan : UnitPlan) (tick : ℕ) (message : Message) (old new : UnitSession) : Type 0 where
  pub known : is_begun new ≡ is_begun old
  pub talk : talk_of plan new ≡ talk_hears plan tick (message_of message) (talk_of plan old)
  pub fits : IsOf plan new

-- the oldest message of a unit was taken, and the unit has heard it
abbrev pub told_heard : List UnitPlan → ℕ → Told → Told
told_heard P u t = record t {
  core = record t.core {
    link = take_message (plan_of P u).address t.core.link;
    slots = with_slot u (with_talk (talk_takes (plan_of P u) t.core.link.ticks
        (first_message (plan_of P u).address t.core.link.inbox)) (t.core.slots u)) t.core.slots;
  };
}

-- the first of the units that is not complete is that one, and has an outcome
abbrev pub blocker : List Post → List ℕ → ℕ → Bool
blocker posts [] by = false
blocker posts (w ∷ ws) by =
    if is_complete posts w then blocker posts ws by else w == by && is_some (post_of posts w).outcome
