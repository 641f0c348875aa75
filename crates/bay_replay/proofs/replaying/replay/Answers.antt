use Rattle.std.proofs.Common.{◌≡◌, ◌<◌, List, length, slice_get, Some, ap, sym, ◌∙◌, arith}
use Rattle.barrier_board.specs.Board.{has_entry}
use Rattle.bay_core.specs.Core.{core_start}
use Rattle.bay_core.specs.declared.event.Event.{Event}
use Rattle.bay_replay.proofs.Lists.{first_bad, legal_more, there_is}
use Rattle.bay_replay.proofs.replaying.replay.Goals as goal

pub returns-then-not-branch : goal.returns-then-not-branch
returns-then-not-branch c =
    let lt : c.loop-i.i < length c.args.events.now = omega (arith, c.loop-i-test.true, ap (λ (es : List Event). length es) c.as_slice-i-end.ensures) in
    first_bad c.args.rules.now c.args.plan.now c.args.found.now c.args.events.now c.loop-i.i lt c.loop-i.invariant.legal
    (λ e is. sym c.if-not-branch.true ∙ c.in_ok-step_at.ensures.allowed e is)

pub loop-i-preserved : goal.loop-i-preserved
loop-i-preserved c =
    let lt : c.loop-i.i < length c.args.events.now = omega (arith, c.loop-i-test.true, ap (λ (es : List Event). length es) c.as_slice-i-end.ensures) in
    let x : (e : Event) × (slice_get c.args.events.now c.loop-i.i ≡ Some e) = there_is c.args.events.now c.loop-i.i lt in
    record {
      holds = c.in_ok-step_at.ensures.holds c.if-not-branch.false;
      legal = legal_more c.args.rules.now c.args.plan.now c.args.events.now c.loop-i.i x.0 (core_start c.args.plan.now (has_entry c.args.found.now)) x.1 c.loop-i.invariant.legal
          (sym (c.in_ok-step_at.ensures.allowed x.0 x.1) ∙ c.if-not-branch.false);
    }
