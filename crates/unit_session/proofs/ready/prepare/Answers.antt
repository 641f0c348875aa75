use Rattle.std.proofs.Common.{◌≤◌, ℕ, List, length, sym, subst}
use Rattle.unit_session.proofs.Spotting.{asked_few, ready_is}
use Rattle.unit_session.proofs.ready.prepare.Goals as goal

pub message-requires-clause-few : goal.message-requires-clause-few
message-requires-clause-few c = subst (λ (xs : List ℕ). length xs ≤ 65535) (sym c.in_ok-body.ensures) (asked_few c.args.unit.now c.args.spot c.requires.accepted c.requires.asks)

pub invariant_of-result : goal.invariant_of-result
invariant_of-result c =
    ready_is c.args.tester c.args.number c.of.result.value c.args.unit.now c.args.spot c.in_ok-body.body c.in_ok-frame.frame c.of.ensures c.requires.accepted c.requires.asks c.in_ok-body.ensures c.in_ok-frame.ensures
