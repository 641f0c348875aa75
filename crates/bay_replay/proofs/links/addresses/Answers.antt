use Rattle.std.proofs.Common.{◌≡◌, ℕ, ◌<◌, length, take, ap, ◌∙◌, arith}
use Rattle.std.proofs.Math.Seq.{take-length}
use Rattle.flash_plan.specs.Plan.{count_of}
use Rattle.bay_core.specs.Core.{addresses_of}
use Rattle.bay_replay.proofs.Addresses.{addresses_next}
use Rattle.bay_replay.proofs.links.addresses.Goals as goal

pub loop-n-preserved : goal.loop-n-preserved
loop-n-preserved c =
    let lt : c.loop-n.n < count_of c.args.plan.now = omega (arith, c.loop-n-test.true, c.units-n-end.ensures) in
    addresses_next c.args.plan.now c.loop-n.n c.loop-n.all.items c.push.new.self.items c.unit.result.now lt c.loop-n.invariant c.unit.ensures c.in_ok-push.ensures.items

pub returns : goal.returns
returns c =
    let all : c.loop-n.n ≡ length c.args.plan.now = omega (arith, c.loop-n-test.false, c.loop-n.auto.n-end, c.units-n-end.ensures) in
    c.loop-n.invariant ∙ ap (λ (k : ℕ). addresses_of (take k c.args.plan.now)) all ∙ ap addresses_of (take-length c.args.plan.now)
