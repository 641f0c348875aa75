use Rattle.std.proofs.Common.{◌≡◌, ◌∙◌, ◌<◌, ap, ℕ, Bool, length, set, get_or, true, false, arith, rules}
use Rattle.unit_model.specs.Running.{control_unit}
use Rattle.unit_model.specs.Troubles.{all_troubles}
use Rattle.flash_base.specs.Counts.{one_more}
use Rattle.unit_sim.specs.Sims.{sim_of, committed}
use Rattle.unit_sim.specs.Tallies.{counts_of}
use Rattle.unit_sim.proofs.Committing.{unit_behind, heard_more}
use Rattle.unit_sim.proofs.Remaining.{all_left}
use Rattle.unit_sim.proofs.sim.UnitSim.commit.Goals as goal

pub invariant_of-self-3 : goal.invariant_of-self-3
invariant_of-self-3 c = record { in_range = ap all_troubles c.count.ensures ∙ all_left c.args.sid c.args.self.now.troubles.items c.args.self.now.in_range }

pub returns-clause-ok : goal.returns-clause-ok
returns-clause-ok c =
    let heard : c.saturating_add-self.result ≡ one_more c.apply.new.unit.heard = search rules in
    let long : length c.args.self.now.services ≡ 256 = search rules in
    let lt : c.args.sid < length c.args.self.now.services = omega (arith, long) in
    let unit = (λ i. record (control_unit c.apply.new.unit) { heard = heard i; counts = counts_of c.raise.new.self }) ∙ unit_behind (control_unit c.apply.new.unit) (control_unit c.args.self.now.unit) (counts_of c.raise.new.self) (counts_of c.args.self.now.tally) c.args.outcome c.apply.ensures c.raise.ensures in
    let services : ◌≡◌ {A = ℕ → Bool} (λ other. get_or (set c.args.self.now.services c.from.result true) other false) (committed (sim_of c.args.self.now) c.args.sid c.args.outcome).services =
    (λ j other. get_or (set c.args.self.now.services (c.from.ensures j) true) other false) ∙ heard_more c.args.self.now.services c.args.sid lt in
    λ i. record { unit = unit i; troubles = c.count.ensures i; waiting = c.in_ok-append.ensures.items i; services = services i }
