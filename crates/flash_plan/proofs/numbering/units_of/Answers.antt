use Rattle.std.proofs.Common.{rules, ◌≡◌, None, Some, subst}
use Rattle.flash_plan.specs.Numbering.{TakesLast}
use Rattle.flash_plan.proofs.Numbers.{all_taken, none_taken, shorter, taken}
use Rattle.flash_plan.proofs.numbering.units_of.Goals as goal

pub loop-unit-init : goal.loop-unit-init
loop-unit-init c =
    none_taken c.args.drafts c.args.afters c.into_vec-left.result.items c.into_vec-numbers.result.items c.new-units.result c.requires c.into_vec-left.ensures c.into_vec-numbers.ensures c.new-units.ensures

pub loop-unit-smaller : goal.loop-unit-smaller
loop-unit-smaller c =
    let step : TakesLast c.loop-unit.left.items c.loop-unit.numbers.items c.last_unit.new.drafts.items c.last_unit.new.afters.items (Some c.in-Some.unit) =
    subst (TakesLast c.loop-unit.left.items c.loop-unit.numbers.items c.last_unit.new.drafts.items c.last_unit.new.afters.items) c.in-Some.is c.last_unit.ensures in
    shorter c.loop-unit.left.items c.last_unit.new.drafts.items c.loop-unit.numbers.items c.last_unit.new.afters.items c.in-Some.unit step

pub loop-unit-preserved : goal.loop-unit-preserved
loop-unit-preserved c =
    let step : TakesLast c.loop-unit.left.items c.loop-unit.numbers.items c.last_unit.new.drafts.items c.last_unit.new.afters.items (Some c.in-Some.unit) =
    subst (TakesLast c.loop-unit.left.items c.loop-unit.numbers.items c.last_unit.new.drafts.items c.last_unit.new.afters.items) c.in-Some.is c.last_unit.ensures in
    taken c.args.drafts c.loop-unit.left.items c.last_unit.new.drafts.items c.loop-unit.numbers.items c.last_unit.new.afters.items c.loop-unit.units c.push_front.new.self c.in-Some.unit step
    c.loop-unit.invariant c.in_ok-push_front.ensures.ok

pub returns : goal.returns
returns c =
    let none : c.last_unit.result ≡ None = search rules in
    all_taken c.args.drafts c.loop-unit.left.items c.last_unit.new.drafts.items c.loop-unit.numbers.items c.last_unit.new.afters.items c.loop-unit.units
    (subst (TakesLast c.loop-unit.left.items c.loop-unit.numbers.items c.last_unit.new.drafts.items c.last_unit.new.afters.items) none c.last_unit.ensures) c.loop-unit.invariant
