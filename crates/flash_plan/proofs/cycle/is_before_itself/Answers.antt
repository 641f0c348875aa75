use Rattle.std.proofs.Common.{rules, ◌≡◌, ◌≤◌, true, None, Some, length, refl, sym, ◌∙◌, ap, arith}
use Rattle.std.proofs.lemmas.List.{length-set}
use Rattle.flash_plan.specs.Cycles.{next_open}
use Rattle.flash_plan.proofs.Marks.{cycle_test, marked_more, none_marked, open_fewer, open_within}
use Rattle.flash_plan.proofs.cycle.is_before_itself.Goals as goal

pub loop-w-init : goal.loop-w-init
loop-w-init c = record { size = refl; before = none_marked c.args.units.now c.args.n 64 }

pub mark-requires : goal.mark-requires
mark-requires c =
    let found : next_open c.args.units.now c.args.n c.loop-w.marks ≡ Some c.in-Some.w = sym c.next_open.ensures ∙ c.in-Some.is in
    let within = open_within c.args.units.now c.args.n c.loop-w.marks c.in-Some.w c.requires.within found in
    omega (arith, within, c.requires.few)

pub loop-w-smaller : goal.loop-w-smaller
loop-w-smaller c =
    let found : next_open c.args.units.now c.args.n c.loop-w.marks ≡ Some c.in-Some.w = sym c.next_open.ensures ∙ c.in-Some.is in
    let few : length c.args.units.now ≤ length c.loop-w.marks = omega (arith, c.requires.few, c.loop-w.invariant.size) in
    open_fewer c.args.units.now c.args.n c.loop-w.marks c.mark.new.marks c.in-Some.w c.requires.within few found c.mark.ensures

pub loop-w-preserved : goal.loop-w-preserved
loop-w-preserved c =
    let found : next_open c.args.units.now c.args.n c.loop-w.marks ≡ Some c.in-Some.w = sym c.next_open.ensures ∙ c.in-Some.is in
    record {
      size = ap length c.mark.ensures ∙ length-set c.loop-w.marks c.in-Some.w true ∙ c.loop-w.invariant.size;
      before = marked_more c.args.units.now c.args.n c.loop-w.marks c.mark.new.marks c.in-Some.w found c.mark.ensures c.loop-w.invariant.before;
    }

pub returns : goal.returns
returns c =
    let none : c.next_open.result ≡ None = search rules in
    cycle_test c.args.units.now c.args.n c.loop-w.marks c.is_marked.result c.loop-w.invariant.before (sym c.next_open.ensures ∙ none) c.is_marked.ensures
