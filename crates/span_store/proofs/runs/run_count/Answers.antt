use Rattle.std.proofs.Common.{◌≡◌, ◌+◌, ◌∙◌, ◌∷◌, List, length, sym, ap, arith}
use Rattle.span_store.specs.Extents.{Extent, end_of, high}
use Rattle.span_store.proofs.Merged.{merged, tally, tally_joined, tally_apart, length-merged, runs-merged, high_next, high_zero, next_is, no_runs}
use Rattle.span_store.proofs.runs.run_count.Goals as goal
use Rattle.span_store.proofs.runs.run_count.Goals.{then-end-start, else-end-start}

pub returns-in_default : goal.returns-in_default
returns-in_default c = sym (no_runs c.args.store.now.entries c.requires c.in_default.ensures.first)

pub overflow_add-end : goal.overflow_add-end
overflow_add-end c =
    let w = c.in-Some.ensures.first in
    let n = next_is c.args.store.now.entries 0 (c.in-Some.at, c.in-Some.first.now) w.0 c.requires w.1 in
    let t = n.2 in
    omega arith

pub loop-start-init : goal.loop-start-init
loop-start-init c =
    let es : List Extent = c.args.store.now.entries in
    let e : Extent = (c.in-Some.at, c.in-Some.first.now) in
    let w = c.in-Some.ensures.first in
    let n = next_is es 0 e w.0 c.requires w.1 in
    record {
      within = n.2;
      small = (let l = n.1 in omega arith);
      counted = ap (λ l. length (merged l)) (sym (high_zero es) ∙ w.1) ∙ length-merged e w.0 ∙ ap (λ l. 1 + tally (end_of e) l) (sym (high_next es 0 e w.0 c.requires w.1));
    }

pub overflow_add-end-in-Some-after : goal.overflow_add-end-in-Some-after
overflow_add-end-in-Some-after c =
    let w = c.in-Some-after.ensures.first in
    let n = next_is c.args.store.now.entries c.loop-start.end (c.in-Some-after.start, c.in-Some-after.bytes.now) w.0 c.requires w.1 in
    let t = n.2 in
    omega arith

pub loop-start-smaller : goal.loop-start-smaller
loop-start-smaller c =
    let w = c.in-Some-after.ensures.first in
    let n = next_is c.args.store.now.entries c.loop-start.end (c.in-Some-after.start, c.in-Some-after.bytes.now) w.0 c.requires w.1 in
    let a = n.0 in
    let b = n.1 in
    let t = n.2 in
    omega arith

pub loop-start-preserved : goal.loop-start-preserved
loop-start-preserved c =
    let es : List Extent = c.args.store.now.entries in
    let e : Extent = (c.in-Some-after.start, c.in-Some-after.bytes.now) in
    let w = c.in-Some-after.ensures.first in
    let n = next_is es c.loop-start.end e w.0 c.requires w.1 in
    let a = n.0 in
    let b = n.1 in
    let known = c.loop-start.invariant.counted in
    let rest : tally (end_of e) (high (end_of e) es) ≡ tally (end_of e) w.0 = ap (tally (end_of e)) (high_next es c.loop-start.end e w.0 c.requires w.1) in
    let head : tally c.loop-start.end (high c.loop-start.end es) ≡ tally c.loop-start.end (e ∷ w.0) = ap (tally c.loop-start.end) w.1 in
    elim c.if-end-start.branch [
      | then-end-start t ↦ record {
        within = n.2;
        small = (let s = c.loop-start.invariant.small in let is = t.count-is in omega arith);
        counted = (let is = t.count-is in let one = tally_apart c.loop-start.end e w.0 (λ is. t.if-end-start.true (sym is)) in omega (arith, known, rest, head, one, is));
      }
      | else-end-start t ↦ record {
        within = n.2;
        small = (let s = c.loop-start.invariant.small in let is = t.count-is in omega arith);
        counted = (let is = t.count-is in let one = tally_joined c.loop-start.end e w.0 (sym t.if-end-start.false) in omega (arith, known, rest, head, one, is));
      }
    ]

pub returns : goal.returns
returns c =
    let es : List Extent = c.args.store.now.entries in
    let known = c.loop-start.invariant.counted in
    let none : tally c.loop-start.end (high c.loop-start.end es) ≡ 0 = ap (tally c.loop-start.end) c.in_default-after.ensures.first in
    let all = ap length (runs-merged es c.requires) in
    omega (arith, known, none, all)
