use Rattle.std.proofs.Common.{◌≡◌, ◌≤◌, ◌+◌, ◌-◌, ◌∙◌, min, length, take, arith, sym, ap, subst, length-take}
use Rattle.span_store.specs.ByteMap.{Holds, part, over}
use Rattle.span_store.proofs.Maps.{part_none, part_same, part_more, held_first}
use Rattle.span_store.proofs.spans.Spans.cut.Goals as goal

pub loop-here-init : goal.loop-here-init
loop-here-init c =
    let z : 0 ≡ c.args.from - c.args.from = omega arith in
    record {
      from = omega arith;
      within = omega arith;
      cut = c.new-cut.ensures ∙ part_none c.args.self.now c.args.from ∙ ap (part c.args.self.now c.args.from) z;
    }

pub returns-in_default : goal.returns-in_default
returns-in_default c =
    let from = c.loop-here.invariant.from in
    let within = c.loop-here.invariant.within in
    c.loop-here.invariant.cut ∙ part_same c.args.self.now c.args.from (c.loop-here.here - c.args.from) c.args.size (omega arith) (λ q l u. c.in_default.ensures q (omega arith))

pub returns-then-stop-start : goal.returns-then-stop-start
returns-then-stop-start c =
    let p = c.in-Some.ensures in
    let from = c.loop-here.invariant.from in
    let within = c.loop-here.invariant.within in
    c.loop-here.invariant.cut ∙ part_same c.args.self.now c.args.from (c.loop-here.here - c.args.from) c.args.size (omega arith) (λ q l u. p.3 q (omega arith) (omega arith))

pub loop-here-preserved : goal.loop-here-preserved
loop-here-preserved c =
    let m = c.args.self.now in
    let p = c.in-Some.ensures in
    let from = c.loop-here.invariant.from in
    let within = c.loop-here.invariant.within in
    let next : c.loop-here.here ≤ c.in-Some.start = p.0 in
    let known : c.first_of_bytes-known.result.now ≡ take (c.args.from + c.args.size - c.in-Some.start) c.in-Some.bytes.now = c.first_of_bytes-known.ensures in
    let size : length (take (c.args.from + c.args.size - c.in-Some.start) c.in-Some.bytes.now) ≡ min (c.args.from + c.args.size - c.in-Some.start) (length c.in-Some.bytes.now) = length-take (c.args.from + c.args.size - c.in-Some.start) c.in-Some.bytes.now in
    let n : length c.first_of_bytes-known.result.now ≡ length (take (c.args.from + c.args.size - c.in-Some.start) c.in-Some.bytes.now) = ap length known in
    let held : Holds m c.in-Some.start c.first_of_bytes-known.result.now = subst (Holds m c.in-Some.start) (sym known) (held_first m c.in-Some.start (c.args.from + c.args.size - c.in-Some.start) c.in-Some.bytes.now p.4) in
    record {
      from = omega arith;
      within = omega arith;
      cut = c.in-Ok.ensures.1
          ∙ ap (λ s. over s c.in-Some.start c.first_of_bytes-known.result.now)
          (c.loop-here.invariant.cut ∙ part_same m c.args.from (c.loop-here.here - c.args.from) (c.in-Some.start - c.args.from) (omega arith) (λ q l u. p.3 q (omega arith) (omega arith)))
          ∙ part_more m c.args.from c.in-Some.start c.first_of_bytes-known.result.now (omega arith) held;
    }
