use Rattle.std.proofs.Common.{◌≡◌, inl, inr, arith, subst}
use Rattle.std.proofs.lemmas.Bool.{cases_lt}
use Rattle.span_store.specs.ByteMap.{Holds}
use Rattle.span_store.proofs.Maps.{held_some}
use Rattle.span_store.proofs.spans.Spans.hole_in.Goals as goal

pub loop-here-preserved : goal.loop-here-preserved
loop-here-preserved c =
    let p = c.in-Some.ensures in
    let e : c.in-Some.start ≡ c.loop-here.here = c.if-start-here.true in
    let held : Holds c.args.self.now c.loop-here.here c.in-Some.bytes.now = subst (λ a. Holds c.args.self.now a c.in-Some.bytes.now) e p.4 in
    record {
      from = (let f = c.loop-here.invariant.from in omega arith);
      within = (let f = p.2 in omega arith);
      there = λ a l u. elim (cases_lt a c.loop-here.here) [
        | inl b ↦ c.loop-here.invariant.there a l b
        | inr b ↦ held_some c.args.self.now c.loop-here.here c.in-Some.bytes.now held a b u
      ];
    }
