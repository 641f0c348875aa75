use Rattle.std.proofs.Common.{◌≡◌, ◌≤◌, ◌+◌, ◌-◌, ℕ, min, length, take, inl, inr, arith, sym, subst, length-take}
use Rattle.std.proofs.lemmas.Bool.{cases_lt}
use Rattle.span_store.specs.ByteMap.{Holds}
use Rattle.span_store.proofs.Maps.{held_first, held-append}
use Rattle.span_store.proofs.spans.Spans.fill.Goals as goal

pub loop-done-preserved : goal.loop-done-preserved
loop-done-preserved c =
    let m = c.args.self.now in
    let p = c.in-Some.ensures in
    let here : ℕ = c.args.from + c.loop-done.done in
    let from : here ≤ c.in-Some.start = p.0 in
    let size : length (take c.loop-done.done c.loop-done.out) ≡ min c.loop-done.done (length c.loop-done.out) = length-take c.loop-done.done c.loop-done.out in
    let within = c.loop-done.invariant.within in
    let e : c.in-Some.start ≡ c.args.from + length (take c.loop-done.done c.loop-done.out) = elim (cases_lt here c.in-Some.start) [
      | inl l ↦ absurd (c.requires.there here (omega arith, omega arith, p.3 here (omega arith) l))
      | inr l ↦ omega arith
    ] in
    let place = c.copied-done.ensures.place in
    let held : Holds m (c.args.from + length (take c.loop-done.done c.loop-done.out)) (take (c.copied-done.result - c.loop-done.done) c.in-Some.bytes.now) =
    subst (λ a. Holds m a (take (c.copied-done.result - c.loop-done.done) c.in-Some.bytes.now)) e (held_first m c.in-Some.start (c.copied-done.result - c.loop-done.done) c.in-Some.bytes.now p.4) in
    record {
      within = omega arith;
      filled = subst (Holds m c.args.from) (sym c.copied-done.ensures.copied) (held-append m c.args.from (take c.loop-done.done c.loop-done.out) (take (c.copied-done.result - c.loop-done.done) c.in-Some.bytes.now) c.loop-done.invariant.filled held);
    }
