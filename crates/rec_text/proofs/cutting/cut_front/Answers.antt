use Rattle.std.proofs.Common.{◌≡◌, ℕ, ◌+◌, ◌-◌, ◌⊎◌, min, length, take, sym, inl, inr, arith, subst, length-take}
use Rattle.std.proofs.lemmas.Bool.{cases_lt}
use Rattle.span_store.specs.ByteMap.{Holds}
use Rattle.span_store.proofs.Maps.{held_first, held-append}
use Rattle.rec_text.proofs.Cuts.{cut_here, some_here}
use Rattle.rec_text.proofs.cutting.cut_front.Goals as goal

pub returns-in_default-clause-cut : goal.returns-in_default-clause-cut
returns-in_default-clause-cut c =
    let none = c.in_default.ensures in
    let most = c.min-most.ensures in
    let small = c.loop-n.invariant.small in
    cut_here c.args.room c.args.spans.now c.args.at c.loop-n.n c.loop-n.line c.loop-n.invariant.stored (some_here c.args.spans.now c.args.at c.loop-n.n c.requires.first none) (omega arith) (omega arith) c.loop-n.invariant.within (inr (inr none))

pub loop-n-preserved : goal.loop-n-preserved
loop-n-preserved c =
    let some = c.in-Some.ensures.0 in
    let within = c.in-Some.ensures.1 in
    let place = c.copied-n.ensures.place in
    let stored = c.copied-n.ensures.stored in
    let n : ℕ = c.loop-n.n in
    let small = c.loop-n.invariant.small in
    let front = c.loop-n.invariant.stored in
    let size : length (take n c.loop-n.line) ≡ min n (length c.loop-n.line) = length-take n c.loop-n.line in
    let same : n ≡ length (take n c.loop-n.line) = omega arith in
    record {
      small = omega arith;
      stored = omega arith;
      within = omega arith;
      held = subst (Holds c.args.spans.now c.args.at) (sym c.copied-n.ensures.copied)
          (held-append c.args.spans.now c.args.at (take n c.loop-n.line) (take (c.copied-n.result - n) c.in-Some.bytes.now) c.loop-n.invariant.held
          (subst (λ k. Holds c.args.spans.now (c.args.at + k) (take (c.copied-n.result - n) c.in-Some.bytes.now)) same (held_first c.args.spans.now (c.args.at + n) (c.copied-n.result - n) c.in-Some.bytes.now c.in-Some.ensures.2)));
    }

pub returns-clause-cut : goal.returns-clause-cut
returns-clause-cut c =
    let most = c.min-most.ensures in
    let small = c.loop-n.invariant.small in
    let test = c.loop-n-test.false in
    let room = c.requires.room in
    let which : (c.loop-n.n ≡ 16) ⊎ (c.loop-n.n ≡ c.args.room) = elim (cases_lt c.args.room 16) [
      | inl l ↦ inr (omega arith)
      | inr l ↦ inl (omega arith)
    ] in
    cut_here c.args.room c.args.spans.now c.args.at c.loop-n.n c.loop-n.line c.loop-n.invariant.stored (omega arith) (omega arith) (omega arith) c.loop-n.invariant.within
    (elim which [ inl a ↦ inl a | inr b ↦ inr (inl b) ])
