use Rattle.std.proofs.Common.{◌∙◌, ◌+◌, ◌-◌, ◌<◌, length, sym, Some, subst, arith}
use Rattle.std.specs.FinMap.{len}
use Rattle.span_store.specs.ByteMap.{ByteMap, part}
use Rattle.span_store.specs.Walks.{TakesFront}
use Rattle.span_store.proofs.Fronts.{fewer, nothing, stepped}
use Rattle.span_store.proofs.walk.WalkIterator.next.Goals as goal

pub returns-then-self-clause-steps : goal.returns-then-self-clause-steps
returns-then-self-clause-steps c =
    let s = c.self.inside in
    let bare = sym c.self.view_is ∙ nothing s.spans.now s.here s.stop (λ a l u. absurd (omega arith)) in (bare, bare)

pub returns-in_default-clause-steps : goal.returns-in_default-clause-steps
returns-in_default-clause-steps c =
    let s = c.self.inside in
    let bare = sym c.self.view_is ∙ nothing s.spans.now s.here s.stop (λ a l u. c.in_default.ensures a l) in (bare, bare)

pub returns-then-self-start-clause-steps : goal.returns-then-self-start-clause-steps
returns-then-self-start-clause-steps c =
    let s = c.self.inside in
    let p = c.in-Some.ensures in
    let bare = sym c.self.view_is ∙ nothing s.spans.now s.here s.stop (λ a l u. p.3 a l (omega arith)) in (bare, bare)

pub returns-clause-steps : goal.returns-clause-steps
returns-clause-steps c =
    let s = c.self.inside in
    let p = c.in-Some.ensures in
    let known = c.first_of_bytes-known.result.now in
    subst (λ (m : ByteMap). TakesFront m (Some (c.in-Some.start, known)) (part s.spans.now (c.in-Some.start + length known) (s.stop - (c.in-Some.start + length known)))) c.self.view_is
    (stepped s.spans.now s.here s.stop c.in-Some.start c.in-Some.bytes.now known p.0 p.1 p.2 p.3 p.4 c.if-self-start.false c.first_of_bytes-known.ensures)

pub returns-clause-goes : goal.returns-clause-goes
returns-clause-goes c =
    let s = c.self.inside in
    let p = c.in-Some.ensures in
    let known = c.first_of_bytes-known.result.now in
    let rest = part s.spans.now (c.in-Some.start + length known) (s.stop - (c.in-Some.start + length known)) in
    let less = fewer (part s.spans.now s.here (s.stop - s.here)) rest (c.in-Some.start, known)
    (stepped s.spans.now s.here s.stop c.in-Some.start c.in-Some.bytes.now known p.0 p.1 p.2 p.3 p.4 c.if-self-start.false c.first_of_bytes-known.ensures) in
    record {
      on = λ finite. (tt, finite, subst (λ (m : ByteMap). len rest < len m) c.self.view_is less);
      keeps = tt;
      rests = λ finite. tt;
    }
