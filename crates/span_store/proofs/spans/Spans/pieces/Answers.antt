use Rattle.std.proofs.Common.{◌∙◌, subst, None, ◌≡◌, ◌≤◌, ℕ}
use Rattle.std.specs.FinMap.{get}
use Rattle.span_store.specs.ByteMap.{ByteMap, top}
use Rattle.span_store.proofs.Fronts.{all_part}
use Rattle.span_store.proofs.Maps.{beyond}
use Rattle.span_store.proofs.spans.Spans.pieces.Goals as goal

pub returns : goal.returns
returns c =
    c.new.ensures
    ∙ all_part c.args.self.now (subst (λ (m : ByteMap). (a : ℕ) → top ≤ a → get m a ≡ None) c.self.view_is (λ a l. beyond c.self.inside.store.entries a c.self.invariant l))
