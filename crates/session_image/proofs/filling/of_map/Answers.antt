use Rattle.std.proofs.Common.{◌≡◌, ◌∙◌, inl, inr, ap, arith}
use Rattle.std.specs.FinMap.{get, retain_keys}
use Rattle.span_store.specs.ByteMap.{ByteMap, part}
use Rattle.span_store.proofs.Maps.{part_out}
use Rattle.session_image.specs.Content.{is_kept}
use Rattle.session_image.specs.Keeping.{left_of}
use Rattle.session_image.specs.Pieces.{filled}
use Rattle.session_image.proofs.Plain.{part_away, part_look}
use Rattle.session_image.proofs.filling.of_map.Goals as goal

pub new-pieces-requires-clause-behind : goal.new-pieces-requires-clause-behind
new-pieces-requires-clause-behind c = λ a l. ap (λ m. get m a) c.walk-walk.ensures ∙ part_out c.args.spans.now c.args.range.0 c.args.range.1 a (inl (omega arith))

pub of_pieces-requires-clause-low : goal.of_pieces-requires-clause-low
of_pieces-requires-clause-low c = λ a l.
    ap (λ m. get m a) (c.new-pieces.ensures.left ∙ ap (λ (w : ByteMap). retain_keys w (is_kept c.args.filters.now)) c.walk-walk.ensures)
    ∙ part_away c.args.spans.now c.args.filters.now c.args.range.0 c.args.range.1 a (inl l)

pub of_pieces-requires-clause-high : goal.of_pieces-requires-clause-high
of_pieces-requires-clause-high c = λ a l.
    ap (λ m. get m a) (c.new-pieces.ensures.left ∙ ap (λ (w : ByteMap). retain_keys w (is_kept c.args.filters.now)) c.walk-walk.ensures)
    ∙ part_away c.args.spans.now c.args.filters.now c.args.range.0 c.args.range.1 a (inr l)

pub returns : goal.returns
returns c =
    let m = c.args.spans.now in
    let fs = c.args.filters.now in
    let left : left_of c.new-pieces.result ≡ retain_keys (part m c.args.range.0 c.args.range.1) (is_kept fs) = c.new-pieces.ensures.left ∙ ap (λ (w : ByteMap). retain_keys w (is_kept fs)) c.walk-walk.ensures in
    elim c.of_pieces.ensures [
      | inl e ↦ inl e
      | inr e ↦ inr (e ∙ ap (λ (k : ByteMap). filled c.args.number (get k) c.args.fill c.args.range.0 c.args.range.1) left ∙ part_look c.args.number c.args.fill m fs c.args.range.0 c.args.range.1)
    ]
