use Rattle.std.proofs.Common.{◌≡◌, ◌∙◌, inl, inr, ap, arith}
use Rattle.std.specs.Ordering.{nat_cmp}
use Rattle.std.specs.FinMap.{empty, get, get-empty, retain_keys}
use Rattle.span_store.specs.ByteMap.{ByteMap, over}
use Rattle.session_image.specs.Content.{is_kept}
use Rattle.session_image.specs.Keeping.{left_of}
use Rattle.session_image.specs.Pieces.{filled}
use Rattle.session_image.proofs.Plain.{bytes_away, bytes_look}
use Rattle.session_image.proofs.filling.of_bytes.Goals as goal

pub new-pieces-requires-clause-behind : goal.new-pieces-requires-clause-behind
new-pieces-requires-clause-behind c = λ a l. ap (λ m. get m a) (c.pieces.ensures ∙ c.new-none.ensures) ∙ get-empty nat_cmp a

pub of_pieces-requires-clause-low : goal.of_pieces-requires-clause-low
of_pieces-requires-clause-low c = λ a l.
    ap (λ m. get m a) (c.new-pieces.ensures.left ∙ ap (λ (w : ByteMap). retain_keys (over w c.args.range.0 c.args.bytes.now) (is_kept c.args.filters.now)) (c.pieces.ensures ∙ c.new-none.ensures))
    ∙ bytes_away c.args.filters.now c.args.range.0 a c.args.bytes.now (inl l)

pub of_pieces-requires-clause-high : goal.of_pieces-requires-clause-high
of_pieces-requires-clause-high c = λ a l.
    ap (λ m. get m a) (c.new-pieces.ensures.left ∙ ap (λ (w : ByteMap). retain_keys (over w c.args.range.0 c.args.bytes.now) (is_kept c.args.filters.now)) (c.pieces.ensures ∙ c.new-none.ensures))
    ∙ bytes_away c.args.filters.now c.args.range.0 a c.args.bytes.now (inr (omega (arith, c.requires.size, l)))

pub returns : goal.returns
returns c =
    let fs = c.args.filters.now in
    let left : left_of c.new-pieces.result ≡ retain_keys (over empty c.args.range.0 c.args.bytes.now) (is_kept fs) =
    c.new-pieces.ensures.left ∙ ap (λ (w : ByteMap). retain_keys (over w c.args.range.0 c.args.bytes.now) (is_kept fs)) (c.pieces.ensures ∙ c.new-none.ensures) in
    elim c.of_pieces.ensures [
      | inl e ↦ inl e
      | inr e ↦ inr (e ∙ ap (λ (k : ByteMap). filled c.args.number (get k) c.args.fill c.args.range.0 c.args.range.1) left ∙ bytes_look c.args.number c.args.fill fs c.args.range.0 c.args.range.1 c.args.bytes.now c.requires.size)
    ]
