use Rattle.std.proofs.Common.{◌≡◌, ◌∙◌, ◌+◌, ◌++◌, [], ◌∷◌, sym, ap, arith, append_assoc, length}
use Rattle.std.specs.Vec.Iter.{into_iter_items}
use Rattle.session_image.specs.Pieces.{size_of}
use Rattle.session_image.proofs.pieces.append.Goals as goal

pub loop-piece-preserved : goal.loop-piece-preserved
loop-piece-preserved c =
    let i = c.loop-piece.invariant in
    let p = c.in-Some.piece in
    let rest = into_iter_items c.next.new.self in
    let cut : into_iter_items c.loop-piece.rest ≡ p ∷ rest = c.in-Some.ensures.items in
    let all : size_of (into_iter_items c.loop-piece.rest) ≡ length p.body + size_of rest = ap size_of cut in
    let size : c.len.result ≡ length p.body = c.len.ensures in
    record {
      pieces = ap (λ l. l ++ rest) c.in_ok-push.ensures.ok ∙ append_assoc c.loop-piece.pieces (p ∷ []) rest ∙ ap (λ l. c.loop-piece.pieces ++ l) (sym cut) ∙ i.pieces;
      size = omega (arith, all, size, i.size);
    }
