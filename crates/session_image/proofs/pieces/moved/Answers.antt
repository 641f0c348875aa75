use Rattle.std.proofs.Common.{◌≡◌, ◌∙◌, ◌+◌, ◌≤◌, ◌++◌, ℕ, [], ◌∷◌, false, sym, ap, arith, length, subst}
use Rattle.std.specs.Vec.Iter.{into_iter_items}
use Rattle.flash_base.specs.Lists.{Each}
use Rattle.session_image.specs.Kept.{IsPlaced, IsWithin, sizes}
use Rattle.session_image.specs.Pieces.{is_outside, target_of, moved, size_of}
use Rattle.session_image.specs.declared.pieces.Piece.{Piece}
use Rattle.session_image.proofs.Begins.{one_moved, moved_begins, moved_inside, placed_one}
use Rattle.session_image.proofs.Joins.{joined, next}
use Rattle.session_image.proofs.Sizes.{each_pushed, size_of_pushed}
use Rattle.session_image.proofs.pieces.moved.Goals as goal

pub loop-piece-preserved : goal.loop-piece-preserved
loop-piece-preserved c =
    let i = c.loop-piece.invariant in
    let b = c.args.block.now in
    let n : ℕ = c.loop-piece.number in
    let p = c.in-Some.piece in
    let rest = into_iter_items c.next.new.self in
    let all = into_iter_items c.into_iter-rest.result in
    let cut : into_iter_items c.loop-piece.rest ≡ p ∷ rest = c.in-Some.ensures.items in
    let y : Piece = record { source = p.0; target = target_of b p.0; body = p.1 } in
    let inside : is_outside b p.0 (length p.1) ≡ false = ap (is_outside b p.0) (sym c.len-size.ensures) ∙ sym c.is_outside.ensures ∙ c.if-is_outside.false in
    let pushed : c.push.new.self ≡ c.loop-piece.pieces ++ y ∷ [] =
    c.in_ok-push.ensures.ok ∙ ap (λ (t : ℕ). c.loop-piece.pieces ++ record { source = p.0; target = t; body = p.1 } ∷ []) c.target_of.ensures in
    let each : Each IsWithin (p ∷ rest) = subst (Each IsWithin) cut i.within in
    let most : 1 ≤ length p.1 = each.0.0 in
    let size : sizes (into_iter_items c.loop-piece.rest) ≡ length p.1 + sizes rest = ap sizes cut in
    let more : size_of c.push.new.self ≡ size_of c.loop-piece.pieces + length p.1 = size_of_pushed c.loop-piece.pieces c.push.new.self y pushed in
    record {
      are = next (moved b n) (moved b (n + 1)) p (one_moved b n p) rest y c.loop-piece.pieces c.push.new.self (moved b c.args.first all) (moved_begins b n p) (moved_inside b n p inside) pushed
          (i.are ∙ ap (λ l. joined c.loop-piece.pieces (moved b n l)) cut);
      within = each.1;
      limit = omega (arith, size, i.limit, most);
      placed = each_pushed IsPlaced c.loop-piece.pieces c.push.new.self y pushed i.placed (placed_one b p each.0 inside);
      size = omega (arith, size, i.size, more);
    }
