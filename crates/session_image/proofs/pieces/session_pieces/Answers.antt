use Rattle.std.proofs.Common.{◌≡◌, ◌∙◌, ◌+◌, ◌<◌, ◌≤◌, ◌++◌, ◌∷◌, ℕ, List, Ok, sym, ap, arith, length, drop, get_or, subst}
use Rattle.std.proofs.lemmas.List.{drop_more}
use Rattle.flash_base.specs.Lists.{Each}
use Rattle.session_image.specs.Files.{block_of, blocks_at}
use Rattle.session_image.specs.Kept.{IsPlaced}
use Rattle.session_image.specs.Pieces.{block_pieces, all_pieces, size_of, size_limit}
use Rattle.session_image.specs.declared.pieces.Piece.{Piece}
use Rattle.session_image.proofs.Joins.{joined, given}
use Rattle.session_image.proofs.Sizes.{as_many, blocks_next, each-append, size_of-append}
use Rattle.session_image.proofs.pieces.session_pieces.Goals as goal

pub overflow_cast-number : goal.overflow_cast-number
overflow_cast-number c =
    let i = c.loop-at.invariant in
    let many = as_many c.loop-at.pieces i.placed in
    let n : c.len-number.result ≡ length c.loop-at.pieces = c.len-number.ensures in
    omega (arith, many, n, i.size, i.limit)

pub block_pieces-requires-clause-limit : goal.block_pieces-requires-clause-limit
block_pieces-requires-clause-limit c =
    let i = c.loop-at.invariant in
    let many = as_many c.loop-at.pieces i.placed in
    let n : c.len-number.result ≡ length c.loop-at.pieces = c.len-number.ensures in
    omega (arith, many, n, i.size)

pub loop-at-preserved : goal.loop-at-preserved
loop-at-preserved c =
    let i = c.loop-at.invariant in
    let m = c.args.mem.now in
    let files = c.args.files.now in
    let fill = c.args.fill in
    let bs : List ℕ = c.args.blocks.now in
    let j : ℕ = c.loop-at.at-index in
    let x : ℕ = get_or bs j 0 in
    let rest : List ℕ = drop (j + 1) bs in
    let step : drop j bs ≡ x ∷ rest = drop_more bs j 0 c.loop-at-test.true in
    let done : List Piece = c.loop-at.pieces in
    let before : ℕ = c.loop-at.size in
    let more : List Piece = c.in_ok-more.more in
    let number : c.len-number.result ≡ length done = c.len-number.ensures in
    let same : c.block_of-block.result.now ≡ block_of m x = c.block_of-block.ensures in
    let ok : block_pieces m files fill (length done) before (block_of m x) ≡ Ok more =
    ap (λ (k : ℕ). block_pieces m files fill k before (block_of m x)) (sym number)
    ∙ ap (block_pieces m files fill c.len-number.result before) (sym same)
    ∙ given c.in_ok-more.ensures.pieces in
    let new : c.append.new.pieces ≡ done ++ more = c.in_ok-size.ensures.pieces in
    let many : c.in_ok-size.field-0 ≡ size_of more = c.in_ok-size.ensures.size in
    let all : size_of c.append.new.pieces ≡ size_of done + size_of more = ap size_of new ∙ size_of-append done more in
    let fits : before + size_of more ≤ size_limit = c.in_ok-more.ensures.limit in
    let one : 1 ≤ size_of more = c.in_ok-more.ensures.some in
    record {
      are =
          blocks_next m files fill (block_of m x) (blocks_at m rest) done more before (all_pieces m files fill 0 0 (blocks_at m bs)) ok
          (i.are ∙ ap (λ (l : List ℕ). joined done (all_pieces m files fill (length done) before (blocks_at m l))) step)
          ∙ ap (λ (l : List Piece). joined l (all_pieces m files fill (length l) (before + size_of more) (blocks_at m rest))) (sym new)
          ∙ ap (λ (k : ℕ). joined c.append.new.pieces (all_pieces m files fill (length c.append.new.pieces) (before + k) (blocks_at m rest))) (sym many);
      size = omega (arith, i.size, all, many);
      limit = omega (arith, many, fits);
      placed = subst (Each IsPlaced) (sym new) (each-append IsPlaced done more i.placed c.in_ok-more.ensures.placed);
      some = λ h. omega (arith, many, one);
      within = (subst (Each (λ i. i < length m.blocks)) step i.within).1;
    }
