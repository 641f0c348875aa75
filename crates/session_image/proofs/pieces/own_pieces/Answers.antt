use Rattle.std.proofs.Common.{◌≡◌, ◌≤◌, List, length, arith, sym, subst, vec_len}
use Rattle.std.proofs.lemmas.Result.{IfOk-weaker}
use Rattle.flash_base.specs.Lists.{Each}
use Rattle.ecu_mem.specs.Bounds.{IsRange}
use Rattle.session_image.specs.Kept.{sizes}
use Rattle.session_image.specs.Pieces.{size_of, total}
use Rattle.session_image.specs.declared.pieces.Piece.{Piece}
use Rattle.session_image.proofs.Outcomes.{not_empty, some_total}
use Rattle.session_image.proofs.pieces.own_pieces.Goals as goal

pub returns-clause-some : goal.returns-clause-some
returns-clause-some c =
    let rs = c.as_slice-ranges.result.now in
    let n : 1 ≤ vec_len c.in_ok-ranges.ranges = not_empty (vec_len c.in_ok-ranges.ranges) c.is_empty.result c.is_empty.ensures c.if-is_empty.false in
    let many : length rs ≡ vec_len c.in_ok-ranges.ranges = c.as_slice-ranges.ensures.len in
    let within : Each IsRange rs = subst (Each IsRange) (sym c.as_slice-ranges.ensures.value) c.in_ok-ranges.ensures.within in
    let all : 1 ≤ total rs = some_total rs (omega (arith, n, many)) within in
    let same : sizes c.in_ok-bodies.bodies ≡ total rs = c.in_ok-bodies.ensures.sizes in
    IfOk-weaker c.moved.result (λ (ps : List Piece). size_of ps ≡ sizes c.in_ok-bodies.bodies) (λ (ps : List Piece). 1 ≤ size_of ps) (λ ps e. omega (arith, e, same, all)) c.moved.ensures.size
