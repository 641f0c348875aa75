use Rattle.std.proofs.Common.{◌≡◌, ◌∙◌, inl, inr, sym, ap, Ok}
use Rattle.session_image.specs.Content.{content}
use Rattle.session_image.specs.Files.{flash_of}
use Rattle.session_image.proofs.Joins.{given}
use Rattle.session_image.proofs.Outcomes.{of_block}
use Rattle.session_image.proofs.pieces.block_pieces.Goals as goal

pub returns-clause-pieces : goal.returns-clause-pieces
returns-clause-pieces c =
    let m = c.args.mem.now in
    let files = c.args.files.now in
    let b = c.args.block.now in
    let read : content files (flash_of m b) ≡ Ok c.in_ok-content.content = ap (content files) (sym c.flash_of.ensures) ∙ given c.in_ok-content.ensures in
    elim c.own_pieces.ensures.pieces [
      | inl e ↦ inl e
      | inr e ↦ inr (e ∙ sym (of_block m files c.args.fill c.args.number c.args.size b c.in_ok-content.content read))
    ]
