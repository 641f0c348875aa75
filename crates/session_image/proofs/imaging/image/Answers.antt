use Rattle.std.proofs.Common.{◌≡◌, ◌⊎◌, ◌∙◌, ℕ, List, Result, Err, sym, ap, subst}
use Rattle.std.proofs.lemmas.Result.{err_from_is_err_and}
use Rattle.ecu_mem.specs.declared.types.Block.{Block}
use Rattle.ecu_mem.specs.declared.types.Check.{Check}
use Rattle.session_image.specs.Checks.{all_checked}
use Rattle.session_image.specs.Files.{session_of, blocks_at, blocks_of}
use Rattle.session_image.specs.Images.{own_of, IsSet}
use Rattle.session_image.specs.Pieces.{session_pieces}
use Rattle.session_image.specs.declared.pieces.Piece.{Piece}
use Rattle.session_image.specs.declared.types.Checked.{Checked}
use Rattle.session_image.specs.declared.types.ImageFault.{ImageFault}
use Rattle.session_image.specs.declared.types.ImageFault.TheVariants.{NoMemory}
use Rattle.session_image.proofs.Joins.{given}
use Rattle.session_image.proofs.Replies.{of_pieces, of_checks}
use Rattle.session_image.proofs.Wanted.{wanted_blocks, wanted_checks, blocks_within, checks_within, pieces_are, is_set, is_overlap, is_usable}
use Rattle.session_image.proofs.imaging.image.Goals as goal

pub returns-in_err-pieces-clause-answer : goal.returns-in_err-pieces-clause-answer
returns-in_err-pieces-clause-answer c =
    let m = c.args.mem.now in
    let s : ℕ = c.args.session in
    let p = err_from_is_err_and c.from_residual.result c.from_residual.ensures.1 in
    let e : ImageFault = c.in_err-pieces.field-0.0 in
    let are : blocks_at m c.as_slice-blocks.result.now ≡ blocks_of m s = wanted_blocks m s c.at-wanted.result.now c.as_slice-blocks.result.now c.requires.session c.at-wanted.ensures c.as_slice-blocks.ensures in
    rw (p.1, p.2) (of_pieces m s c.args.files.now c.args.fill e
    (subst (λ (bs : List Block). (◌≡◌ {A = Result (List Piece) ImageFault} (Err e) (Err NoMemory)) ⊎ (Err e ≡ session_pieces m c.args.files.now c.args.fill bs)) are c.in_err-pieces.ensures.pieces))

pub returns-in-Some-clause-answer : goal.returns-in-Some-clause-answer
returns-in-Some-clause-answer c =
    let m = c.args.mem.now in
    let s : ℕ = c.args.session in
    let ps : List Piece = c.in_ok-pieces.pieces in
    let are : blocks_at m c.as_slice-blocks.result.now ≡ blocks_of m s = wanted_blocks m s c.at-wanted.result.now c.as_slice-blocks.result.now c.requires.session c.at-wanted.ensures c.as_slice-blocks.ensures in
    is_overlap m s c.args.files.now c.args.fill ps c.as_slice.result.now c.in_ok-at.field-0 c.in-Some.at
    (pieces_are m s c.args.files.now c.args.fill ps c.as_slice-blocks.result.now are c.in_ok-pieces.ensures.pieces)
    c.as_slice.ensures c.in-Some.is c.in_ok-at.ensures

pub all_checked-requires-clause-checks : goal.all_checked-requires-clause-checks
all_checked-requires-clause-checks c = checks_within c.args.mem.now c.args.session c.at-wanted.result.now c.as_slice-3.result.now c.requires.whole c.requires.session c.at-wanted.ensures c.as_slice-3.ensures

pub returns-in_err-checks-clause-answer : goal.returns-in_err-checks-clause-answer
returns-in_err-checks-clause-answer c =
    let m = c.args.mem.now in
    let s : ℕ = c.args.session in
    let ps : List Piece = c.in_ok-pieces.pieces in
    let p = err_from_is_err_and c.from_residual-in_err-checks.result c.from_residual-in_err-checks.ensures.1 in
    let e : ImageFault = c.in_err-checks.field-0.0 in
    let are : blocks_at m c.as_slice-blocks.result.now ≡ blocks_of m s = wanted_blocks m s c.at-wanted.result.now c.as_slice-blocks.result.now c.requires.session c.at-wanted.ensures c.as_slice-blocks.ensures in
    let set : IsSet m s c.args.files.now c.args.fill ps =
    is_set m s c.args.files.now c.args.fill ps c.as_slice.result.now c.in_ok-at.field-0 (pieces_are m s c.args.files.now c.args.fill ps c.as_slice-blocks.result.now are c.in_ok-pieces.ensures.pieces)
    c.as_slice.ensures c.in_default.is c.in_ok-at.ensures in
    let checks : c.as_slice-3.result.now ≡ (session_of m s).checks = wanted_checks m s c.at-wanted.result.now c.as_slice-3.result.now c.requires.session c.at-wanted.ensures c.as_slice-3.ensures in
    rw (p.1, p.2) (of_checks m s c.args.files.now c.args.fill ps e set
    (subst (λ (cs : List Check). (◌≡◌ {A = Result (List Checked) ImageFault} (Err e) (Err NoMemory)) ⊎ (Err e ≡ all_checked ps cs)) checks
    (subst (λ (qs : List Piece). (◌≡◌ {A = Result (List Checked) ImageFault} (Err e) (Err NoMemory)) ⊎ (Err e ≡ all_checked qs c.as_slice-3.result.now)) c.as_slice-2.ensures c.in_err-checks.ensures)))

pub own_of-requires : goal.own_of-requires
own_of-requires c = blocks_within c.args.mem.now c.args.session c.at-wanted.result.now c.as_slice-blocks.result.now c.requires.whole c.requires.session c.at-wanted.ensures c.as_slice-blocks.ensures

pub returns-clause-answer : goal.returns-clause-answer
returns-clause-answer c =
    let m = c.args.mem.now in
    let s : ℕ = c.args.session in
    let ps : List Piece = c.in_ok-pieces.pieces in
    let are : blocks_at m c.as_slice-blocks.result.now ≡ blocks_of m s = wanted_blocks m s c.at-wanted.result.now c.as_slice-blocks.result.now c.requires.session c.at-wanted.ensures c.as_slice-blocks.ensures in
    let checks : c.as_slice-3.result.now ≡ (session_of m s).checks = wanted_checks m s c.at-wanted.result.now c.as_slice-3.result.now c.requires.session c.at-wanted.ensures c.as_slice-3.ensures in
    record {
      pieces = ps;
      set =
          is_set m s c.args.files.now c.args.fill ps c.as_slice.result.now c.in_ok-at.field-0 (pieces_are m s c.args.files.now c.args.fill ps c.as_slice-blocks.result.now are c.in_ok-pieces.ensures.pieces)
          c.as_slice.ensures c.in_default.is c.in_ok-at.ensures;
      segments = c.in_ok-segments.ensures;
      checks = ap (all_checked ps) (sym checks) ∙ ap (λ (qs : List Piece). all_checked qs c.as_slice-3.result.now) (sym c.as_slice-2.ensures) ∙ given c.in_ok-checks.ensures;
      own = c.in_ok-own.ensures ∙ ap own_of are;
    }

pub returns-clause-usable : goal.returns-clause-usable
returns-clause-usable c =
    let m = c.args.mem.now in
    let s : ℕ = c.args.session in
    let ps : List Piece = c.in_ok-pieces.pieces in
    let bs : List ℕ = c.as_slice-blocks.result.now in
    let are : blocks_at m c.as_slice-blocks.result.now ≡ blocks_of m s = wanted_blocks m s c.at-wanted.result.now c.as_slice-blocks.result.now c.requires.session c.at-wanted.ensures c.as_slice-blocks.ensures in
    let set : IsSet m s c.args.files.now c.args.fill ps =
    is_set m s c.args.files.now c.args.fill ps c.as_slice.result.now c.in_ok-at.field-0 (pieces_are m s c.args.files.now c.args.fill ps c.as_slice-blocks.result.now are c.in_ok-pieces.ensures.pieces)
    c.as_slice.ensures c.in_default.is c.in_ok-at.ensures in
    is_usable m _ ps bs c.requires.whole (blocks_within m s c.at-wanted.result.now bs c.requires.whole c.requires.session c.at-wanted.ensures c.as_slice-blocks.ensures)
    c.in_ok-pieces.ensures.placed c.in_ok-pieces.ensures.some set.apart c.in_ok-segments.ensures c.in_ok-own.ensures
