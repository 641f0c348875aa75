use Rattle.std.proofs.Common.{◌∙◌, sym, true, false}
use Rattle.session_image.proofs.Among.{told, at_name}
use Rattle.session_image.proofs.files.is_among.Goals as goal

pub returns-then-is : goal.returns-then-is
returns-then-is c =
    sym (c.loop-i.invariant ∙ at_name c.args.name.now c.args.names.now c.loop-i.i c.at.result.now true c.at.ensures
    (told c.at.result.now c.as_str.result.now c.args.name.now c.is.result true c.is.ensures.same c.as_str.ensures c.if-is.true))

pub loop-i-preserved : goal.loop-i-preserved
loop-i-preserved c =
    c.loop-i.invariant ∙ at_name c.args.name.now c.args.names.now c.loop-i.i c.at.result.now false c.at.ensures
    (told c.at.result.now c.as_str.result.now c.args.name.now c.is.result false c.is.ensures.same c.as_str.ensures c.if-is.false)
