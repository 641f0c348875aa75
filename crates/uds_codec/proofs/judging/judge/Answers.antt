use Rattle.std.proofs.Common.{sym, ◌∙◌, ap}
use Rattle.uds_codec.specs.Awaited.{judged}
use Rattle.uds_codec.specs.declared.judging.Awaited.{Awaited}
use Rattle.uds_codec.proofs.Judged.{judged_by}
use Rattle.uds_codec.proofs.judging.judge.Goals as goal

pub returns-clause-answer : goal.returns-clause-answer
returns-clause-answer c = λ request r e same.
    judged_by request r c.args.reply.now e ∙ ap (λ (a : Awaited). judged a c.args.reply.now) same ∙ sym c.found.ensures
