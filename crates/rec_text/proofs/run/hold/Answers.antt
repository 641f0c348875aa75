use Rattle.std.proofs.Common.{Ok, sym, ap, ◌∙◌}
use Rattle.span_store.specs.ByteMap.{over}
use Rattle.rec_text.proofs.Helds.{held_more}
use Rattle.rec_text.proofs.run.hold.Goals as goal

pub returns-in-Ok-clause-puts : goal.returns-in-Ok-clause-puts
returns-in-Ok-clause-puts c =
    let run = c.args.run.now in
    held_more run.spans run.start run.limit run.held c.args.bytes.now c.requires.room c.requires.run.free
    ∙ ap (λ h. Ok (over run.spans run.start h)) (sym c.in-Ok.ensures.ok)
