use Rattle.std.proofs.Common.{◌≡◌, length, ap, ◌∙◌, arith}
use Rattle.std.specs.FinMap.{get}
use Rattle.span_store.specs.ByteMap.{over}
use Rattle.rec_text.proofs.Helds.{still_free}
use Rattle.rec_text.proofs.run.settle.Goals as goal

pub returns-in-Ok-clause-run : goal.returns-in-Ok-clause-run
returns-in-Ok-clause-run c =
    let run = c.args.run.now in
    let none : length c.new.result ≡ 0 = ap length c.new.ensures in
    let size : c.len.result ≡ length run.held = c.len.ensures in
    record {
      within = omega (arith, c.requires.within);
      top = c.requires.top;
      free = λ a l u.
          ap (λ m. get m a) (c.in-Ok.ensures.1 ∙ ap (over run.spans run.start) c.as_slice.ensures)
          ∙ still_free run.spans run.start run.limit run.held c.requires.free a (omega arith) u;
    }
