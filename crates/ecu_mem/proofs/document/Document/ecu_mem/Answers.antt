use Rattle.std.proofs.Common.{◌≡◌, sym}
use Rattle.std.specs.Prelude.{⊤}
use Rattle.std.proofs.lemmas.Result.{IfOk-weaker}
use Rattle.ecu_mem.specs.Refusals.{Reading, in_kid}
use Rattle.ecu_mem.specs.Catalogue.{with_ecu_mem}
use Rattle.ecu_mem.specs.Index.{after, entries_in}
use Rattle.ecu_mem.proofs.Walk.{mem-read}
use Rattle.ecu_mem.proofs.document.Document.ecu_mem.Goals as goal

pub returns-in_ok-mem-in-Some-clause-value : goal.returns-in_ok-mem-in-Some-clause-value
returns-in_ok-mem-in-Some-clause-value c =
    IfOk-weaker c.in_kid.result (λ (r : Reading ⊤). r ≡ in_kid c.in-Some.i c.in_ok-mem-in-Some.field-0) (λ (r : Reading ⊤). after r (entries_in c.mem.new.self) ≡ with_ecu_mem c.args.element.now (entries_in c.args.self.now))
    (λ r h. mem-read c.args.element.now c.in-Some.i c.in-Some.mem.now (entries_in c.args.self.now) (entries_in c.mem.new.self) c.in_ok-mem-in-Some.field-0 r (sym c.in-Some.ensures) c.in_ok-mem-in-Some.ensures.value h)
    c.in_kid.ensures
