use Rattle.std.proofs.Common.{◌≡◌, ◌∙◌, sym}
use Rattle.ecu_mem.specs.Index.{entries_in, after}
use Rattle.ecu_mem.proofs.Walk.{place-went, place-stopped}
use Rattle.ecu_mem.proofs.Telling.{kid-told, told-after, ecu_mem-right}
use Rattle.std.specs.Prelude.{⊤}
use Rattle.std.proofs.lemmas.Result.{IfOk-weaker}
use Rattle.ecu_mem.specs.Refusals.{Reading}
use Rattle.ecu_mem.specs.Catalogue.{with_ecu_mem}
use Rattle.ecu_mem.specs.Truths.{IsRight}
use Rattle.ecu_mem.proofs.document.Document.+read.Goals as goal

pub returns-in-Err-clause-value : goal.returns-in-Err-clause-value
returns-in-Err-clause-value t c =
    sym (c.loop-i.invariant.value
    ∙ place-stopped c.args.element.now c.as_slice-kid-items.result.now c.loop-i.i c.kid-item.result (entries_in c.loop-i.self) (entries_in c.read.new.self) c.in_ok-read.field-0 c.in-Err.refusal
    c.as_slice-kid-items.ensures c.loop-i-test.true c.kid-item.is c.in_ok-read.ensures.value (sym c.in-Err.is ∙ c.in_ok-in_kid.ensures))

pub loop-i-preserved : goal.loop-i-preserved
loop-i-preserved t c = record {
  value = c.loop-i.invariant.value
      ∙ place-went c.args.element.now c.as_slice-kid-items.result.now c.loop-i.i c.kid-item.result (entries_in c.loop-i.self) (entries_in c.read.new.self) c.in_ok-read.field-0
      c.as_slice-kid-items.ensures c.loop-i-test.true c.kid-item.is c.in_ok-read.ensures.value (sym c.in-Ok.is ∙ c.in_ok-in_kid.ensures);
  indexed = c.in_ok-read.ensures.indexed;
}

pub returns-in-Err-clause-told : goal.returns-in-Err-clause-told
returns-in-Err-clause-told t c =
    kid-told c.args.element.now c.as_slice-kid-items.result.now c.loop-i.i c.kid-item.result c.in_ok-read.field-0 c.in-Err.refusal
    c.as_slice-kid-items.ensures c.loop-i-test.true c.kid-item.is c.in_ok-read.ensures.told (sym c.in-Err.is ∙ c.in_ok-in_kid.ensures)

pub returns-then-is-clause-told : goal.returns-then-is-clause-told
returns-then-is-clause-told t c =
    IfOk-weaker c.ecu_mem.result (λ (r : Reading ⊤). after r (entries_in c.ecu_mem.new.self) ≡ with_ecu_mem c.args.element.now (entries_in c.args.self.now)) (λ (r : Reading ⊤). IsRight c.args.element.now r)
    (λ r h. told-after c.args.element.now r (entries_in c.ecu_mem.new.self) (with_ecu_mem c.args.element.now (entries_in c.args.self.now)) h (ecu_mem-right c.args.element.now (entries_in c.args.self.now))) c.ecu_mem.ensures.value
