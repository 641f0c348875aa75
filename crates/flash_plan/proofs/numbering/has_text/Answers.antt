use Rattle.std.proofs.Common.{bytes_eq, List, ℕ, arith}
use Rattle.flash_plan.specs.Numbering.{has_text}
use Rattle.flash_plan.proofs.Tasks.{any_on, any_found, item_read}
use Rattle.flash_plan.proofs.numbering.has_text.Goals as goal

pub returns-then-is_text : goal.returns-then-is_text
returns-then-is_text c =
    any_found (has_text c.args.names.now c.args.text.now) (λ (name : List ℕ). bytes_eq name c.args.text.now) c.args.names.now c.loop-i.i c.at.result.now c.is_text.result
    c.loop-i.invariant (omega (arith, c.loop-i-test.true, c.len-i-end.ensures)) (item_read c.args.names.now c.loop-i.i c.at.result.now c.at.ensures) c.is_text.ensures c.if-is_text.true

pub loop-i-preserved : goal.loop-i-preserved
loop-i-preserved c =
    any_on (has_text c.args.names.now c.args.text.now) (λ (name : List ℕ). bytes_eq name c.args.text.now) c.args.names.now c.loop-i.i c.at.result.now c.is_text.result
    c.loop-i.invariant (omega (arith, c.loop-i-test.true, c.len-i-end.ensures)) (item_read c.args.names.now c.loop-i.i c.at.result.now c.at.ensures) c.is_text.ensures c.if-is_text.false
