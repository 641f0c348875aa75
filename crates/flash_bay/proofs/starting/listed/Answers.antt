use Rattle.std.proofs.Common.{List, ap, ◌∙◌, arith}
use Rattle.barrier_board.specs.Board.{has_entry as is_found}
use Rattle.flash_bay.proofs.Found.{all_below, no_more, none_below}
use Rattle.flash_journal.specs.Kept.{has_entry}
use Rattle.flash_plan.specs.declared.outcome.Entry.{Entry}
use Rattle.flash_bay.proofs.starting.listed.Goals as goal

pub loop-unit-init : goal.loop-unit-init
loop-unit-init c = λ x. ap (λ (l : List Entry). is_found l x) c.new-all.ensures ∙ none_below (has_entry c.args.journal.now) x

pub list_unit-requires-clause-past : goal.list_unit-requires-clause-past
list_unit-requires-clause-past c =
    no_more c.args.journal.now c.args.plan.now c.loop-unit.unit c.segment_count-segments.result c.requires (omega (arith, c.loop-unit-test.true, c.units-unit-end.ensures)) c.segment_count-segments.ensures

pub list_unit-requires-clause-so_far : goal.list_unit-requires-clause-so_far
list_unit-requires-clause-so_far c = c.loop-unit.invariant

pub loop-unit-preserved : goal.loop-unit-preserved
loop-unit-preserved c = c.in_ok-list_unit.ensures

pub returns : goal.returns
returns c = λ x. c.loop-unit.invariant x ∙ all_below c.args.journal.now c.args.plan.now c.loop-unit.unit x c.requires (omega (arith, c.loop-unit-test.false, c.units-unit-end.ensures))
