use Rattle.std.proofs.Common.{◌+◌, ◌-◌, ℕ, List, length, sym, subst, ◌∙◌, arith}
use Rattle.flash_plan.specs.Plan.{segment_of}
use Rattle.unit_session.proofs.Leads.{block_leads, body_small}
use Rattle.unit_session.proofs.onward.block.Goals as goal
use Rattle.unit_session.specs.Onward.{LeadsTo, blocks_from}
use Rattle.unit_session.specs.declared.stage.Stage.{Stage}
use Rattle.unit_session.specs.declared.stage.Stage.TheVariants.{Block}

pub overflow_add-sent : goal.overflow_add-sent
overflow_add-sent c = omega (arith, body_small c.args.unit.now c.args.segment c.requires.accepted, c.requires.stage.within, c.requires.stage.high)

pub returns : goal.returns
returns c = λ marks rest. subst (λ (s : Stage). LeadsTo c.args.unit.now marks (Block c.args.segment c.args.sent c.args.counter c.args.limit) rest s)
    (sym (c.blocks-2.ensures ∙ (λ i. blocks_from (length (segment_of c.args.unit.now c.args.segment).body) c.args.segment (c.args.sent + (c.from-more.ensures i - 2)) (c.counted.ensures i) c.args.limit)))
    (block_leads c.args.unit.now marks c.args.segment c.args.sent c.args.counter c.args.limit rest c.requires.stage)
