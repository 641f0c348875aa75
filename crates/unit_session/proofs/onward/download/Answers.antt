use Rattle.std.proofs.Common.{sym, subst, ◌∙◌}
use Rattle.unit_session.proofs.Forms.{cap_is}
use Rattle.unit_session.proofs.Leads.{download_leads}
use Rattle.unit_session.proofs.onward.download.Goals as goal
use Rattle.unit_session.specs.Onward.{LeadsTo}
use Rattle.unit_session.specs.declared.stage.Stage.{Stage}
use Rattle.unit_session.specs.declared.stage.Stage.TheVariants.{Download}

pub returns : goal.returns
returns c = λ marks. subst (λ (s : Stage). LeadsTo c.args.unit.now marks (Download c.args.segment) c.args.number.now s) (sym c.blocks-2.ensures)
    (download_leads c.args.unit.now marks c.args.segment c.capped.result c.args.number.now c.requires.within c.requires.form (c.capped.ensures ∙ cap_is c.args.number.now))
