use Rattle.std.proofs.Common.{◌≡◌, ℕ, List, true, ap, sym, subst, ◌∙◌}
use Rattle.bay_core.proofs.Allowed.{CollectedFacts, collected_facts}
use Rattle.bay_core.specs.Core.{addresses_of, with_slot, with_talk}
use Rattle.bay_core.specs.declared.event.Heard.TheVariants.{Piece}
use Rattle.flash_plan.specs.declared.unit.UnitPlan.{UnitPlan}
use Rattle.flash_plan.specs.Plan.{plan_of}
use Rattle.link_state.specs.State.{Shows, IsOf, emptied_link}
use Rattle.run_model.proofs.Sees.{piece_ticks}
use Rattle.run_model.specs.Link.{Link, hear_piece, is_open, take_message, first_message}
use Rattle.run_model.specs.Talk.{Talk, talk_takes}
use Rattle.bay_replay.specs.Held.{Told, HoldsBody, told_emptied}
use Rattle.bay_replay.specs.Hears.{told_heard}
use Rattle.bay_replay.proofs.Bodies.{link_body, labels_kept}
use Rattle.bay_replay.proofs.Lists.{on_err}
use Rattle.bay_replay.proofs.state.Core.collect_piece.Goals as goal
use Rattle.run_model.proofs.Phases.{up_open}

pub hear-requires : goal.hear-requires
hear-requires g c =
    let f : CollectedFacts c.args.plan.now g.told.core c.args.unit (Piece c.args.bytes.now) = collected_facts c.args.plan.now g.told.core c.args.unit (Piece c.args.bytes.now) c.requires.1 in
    let slot = c.requires.0.body.slots c.args.unit f.below in
    record { within = f.below; size = c.requires.0.body.units; fits = slot.fits; waits = ap (λ (t : Talk). t.awaiting) slot.talk ∙ f.awaiting }

pub returns-clause-ok : goal.returns-clause-ok
returns-clause-ok g c =
    let P : List UnitPlan = c.args.plan.now in
    let u : ℕ = c.args.unit in
    let l : Link = g.told.core.link in
    let f : CollectedFacts P g.told.core u (Piece c.args.bytes.now) = collected_facts P g.told.core u (Piece c.args.bytes.now) c.requires.1 in
    let labels : IsOf g.told.rules.tester (addresses_of P) c.args.self.now.link = c.requires.0.body.labels in
    let m : Link = hear_piece g.told.rules.tester (addresses_of P) c.args.bytes.now l in
    let shows : Shows c.piece.new.self m =
    subst (Shows c.piece.new.self) (λ i. hear_piece (labels.tester_is i) (labels.units_are i) (c.as_slice.ensures i) l) (c.in_ok-piece.ensures.shows l (up_open l.phase f.up) c.requires.0.body.link) in
    let mid : Told = record g.told { core = record g.told.core { link = m } } in
    let body : HoldsBody P (record c.args.self.now { link = c.piece.new.self }) mid =
    link_body P c.args.self.now g.told c.piece.new.self m c.requires.0.body shows (labels_kept g.told.rules.tester (addresses_of P) c.args.self.now.link c.piece.new.self c.piece.ensures.of labels) in
    subst (λ (n : ℕ). HoldsBody P c.hear.new.self (record g.told {
      core = record g.told.core {
        link = take_message (plan_of P u).address m;
        slots = with_slot u (with_talk (talk_takes (plan_of P u) n (first_message (plan_of P u).address m.inbox)) (g.told.core.slots u)) g.told.core.slots;
      };
    })) (piece_ticks g.told.rules.tester (addresses_of P) c.args.bytes.now l) (c.hear.ensures mid body f.claimed)

pub returns-in_err-piece-clause-err : goal.returns-in_err-piece-clause-err
returns-in_err-piece-clause-err g c =
    let P : List UnitPlan = c.args.plan.now in
    let labels : IsOf g.told.rules.tester (addresses_of P) c.args.self.now.link = c.requires.0.body.labels in
    let body : HoldsBody P (record c.args.self.now { link = c.piece.new.self }) (told_emptied g.told) =
    link_body P c.args.self.now g.told c.piece.new.self (emptied_link g.told.core.link) c.requires.0.body (c.in_err-piece.ensures.wants g.told.core.link c.requires.0.body.link)
    (labels_kept g.told.rules.tester (addresses_of P) c.args.self.now.link c.piece.new.self c.piece.ensures.of labels) in
    on_err c.from_residual.result _ body
