use denote.Param.Send.{param_send}
use mir.Syntax.{erased}
use Rattle.bay_core.specs.contracts.event.Event as event
use Rattle.flash_bay.specs.contracts.bay.Opening as opening
use Rattle.flash_plan.proofs.plan.Plan.TheSendSync as plan
use Rattle.flash_workers.proofs.Sends.{desk_send, worker_send}
use Rattle.flash_workers.proofs.shift.Shift.TheSendSync as shift
use Rattle.flash_workers.specs.contracts.crew.round.{G-row, S-row, W-row}
use Rattle.flash_workers.specs.contracts.desk.Desk as desk
use Rattle.flash_workers.specs.contracts.desk.DeskLogged.TheImpl as logged
use Rattle.turn_lock.proofs.turn.Turn.TheSendSync as turn
use Rattle.flash_workers.proofs.crew.round.Goals as goal

pub for_each_mut-requires-send-T : goal.for_each_mut-requires-send-T
for_each_mut-requires-send-T g c κs within =
    let w = worker_send (S-row g.row.R g.row.S g.row.G g.row.W) g.S.Shop c.type_bounds.send-S in
    search (param_send, w.owned, w.leaving)

pub for_each_mut-requires-sync-F : goal.for_each_mut-requires-sync-F
for_each_mut-requires-sync-F g c κs within =
    let row = S-row g.row.R g.row.S g.row.G g.row.W in
    let t = turn.the_sync (desk.the_row row g.S.Shop) (opening.the_row row) event.the_row (logged.ghosts row g.S.Shop logged.no_dict) (desk_send row g.S.Shop c.type_bounds.send-S) in
    record {
      shared = λ x b o ν. (
        (
          ((λ q. tt), c.type_bounds.sync-R.shared x.0.now x.0.ref_ptr.0 x.0.ref_ptr.1 _),
          (
            ((λ q. tt), t.shared x.1.now x.1.ref_ptr.0 x.1.ref_ptr.1 _),
            (
              ((λ q. tt), plan.the_sync.shared x.2.now x.2.ref_ptr.0 x.2.ref_ptr.1 _),
              (((λ q. tt), (shift.the_sync (record { mir = erased; lft = _ }) (G-row g.row.R g.row.S g.row.G g.row.W) (W-row g.row.R g.row.S g.row.G g.row.W) c.type_bounds.sync-G c.type_bounds.sync-W).shared x.3.now x.3.ref_ptr.0 x.3.ref_ptr.1 _), tt),
            ),
          ),
        ),
        (λ q. tt),
      );
    }
