-- A bay may go to another thread where its shop may.
use denote.RattleType.{RattleType}
use denote.Param.Send.{IsSend, recorded_send, sendable, struct_send, view_send}
use denote.Struct.Declared.{shape}
use Rattle.std.proofs.Crossing.{crosses}
use Rattle.bay_replay.proofs.state.Core.TheSendSync as core
use Rattle.flash_base.proofs.items.Items.TheSendSync as items
use Rattle.flash_journal.proofs.journal.Journal.TheSendSync as journal
use Rattle.flash_plan.proofs.outcome.Entry.TheSendSync as entry
use Rattle.flash_plan.proofs.unit.LinkRules.TheSendSync as rules
use Rattle.flash_plan.specs.contracts.outcome.Entry as Entry
use Rattle.flash_run.proofs.notes.Notes.TheSendSync as notes
use Rattle.flash_run.specs.contracts.run.Run.{the_row as run_row}
use Rattle.flash_run.specs.contracts.run.Run.TheInside as run
use Rattle.shop_model.specs.declared.shop.Shop.{Ghosts}
use Rattle.flash_bay.specs.contracts.bay.Bay.{the_row}
use Rattle.flash_bay.specs.contracts.bay.Bay.TheInside as inside

run_send : IsSend run_row
run_send =
    view_send _ _ _ _ _ (recorded_send run.the_field.row _ _ run.the_type.to_one (struct_send (shape run.the_type)
    (search crosses, (rules.the_field_send, (items.the_send Entry.the_row entry.the_send, (core.the_field_send, (notes.the_send, (search crosses, tt))))))))

pub bay_send : (S : RattleType) (g : Ghosts S.Denot) → IsSend S → IsSend (the_row S g)
bay_send S g s =
    view_send _ _ _ _ _ (recorded_send (inside.the_field S g).row _ _ (inside.the_type S g).to_one (struct_send (shape (inside.the_type S g))
    (s, (journal.the_field_send, (run_send, (search (sendable, crosses) depth 20, (search crosses, tt)))))))
