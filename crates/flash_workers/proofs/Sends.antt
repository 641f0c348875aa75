-- A worker may go to another thread where its shop may.
use denote.Builtin.{u16}
use denote.Param.Send.{IsSend, recorded_send, struct_send, view_send}
use denote.RattleType.{RattleType}
use denote.Struct.Declared.{shape}
use Rattle.std.proofs.Crossing.{crosses, Box-send}
use Rattle.std.proofs.option.Option.TheSendSync as option
use Rattle.bay_core.specs.contracts.event.Event as event
use Rattle.flash_bay.proofs.Crossing.{bay_send}
use Rattle.flash_bay.specs.contracts.bay.Bay as bay
use Rattle.flash_bay.specs.contracts.bay.Opening as opening
use Rattle.flash_workers.specs.contracts.desk.Desk as desk
use Rattle.flash_workers.specs.contracts.desk.Desk.TheInside as inside
use Rattle.flash_workers.specs.contracts.desk.DeskLogged.TheImpl as logged
use Rattle.flash_workers.specs.contracts.worker.Worker.{the_row, the_type, the_field}
use Rattle.shop_model.specs.declared.shop.Shop.{Ghosts}
use Rattle.turn_lock.proofs.pass.Pass.TheSendSync as pass

pub desk_send : (S : RattleType) (g : Ghosts S.Denot) → IsSend S → IsSend (desk.the_row S g)
desk_send S g s =
    view_send _ _ _ _ _ (recorded_send (inside.the_field S g).row _ _ (inside.the_type S g).to_one (struct_send (shape (inside.the_type S g)) (Box-send (bay.the_row S g) (bay_send S g s), tt)))

pub worker_send : (S : RattleType) (g : Ghosts S.Denot) → IsSend S → IsSend (the_row S g)
worker_send S g s =
    recorded_send (the_field S g).row _ _ (the_type S g).to_one (struct_send (shape (the_type S g))
    (pass.the_send (desk.the_row S g) (opening.the_row S) event.the_row (logged.ghosts S g logged.no_dict) (desk_send S g s), (option.the_field_send u16 (search crosses), tt)))
