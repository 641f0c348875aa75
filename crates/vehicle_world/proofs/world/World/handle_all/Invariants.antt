use Rattle.std.proofs.Common.{◌≡◌, drop, map, take}
use Rattle.flash_base.specs.Lists.{Each}
use Rattle.vehicle_world.specs.Running.{HasBody, Went}
use Rattle.vehicle_world.specs.States.{reply_of}
use Rattle.vehicle_world.specs.Worlds.{state_of}
use Rattle.vehicle_world.proofs.world.World.handle_all.Given as goal

abbrev pub invariant-loop-i : goal.invariant-loop-i
invariant-loop-i l = record {
  went : Went (take l.i l.fed.frames) (state_of l.initial.self) (state_of l.self) (map reply_of l.out.items);
  bodies : Each HasBody (drop l.i l.fed.frames);
  tick : (state_of l.self).gate.gateway.tick ≡ (state_of l.initial.self).gate.gateway.tick;
}
