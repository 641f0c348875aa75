use Rattle.std.proofs.Common.{[], subst}
use Rattle.bench_shop.specs.Faults.{no_faults}
use Rattle.bench_shop.specs.Shops.{IsNew}
use Rattle.bench_shop.specs.declared.faults.Faults.{Faults}
use Rattle.vehicle_world.specs.Worlds.{world_of}
use Rattle.flash_drill.proofs.Quiet.{new_quiet}
use Rattle.flash_drill.proofs.own.OwnShop.new.Goals as goal

pub invariant_of-result : goal.invariant_of-result
invariant_of-result c =
    let new : IsNew [] (world_of c.args.world) no_faults c.in_ok-new.field-0 =
    subst (λ (f : Faults). IsNew [] (world_of c.args.world) f c.in_ok-new.field-0) c.none.ensures.is c.in_ok-new.ensures in
    record { plain = new.uncalled.plan; quiet = new_quiet c.in_ok-new.field-0 c.args.world new c.requires.calm }
