use Rattle.std.proofs.Common.{◌≡◌, ◌∙◌, ap, subst}
use Rattle.std.specs.Prelude.{Ok}
use Rattle.vehicle_file.specs.Files.{vehicle_of}
use Rattle.vehicle_file.specs.declared.vehicle.VehicleSpec.{VehicleSpec}
use Rattle.vehicle_text.specs.Texts.{IsSaid, text_of}
use Rattle.vehicle_world.specs.Worlds.{state_of}
use Rattle.world_file.proofs.Back.{is_save, reads_back}
use Rattle.world_file.proofs.save.Goals as goal

pub returns-clause-is : goal.returns-clause-is
returns-clause-is c =
    let bytes = c.in_ok-bytes.bytes in
    let reads = subst (λ (v : VehicleSpec). IsSaid v → vehicle_of bytes ≡ Ok v) c.in_ok-vehicle.ensures c.in_ok-bytes.ensures.back in
    is_save (state_of c.args.world.now) c.in_ok-spec.spec bytes c.in_ok-spec.ensures.saves c.in_ok-spec.ensures.anew (c.in_ok-bytes.ensures.is ∙ ap text_of c.in_ok-vehicle.ensures) reads

pub returns-clause-back : goal.returns-clause-back
returns-clause-back c =
    let bytes = c.in_ok-bytes.bytes in
    let reads = subst (λ (v : VehicleSpec). IsSaid v → vehicle_of bytes ≡ Ok v) c.in_ok-vehicle.ensures c.in_ok-bytes.ensures.back in
    reads_back (state_of c.args.world.now) c.in_ok-spec.spec bytes c.in_ok-spec.ensures.saves c.in_ok-spec.ensures.anew (c.in_ok-bytes.ensures.is ∙ ap text_of c.in_ok-vehicle.ensures) reads
