use Rattle.std.proofs.Common.{◌≡◌, ◌∙◌, ap, rules}
use Rattle.std.specs.Prelude.{Ok}
use Rattle.vehicle_file.specs.Files.{vehicle_of}
use Rattle.vehicle_world.specs.Worlds.{made_of, world_of}
use Rattle.world_file.proofs.Readable.{said}
use Rattle.world_file.proofs.read.Goals as goal

pub returns-clause-said : goal.returns-clause-said
returns-clause-said c =
    let e : vehicle_of c.args.bytes.now ≡ Ok c.in_ok-vehicle.vehicle = search rules in
    said c.args.bytes.now c.in_ok-vehicle.vehicle (world_of c.in_ok-world.world) e (c.in_ok-world.ensures.is ∙ ap made_of c.spec_in-spec.ensures)
