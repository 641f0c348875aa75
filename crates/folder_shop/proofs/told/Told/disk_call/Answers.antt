use Rattle.std.proofs.Common.{sym, subst}
use Rattle.folder_shop.specs.declared.moments.Past.{Past}
use Rattle.folder_shop.specs.Moments.{vehicle_of, AreSteps}
use Rattle.folder_shop.proofs.Passing.{disk_went, disk_missed}
use Rattle.folder_shop.proofs.told.Told.disk_call.Goals as goal

pub returns-in-Some-clause-call : goal.returns-in-Some-clause-call
returns-in-Some-clause-call g c =
    disk_went _ (vehicle_of c.args.world.value) c.args.self.now c.pass.new.self _ c.requires c.pass.ensures

pub returns-in-None-clause-call : goal.returns-in-None-clause-call
returns-in-None-clause-call g c =
    disk_missed _ (vehicle_of c.args.world.value) c.args.self.now c.pass.new.self c.miss_disk.new.self _
    c.requires c.pass.ensures c.miss_disk.ensures

pub returns-in-Some-clause-steps : goal.returns-in-Some-clause-steps
returns-in-Some-clause-steps g c = λ steps. c.pass.ensures.steps (vehicle_of c.args.world.value)
    ∣ c.each_link_call_is_unit_steps.ensures.same (vehicle_of c.args.world.value) ∣₁ steps

pub returns-in-None-clause-steps : goal.returns-in-None-clause-steps
returns-in-None-clause-steps g c = λ steps.
    subst (λ (p : Past). AreSteps p (vehicle_of c.args.world.value)) (sym c.miss_disk.ensures.past)
    (c.pass.ensures.steps (vehicle_of c.args.world.value)
    ∣ c.each_link_call_is_unit_steps.ensures.same (vehicle_of c.args.world.value) ∣₁ steps)
