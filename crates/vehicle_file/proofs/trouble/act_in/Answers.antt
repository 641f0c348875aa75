use Rattle.std.proofs.Common.{◌≡◌, ◌⊎◌, Bool, Err, subst}
use Rattle.serde_json.specs.View.{view}
use Rattle.vehicle_file.specs.Fields.{object_of}
use Rattle.vehicle_file.specs.Troubles.{act_of, is_trouble_member}
use Rattle.vehicle_file.specs.declared.fault.Refused.TheVariants.{NoMemory}
use Rattle.vehicle_file.proofs.trouble.act_in.Goals as goal

pub returns : goal.returns
returns c =
    subst (λ (b : Bool). (c.object_of.result ≡ Err NoMemory) ⊎ (c.object_of.result ≡ object_of (is_trouble_member c.args.deed b) (act_of c.args.deed) (view c.args.value.now)))
    c.has.ensures c.object_of.ensures
