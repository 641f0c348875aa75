use Rattle.std.proofs.Common.{◌≡◌, ◌≤◌, false, sym, subst}
use Rattle.serde_json.specs.Data.{Data, depth}
use Rattle.serde_json.specs.Written.{has_float}
use Rattle.bench_gen.specs.Files.{IsTextOf}
use Rattle.bench_gen.proofs.Json.{vehicle_flat, vehicle_plain}
use Rattle.bench_gen.proofs.making.vehicle_text.Goals as goal

pub text_of-requires-clause-plain : goal.text_of-requires-clause-plain
text_of-requires-clause-plain c = subst (λ (d : Data). has_float d ≡ false) (sym c.in_ok-vehicle.ensures) (vehicle_plain c.args.n)

pub text_of-requires-clause-flat : goal.text_of-requires-clause-flat
text_of-requires-clause-flat c = subst (λ (d : Data). depth d ≤ 127) (sym c.in_ok-vehicle.ensures) (vehicle_flat c.args.n)
