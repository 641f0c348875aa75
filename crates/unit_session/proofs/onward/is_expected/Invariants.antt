use Rattle.std.proofs.Common.{◌≡◌, drop}
use Rattle.run_model.specs.Script.{has_value}
use Rattle.unit_session.proofs.onward.is_expected.Given as goal

abbrev pub invariant-loop-v : goal.invariant-loop-v
invariant-loop-v l = has_value (drop l.v-index l.values) l.value ≡ has_value l.values l.value
