use Rattle.std.proofs.Common.{rules, ℕ}
use Rattle.std.specs.Prelude.{not}
use Rattle.std.proofs.lemmas.Fn.{filter_same}
use Rattle.unit_model.specs.Unit.{meets}
use Rattle.unit_sim.proofs.change.keep_apart.Goals as goal

pub returns : goal.returns
returns c = filter_same _ (λ (r : ℕ × ℕ). not (meets c.args.at c.args.size r)) _ (λ x b f' is. search rules) _ _ c.retain.ensures.filtered
