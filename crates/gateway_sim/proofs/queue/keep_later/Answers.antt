use Rattle.std.proofs.Common.{ℕ, List, rules}
use Rattle.std.specs.Prelude.{not, nat_le}
use Rattle.std.proofs.lemmas.Fn.{filter_same}
use Rattle.gateway_sim.proofs.queue.keep_later.Goals as goal

pub returns : goal.returns
returns c = filter_same _ (λ (q : ℕ × List ℕ). not (nat_le q.0 c.args.tick)) _ (λ x b f' is. search rules) _ _ c.retain.ensures.filtered
