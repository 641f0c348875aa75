use Rattle.std.proofs.Common.{◌≡◌, ◌≤◌, false, sym, subst}
use Rattle.serde_json.specs.Data.{Data, depth}
use Rattle.serde_json.specs.Written.{has_float}
use Rattle.bench_gen.specs.Order.{order_data}
use Rattle.bench_gen.specs.Files.{IsTextOf}
use Rattle.bench_gen.proofs.Json.{order_plain, order_flat}
use Rattle.bench_gen.proofs.making.order_file.Goals as goal

pub text_of-requires-clause-plain : goal.text_of-requires-clause-plain
text_of-requires-clause-plain c = subst (λ (d : Data). has_float d ≡ false) (sym c.in_ok-order.ensures) (order_plain c.args.n)

pub text_of-requires-clause-flat : goal.text_of-requires-clause-flat
text_of-requires-clause-flat c = subst (λ (d : Data). depth d ≤ 127) (sym c.in_ok-order.ensures) (order_flat c.args.n)

pub returns-clause-text : goal.returns-clause-text
returns-clause-text c = subst (λ (d : Data). IsTextOf d c.in_ok-text.text) c.in_ok-order.ensures c.in_ok-text.ensures
