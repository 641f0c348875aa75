use Rattle.std.proofs.Common.{◌∙◌, ap, filter, rules}
use Rattle.std.proofs.lemmas.Fn.{filter_same}
use Rattle.world_file.specs.Said.{has_some}
use Rattle.world_file.proofs.with_some.Goals as goal

pub returns : goal.returns
returns c = c.from_vec.ensures ∙ filter_same _ has_some _ (λ x b f' is. search rules) _ _ c.retain.ensures.filtered ∙ ap (filter has_some) c.into_vec-list.ensures
