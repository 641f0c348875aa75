use Rattle.std.proofs.Common.{rules, of_calls}
use Rattle.std.proofs.lemmas.Fn.{always_returns_same}
use Rattle.session_image.specs.Filtering.{ends_by}
use Rattle.session_image.proofs.Chosen.{partitioned, rest_from}
use Rattle.session_image.proofs.keeping.from_there.Goals as goal

pub returns : goal.returns
returns c =
    rest_from c.args.at c.args.ranges.now c.partition_point-first.result
    (c.partition_point-first.ensures.partitioned (ends_by c.args.at) (always_returns_same _ _ _ (λ a r f k. search (rules, of_calls))) (partitioned c.args.at c.args.ranges.now c.requires))
