use Rattle.std.proofs.Common.{◌∙◌, ap, map, rules}
use Rattle.std.specs.Prelude.{not}
use Rattle.std.proofs.lemmas.Fn.{filter_same}
use Rattle.unit_model.specs.Feed.{waits_for}
use Rattle.unit_model.specs.Vehicle.{HeldAnswer}
use Rattle.vehicle_world.specs.States.{answer_of}
use Rattle.vehicle_world.specs.declared.held.Held.{Held}
use Rattle.vehicle_world.proofs.Lists.{mapped_filter}
use Rattle.vehicle_world.proofs.keeping.drop_released.Goals as goal

pub returns : goal.returns
returns c =
    let kept = filter_same _ (λ (h : Held). not (waits_for c.args.hearing.unit c.args.hearing.sid (answer_of h))) _ (λ x b f' is. search rules) _ _ c.retain.ensures.filtered in
    ap (map answer_of) kept ∙ mapped_filter answer_of (λ (h : HeldAnswer). not (waits_for c.args.hearing.unit c.args.hearing.sid h)) _
