use Rattle.vehicle_text.proofs.Written.{an_object, on_ok}
use Rattle.vehicle_text.proofs.lists.object.Goals as goal

pub returns-clause-is : goal.returns-clause-is
returns-clause-is g c =
    on_ok c.end_object.result _ _ (λ last. an_object (g.F.Form.fields c.args.item.now) c.args.out.now c.begin_object.new.self c.write.new.out c.end_object.new.self c.in_ok-begin_object.ensures c.in_ok-write.ensures.is last)
    c.end_object.ensures
