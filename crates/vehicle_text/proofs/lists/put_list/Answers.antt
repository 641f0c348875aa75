use Rattle.std.proofs.Common.{map}
use Rattle.vehicle_text.specs.Units.{data_in}
use Rattle.vehicle_text.proofs.Written.{a_list, on_ok}
use Rattle.vehicle_text.proofs.lists.put_list.Goals as goal

pub returns-clause-is : goal.returns-clause-is
returns-clause-is g c =
    on_ok c.end_array.result _ _ (λ last. a_list c.args.name.now (map (data_in g.F.Form.fields) c.args.items.now) c.args.out.now c.key.new.self c.begin_array.new.self c.put_items.new.out c.end_array.new.self
    c.in_ok-key.ensures c.in_ok-begin_array.ensures c.in_ok-put_items.ensures.is last)
    c.end_array.ensures
