use Rattle.std.proofs.Common.{◌≡◌, drop}
use Rattle.indexmap.specs.IndexMap.{get_by_text}
use Rattle.ecu_mem.specs.Catalogue.{positions_of}
use Rattle.ecu_mem.proofs.Joining.{joined}
use Rattle.ecu_mem.proofs.linking.positions_of.Given as goal

abbrev pub invariant-loop-id : goal.invariant-loop-id
invariant-loop-id l = positions_of (get_by_text l.targets) l.ids ≡ joined l.positions (positions_of (get_by_text l.targets) (drop l.id-index l.ids))
