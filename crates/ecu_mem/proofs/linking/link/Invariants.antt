use Rattle.std.proofs.Common.{◌≡◌, length}
use Rattle.indexmap.specs.IndexMap.{get_by_text}
use Rattle.ecu_mem.specs.Catalogue.{linked}
use Rattle.ecu_mem.proofs.Joining.{after_lists}
use Rattle.ecu_mem.proofs.linking.link.Given as goal

abbrev pub invariant-loop-entry : goal.invariant-loop-entry
invariant-loop-entry l = linked (get_by_text l.targets) l.initial.entries.items ≡ after_lists l.sessions l.blocks l.flashes (linked (get_by_text l.targets) l.entries.items)

abbrev pub decreases-loop-entry : goal.decreases-loop-entry
decreases-loop-entry l = length l.entries.items
