use Rattle.std.proofs.Common.{◌≡◌, drop}
use Rattle.ecu_mem.specs.Places.{counting_from, is_member, group_members}
use Rattle.ecu_mem.specs.Catalogue.{with_element, over_places}
use Rattle.ecu_mem.specs.Index.{IsIndexed, entries_in}
use Rattle.ecu_mem.proofs.document.Document.group.Given as goal

abbrev pub invariant-loop-i : goal.invariant-loop-i
invariant-loop-i l = record {
  value : over_places with_element l.group (group_members l.kind l.group) (entries_in l.initial.self) ≡ over_places with_element l.group (counting_from l.i (is_member l.kind) (drop l.i l.kid-items)) (entries_in l.self);
  indexed : IsIndexed l.self;
}
