use Rattle.std.proofs.Common.{◌≡◌, drop}
use Rattle.ecu_mem.specs.Places.{groups, groups_from}
use Rattle.ecu_mem.specs.Catalogue.{with_element, over_places}
use Rattle.ecu_mem.specs.Index.{IsIndexed, entries_in}
use Rattle.ecu_mem.proofs.document.Document.mem.Given as goal

abbrev pub invariant-loop-i : goal.invariant-loop-i
invariant-loop-i l = record {
  value : over_places with_element l.mem (groups l.mem) (entries_in l.initial.self) ≡ over_places with_element l.mem (groups_from l.i l.seen (drop l.i l.kid-items)) (entries_in l.self);
  indexed : IsIndexed l.self;
}
