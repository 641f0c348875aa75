use Rattle.std.proofs.Common.{◌≡◌, drop, map}
use Rattle.ecu_mem.specs.Places.{ecu_mems, places_from}
use Rattle.ecu_mem.specs.Catalogue.{with_ecu_mem, over_places}
use Rattle.ecu_mem.specs.Index.{IsIndexed, entries_in}
use Rattle.ecu_mem.proofs.document.Document.+read.Given as goal

abbrev pub invariant-loop-i : goal.invariant-loop-i
invariant-loop-i l = record {
  value : over_places with_ecu_mem l.element (ecu_mems l.element) (entries_in l.initial.self) ≡ over_places with_ecu_mem l.element (places_from l.i (map ecu_mems (drop l.i l.kid-items))) (entries_in l.self);
  indexed : IsIndexed l.self;
}
