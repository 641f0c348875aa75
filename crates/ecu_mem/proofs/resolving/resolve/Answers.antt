use Rattle.std.proofs.Common.{◌≡◌, ◌∙◌, sym, ap, List, Ok}
use Rattle.indexmap.specs.IndexMap.{get_by_text}
use Rattle.ecu_mem.specs.declared.entry.Entry.{Entry}
use Rattle.ecu_mem.specs.Places.{ecu_mems}
use Rattle.ecu_mem.specs.Catalogue.{over_places, with_ecu_mem, entries_of}
use Rattle.ecu_mem.specs.Index.{after, entries_in}
use Rattle.ecu_mem.specs.Refusals.{Reading}
use Rattle.std.specs.Prelude.{⊤}
use Rattle.ecu_mem.proofs.Joining.{resolved, resolved-whole}
use Rattle.ecu_mem.proofs.Telling.{link-told}
use Rattle.ecu_mem.proofs.resolving.resolve.Goals as goal

pub returns-in-Ok-clause-value : goal.returns-in-Ok-clause-value
returns-in-Ok-clause-value c =
    let read : Ok (entries_in c.read.new.self) ≡ entries_of c.args.root.now =
    ap (λ (r : Reading ⊤). after r (entries_in c.read.new.self)) (sym c.in-Ok.is) ∙ (c.in_ok-read.ensures.value ∙ ap (λ (es : List Entry). over_places with_ecu_mem c.args.root.now (ecu_mems c.args.root.now) es) c.new-document.ensures.empty) in
    resolved c.args.root.now (entries_in c.read.new.self) (get_by_text c.read.new.self.targets) c.link.result read c.in_ok-read.ensures.indexed.targets c.link.ensures

pub returns-in-Ok-clause-whole : goal.returns-in-Ok-clause-whole
returns-in-Ok-clause-whole c = resolved-whole c.args.root.now c.link.result (returns-in-Ok-clause-value c)

pub returns-in-Ok-clause-told : goal.returns-in-Ok-clause-told
returns-in-Ok-clause-told c = link-told c.args.root.now (get_by_text c.read.new.self.targets) (entries_in c.read.new.self) c.link.result c.link.ensures
