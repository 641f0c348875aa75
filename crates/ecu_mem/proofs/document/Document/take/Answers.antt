use Rattle.std.proofs.Common.{◌≡◌, ◌∙◌, sym, Ok}
use Rattle.ecu_mem.specs.Refusals.{both}
use Rattle.ecu_mem.specs.Index.{entries_in}
use Rattle.ecu_mem.proofs.Indexing.{both-first, both-second, fresh-id}
use Rattle.ecu_mem.proofs.document.Document.take.Goals as goal

pub push-requires-clause-fresh : goal.push-requires-clause-fresh
push-requires-clause-fresh c =
    let whole : Ok (c.in-Ok.parts.0, c.in-Ok.parts.1) ≡ both c.in_ok-entry.entry c.in_ok-unique.unique = sym c.in-Ok.is ∙ c.both.ensures in
    fresh-id (entries_in c.args.self.now) c.args.element.now c.in-Ok.parts.0 c.in-Ok.parts.1
    (sym c.in_ok-entry.ensures ∙ both-first c.in_ok-entry.entry c.in_ok-unique.unique c.in-Ok.parts.0 c.in-Ok.parts.1 whole)
    (sym c.in_ok-unique.ensures ∙ both-second c.in_ok-entry.entry c.in_ok-unique.unique c.in-Ok.parts.0 c.in-Ok.parts.1 whole)
