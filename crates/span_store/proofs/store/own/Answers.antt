use Rattle.std.proofs.Common.{◌∙◌, ap, subst, sym}
use Rattle.std.specs.Ordering.{nat_cmp}
use Rattle.std.specs.BTreeMap.{insert_entry}
use Rattle.span_store.specs.Extents.{map_of, AreExtents}
use Rattle.span_store.proofs.Free.{own_is, own_extents}
use Rattle.span_store.proofs.store.own.Goals as goal

pub returns-clause-ok : goal.returns-clause-ok
returns-clause-ok c =
    ap map_of (c.in_ok-insert.ensures.entries ∙ ap (insert_entry nat_cmp c.args.store.now.entries c.args.at) c.in_ok-own.ensures)
    ∙ own_is c.args.store.now.entries c.args.at c.args.bytes.now c.requires.extents c.requires.some c.requires.free

pub returns-clause-extents : goal.returns-clause-extents
returns-clause-extents c =
    subst AreExtents (sym (c.in_ok-insert.ensures.entries ∙ ap (insert_entry nat_cmp c.args.store.now.entries c.args.at) c.in_ok-own.ensures))
    (own_extents c.args.store.now.entries c.args.at c.args.bytes.now c.requires.extents c.requires.some c.requires.free c.requires.within)
