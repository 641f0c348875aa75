use Rattle.std.proofs.Common.{◌≡◌, ◌++◌, ◌∙◌, ap, subst, sym}
use Rattle.std.specs.Ordering.{nat_cmp}
use Rattle.std.specs.BTreeMap.{is_at}
use Rattle.std.specs.Map.{set_value}
use Rattle.span_store.specs.Extents.{map_of, AreExtents}
use Rattle.span_store.proofs.Free.{found, behind_is, behind_extents}
use Rattle.span_store.proofs.store.append.Goals as goal

grown : (c : goal.In_ok-grow) → c.grow.new.store.entries ≡ set_value (is_at (nat_cmp c.args.start)) c.args.store.now.entries (c.requires.place.1.0 ++ c.args.bytes.now)
grown c =
    c.in_ok-grow.ensures.ok c.requires.place.1.0
    (found c.args.store.now.entries c.args.at c.args.bytes.now c.requires.extents c.requires.some c.requires.place.0 c.args.start c.requires.place.1.0 c.requires.place.1.1 c.requires.place.1.2)

pub returns-clause-ok : goal.returns-clause-ok
returns-clause-ok c =
    ap map_of (grown c) ∙ behind_is c.args.store.now.entries c.args.at c.args.bytes.now c.requires.extents c.requires.some c.requires.place.0 c.args.start c.requires.place.1.0 c.requires.place.1.1 c.requires.place.1.2

pub returns-clause-extents : goal.returns-clause-extents
returns-clause-extents c =
    subst AreExtents (sym (grown c)) (behind_extents c.args.store.now.entries c.args.at c.args.bytes.now c.requires.extents c.requires.some c.requires.place.0 c.args.start c.requires.place.1.0 c.requires.place.1.1 c.requires.place.1.2 c.requires.within)
