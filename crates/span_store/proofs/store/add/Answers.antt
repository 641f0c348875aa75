use Rattle.std.proofs.Common.{◌≡◌, ◌+◌, ◌++◌, ◌∙◌, ℕ, List, length, ap, subst, sym}
use Rattle.std.specs.Ordering.{nat_cmp}
use Rattle.std.specs.BTreeMap.{insert_entry}
use Rattle.span_store.specs.ByteMap.{over}
use Rattle.span_store.specs.Extents.{Extent, map_of, low, high, AreExtents}
use Rattle.span_store.proofs.Laying.{laid, laid_is, laid_extents, own_laid, grown_cleared, grown_is, grown_extents}
use Rattle.span_store.proofs.store.add.Goals as goal

grew : (c : goal.After-clear) → (map_of c.clear.new.store.entries ≡ over (map_of c.args.store.now.entries) c.args.at c.args.bytes.now) × AreExtents c.clear.new.store.entries
grew c =
    let es : List Extent = c.args.store.now.entries in
    let at : ℕ = c.args.at in
    let bs : List ℕ = c.args.bytes.now in
    let k : ℕ = c.in-Some.start in
    let old : List ℕ = c.in-Some.ensures.0 in
    let w = c.in-Some.ensures.1 in
    let e : k + length old ≡ at = c.in-Some.ensures.2 in
    let new = c.clear.ensures ∙ ap (λ l. low at l ++ high (at + length bs) l) (c.in_ok-grow.ensures.ok old c.in-Some.ensures.3) ∙ grown_cleared es at k old bs c.requires.extents w e c.requires.some c.requires.first in (
      ap map_of new ∙ grown_is es at k old bs c.requires.extents w e c.requires.some c.requires.first c.requires.last,
      subst AreExtents (sym new) (grown_extents es at k old bs c.requires.extents w e c.requires.some c.requires.first c.requires.within),
    )

pub returns-in-Some-clause-ok : goal.returns-in-Some-clause-ok
returns-in-Some-clause-ok c = (grew c).0

pub returns-in-Some-clause-extents : goal.returns-in-Some-clause-extents
returns-in-Some-clause-extents c = (grew c).1

own : (c : goal.After-clear-2) → c.clear-2.new.store.entries ≡ laid c.args.store.now.entries c.args.at c.args.bytes.now
own c =
    let es : List Extent = c.args.store.now.entries in
    let at : ℕ = c.args.at in
    let bs : List ℕ = c.args.bytes.now in
    c.clear-2.ensures
    ∙ ap (λ l. low (at + 1) l ++ high (at + length bs) l) (c.in_ok-insert.ensures.entries ∙ ap (insert_entry nat_cmp es at) c.in_ok-own.ensures)
    ∙ own_laid es at bs c.requires.extents c.requires.some

pub returns-clause-ok : goal.returns-clause-ok
returns-clause-ok c = ap map_of (own c) ∙ laid_is c.args.store.now.entries c.args.at c.args.bytes.now c.requires.extents c.requires.first c.requires.last

pub returns-clause-extents : goal.returns-clause-extents
returns-clause-extents c = subst AreExtents (sym (own c)) (laid_extents c.args.store.now.entries c.args.at c.args.bytes.now c.requires.extents c.requires.first c.requires.some c.requires.within)
