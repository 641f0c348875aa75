use Rattle.std.proofs.Common.{◌∙◌, sym, ap, subst, drop, ◌+◌}
use Rattle.ecu_mem.specs.declared.kind.Seen.{Seen}
use Rattle.ecu_mem.specs.declared.document.Document.{Document}
use Rattle.ecu_mem.specs.Places.{groups_from}
use Rattle.ecu_mem.specs.Catalogue.{with_element, over_places}
use Rattle.ecu_mem.specs.Index.{IsIndexed, entries_in}
use Rattle.ecu_mem.proofs.Walk.{group-went, group-stopped, group-passed}
use Rattle.ecu_mem.proofs.document.Document.mem.Goals as goal
use Rattle.ecu_mem.proofs.document.Document.mem.Goals.{in-Some+in_ok-group+in_ok-in_kid+in-Ok, in_default}

pub returns-in-Err-clause-value : goal.returns-in-Err-clause-value
returns-in-Err-clause-value c =
    sym (c.loop-i.invariant.value
    ∙ group-stopped c.args.mem.now c.as_slice-kid-items.result.now c.loop-i.i c.loop-i.seen c.kid-item.result c.in-Some.kind (entries_in c.loop-i.self) (entries_in c.group.new.self) c.in_ok-group.field-0 c.in-Err.refusal
    c.as_slice-kid-items.ensures c.loop-i-test.true c.kid-item.is (sym c.new_kind.ensures ∙ c.in-Some.is) c.in_ok-group.ensures.value (sym c.in-Err.is ∙ c.in_ok-in_kid.ensures))

pub loop-i-preserved : goal.loop-i-preserved
loop-i-preserved c = elim c.match-new_kind.branch [
  | in-Some+in_ok-group+in_ok-in_kid+in-Ok w ↦ record {
    value = c.loop-i.invariant.value
        ∙ (group-went c.args.mem.now c.as_slice-kid-items.result.now c.loop-i.i c.loop-i.seen c.kid-item.result w.in-Some.kind (entries_in c.loop-i.self) (entries_in w.group.new.self) w.in_ok-group.field-0
        c.as_slice-kid-items.ensures c.loop-i-test.true c.kid-item.is (sym c.new_kind.ensures ∙ w.in-Some.is) w.in_ok-group.ensures.value (sym w.in-Ok.is ∙ w.in_ok-in_kid.ensures)
        ∙ (ap (λ (s : Seen). over_places with_element c.args.mem.now (groups_from (c.loop-i.i + 1) s (drop (c.loop-i.i + 1) c.as_slice-kid-items.result.now)) (entries_in w.group.new.self)) (sym (w.seen-is ∙ w.with-seen.ensures))
        ∙ ap (λ (d : Document). over_places with_element c.args.mem.now (groups_from (c.loop-i.i + 1) c.match-new_kind.seen (drop (c.loop-i.i + 1) c.as_slice-kid-items.result.now)) (entries_in d)) (sym w.self-is)));
    indexed = subst (λ (d : Document). IsIndexed d) (sym w.self-is) w.in_ok-group.ensures.indexed;
  }
  | in_default w ↦ record {
    value = c.loop-i.invariant.value
        ∙ (group-passed c.args.mem.now c.as_slice-kid-items.result.now c.loop-i.i c.loop-i.seen c.kid-item.result (entries_in c.loop-i.self) c.loop-i-test.true c.kid-item.is (sym c.new_kind.ensures ∙ w.in_default.is)
        ∙ (ap (λ (s : Seen). over_places with_element c.args.mem.now (groups_from (c.loop-i.i + 1) s (drop (c.loop-i.i + 1) c.as_slice-kid-items.result.now)) (entries_in c.loop-i.self)) (sym w.seen-is)
        ∙ ap (λ (d : Document). over_places with_element c.args.mem.now (groups_from (c.loop-i.i + 1) c.match-new_kind.seen (drop (c.loop-i.i + 1) c.as_slice-kid-items.result.now)) (entries_in d)) (sym w.self-is)));
    indexed = subst (λ (d : Document). IsIndexed d) (sym w.self-is) c.loop-i.invariant.indexed;
  }
]
