use Rattle.std.proofs.Common.{◌∙◌, ap, ◌∷◌}
use Rattle.indexmap.specs.IndexMap.{get_by_text}
use Rattle.ecu_mem.specs.declared.entry.Entry.{Entry}
use Rattle.ecu_mem.specs.Catalogue.{positions_of, linked}
use Rattle.ecu_mem.proofs.Joining.{given, session-next, block-next, flash-next}
use Rattle.ecu_mem.proofs.linking.link.Goals as goal

pub loop-entry-preserved-in-Session : goal.loop-entry-preserved-in-Session
loop-entry-preserved-in-Session c =
    session-next (get_by_text c.args.targets.now) (linked (get_by_text c.args.targets.now) c.args.entries.items) c.loop-entry.sessions c.loop-entry.blocks c.loop-entry.flashes c.loop-entry.entries.items c.pop_front.new.self.items c.loop-entry.invariant
    c.in-Session.session c.in-Session.ids c.in_ok-positions-in-Session.positions c.push.new.self
    (c.in-Some.ensures.items ∙ ap (λ (e : Entry). e ∷ c.pop_front.new.self.items) c.in-Session.is) (given c.in_ok-positions-in-Session.ensures ∙ ap (positions_of (get_by_text c.args.targets.now)) c.as_slice.ensures) c.in_ok-push-in-Session.ensures.ok

pub loop-entry-preserved-in-Block : goal.loop-entry-preserved-in-Block
loop-entry-preserved-in-Block c =
    block-next (get_by_text c.args.targets.now) (linked (get_by_text c.args.targets.now) c.args.entries.items) c.loop-entry.sessions c.loop-entry.blocks c.loop-entry.flashes c.loop-entry.entries.items c.pop_front.new.self.items c.loop-entry.invariant
    c.in-Block.block c.in_ok-linked_block-in-Block.field-0 c.in-Block.id c.push-in-Block.new.self
    (c.in-Some.ensures.items ∙ ap (λ (e : Entry). e ∷ c.pop_front.new.self.items) c.in-Block.is) (given c.in_ok-linked_block-in-Block.ensures) c.in_ok-push-in-Block.ensures.ok

pub loop-entry-preserved : goal.loop-entry-preserved
loop-entry-preserved c =
    flash-next (get_by_text c.args.targets.now) (linked (get_by_text c.args.targets.now) c.args.entries.items) c.loop-entry.sessions c.loop-entry.blocks c.loop-entry.flashes c.loop-entry.entries.items c.pop_front.new.self.items c.loop-entry.invariant
    c.in-Flash.flash c.push-in-Flash.new.self (c.in-Some.ensures.items ∙ ap (λ (e : Entry). e ∷ c.pop_front.new.self.items) c.in-Flash.is) c.in_ok-push-in-Flash.ensures.ok
