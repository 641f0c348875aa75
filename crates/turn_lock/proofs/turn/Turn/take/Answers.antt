use Rattle.std.proofs.Common.{rules, ◌∷◌, Some, sym, ap, ◌∙◌}
use Rattle.atomic_table.specs.Table.{rest}
use Rattle.turn_lock.proofs.Tickets.{draws}
use Rattle.turn_lock.proofs.States.{idle_stage, has_own}
use Rattle.turn_lock.proofs.turn.Turn.take.Goals as goal

pub fetch_add-ticket-requires : goal.fetch_add-ticket-requires
fetch_add-ticket-requires g c = (search rules, search rules, draws _ _ _ _ _ (idle_stage _ _ _ _ c.pass.inside.seat.me _ c.pass.view_is c.pass.invariant c.requires.rest))

pub exchange-taken-requires : goal.exchange-taken-requires
exchange-taken-requires g c = let t = c.wait_for.ensures.took in (search rules, (Some t.value, t.slot ∙ (λ i. (0, Some t.value) ∷ sym (ap rest t.slot) i)))

pub returns-clause-own : goal.returns-clause-own
returns-clause-own g c = let t = c.wait_for.ensures.took in let drawn = ap (λ m. m.0) c.fetch_add-ticket.ensures.2.2 in let is = c.pass.view_is in
    has_own c.args.pass.now c.fetch_add-ticket.new.seat.me.0 _ (ap (λ v. v.seen) drawn ∙ ap (λ p. p.seen) is) (ap (λ v. v.own) drawn ∙ ap (λ p. p.own) is) (search rules) t.owns
