use Rattle.std.proofs.Common.{rules, ◌%◌, ◌^◌, sym, ap, ◌∙◌, subst}
use Rattle.turn_lock.specs.Steps.{Takes}
use Rattle.turn_lock.proofs.Holding.{reads}
use Rattle.turn_lock.proofs.turn.Turn.wait_for.Goals as goal

pub load-served-requires : goal.load-served-requires
load-served-requires g c = let same = c.loop.invariant.1 in let w = c.requires in let is = ap (λ m. m.0) same in
    (search rules, search rules, reads _ _ _ _ _ (ap (λ v. v.stage) is ∙ w.waits) (ap (λ v. v.shown) is ∙ w.compared) (ap (λ m. m.1) same ∙ w.empty))

pub returns-then-served-ticket-clause-took : goal.returns-then-served-ticket-clause-took
returns-then-served-ticket-clause-took g c = let same = c.loop.invariant.1 in
    subst (λ m. Takes g.V.Logged.opening g.V.Logged.entries m c.load-served.new.seat.me) same (c.load-served.ensures.2.0 (c.if-served-ticket.true ∙ c.requires.ticket ∙ ap (λ m. m.0.ticket % 2 ^ 64) (sym same)))
