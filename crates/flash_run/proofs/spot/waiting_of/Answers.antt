use Rattle.std.proofs.Common.{ℕ, Some, None, sym, ap, ◌∙◌}
use Rattle.std.specs.Prelude.{Bool, if◌then◌else◌}
use Rattle.unit_session.specs.Session.{talk_of}
use Rattle.flash_run.proofs.spot.waiting_of.Goals as goal

pub returns-then-is_awaiting : goal.returns-then-is_awaiting
returns-then-is_awaiting c = λ u. ap (λ (n : ℕ). Some n) (c.pendings.ensures u) ∙ ap (λ (b : Bool). if b then Some (talk_of u c.args.session.now).pendings else None) (sym c.if-is_awaiting.true ∙ c.is_awaiting.ensures u)

pub returns-else-is_awaiting : goal.returns-else-is_awaiting
returns-else-is_awaiting c = λ u. ap (λ (b : Bool). if b then Some (talk_of u c.args.session.now).pendings else None) (sym c.if-is_awaiting.false ∙ c.is_awaiting.ensures u)
