use Rattle.std.proofs.Common.{◌≡◌, true, sym, ap, ◌∙◌}
use Rattle.run_model.specs.Link.{is_open}
use Rattle.link_state.proofs.state.LinkState.stop.Goals as goal

pub returns-then-is_open-clause-body : goal.returns-then-is_open-clause-body
returns-then-is_open-clause-body c = λ l s.
    let opened : is_open l.phase ≡ true = ap is_open (sym s.phase) ∙ sym c.is_open.ensures ∙ c.if-is_open.true in
    rw (c.if-bad.true, opened) (c.drop_it.ensures.body l s)
