use Rattle.std.proofs.Common.{◌≡◌, ℕ, ◌+◌, true, false, sym, ap, ◌∙◌}
use Rattle.run_model.specs.Link.{quiet_link, unanswered}
use Rattle.link_state.proofs.state.LinkState.quiet.Goals as goal

pub returns-then-is_late-clause-shows : goal.returns-then-is_late-clause-shows
returns-then-is_late-clause-shows c = λ l s.
    let late : unanswered (quiet_link l) ≡ true =
    sym (c.is_late.ensures (quiet_link l) (record { phase = s.body.phase; ticks = ap (λ (n : ℕ). n + 1) s.body.ticks; asked = s.body.asked; losses = s.body.losses; owes = s.body.owes; distinct = s.body.distinct; inbox = s.body.inbox }))
    ∙ c.if-is_late.true in
    rw late (c.drop_it.ensures.shows (quiet_link l) (record {
      body = record { phase = s.body.phase; ticks = ap (λ (n : ℕ). n + 1) s.body.ticks; asked = s.body.asked; losses = s.body.losses; owes = s.body.owes; distinct = s.body.distinct; inbox = s.body.inbox };
      rest = s.rest;
    }))

pub returns-else-is_late-clause-shows : goal.returns-else-is_late-clause-shows
returns-else-is_late-clause-shows c = λ l s.
    let late : unanswered (quiet_link l) ≡ false =
    sym (c.is_late.ensures (quiet_link l) (record { phase = s.body.phase; ticks = ap (λ (n : ℕ). n + 1) s.body.ticks; asked = s.body.asked; losses = s.body.losses; owes = s.body.owes; distinct = s.body.distinct; inbox = s.body.inbox }))
    ∙ c.if-is_late.false in
    rw late (record {
      body = record { phase = s.body.phase; ticks = ap (λ (n : ℕ). n + 1) s.body.ticks; asked = s.body.asked; losses = s.body.losses; owes = s.body.owes; distinct = s.body.distinct; inbox = s.body.inbox };
      rest = s.rest;
    })
