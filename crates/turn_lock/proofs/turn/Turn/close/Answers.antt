use Rattle.std.proofs.Common.{Some, sym, ap, ◌∙◌, subst, unwrap_or}
use Rattle.turn_lock.specs.PassState.{HasOwn}
use Rattle.turn_lock.proofs.Holding.{ends}
use Rattle.turn_lock.proofs.turn.Turn.close.Goals as goal

pub unreachable-requires : goal.unreachable-requires
unreachable-requires g c =
    let got = ends g.V.Logged.opening g.V.Logged.entries _ _ _ _ _ _ _ _ _ _ c.pass.view_is c.pass.invariant c.requires.first c.requires.alone c.requires.rest c.close_with-closed.ensures.values.2 c.take-taken.ensures.value in
    c.in_default.not-Some got.value got.is

pub returns-clause-opening : goal.returns-clause-opening
returns-clause-opening g c =
    let got = ends g.V.Logged.opening g.V.Logged.entries _ _ _ _ _ _ _ _ _ _ c.pass.view_is c.pass.invariant c.requires.first c.requires.alone c.requires.rest c.close_with-closed.ensures.values.2 c.take-taken.ensures.value in
    let is = ap (λ o. unwrap_or o got.value) (sym got.is ∙ c.in-Some.is) in got.opened ∙ ap (λ y. Some (g.V.Logged.opening y)) is

pub returns-clause-seen : goal.returns-clause-seen
returns-clause-seen g c =
    let got = ends g.V.Logged.opening g.V.Logged.entries _ _ _ _ _ _ _ _ _ _ c.pass.view_is c.pass.invariant c.requires.first c.requires.alone c.requires.rest c.close_with-closed.ensures.values.2 c.take-taken.ensures.value in
    let is = ap (λ o. unwrap_or o got.value) (sym got.is ∙ c.in-Some.is) in ap g.V.Logged.entries (sym is) ∙ got.all

pub returns-clause-own : goal.returns-clause-own
returns-clause-own g c =
    let got = ends g.V.Logged.opening g.V.Logged.entries _ _ _ _ _ _ _ _ _ _ c.pass.view_is c.pass.invariant c.requires.first c.requires.alone c.requires.rest c.close_with-closed.ensures.values.2 c.take-taken.ensures.value in
    let is = ap (λ o. unwrap_or o got.value) (sym got.is ∙ c.in-Some.is) in subst (λ y. HasOwn c.args.pass (g.V.Logged.entries y)) is got.owns
