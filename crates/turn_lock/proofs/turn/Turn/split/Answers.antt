use Rattle.std.proofs.Common.{rules, ℕ, ◌<◌, sym, ap, ◌∙◌, subst, arith}
use Rattle.turn_lock.proofs.Passes.{counts_up, splits}
use Rattle.turn_lock.proofs.States.{idle_stage}
use Rattle.turn_lock.proofs.turn.Turn.split.Goals as goal

pub fetch_add-requires : goal.fetch_add-requires
fetch_add-requires g c = let is = c.pass.view_is in let idle = idle_stage _ _ _ _ c.pass.inside.seat.me _ is c.pass.invariant c.requires.rest in
    (search rules, search rules, counts_up _ _ _ _ _ (ap (λ p. p.first) is ∙ c.requires.first) (subst (λ (n : ℕ). n < 65535) (sym (ap (λ p. p.others) is)) c.requires.room) idle)

pub split_seat-seat-requires : goal.split_seat-seat-requires
split_seat-seat-requires g c = let is = c.pass.view_is in let idle = idle_stage _ _ _ _ c.pass.inside.seat.me _ is c.pass.invariant c.requires.rest in
    let now = ap (λ m. m.0) c.fetch_add.ensures.2 in let unseated = ap (λ v. v.unseated) now in
    (search rules, search rules, splits _ _ _ _ (ap (λ v. v.first) now ∙ ap (λ p. p.first) is ∙ c.requires.first) (ap (λ v. v.stage) now ∙ idle) (omega arith))
