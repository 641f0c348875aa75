use Rattle.std.proofs.Common.{rules, ap, ◌∙◌, arith}
use Rattle.turn_lock.proofs.Passes.{joins, counts_down}
use Rattle.turn_lock.proofs.States.{idle_stage, no_slots}
use Rattle.turn_lock.proofs.turn.Turn.join.Goals as goal

pub join_seat-requires : goal.join_seat-requires
join_seat-requires g c = let is = c.pass.view_is in let told = c.pass.invariant in let rest = c.requires.rest in let told' = c.other.invariant in (
  search rules,
  search rules,
  no_slots _ _ _ _ c.other.inside.seat.me _ c.other.view_is told' rest.1,
  search rules,
  joins _ _ _ _ _ _ (ap (λ p. p.first) is ∙ c.requires.first) (idle_stage _ _ _ _ c.pass.inside.seat.me _ is told rest.0) (idle_stage _ _ _ _ c.other.inside.seat.me _ c.other.view_is told' rest.1) told.compared told'.compared told'.seated,
)

pub fetch_sub-requires : goal.fetch_sub-requires
fetch_sub-requires g c = let is = c.pass.view_is in let idle = idle_stage _ _ _ _ c.pass.inside.seat.me _ is c.pass.invariant c.requires.rest.0 in
    let now = ap (λ m. m.0) c.join_seat.ensures.2 in let unseated = ap (λ v. v.unseated) now in
    (search rules, search rules, counts_down _ _ _ _ _ (ap (λ v. v.first) now ∙ ap (λ p. p.first) is ∙ c.requires.first) (ap (λ v. v.stage) now ∙ idle) (omega arith))
