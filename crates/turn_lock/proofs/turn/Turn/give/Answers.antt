use Rattle.std.proofs.Common.{rules, ◌≡◌, ◌∷◌, length, Some, sym, ap, ◌∙◌, subst, arith, ◌-◌, ◌++◌, length-append}
use Rattle.std.proofs.lemmas.List.FromFn.{length-range_with_len}
use Rattle.atomic_table.specs.Table.{rest}
use Rattle.turn_lock.specs.Lists.{Begins, new_positions}
use Rattle.turn_lock.specs.Seats.{stage_of, is_holding, slots_in_hand}
use Rattle.turn_lock.specs.Steps.{entries_put}
use Rattle.turn_lock.proofs.Holding.{advances}
use Rattle.turn_lock.proofs.Prefixes.{begins-length}
use Rattle.turn_lock.proofs.States.{holding_stage, empty_slot}
use Rattle.turn_lock.proofs.turn.Turn.give.Goals as goal

pub fetch_add-requires : goal.fetch_add-requires
fetch_add-requires g c = let x = c.exchange-left.ensures.3 in let v = ap (λ m. m.0) x in let is = c.pass.view_is in let told = c.pass.invariant in (
  search rules,
  search rules,
  advances _ _ _ _ _ c.args.value (ap (λ m. m.1) x ∙ (λ i. (0, Some c.args.value) ∷ ap rest (empty_slot _ _ _ _ c.pass.inside.seat.me _ is told c.requires.holds) i))
      (ap (λ m. m.stage) v ∙ holding_stage _ _ _ _ c.pass.inside.seat.me _ is told c.requires.holds) (ap (λ m. m.shown) v ∙ told.compared)
      (ap (λ m. m.opening) v ∙ ap (λ p. p.opening) is ∙ c.requires.opening)
      (subst (λ l. Begins l (g.V.Logged.entries c.args.value)) (sym (ap (λ m. m.seen) v ∙ ap (λ p. p.seen) is)) c.requires.entries) c.count-count.ensures.few,
)

pub invariant_of-pass : goal.invariant_of-pass
invariant_of-pass g c =
    let x = c.exchange-left.ensures.3 in let v = ap (λ m. m.0) x in let a = c.fetch_add.ensures.2 in let n = ap (λ m. m.0) a.after in let told = c.pass.invariant in
    let put = ap (λ m. entries_put g.V.Logged.entries m.1) x in let value : length (g.V.Logged.entries c.args.value) ≡ c.count-count.result = sym c.count-count.ensures.number in
    let was = ap (λ m. length m.seen) v in let had = ap (λ m. length m.own) v in let long = ap length put in
    let seen = ap (λ m. length m.seen) n ∙ long in let le = begins-length _ _ a.grown in
    let more = length-range_with_len (length c.exchange-left.new.seat.me.0.seen) (length (entries_put g.V.Logged.entries c.exchange-left.new.seat.me.1) - length c.exchange-left.new.seat.me.0.seen) in
    let own = ap (λ m. length m.own) n ∙ length-append c.exchange-left.new.seat.me.0.own (new_positions c.exchange-left.new.seat.me.0.seen (entries_put g.V.Logged.entries c.exchange-left.new.seat.me.1)) in
    let few = c.count-count.ensures.few in let own_few = a.own_few in let idle = ap (λ m. m.stage) n in let others = ap (λ m. m.others) n ∙ ap (λ m. m.others) v in
    let told_seen = told.seen_is in let told_own = told.own_is in
    record {
      seen_is = omega arith;
      own_is = omega arith;
      others_is = told.others_is ∙ sym others;
      seen_few = omega arith;
      own_few = omega arith;
      rest_none = λ rest. others ∙ told.rest_none (sym (ap (λ m. m.first) n ∙ ap (λ m. m.first) v) ∙ rest);
      seated = ap (λ m. m.unseated) n ∙ ap (λ m. m.unseated) v ∙ told.seated;
      compared = ap (λ m. m.shown) n ∙ ap (λ m. m.shown) v ∙ told.compared;
      stage_is = idle ∙ ap (λ s. stage_of (is_holding s)) (sym idle);
      slots_are = ap (λ m. m.1) a.after ∙ ap (λ s. slots_in_hand (is_holding s)) (sym idle);
    }

pub returns : goal.returns
returns g c =
    let is = c.pass.view_is in let x = c.exchange-left.ensures.3 in let v = ap (λ m. m.0) x in let a = c.fetch_add.ensures.2 in let n = ap (λ m. m.0) a.after in
    let put = ap (λ m. entries_put g.V.Logged.entries m.1) x in let was = ap (λ m. m.seen) v ∙ ap (λ p. p.seen) is in
    let turn = c.fetch_add.ensures.0 ∙ c.exchange-left.ensures.0 ∙ ap (λ p. p.turn) is in let first = ap (λ m. m.first) n ∙ ap (λ m. m.first) v ∙ ap (λ p. p.first) is in
    let rests = ap (λ m. is_holding m.stage) n in let opening = ap (λ m. m.opening) n ∙ ap (λ m. m.opening) v ∙ ap (λ p. p.opening) is in let seen = ap (λ m. m.seen) n ∙ put in
    let had = ap (λ m. m.own) v ∙ ap (λ p. p.own) is in let own = ap (λ m. m.own) n ∙ (λ i. had i ++ new_positions (was i) (put i)) in
    let others = ap (λ m. m.others) n ∙ ap (λ m. m.others) v ∙ ap (λ p. p.others) is in
    λ i. record { turn = turn i; first = first i; holds = rests i; opening = opening i; seen = seen i; own = own i; others = others i }
