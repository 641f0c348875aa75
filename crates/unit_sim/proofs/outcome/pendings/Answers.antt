use Rattle.std.proofs.Common.{◌≡◌, ◌∙◌, ◌+◌, ◌-◌, ◌++◌, ◌∷◌, [], suc, arith, List, ℕ}
use Rattle.unit_model.specs.Step.{pendings, pending_bytes, reply_at}
use Rattle.unit_model.specs.declared.reply.UnitReply.{UnitReply}
use Rattle.unit_model.specs.declared.reply.Due.TheVariants.{At}
use Rattle.unit_sim.specs.Done.{turns}
use Rattle.unit_sim.proofs.Turns.{one_turn}
use Rattle.unit_sim.proofs.outcome.pendings.Goals as goal

pub loop-i-preserved : goal.loop-i-preserved
loop-i-preserved c =
    let had : List UnitReply = c.loop-i.replies.items in
    let next : ℕ = c.loop-i.turn + c.args.ticks in
    let same : c.loop-i.turn + c.from-turn.result ≡ next = omega (arith, c.from-turn.ensures) in
    let left : c.args.times - c.loop-i.i ≡ suc (c.args.times - (c.loop-i.i + 1)) = omega arith in
    let items : c.push_back.new.self.items ≡ had ++ (reply_at next (pending_bytes c.args.sid) ∷ []) =
    c.in_ok-push_back.ensures.items ∙ (λ k. had ++ (record { due = At (same k); body = c.in_ok-body.ensures k } ∷ [])) in
    record {
      turn = same ∙ omega (arith, c.loop-i.invariant.turn);
      said =
          (λ k. items k ++ pendings c.args.sid (turns (same k) c.args.ticks (c.args.times - (c.loop-i.i + 1))))
          ∙ one_turn c.args.sid had c.loop-i.turn c.args.ticks _ _ left
          ∙ c.loop-i.invariant.said;
    }
