-- Responses pending, one after another.
use Rattle.std.proofs.Common.{◌≡◌, ℕ, suc, ◌+◌, List, [], ◌∷◌, ◌++◌, ◌∙◌, ap, sym}
use Rattle.std.proofs.lemmas.List.{append_assoc}
use Rattle.unit_model.specs.Step.{pendings, pending_bytes, reply_at}
use Rattle.unit_model.specs.declared.reply.UnitReply.{UnitReply}
use Rattle.unit_sim.specs.Done.{turns}

pub one_turn : (sid : ℕ) (said : List UnitReply) (from every n m : ℕ) → n ≡ suc m → (said ++ (reply_at (from + every) (pending_bytes sid) ∷ [])) ++ pendings sid (turns (from + every) every m) ≡ said ++ pendings sid (turns from every n)
one_turn sid said from every n m is =
    append_assoc said (reply_at (from + every) (pending_bytes sid) ∷ []) (pendings sid (turns (from + every) every m))
    ∙ ap (λ (k : ℕ). said ++ pendings sid (turns from every k)) (sym is)
