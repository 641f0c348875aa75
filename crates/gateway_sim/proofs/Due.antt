-- Frames that are due, and alive checks.
use Rattle.std.proofs.Common.{◌≡◌, inl, inr, ℕ, ◌+◌, ◌<◌, Bool, true, false, List, [], ◌∷◌, ◌++◌, length, drop, get_or, refl, sym, ◌∙◌, ap, subst, append_assoc}
use Rattle.std.specs.Prelude.{nat_le, ◌||◌, if◌then◌else◌}
use Rattle.std.proofs.lemmas.List.{drop_more}
use Rattle.unit_model.specs.Poll.{bytes_due, has_tick}
use Rattle.gateway_sim.specs.declared.spec.GatewayTrouble.{GatewayTrouble}
use Rattle.gateway_sim.specs.declared.spec.GatewayTrouble.TheVariants.{Deny, Silent, Nack, Alive}
use Rattle.gateway_sim.specs.Acting.{is_at, alive_by, alive_of}

-- one frame more was looked at
pub due_on : (tick i : ℕ) (later : List (ℕ × List ℕ)) (all made more : List ℕ) (q : ℕ × List ℕ) → i < length later → q ≡ get_or later i q → more ≡ (if nat_le q.0 tick then q.1 else []) → all ≡ made ++ bytes_due tick (drop i later) → all ≡ (made ++ more) ++ bytes_due tick (drop (i + 1) later)
due_on tick i later all made more q lt is more_is so =
    so
    ∙ ap (λ (qs : List (ℕ × List ℕ)). made ++ bytes_due tick qs) (drop_more later i q lt ∙ ap (λ (p : ℕ × List ℕ). p ∷ drop (i + 1) later) (sym is))
    ∙ ap (λ (xs : List ℕ). made ++ (xs ++ bytes_due tick (drop (i + 1) later))) (sym more_is)
    ∙ sym (append_assoc made more (bytes_due tick (drop (i + 1) later)))

-- an alive check at this tick, or at another
pub at_tick : (now : ℕ) (t : GatewayTrouble) (rest : List ℕ) → has_tick now (alive_by t rest) ≡ (is_at now t || has_tick now rest)
at_tick now (Deny nth code) rest = refl
at_tick now (Silent nth) rest = refl
at_tick now (Nack unit nth code) rest = refl
at_tick now (Alive tick) rest = refl
