-- A unit that no reply waits for hears a request.
use Rattle.std.proofs.Common.{◌≡◌, ℕ, ◌≤◌, List, [], ◌∷◌, ◌++◌, length, refl, sym, ◌∙◌, ap, subst, arith}
use Rattle.unit_model.specs.Step.{UnitStep}
use Rattle.unit_model.specs.Unit.{ControlUnit}
use Rattle.unit_model.specs.declared.reply.UnitReply.{UnitReply}
use Rattle.unit_sim.specs.Sims.{Sim, Hears}

pub none : {T : Type 0} (xs : List T) → length xs ≤ 0 → xs ≡ []
none [] le = refl
none (x ∷ xs) le = absurd (omega (arith, le))

pub taken : (old mid new : Sim) (body : List ℕ) (tick : ℕ) (rs : List UnitReply) → length old.waiting ≤ 0 → Hears old body tick mid → rs ≡ mid.waiting → new ≡ record mid { waiting = [] } → UnitStep old.unit body tick rs new.unit
taken old mid new body tick rs calm h is same =
    let all : rs ≡ h.replies = is ∙ h.waits ∙ ap (λ (xs : List UnitReply). xs ++ h.replies) (none old.waiting calm) in
    let unit : new.unit ≡ mid.unit = ap (λ (s : Sim). s.unit) same in
    subst (λ (u : ControlUnit). UnitStep old.unit body tick rs u) (sym unit) (subst (λ (xs : List UnitReply). UnitStep old.unit body tick xs mid.unit) (sym all) h.step)
