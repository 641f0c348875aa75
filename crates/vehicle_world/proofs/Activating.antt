-- An activation request is answered in one of the ways that there are.
use Rattle.std.proofs.Common.{◌≡◌, inl, inr, ℕ, true, false, List, [], ◌∷◌, refl}
use Rattle.std.specs.Prelude.{◌==◌}
use Rattle.std.proofs.lemmas.Bool.{cases_Bool, cases_eq, eq-eqb, ne_eqb}
use Rattle.unit_model.specs.Feed.{Activation, Accepts, Denies, Ignores, activation, IsActivation}
use Rattle.unit_model.specs.Vehicle.{Gateway}
use Rattle.gateway_sim.specs.Acting.{how}
use Rattle.gateway_sim.specs.Handling.{answered}
use Rattle.gateway_sim.specs.declared.spec.GatewayTrouble.{GatewayTrouble}
use Rattle.gateway_sim.specs.declared.spec.GatewayTrouble.TheVariants.{Deny, Silent, Nack, Alive}

-- the gateway behind an activation
abbrev pub acted : Activation → ℕ → Gateway → Gateway
acted a source h = (activation a source (record { gateway = h; units = [] })).gateway

-- there is a way by which one gateway becomes another
pub record Acts (source : ℕ) (old new : Gateway) : Type 0 where
  pub act : Activation
  pub is : IsActivation act
  pub becomes : new ≡ acted act source old

denies : (source code : ℕ) (h : Gateway) (nth : ℕ) (ts : List GatewayTrouble) → (nth == 1) ≡ true → Acts source h (answered (how (Deny nth code ∷ ts)) source h)
denies source code h nth ts e = elim (cases_eq code 16) [
  | inl s ↦ let b : (code == 16) ≡ true = eq-eqb code 16 s in rw e (rw b (record { act = Accepts; is = tt; becomes = refl }))
  | inr n ↦ let b : (code == 16) ≡ false = ne_eqb code 16 n in rw e (rw b (record { act = Denies code; is = n; becomes = refl }))
]

pub acts : (source : ℕ) (h : Gateway) (ts : List GatewayTrouble) → Acts source h (answered (how ts) source h)
acts source h [] = record { act = Accepts; is = tt; becomes = refl }
acts source h (Deny nth code ∷ ts) = elim (cases_Bool (nth == 1)) [
  | inl e ↦ denies source code h nth ts e
  | inr e ↦ rw e (acts source h ts)
]
acts source h (Silent nth ∷ ts) = elim (cases_Bool (nth == 1)) [
  | inl e ↦ rw e (record { act = Ignores; is = tt; becomes = refl })
  | inr e ↦ rw e (acts source h ts)
]
acts source h (Nack unit nth code ∷ ts) = acts source h ts
acts source h (Alive tick ∷ ts) = acts source h ts
