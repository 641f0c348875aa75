-- Units as specs.
use Rattle.std.proofs.Common.{◌≡◌, inl, inr, ℕ, ◌≤◌, true, List, [], ◌∷◌, ◌++◌, length, drop, map, sym, ap, subst}
use Rattle.std.specs.Prelude.{Bool, not, filter}
use Rattle.std.proofs.lemmas.Bool.{cases_Bool, and_parts, and_from}
use Rattle.std.proofs.lemmas.List.{append-nil, drop_all}
use Rattle.unit_model.specs.Running.{IsUnitSpec}
use Rattle.unit_model.specs.Troubles.{all_troubles}
use Rattle.unit_model.specs.declared.spec.TroubleSpec.{TroubleSpec}
use Rattle.unit_model.specs.declared.spec.UnitSpec.{UnitSpec}
use Rattle.unit_sim.specs.Sims.{Sim, Saves}
use Rattle.vehicle_world.specs.Saving.{SavesUnit, SaveUnits, is_met, unmet}
use Rattle.vehicle_world.specs.States.{node_sim}
use Rattle.vehicle_world.specs.declared.node.Node.{Node}

few_troubles : (p : TroubleSpec → Bool) (ts : List TroubleSpec) → all_troubles ts ≡ true → all_troubles (filter p ts) ≡ true
few_troubles p [] are = are
few_troubles p (t ∷ ts) are =
    let parts = and_parts _ _ are in
    elim (cases_Bool (p t)) [
      | inl e ↦ rw e (and_from _ _ parts.0 (few_troubles p ts parts.1))
      | inr e ↦ rw e (few_troubles p ts parts.1)
    ]

pub still_spec : (sims : List Sim) (spec made : UnitSpec) → made ≡ record spec { troubles = unmet sims spec.troubles } → IsUnitSpec spec → IsUnitSpec made
still_spec sims spec made is s = subst IsUnitSpec (sym is) (record {
  regions = s.regions;
  bytes = s.bytes;
  idents = s.idents;
  seed = s.seed;
  key = s.key;
  checked = s.checked;
  kind = s.kind;
  transfer = s.transfer;
  troubles = few_troubles (λ t. not (is_met sims t.act)) spec.troubles s.troubles;
})

pub saves_unit : (sims : List Sim) (s : Sim) (spec made : UnitSpec) → made ≡ record spec { troubles = unmet sims spec.troubles } → Saves s spec → SavesUnit sims s made
saves_unit sims s spec made is saves = subst (SavesUnit sims s) (sym is) (record { unit = saves.unit; troubles = ap (unmet sims) saves.troubles })

pub saves_end : (sims all : List Sim) (units : List Node) (i : ℕ) (made : List UnitSpec) → length units ≤ i → ((rest : List UnitSpec) → SaveUnits sims (map node_sim (drop i units)) rest → SaveUnits sims all (made ++ rest)) → SaveUnits sims all made
saves_end sims all units i made le save =
    let none : drop i units ≡ [] = drop_all i units le in
    let last : SaveUnits sims (map node_sim (drop i units)) [] = subst (λ (ns : List Node). SaveUnits sims (map node_sim ns) []) (sym none) tt in
    subst (SaveUnits sims all) (append-nil made) (save [] last)
