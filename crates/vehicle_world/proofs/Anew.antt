-- A vehicle that is made of the spec of another.
use Rattle.std.proofs.Common.{◌≡◌, inl, inr, ℕ, ◌-◌, ◌≤◌, true, false, List, [], ◌∷◌, map, refl, sym, ◌∙◌, ap, subst, arith}
use Rattle.std.specs.Prelude.{nat_le, ◌==◌, if◌then◌else◌}
use Rattle.std.proofs.lemmas.Bool.{cases_Bool, cases_lt, le-leb, lt-leb}
use Rattle.flash_base.specs.Lists.{Each}
use Rattle.unit_model.specs.Running.{IsUnitSpec}
use Rattle.unit_model.specs.declared.spec.Act.{Act}
use Rattle.unit_model.specs.declared.spec.Act.TheVariants.{Refuse, Odd, Fail, Mute, Delay, Busy, Pending}
use Rattle.unit_model.specs.declared.spec.TroubleSpec.{TroubleSpec}
use Rattle.unit_model.specs.declared.spec.UnitSpec.{UnitSpec}
use Rattle.unit_model.specs.declared.spec.Until.{Until}
use Rattle.unit_model.specs.declared.spec.Until.TheVariants.{Times, Heard}
use Rattle.unit_sim.specs.Sims.{Sim, made_of as sim_made}
use Rattle.gateway_sim.specs.Acting.{alive_of}
use Rattle.gateway_sim.specs.Gates.{made_of as gate_made}
use Rattle.gateway_sim.specs.Saving.{left_at, left_in, put_first}
use Rattle.gateway_sim.specs.Troubles.{IsGatewaySpec}
use Rattle.gateway_sim.specs.declared.spec.GatewaySpec.{GatewaySpec}
use Rattle.gateway_sim.specs.declared.spec.GatewayTrouble.{GatewayTrouble}
use Rattle.gateway_sim.specs.declared.spec.GatewayTrouble.TheVariants.{Deny, Silent, Nack, Alive}
use Rattle.vehicle_world.specs.Saving.{IsVehicleSpec, SavesState, SaveUnits, address_in, alive_left, anew, is_met, rested, unmet, until_met}
use Rattle.vehicle_world.specs.States.{State, has_heard, unit_in, vehicle_in}
use Rattle.vehicle_world.specs.Worlds.{IsFresh, Simulated, made_of, simulated, state_made}
use Rattle.vehicle_world.specs.declared.spec.VehicleSpec.{VehicleSpec}

-- ------ alive checks
one_alive : (now tick : ℕ) (ts : List GatewayTrouble) → alive_of (put_first (left_in now (Alive tick)) ts) ≡ (if nat_le tick now then alive_of ts else (tick - now) ∷ alive_of ts)
one_alive now tick ts = elim (cases_Bool (nat_le tick now)) [ inl e ↦ rw e refl | inr e ↦ rw e refl ]

pub left_alive : (now : ℕ) (ts : List GatewayTrouble) → alive_of (left_at now ts) ≡ alive_left now (alive_of ts)
left_alive now [] = refl
left_alive now (Deny nth code ∷ ts) = left_alive now ts
left_alive now (Silent nth ∷ ts) = left_alive now ts
left_alive now (Nack unit nth code ∷ ts) = left_alive now ts
left_alive now (Alive tick ∷ ts) = one_alive now tick (left_at now ts) ∙ ap (λ (xs : List ℕ). if nat_le tick now then xs else (tick - now) ∷ xs) (left_alive now ts)

-- what is left is left again at tick 0
again_one : (t : ℕ) (ts : List GatewayTrouble) → 1 ≤ t → left_at 0 (Alive t ∷ ts) ≡ Alive t ∷ left_at 0 ts
again_one t ts some =
    let no : nat_le t 0 ≡ false = lt-leb t 0 (omega (arith, some)) in
    let same : t - 0 ≡ t = omega arith in
    rw no (ap (λ (n : ℕ). Alive n ∷ left_at 0 ts) same)

left_again : (now : ℕ) (ts : List GatewayTrouble) → left_at 0 (left_at now ts) ≡ left_at now ts
left_again now [] = refl
left_again now (Deny nth code ∷ ts) = ap (λ (xs : List GatewayTrouble). Deny nth code ∷ xs) (left_again now ts)
left_again now (Silent nth ∷ ts) = ap (λ (xs : List GatewayTrouble). Silent nth ∷ xs) (left_again now ts)
left_again now (Nack unit nth code ∷ ts) = ap (λ (xs : List GatewayTrouble). Nack unit nth code ∷ xs) (left_again now ts)
left_again now (Alive tick ∷ ts) = elim (cases_lt now tick) [
  | inl lt ↦
      let no : nat_le tick now ≡ false = lt-leb tick now lt in
      let some : 1 ≤ tick - now = omega (arith, lt) in
      rw no (again_one (tick - now) (left_at now ts) some ∙ ap (λ (xs : List GatewayTrouble). Alive (tick - now) ∷ xs) (left_again now ts))
  | inr le ↦ let over : nat_le tick now ≡ true = le-leb tick now le in rw over (left_again now ts)
]

-- ------ units
pub units_rest : (sims ss : List Sim) (us : List UnitSpec) → SaveUnits sims ss us → map unit_in (map sim_made us) ≡ map rested (map unit_in ss)
units_rest sims [] [] save = refl
units_rest sims [] (u ∷ us) save = absurd save
units_rest sims (s ∷ ss) [] save = absurd save
units_rest sims (s ∷ ss) (u ∷ us) save = λ i. save.0.unit i ∷ units_rest sims ss us save.1 i

pub made_anew : (s : State) (spec : VehicleSpec) → s.gate.gateway.alive ≡ alive_of s.gate.troubles → SavesState s spec → (made_of spec).vehicle ≡ anew (vehicle_in s)
made_anew s spec alive_is save =
    let left : left_at 0 spec.gateway.gateway ≡ left_at s.gate.gateway.tick s.gate.troubles = ap (left_at 0) save.gateway ∙ left_again s.gate.gateway.tick s.gate.troubles in
    let alive : alive_of (left_at 0 spec.gateway.gateway) ≡ alive_left s.gate.gateway.tick s.gate.gateway.alive =
    ap alive_of left ∙ left_alive s.gate.gateway.tick s.gate.troubles ∙ ap (alive_left s.gate.gateway.tick) (sym alive_is) in
    λ i. record {
      gateway = record (anew (vehicle_in s)).gateway { entity = save.entity i; alive = alive i };
      units = units_rest s.sims s.sims spec.units save.units i;
    }

-- ------ a vehicle to which nothing was done
none_heard : (us : List UnitSpec) (unit sid : ℕ) → has_heard (map sim_made us) unit sid ≡ false
none_heard [] unit sid = refl
none_heard (u ∷ us) unit sid = elim (cases_Bool (u.address == unit)) [ inl e ↦ rw e refl | inr e ↦ rw e (none_heard us unit sid) ]

until_unmet : (us : List UnitSpec) (until : Until) → until_met (map sim_made us) until ≡ false
until_unmet us (Times times) = refl
until_unmet us (Heard unit sid) = none_heard us unit sid

none_met : (us : List UnitSpec) (act : Act) → is_met (map sim_made us) act ≡ false
none_met us (Pending ticks until) = until_unmet us until
none_met us (Refuse nrc) = refl
none_met us (Odd bytes) = refl
none_met us (Fail status) = refl
none_met us Mute = refl
none_met us (Delay ticks) = refl
none_met us (Busy times) = refl

all_unmet : (us : List UnitSpec) (ts : List TroubleSpec) → unmet (map sim_made us) ts ≡ ts
all_unmet us [] = refl
all_unmet us (t ∷ ts) = rw (none_met us t.act) (ap (λ (xs : List TroubleSpec). t ∷ xs) (all_unmet us ts))

same_sims : (all us ws : List UnitSpec) → SaveUnits (map sim_made all) (map sim_made us) ws → map sim_made ws ≡ map sim_made us
same_sims all [] [] save = refl
same_sims all [] (w ∷ ws) save = absurd save
same_sims all (u ∷ us) [] save = absurd save
same_sims all (u ∷ us) (w ∷ ws) save =
    let troubles : w.troubles ≡ u.troubles = save.0.troubles ∙ all_unmet all u.troubles in
    λ i. record { unit = save.0.unit i; troubles = troubles i; waiting = []; services = λ sid. false } ∷ same_sims all us ws save.1 i

same_addresses : (us ws : List UnitSpec) → map sim_made ws ≡ map sim_made us → map address_in ws ≡ map address_in us
same_addresses us ws is = sym (go ws) ∙ ap (map (λ (s : Sim). s.unit.address)) is ∙ go us
  where
    go : (xs : List UnitSpec) → map (λ (s : Sim). s.unit.address) (map sim_made xs) ≡ map address_in xs
    go [] = refl
    go (x ∷ xs) = ap (λ (ns : List ℕ). x.address ∷ ns) (go xs)

state_fresh : (first spec : VehicleSpec) → SavesState (state_made first) spec → state_made spec ≡ state_made first
state_fresh first spec save =
    let sims : map sim_made spec.units ≡ map sim_made first.units = same_sims first.units first.units spec.units save.units in
    let troubles : left_at 0 spec.gateway.gateway ≡ left_at 0 first.gateway.gateway =
    ap (left_at 0) (save.gateway ∙ left_again 0 first.gateway.gateway) ∙ left_again 0 first.gateway.gateway in
    λ i. record {
      gate = gate_made (record { entity = save.entity i; gateway = troubles i; units = same_addresses first.units spec.units sims i });
      sims = sims i;
      held = [];
    }

pub made_fresh : (s : State) (spec : VehicleSpec) → SavesState s spec → IsFresh (simulated s) → made_of spec ≡ simulated s
made_fresh s spec save fresh =
    let is : s ≡ state_made fresh.spec = ap (λ (w : Simulated). w.state) fresh.is in
    ap simulated (state_fresh fresh.spec spec (subst (λ (t : State). SavesState t spec) is save) ∙ sym is)

-- ------ the form
pub form_of : (gateway : GatewaySpec) (units : List UnitSpec) (addresses : List ℕ) → IsGatewaySpec gateway → Each IsUnitSpec units → addresses ≡ map address_in units
    → IsVehicleSpec (record { gateway = record gateway { units = addresses }; units = units })
form_of gateway units addresses is each are = record {
  gateway = record { troubles = is.troubles; few = is.few };
  units = each;
  addresses = are;
}

pub saves_of : (s : State) (gateway : GatewaySpec) (units : List UnitSpec) (addresses : List ℕ) → IsVehicleSpec (record { gateway = record gateway { units = addresses }; units = units }) → gateway.entity ≡ s.gate.gateway.entity → gateway.gateway ≡ left_at s.gate.gateway.tick s.gate.troubles → SaveUnits s.sims s.sims units
    → SavesState s (record { gateway = record gateway { units = addresses }; units = units })
saves_of s gateway units addresses form entity troubles save = record { is = form; entity = entity; gateway = troubles; units = save }
