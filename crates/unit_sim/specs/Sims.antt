-- A simulated unit: what it stands for, and what hearing a request makes of it.
use Rattle.std.specs.Prelude.{◌≡◌, ℕ, Bool, false, ◌||◌, ◌==◌, List, [], ◌∷◌, ◌++◌, slice_index_or}
use Rattle.uds_codec.specs.Request.{sid_of}
use Rattle.unit_model.specs.declared.reply.UnitReply.{UnitReply}
use Rattle.unit_model.specs.declared.spec.TroubleSpec.{TroubleSpec}
use Rattle.unit_model.specs.declared.spec.UnitSpec.{UnitSpec}
use Rattle.unit_model.specs.Running.{control_unit, unit_of, calm, IsUnitSpec}
use Rattle.unit_model.specs.Step.{UnitStep}
use Rattle.unit_model.specs.Unit.{ControlUnit, Counts, heard_one}
use Rattle.unit_sim.specs.declared.sim.UnitSim.{UnitSim}
use Rattle.unit_sim.specs.Acting.{acting, counted}
use Rattle.unit_sim.specs.Done.{done}
use Rattle.unit_sim.specs.Outcomes.{counted_on}
use Rattle.unit_sim.specs.Tallies.{counts_of}
use Rattle.unit_sim.specs.declared.outcome.Outcome.{Outcome}

-- troubles: those that remain. waiting: replies that were not taken out yet, in order. services: what it heard so far.
pub record Sim : Type 0 where
  pub unit : ControlUnit
  pub troubles : List TroubleSpec
  pub waiting : List UnitReply
  pub services : ℕ → Bool

abbrev pub sim_of : UnitSim → Sim
sim_of s = record {
  unit = record (control_unit s.unit) { counts = counts_of s.tally };
  troubles = s.troubles.items;
  waiting = s.waiting.items;
  services = λ sid. slice_index_or s.services sid false;
}

abbrev pub made_of : UnitSpec → Sim
made_of spec = record { unit = unit_of spec; troubles = spec.troubles; waiting = []; services = λ sid. false }

-- the bytes are heard at this tick
abbrev pub heard_by : Sim → List ℕ → ℕ → Sim
heard_by s bytes tick = record {
  unit = heard_one (done (acting (sid_of bytes) s.troubles) s.unit bytes tick).0;
  troubles = counted (sid_of bytes) s.troubles;
  waiting = s.waiting ++ (done (acting (sid_of bytes) s.troubles) s.unit bytes tick).1;
  services = λ sid. sid == sid_of bytes || s.services sid;
}

-- what a request with this service byte has come to is made
abbrev pub committed : Sim → ℕ → Outcome → Sim
committed s sid o = record {
  unit = heard_one (counted_on o s.unit);
  troubles = counted sid s.troubles;
  waiting = s.waiting ++ o.replies.items;
  services = λ other. other == sid || s.services other;
}

-- one step of the unit, with its replies behind those that wait
pub record Hears (old : Sim) (bytes : List ℕ) (tick : ℕ) (new : Sim) : Type 0 where
  pub replies : List UnitReply
  pub step : UnitStep old.unit bytes tick replies new.unit
  pub waits : new.waiting ≡ old.waiting ++ replies

-- the first reply that waits is taken out
abbrev pub Takes : UnitReply → Sim → Sim → Type 0
Takes reply old new = old ≡ record new { waiting = reply ∷ new.waiting }

-- one count of the unit is raised, and all else stays
abbrev pub with_counts : Counts → Sim → Sim
with_counts counts s = record s { unit = record s.unit { counts = counts } }

-- The present state as a spec: the unit with all counts begun anew, and the troubles that remain.
pub record Saves (s : Sim) (spec : UnitSpec) : Type 0 where
  pub is : IsUnitSpec spec
  pub unit : unit_of spec ≡ record s.unit { woken = 0; counts = calm }
  pub troubles : spec.troubles ≡ s.troubles
