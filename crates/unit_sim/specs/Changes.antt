-- What a request changes in a unit, and when that may be.
use Rattle.std.specs.Prelude.{◌≡◌, ◌⊎◌, ℕ, ◌+◌, ◌≤◌, true, List, length, Option, None, Some, IsTrue, MatchOption}
use Rattle.flash_base.specs.ByteMaps.{MemoryMap, has_each}
use Rattle.unit_model.specs.RegionTests.{LIMIT}
use Rattle.unit_model.specs.Rules.{is_kind, all_ranges}
use Rattle.unit_model.specs.Unit.{ControlUnit, OpenTransfer, in_kind, erased, opened, downloading, behind, written, set_dtc, set_messages}
use Rattle.unit_model.specs.declared.unit.Unit.{Unit as RunningUnit}
use Rattle.unit_sim.specs.declared.change.Change.{Change}
use Rattle.unit_sim.specs.declared.change.Change.TheVariants.{Nothing, Enter, Seeded, Unlocked, Erased, Checked, Passed, Downloads, Uploads, Written, Given, Closed, Setting, Messages}
use Rattle.unit_sim.specs.declared.change.Step.{Step}

abbrev pub written_in : ControlUnit → Option OpenTransfer → List ℕ → ControlUnit
written_in u None body = u
written_in u (Some t) body = written u t body

abbrev pub given_in : Option OpenTransfer → ℕ → Option OpenTransfer
given_in None size = None
given_in (Some t) size = Some (behind t size)

abbrev pub changed : Change → ControlUnit → ControlUnit
changed Nothing u = u
changed (Enter kind) u = in_kind u kind
changed (Seeded seed) u = record u { last_seed = Some seed }
changed Unlocked u = record u { unlocked = true }
changed (Erased at size) u = erased u at size
changed (Checked ranges) u = record u { checked = ranges.items }
changed Passed u = record u { passed = true }
changed (Downloads at size) u = downloading u at size
changed (Uploads at size) u = record u { transfer = Some (opened true at size) }
changed (Written body) u = written_in u u.transfer body.now
changed (Given size) u = record u { transfer = given_in u.transfer size }
changed Closed u = record u { transfer = None }
changed (Setting off) u = set_dtc u off
changed (Messages off) u = set_messages u off

-- the state behind a step, and its answer
abbrev pub stepped : Step → ControlUnit → ControlUnit × List ℕ
stepped s u = (changed s.change u, s.answer)

-- a range that the memory has
pub record IsOpenRange (at size : ℕ) (memory : MemoryMap) : Type 0 where
  pub limit : at + size ≤ LIMIT
  pub there : IsTrue (has_each at size memory)

-- what a change needs
abbrev pub MayChange : Change → RunningUnit → Type 0
MayChange Nothing u = Unit {0}
MayChange (Enter kind) u = IsTrue (is_kind kind)
MayChange (Seeded seed) u = Unit {0}
MayChange Unlocked u = Unit {0}
MayChange (Erased at size) u = at + size ≤ LIMIT
MayChange (Checked ranges) u = IsTrue (all_ranges ranges.items)
MayChange Passed u = Unit {0}
MayChange (Downloads at size) u = IsOpenRange at size u.memory
MayChange (Uploads at size) u = IsOpenRange at size u.memory
MayChange (Written body) u =
    MatchOption u.transfer ⊥ (λ t. (length body.now ≤ t.rest) × (length body.now ≤ 65533))
MayChange (Given size) u = MatchOption u.transfer ⊥ (λ t. (size ≤ t.rest) × (size ≤ 65533))
MayChange Closed u = Unit {0}
MayChange (Setting off) u = Unit {0}
MayChange (Messages off) u = Unit {0}

-- nothing, or the change of the obedient step
abbrev pub IsChange : Change → Change → Type 0
IsChange c step = (c ≡ Nothing) ⊎ (c ≡ step)
