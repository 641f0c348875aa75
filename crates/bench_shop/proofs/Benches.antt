-- What is known of a bench, behind a deed that was noted and behind one that was done.
use Rattle.std.proofs.Common.{◌≡◌, inl, inr, ℕ, ◌+◌, ◌-◌, ◌≤◌, ◌<◌, ◌^◌, true, false, List, [], ◌∷◌, ◌++◌, refl, sym, ◌∙◌, ap, subst, arith, Result, Ok, Err, IfOk}
use Rattle.std.proofs.lemmas.Bool.{lt-ltb, le-ltb, cases_lt, cases_order}
use Rattle.std.specs.Prelude.{nat_lt, if◌then◌else◌}
use mathlib.Core.Logic.{∥∥₁_map}
use Rattle.unit_model.specs.Vehicle.{Vehicle}
use Rattle.shop_model.specs.Stepping.{StepsUnits}
use Rattle.vehicle_world.specs.Saving.{anew}
use Rattle.vehicle_world.specs.Worlds.{Simulated, made_of, world_of}
use Rattle.vehicle_world.specs.declared.spec.VehicleSpec.{VehicleSpec}
use Rattle.vehicle_world.specs.declared.world.World.{World}
use Rattle.bench_shop.specs.declared.bench.Bench.{Bench}
use Rattle.bench_shop.specs.declared.entry.Deed.{Deed}
use Rattle.bench_shop.specs.declared.entry.Entry.{Entry}
use Rattle.bench_shop.specs.declared.past.Past.{Past}
use Rattle.bench_shop.specs.Benches.{world_at, IsAnew, Noted}
use Rattle.bench_shop.specs.Deeds.{does, replayed}
use Rattle.bench_shop.specs.Pasts.{last_of, world_in, AreSteps}
use Rattle.bench_shop.proofs.Replays.{world_after, replayed_until, replayed_behind}

-- ------ steps from each moment to the next
between : (a b c d : Simulated) → c ≡ a → d ≡ b → ∥ StepsUnits a.vehicle b.vehicle ∥₁
    → ∥ StepsUnits c.vehicle d.vehicle ∥₁
between a b c d ca db steps =
    subst (λ (v : Simulated). ∥ StepsUnits v.vehicle d.vehicle ∥₁) (sym ca)
    (subst (λ (v : Simulated). ∥ StepsUnits a.vehicle v.vehicle ∥₁) (sym db) steps)

-- ------ a deed that is noted
-- the vehicle of a moment, where at one of them nothing but the past has changed
abbrev then_in : ℕ → Simulated → Simulated → Past → ℕ → Simulated
then_in at now was before m = if nat_lt at m then now else world_in before was m

then_behind : (at m : ℕ) (now was : Simulated) (before : Past) → at < m → then_in at now was before m ≡ now
then_behind at m now was before lt =
    let test : nat_lt at m ≡ true = lt-ltb at m lt in
    rw test refl

then_until : (at m : ℕ) (now was : Simulated) (before : Past) → m ≤ at
    → then_in at now was before m ≡ world_in before was m
then_until at m now was before le =
    let test : nat_lt at m ≡ false = le-ltb at m le in
    rw test refl

-- it is the vehicle of before
then_same : (at m : ℕ) (now : Simulated) (before : Past) → last_of before ≤ at
    → then_in at now now before m ≡ world_in before now m
then_same at m now before le = elim (cases_lt at m) [
  | inl lt ↦ then_behind at m now now before lt ∙ sym (world_after before now m (omega (arith, le, lt)))
  | inr ge ↦ then_until at m now now before ge
]

kept_same : (at m : ℕ) (now snapped : World) (past before : Past) → snapped ≡ now → before ≡ past
    → last_of past ≤ at → then_in at (world_of now) (world_of snapped) before m ≡ world_in past (world_of now) m
kept_same at m now snapped past before is kept le =
    (λ i. then_in at (world_of now) (world_of (is i)) (kept i) m) ∙ then_same at m (world_of now) past le

pub noted_steps : (at m : ℕ) (now snapped : World) (past before : Past) → snapped ≡ now → before ≡ past
    → last_of past ≤ at → AreSteps past (world_of now)
    → ∥ StepsUnits (then_in at (world_of now) (world_of snapped) before m).vehicle
    (then_in at (world_of now) (world_of snapped) before (m + 1)).vehicle ∥₁
noted_steps at m now snapped past before is kept le steps =
    between (world_in past (world_of now) m) (world_in past (world_of now) (m + 1))
    (then_in at (world_of now) (world_of snapped) before m)
    (then_in at (world_of now) (world_of snapped) before (m + 1))
    (kept_same at m now snapped past before is kept le)
    (kept_same at (m + 1) now snapped past before is kept le) (steps m)

pub noted_replays : (es longer : List Entry) (e : Entry) (m : ℕ) (start : Simulated) (now snapped : World)
    (past before : Past) → m ≤ e.moment → longer ≡ es ++ e ∷ [] → snapped ≡ now → before ≡ past
    → last_of past ≤ e.moment → ∥ replayed es m start ≡ world_in past (world_of now) m ∥₁
    → ∥ replayed longer m start ≡ then_in e.moment (world_of now) (world_of snapped) before m ∥₁
noted_replays es longer e m start now snapped past before le more is kept last was = ∥∥₁_map was (λ same.
    ap (λ (xs : List Entry). replayed xs m start) more ∙ replayed_until es e m start le ∙ same
    ∙ sym (kept_same e.moment m now snapped past before is kept last))

pub noted_over : (at m : ℕ) (now was : Simulated) (before : Past) → at < m
    → ∥ then_in at now was before m ≡ now ∥₁
noted_over at m now was before lt = ∣ then_behind at m now was before lt ∣₁

-- ------ what was noted was done, or failed on the way
pub any_over : (moment m : ℕ) (deed : Deed) (old mid : Bench) (now : Simulated) → Noted moment deed old mid
    → mid.reach < m → ∥ world_in mid.past now m ≡ now ∥₁
any_over moment m deed old mid now noted lt = ∣ noted.behind now m (omega (arith, noted.reach, lt)) ∣₁

pub never_over : (moment m : ℕ) (deed : Deed) (old mid : Bench) (now : Simulated) → Noted moment deed old mid
    → moment < 2 ^ 63 → 2 ^ 64 - 1 < m → ∥ world_in mid.past now m ≡ now ∥₁
never_over moment m deed old mid now noted small lt = ∣ noted.behind now m (omega (arith, small, lt)) ∣₁

pub went_steps : (moment : ℕ) (deed : Deed) (old mid : Bench) (now : Simulated) → Noted moment deed old mid
    → last_of old.past ≤ moment → ((v : Vehicle) → StepsUnits v v)
    → StepsUnits (world_of mid.world).vehicle now.vehicle → AreSteps mid.past now
went_steps moment deed old mid now noted last same steps m = elim (cases_order m moment) [
  | inl is ↦ between (world_of old.world) now (world_in mid.past now m) (world_in mid.past now (m + 1))
      (noted.before now m (omega (arith, is))
      ∙ world_after old.past (world_of old.world) m (omega (arith, is, last)))
      (noted.behind now (m + 1) (omega (arith, is)))
      ∣ subst (λ (w : World). StepsUnits (world_of w).vehicle now.vehicle) noted.world steps ∣₁
  | inr (inl lt) ↦ between (world_at old m) (world_at old (m + 1))
      (world_in mid.past now m) (world_in mid.past now (m + 1))
      (noted.before now m (omega (arith, lt))) (noted.before now (m + 1) (omega (arith, lt))) (old.steps m)
  | inr (inr gt) ↦ between now now (world_in mid.past now m) (world_in mid.past now (m + 1))
      (noted.behind now m gt) (noted.behind now (m + 1) (omega (arith, gt))) ∣ same now.vehicle ∣₁
]

-- up to its moment
until_replays : (moment m : ℕ) (deed : Deed) (old mid : Bench) (now : Simulated) → Noted moment deed old mid
    → m ≤ moment → moment < 2 ^ 63
    → ∥ replayed mid.entries.items m (made_of mid.start) ≡ world_in mid.past now m ∥₁
until_replays moment m deed old mid now noted le small =
    ∥∥₁_map (old.replays m (omega (arith, le, small, noted.whole))) (λ same.
    (λ i. replayed (noted.entries i) m (made_of (noted.start i)))
    ∙ replayed_until old.entries.items (record { moment = moment; deed = deed }) m (made_of old.start) le
    ∙ same ∙ sym (noted.before now m le))

pub failed_replays : (moment m : ℕ) (deed : Deed) (old mid : Bench) (now : Simulated)
    → Noted moment deed old mid → moment < 2 ^ 63 → m ≤ mid.reach
    → ∥ replayed mid.entries.items m (made_of mid.start) ≡ world_in mid.past now m ∥₁
failed_replays moment m deed old mid now noted small le =
    until_replays moment m deed old mid now noted (omega (arith, le, noted.reach)) small

behind_replays : (moment m : ℕ) (deed : Deed) (old mid : Bench) (now : Simulated) → Noted moment deed old mid
    → moment < m → m ≤ 2 ^ 64 - 1 → last_of old.past ≤ moment → now ≡ does deed (world_of mid.world)
    → ∥ replayed mid.entries.items m (made_of mid.start) ≡ world_in mid.past now m ∥₁
behind_replays moment m deed old mid now noted lt few last is =
    ∥∥₁_map (old.replays m (omega (arith, few, noted.whole))) (λ same.
    (λ i. replayed (noted.entries i) m (made_of (noted.start i)))
    ∙ replayed_behind old.entries.items (record { moment = moment; deed = deed }) m (made_of old.start) lt
    ∙ ap (does deed) (same ∙ world_after old.past (world_of old.world) m (omega (arith, lt, last)))
    ∙ sym (is ∙ ap (λ (w : World). does deed (world_of w)) noted.world)
    ∙ sym (noted.behind now m lt))

pub went_replays : (moment m : ℕ) (deed : Deed) (old mid : Bench) (now : Simulated)
    → Noted moment deed old mid → moment < 2 ^ 63 → last_of old.past ≤ moment → now ≡ does deed (world_of mid.world) → m ≤ 2 ^ 64 - 1
    → ∥ replayed mid.entries.items m (made_of mid.start) ≡ world_in mid.past now m ∥₁
went_replays moment m deed old mid now noted small last is few = elim (cases_lt moment m) [
  | inl lt ↦ behind_replays moment m deed old mid now noted lt few last is
  | inr ge ↦ until_replays moment m deed old mid now noted ge small
]

-- ------ the vehicle of a moment, made anew
pub now_at : (b : Bench) (m : ℕ) → b.reach < m → ∥ world_of b.world ≡ world_at b m ∥₁
now_at b m lt = ∥∥₁_map (b.over m lt) (λ same. sym same)

pub saved_as : {E : Type 0} (b : Bench) (m : ℕ) (w : Simulated) (result : Result VehicleSpec E)
    → ∥ w ≡ world_at b m ∥₁ → IfOk result (λ spec. (made_of spec).vehicle ≡ anew w.vehicle)
    → IfOk result (λ spec. IsAnew b m (made_of spec).vehicle)
saved_as b m w (Ok spec) same is =
    ∥∥₁_map same (λ e. is ∙ ap (λ (v : Simulated). anew v.vehicle) e)
saved_as b m w (Err e) same is = tt
