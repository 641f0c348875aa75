-- A shop that is to fail nowhere stays quiet while it finds memory; what that says of a run.
use mathlib.Core.Logic.{∥∥₁_map}
use Rattle.std.proofs.Common.{◌≡◌, ◌∙◌, ◌⊎◌, inl, inr, ℕ, ◌+◌, ◌<◌, ◌==◌, Bool, true, false, List, [], ◌∷◌, Option, Some, None, Result, Ok, Err, refl, sym, ap, subst, map, take, arith}
use Rattle.std.proofs.lemmas.Bool.{cases_lt, false≢true}
use Rattle.std.specs.Prelude.{IfOk, IsErr, IsOk, IsTrue, OnOk, ◌↔◌, if◌then◌else◌}
use Rattle.bench_shop.proofs.Calling.{now_is}
use Rattle.bench_shop.specs.Faults.{is_listed, no_faults, piece_for}
use Rattle.bench_shop.specs.Pasts.{vehicle_of}
use Rattle.bench_shop.specs.Shops.{DiskFails, Garbles, IsNew, KeepsBench, KeepsPlan, LinkFails, history_of, piece_now, starved_of}
use Rattle.bench_shop.specs.declared.faults.Faults.{Faults}
use Rattle.bench_shop.specs.declared.shop.MemoryShop.{MemoryShop}
use Rattle.disk_model.specs.declared.device.DeviceFault.{DeviceFault}
use Rattle.flash_base.specs.Counts.{Rises}
use Rattle.flash_base.specs.Lists.{Each}
use Rattle.flash_drill.proofs.Calm.{Stays}
use Rattle.flash_drill.specs.Calm.{IsCalmSim, IsCalmState, sim_addresses, unit_addresses}
use Rattle.flash_drill.specs.Own.{IsQuietFed}
use Rattle.run_model.specs.Troubles.{AreCalm, IsCalm, IsUnitCalm, IsVehicleCalm}
use Rattle.shop_model.specs.History.{Call, DiskCall, History, LAST, LinkCall, Passes, Received, vehicle_now}
use Rattle.shop_model.specs.Through.{AreShown, IsShownCall, IsShownReceive}
use Rattle.unit_model.specs.Running.{calm}
use Rattle.unit_model.specs.Unit.{ControlUnit, Counts}
use Rattle.unit_model.specs.Vehicle.{Vehicle, unit_at}
use Rattle.unit_model.specs.declared.reply.Got.{Got}
use Rattle.unit_model.specs.declared.reply.Got.TheVariants.{Quiet, Bytes}
use Rattle.unit_sim.specs.Sims.{Sim}
use Rattle.vehicle_world.specs.States.{State, unit_in, vehicle_in}
use Rattle.vehicle_world.specs.Worlds.{Simulated, world_of}
use Rattle.vehicle_world.specs.declared.world.World.{World}

-- ------ one moment more
module _ {T : Type 0} (call : Call) (h0 h1 : History) (r : Result T DeviceFault) (p : Passes call h0 h1 r) (lt : h1.moment < LAST) where
  pub was_early : h0.moment < LAST
  was_early = let e = p.moment in omega (arith, e, lt)

  one_on : h1.moment ≡ h0.moment + 1
  one_on = let e = p.moment in omega (arith, e, lt)

  shown_last : IsShownCall call (vehicle_now h0) (vehicle_now h1) → IsShownCall (h1.call_at h0.moment) (h1.vehicle_at h0.moment) (h1.vehicle_at (h0.moment + 1))
  shown_last now =
      subst (λ (c : Call). IsShownCall c (h1.vehicle_at h0.moment) (h1.vehicle_at (h0.moment + 1))) (sym (p.call_is was_early))
      (subst (λ (v : Vehicle). IsShownCall call v (h1.vehicle_at (h0.moment + 1))) (sym (p.vehicle_past h0.moment (omega arith)))
      (subst (λ (m : ℕ). IsShownCall call (vehicle_now h0) (h1.vehicle_at m)) one_on now))

  shown_before : (m : ℕ) → m < h0.moment → IsShownCall (h0.call_at m) (h0.vehicle_at m) (h0.vehicle_at (m + 1)) → IsShownCall (h1.call_at m) (h1.vehicle_at m) (h1.vehicle_at (m + 1))
  shown_before m early was =
      subst (λ (c : Call). IsShownCall c (h1.vehicle_at m) (h1.vehicle_at (m + 1))) (sym (p.calls_past m early))
      (subst (λ (v : Vehicle). IsShownCall (h0.call_at m) v (h1.vehicle_at (m + 1))) (sym (p.vehicle_past m (omega (arith, early))))
      (subst (λ (v : Vehicle). IsShownCall (h0.call_at m) (h0.vehicle_at m) v) (sym (p.vehicle_past (m + 1) (omega (arith, early)))) was))

  pub shown_on : AreShown h0 0 h0.moment → IsShownCall call (vehicle_now h0) (vehicle_now h1) → AreShown h1 0 h1.moment
  shown_on was now m from to = elim (cases_lt m h0.moment) [
    | inl early ↦ shown_before m early (was m from early)
    | inr late ↦ subst (λ (k : ℕ). IsShownCall (h1.call_at k) (h1.vehicle_at k) (h1.vehicle_at (k + 1))) (let e = one_on in omega (arith, late, to, e)) (shown_last now)
  ]

-- ------ no call fails
succeeds : {T : Type 0} (numbers : List ℕ) (n old new : ℕ) (r : Result T DeviceFault) → numbers ≡ [] → old ≡ 0 → new ≡ 0
    → IsErr r ↔ (IsTrue (is_listed numbers n) ⊎ (old < new)) → IsOk r
succeeds numbers n old new (Ok x) none f g fails = refl
succeeds [] n old new (Err e) none f g fails = absurd (elim (fails.0 refl) [ inl listed ↦ cc | inr more ↦ omega (arith, more, f, g) ])
succeeds (k ∷ ks) n old new (Err e) none f g fails = cc

pub on_ok : {T : Type 0} (r : Result T DeviceFault) (P : Type 0) → IsOk r → OnOk r P → P
on_ok (Ok x) P ok p = p
on_ok (Err e) P ok p = absurd (false≢true ok)

module _ {T : Type 0} (call : Call) (old new : MemoryShop) (r : Result T DeviceFault) (plan : old.plan ≡ no_faults) (quiet : IsQuietFed old) where
  no_disk : old.plan.disk ≡ []
  no_disk = ap (λ (f : Faults). f.disk) plan

  no_link : old.plan.link ≡ []
  no_link = ap (λ (f : Faults). f.link) plan

  pub disk_quiet : DiskCall call (history_of old) (history_of new) r → DiskFails old new r → KeepsBench old new
      → OnOk r (new.disk.disk_faults ≡ old.disk.disk_faults) → IsShownCall call (vehicle_now (history_of old)) (vehicle_now (history_of new)) → IsQuietFed new
  disk_quiet c fails kept counted shown starved lt =
      let before : starved_of old ≡ 0 = let k = kept.plan.starved in omega (arith, k, starved) in
      let early = was_early call (history_of old) (history_of new) r c.passes lt in
      let ok = succeeds old.plan.disk _ (starved_of old) (starved_of new) r no_disk before starved (fails early) in
      ∥∥₁_map (quiet before early) (λ q. record {
        disk_faults = on_ok r _ ok counted ∙ q.disk_faults;
        link_faults = c.link_faults ∙ q.link_faults;
        shown = shown_on call (history_of old) (history_of new) r c.passes lt q.shown shown;
        calm = subst (λ b. IsCalmState (world_of b.world).state) (sym kept.bench) q.calm;
        units = ap (λ b. sim_addresses (world_of b.world).state.sims) kept.bench ∙ (q.units ∙ ap (λ (v : Vehicle). unit_addresses v.units) (sym (c.passes.vehicle_past 0 (omega arith))));
      })

  pub link_quiet : LinkCall call (history_of old) (history_of new) r → LinkFails old new r → KeepsPlan old new
      → (IsOk r → (history_of new).link_faults ≡ (history_of old).link_faults)
      → (IsOk r → (history_of old).link_faults ≡ 0 → (history_of new).link_faults ≡ 0 → IsShownCall call (vehicle_now (history_of old)) (vehicle_now (history_of new)))
      → (IsOk r → IsCalmState (world_of old.bench.world).state → Stays (world_of old.bench.world).state (world_of new.bench.world).state) → IsQuietFed new
  link_quiet c fails kept counted shown stays starved lt =
      let before : starved_of old ≡ 0 = let k = kept.starved in omega (arith, k, starved) in
      let early = was_early call (history_of old) (history_of new) r c.passes lt in
      let ok = succeeds old.plan.link _ (starved_of old) (starved_of new) r no_link before starved (fails early) in
      ∥∥₁_map (quiet before early) (λ q.
      let none = counted ok ∙ q.link_faults in
      let after = stays ok q.calm in
      record {
        disk_faults = c.disk_faults ∙ q.disk_faults;
        link_faults = none;
        shown = shown_on call (history_of old) (history_of new) r c.passes lt q.shown (shown ok q.link_faults none);
        calm = after.0;
        units = after.1 ∙ (q.units ∙ ap (λ (v : Vehicle). unit_addresses v.units) (sym (c.passes.vehicle_past 0 (omega arith))));
      })

-- the plan of a shop that is to fail nowhere garbles nothing
pub no_piece : (s : MemoryShop) → s.plan ≡ no_faults → piece_now s ≡ None
no_piece s plan = ap (λ (f : Faults). piece_for f.garbled s.receives) plan

pub plain_receive : (out : List ℕ) (old new : MemoryShop) (r : Result Got DeviceFault) → old.plan ≡ no_faults → IfOk r (Garbles (piece_now old) out old new) → IsOk r
    → (history_of new).link_faults ≡ (history_of old).link_faults
plain_receive out old new (Ok got) plan g ok = subst (λ (o : Option (List ℕ)). Garbles o out old new got) (no_piece old plan) g
plain_receive out old new (Err e) plan g ok = absurd (false≢true ok)

-- a receive at which no fault was counted is shown
pub shown_receive : (out : List ℕ) (a b : ℕ) (v w : Vehicle) (r : Result Got DeviceFault) → Received out (¬ Rises a b) v w r → a ≡ 0 → b ≡ 0 → IsShownReceive v w
shown_receive out a b v w (Ok Quiet) h e f = inl h
shown_receive out a b v w (Ok (Bytes n)) h e f = inr (inr (take n out, record { carries = h.0; how = inl (h.1 (λ rises. omega (arith, rises, e, f))) }))
shown_receive out a b v w (Err x) h e f = inr (inl h)

-- ------ the vehicle
no_trouble : (a b : ℕ) → a ≡ 0 → b ≡ 0 → IsCalm a b
no_trouble a b e f = rw (e, f) refl

calm_counts : (c d : Counts) → c ≡ calm → d ≡ calm → AreCalm c d
calm_counts c d e f = subst (λ (x : Counts). AreCalm x d) (sym e) (subst (λ (x : Counts). AreCalm calm x) (sym f) (record {
  refused = λ code. refl;
  odd = refl;
  failed = refl;
  muted = refl;
  late = refl;
  stalled = refl;
  busy = refl;
  nacked = λ code. refl;
}))

abbrev IsCalmUnit : ControlUnit → Type 0
IsCalmUnit u = u.counts ≡ calm

both : (b : Bool) (x y v w : Option ControlUnit) → IsUnitCalm x v → IsUnitCalm y w → IsUnitCalm (if b then x else y) (if b then v else w)
both true x y v w p q = p
both false x y v w p q = q

units_calm : (us vs : List ControlUnit) → Each IsCalmUnit us → Each IsCalmUnit vs → unit_addresses vs ≡ unit_addresses us → (a : ℕ) → IsUnitCalm (unit_at us a) (unit_at vs a)
units_calm [] [] c d e a = tt
units_calm [] (v ∷ vs) c d e a = absurd cc
units_calm (u ∷ us) [] c d e a = absurd cc
units_calm (u ∷ us) (v ∷ vs) c d e a =
    let same : v.address ≡ u.address = cc in
    let more : unit_addresses vs ≡ unit_addresses us = cc in
    subst (λ (k : ℕ). IsUnitCalm (unit_at (u ∷ us) a) (if k == a then Some v else unit_at vs a)) (sym same)
    (both (u.address == a) (Some u) (unit_at us a) (Some v) (unit_at vs a) (calm_counts u.counts v.counts c.0 d.0) (units_calm us vs c.1 d.1 more a))

calm_units : (ss : List Sim) → Each IsCalmSim ss → Each IsCalmUnit (map unit_in ss)
calm_units [] c = tt
calm_units (s ∷ ss) c = (c.0.counts, calm_units ss c.1)

pub same_addresses : (ss : List Sim) → unit_addresses (map unit_in ss) ≡ sim_addresses ss
same_addresses [] = refl
same_addresses (s ∷ ss) = ap (λ (as' : List ℕ). s.unit.address ∷ as') (same_addresses ss)

-- between two calm states with the same units nothing has departed
pub vehicle_calm : (v w : Vehicle) (a b : State) → v ≡ vehicle_in a → w ≡ vehicle_in b → IsCalmState a → IsCalmState b
    → sim_addresses b.sims ≡ sim_addresses a.sims → IsVehicleCalm v w
vehicle_calm v w a b e f c d same =
    subst (λ (x : Vehicle). IsVehicleCalm x w) (sym e) (subst (λ (x : Vehicle). IsVehicleCalm (vehicle_in a) x) (sym f) (record {
      denied = λ code. no_trouble (a.gate.gateway.denied code) (b.gate.gateway.denied code) (c.gate.denied code) (d.gate.denied code);
      silent = no_trouble a.gate.gateway.silent b.gate.gateway.silent c.gate.silent d.gate.silent;
      units = units_calm (map unit_in a.sims) (map unit_in b.sims) (calm_units a.sims c.sims) (calm_units b.sims d.sims)
          (same_addresses b.sims ∙ (same ∙ sym (same_addresses a.sims)));
    }))

pub vehicle_is : (s : MemoryShop) → vehicle_now (history_of s) ≡ vehicle_of s.bench.world
vehicle_is s = now_is s.disk s.bench s.last

-- ------ a new shop
pub new_quiet : (s : MemoryShop) (w : World) → IsNew [] (world_of w) no_faults s → IsCalmState (world_of w).state → IsQuietFed s
new_quiet s w new c starved lt = ∣ record {
  disk_faults = new.uncalled.disk_faults;
  link_faults = new.uncalled.link_faults;
  shown = λ m from to. absurd (let e = new.uncalled.moment in omega (arith, to, e));
  calm = subst (λ (x : Simulated). IsCalmState x.state) (sym new.world) c;
  units = units;
} ∣₁
  where
    start : vehicle_now (history_of s) ≡ (history_of s).vehicle_at 0
    start = ap (λ (m : ℕ). (history_of s).vehicle_at m) new.uncalled.moment

    units : sim_addresses (world_of s.bench.world).state.sims ≡ unit_addresses ((history_of s).vehicle_at 0).units
    units = ap (λ (x : Simulated). sim_addresses x.state.sims) new.world
        ∙ (sym (same_addresses (world_of w).state.sims) ∙ ap (λ (v : Vehicle). unit_addresses v.units) (sym new.vehicle ∙ start))
