-- What one step keeps of a run over a shop: once for both kinds of shop, whatever call of the shop the step stands for.
use Rattle.std.proofs.Common.{◌≡◌, inl, inr, ℕ, ◌+◌, ◌<◌, ◌≤◌, true, false, List, [], ◌∷◌, refl, sym, ◌∙◌, ap, subst, arith, Result}
use Rattle.std.specs.Prelude.{Bool, IsTrue, not, map, ◌||◌}
use Rattle.std.proofs.lemmas.Bool.{false≢true}
use Rattle.bay_core.proofs.OneStep.{step_law}
use Rattle.bay_core.specs.Core.{Core, core_after, core_of}
use Rattle.bay_core.specs.Joint.{IsVehicleJoint, RecordsAgree}
use Rattle.bay_core.specs.Legal.{is_allowed}
use Rattle.bay_core.specs.Moves.{MovesVehicle, MovesRecords}
use Rattle.bay_core.specs.declared.event.Event.{Event}
use Rattle.disk_model.specs.Disk.{DiskState, IsCrashImage}
use Rattle.disk_model.specs.declared.device.DeviceFault.{DeviceFault}
use Rattle.flash_plan.specs.Plan.{IsAccepted}
use Rattle.flash_plan.specs.declared.outcome.Entry.{Entry}
use Rattle.flash_plan.specs.declared.unit.LinkRules.{LinkRules}
use Rattle.flash_plan.specs.declared.unit.UnitPlan.{UnitPlan}
use Rattle.journal_model.specs.Records.{Label, records, label_of}
use Rattle.journal_steps.specs.Append.{Records, AddsSomeOf, with_entries}
use Rattle.journal_steps.specs.Later.{HoldsOnDisk}
use Rattle.journal_steps.specs.Read.{is_among}
use Rattle.run_model.specs.Sound.{IsSound}
use Rattle.shop_model.specs.History.{History, Call, LAST, LinkCall, disk_now, vehicle_now}
use Rattle.shop_model.specs.Through.{IsShownCall, AreShown}
use Rattle.unit_model.specs.Vehicle.{Vehicle}
use Rattle.bay_law.specs.Bay.{JournalState, IsReadOn, HasMore, IsClosed, IsJournalOf}
use Rattle.flash_run.specs.Group.{failed_as}
use Rattle.bay_law.specs.Sentence.{IsSoundAt, KeepsSound, Covers}
use Rattle.bay_law.proofs.Groups.{MayAll, sound_some, agree_some}
use Rattle.bay_law.proofs.Parts.{shown_before, shown_call, link_later, while_then, recorded}

pub agree_self : (c : Core) → RecordsAgree c c.recorded
agree_self c = record { has = λ e is. is; only = λ e is. inl is }

pub agree_as : (c c2 : Core) (R : Entry → Bool) → c2.recorded ≡ c.recorded → c2.doubted ≡ c.doubted → RecordsAgree c R → RecordsAgree c2 R
agree_as c c2 R same doubt a = record {
  has = λ e is. a.has e (ap (λ (f : Entry → Bool). f e) (sym same) ∙ is);
  only = λ e r. elim (a.only e r) [ inl x ↦ inl (ap (λ (f : Entry → Bool). f e) same ∙ x) | inr d ↦ inr (ap (λ (f : Entry → Bool). f e) doubt ∙ d) ];
}

-- ------ the sentence
-- One call of the link. joint: what link, gateway and units hold of each other before it.
pub sentence_link : {T : Type 0} (rules : LinkRules) (P : List UnitPlan) (found : Entry → Bool) (c : Core) (e : Event) (call : Call) (first old new : History) (r : Result T DeviceFault) → IsAccepted P → is_allowed P c e ≡ true
    → old.moment ≤ LAST → LinkCall call old new r → (IsShownCall call (vehicle_now old) (vehicle_now new) → MovesVehicle rules P c e (vehicle_now old) (vehicle_now new)) → ((R : Entry → Bool) → MovesRecords e R R)
    → Covers P c (disk_now old) → (AreShown old first.moment old.moment → IsVehicleJoint rules P found c (vehicle_now old) (vehicle_now first).gateway.tick) → KeepsSound P first old → KeepsSound P first new
sentence_link rules P found c e call first old new r accepted ok bounded did moves still covers joint so_far v0 start =
    let before = so_far v0 start in
    let later = link_later call old new r bounded did in
    while_then (IsSoundAt P v0) first old new before later (λ m after le shown.
    let lt : old.moment < LAST = omega (arith, did.passes.moment, bounded, after, le) in
    let one : new.moment ≡ old.moment + 1 = omega (arith, did.passes.moment, lt) in
    let same : m ≡ new.moment = omega (arith, after, le, one) in
    let shown_old : AreShown old first.moment old.moment = shown_before first.moment m old new later (omega (arith, after)) shown in
    let j = joint shown_old in
    let here : IsSoundAt P v0 (disk_now old) (vehicle_now old) = before.each old.moment before.is_later.later (omega arith) shown_old in
    let did_so = moves (shown_call call first.moment m old new r did.passes lt before.is_later.later after shown) in
    subst (λ (k : ℕ). IsSoundAt P v0 (new.disk_at k) (new.vehicle_at k)) (sym same) (λ image left.
    let left_old : IsCrashImage (disk_now old) image = subst (λ (d : DiskState). IsCrashImage d image) did.disk left in
    let R : Entry → Bool = records (label_of P) image in
    (step_law.records rules P found c e R R (vehicle_now old) (vehicle_now new) v0 (vehicle_now first).gateway.tick accepted ok (record { vehicle = did_so; records = still R }) j
    (record { records = covers image left_old; sound = here image left_old })).sound))

-- A group of appends: at each moment each image has the records from before and some of the group. v: a vehicle with the units of
-- the present one, that fits the core.
pub sentence_group : (rules : LinkRules) (P : List UnitPlan) (found : Entry → Bool) (c : Core) (es : List Entry) (first old new : History) (j : JournalState) → IsAccepted P → MayAll P c es
    → j.label ≡ label_of P → ((x : Entry) → j.has x ≡ c.recorded x) → IsReadOn j (disk_now old) → IsCrashImage (disk_now old) (disk_now old).bytes → HoldsOnDisk old new (AddsSomeOf j.label j.has es)
    → (AreShown old first.moment old.moment → (v : Vehicle) × (v.units ≡ (vehicle_now old).units) × IsVehicleJoint rules P found c v (vehicle_now first).gateway.tick)
    → ((R : Entry → Bool) (v w v0 : Vehicle) → w.units ≡ v.units → IsSound P R v v0 → IsSound P R w v0) → KeepsSound P first old → KeepsSound P first new
sentence_group rules P found c es first old new j accepted may label entries kept readable through joint units so_far v0 start =
    let before = so_far v0 start in
    let later = through.is_later in
    while_then (IsSoundAt P v0) first old new before later (λ m after le shown.
    let shown_old : AreShown old first.moment old.moment = shown_before first.moment m old new later (omega (arith, after)) shown in
    let t = joint shown_old in
    let v : Vehicle = t.0 in
    let here : IsSoundAt P v0 (disk_now old) (vehicle_now old) = before.each old.moment before.is_later.later (omega arith) shown_old in
    let bytes_record : records (label_of P) (disk_now old).bytes ≡ c.recorded = recorded (label_of P) j.has c.recorded (disk_now old).bytes entries (subst (λ (L : Label). Records L j.has (disk_now old).bytes) label kept.records) in
    let base : IsSound P c.recorded v v0 = units c.recorded (vehicle_now old) v v0 t.1 (subst (λ (R : Entry → Bool). IsSound P R (vehicle_now old) v0) bytes_record (here (disk_now old).bytes readable)) in
    let at = through.each m (omega (arith, after)) le in
    subst (λ (w : Vehicle). IsSoundAt P v0 (new.disk_at m) w) (sym at.vehicle) (λ image left.
    let some = at.disk image left in
    let R : Entry → Bool = records (label_of P) image in
    let is : R ≡ some.now = recorded (label_of P) some.now some.now image (λ x. refl) (subst (λ (L : Label). Records L some.now image) label some.records) in
    let sound : IsSound P some.now v v0 =
    sound_some rules P found es c c.recorded some.now v v0 (vehicle_now first).gateway.tick accepted may t.2 (record { records = agree_self c; sound = base })
    (λ x has. some.keeps x (entries x ∙ has)) (λ x has. elim (some.adds x has) [ inl r ↦ inl (sym (entries x) ∙ r) | inr a ↦ inr a ]) in
    units R v (vehicle_now old) v0 (sym t.1) (subst (λ (S : Entry → Bool). IsSound P S v v0) (sym is) sound)))

-- ------ the journal
-- where neither records nor disk change
pub journal_still : (told : Bool) (P : List UnitPlan) (c c2 : Core) (j : JournalState) (K : DiskState → Type 0) (d d2 : DiskState) → c2.recorded ≡ c.recorded → c2.doubted ≡ c.doubted → c2.halt.failed ≡ c.halt.failed → d2 ≡ d → IsJournalOf told P c j K d → IsJournalOf told P c2 j K d2
journal_still told P c c2 j K d d2 same doubt failed disk is = record {
  label = is.label;
  entries = λ e. is.entries e ∙ ap (λ (f : Entry → Bool). f e) (sym same);
  live = is.live ∙ ap not (sym failed);
  kept = λ t lives. subst (λ (x : DiskState). K x) (sym disk) (is.kept t lives);
  covers = λ t. subst (λ (x : DiskState). Covers P c2 x) (sym disk) (λ image left. agree_as c c2 (records (label_of P) image) same doubt (is.covers t image left));
}

-- entries were recorded
pub journal_more : (told : Bool) (P : List UnitPlan) (c c2 : Core) (j j2 : JournalState) (K K2 : DiskState → Type 0) (d d2 : DiskState) (es : List Entry) → ((x : Entry) → c2.recorded x ≡ with_entries es c.recorded x) → c2.halt.failed ≡ false → HasMore j j2 es
    → (IsTrue told → K2 d2) → ((x : DiskState) → K2 x → IsReadOn j2 x) → IsJournalOf told P c j K d → IsJournalOf told P c2 j2 K2 d2
journal_more told P c c2 j j2 K K2 d d2 es more failed has kept reads is = record {
  label = label2;
  entries = entries2;
  live = has.live ∙ ap not (sym failed);
  kept = λ t lives. kept t;
  covers = λ t image left.
      let rec : records (label_of P) image ≡ c2.recorded = recorded (label_of P) j2.has c2.recorded image entries2 (subst (λ (L : Label). Records L j2.has image) label2 ((reads d2 (kept t)).each image left)) in
      subst (λ (R : Entry → Bool). RecordsAgree c2 R) (sym rec) (agree_self c2);
}
  where
    label2 : j2.label ≡ label_of P
    label2 = has.label ∙ is.label

    with_same : (x : Entry) → with_entries es j.has x ≡ with_entries es c.recorded x
    with_same x = ap (λ (b : Bool). is_among es x || b) (is.entries x)

    entries2 : (x : Entry) → j2.has x ≡ c2.recorded x
    entries2 x = has.entries x ∙ with_same x ∙ sym (more x)

-- a group of appends failed
failed_recorded : (rules : LinkRules) (P : List UnitPlan) (es : List Entry) (c : Core) → (core_of rules P c (map failed_as es)).recorded ≡ c.recorded
failed_recorded rules P [] c = refl
failed_recorded rules P (e ∷ es) c = failed_recorded rules P es (core_after rules P (failed_as e) c)

stays_failed : (rules : LinkRules) (P : List UnitPlan) (es : List Entry) (c : Core) → c.halt.failed ≡ true → (core_of rules P c (map failed_as es)).halt.failed ≡ true
stays_failed rules P [] c is = is
stays_failed rules P (e ∷ es) c is = stays_failed rules P es (core_after rules P (failed_as e) c) refl

pub journal_failed : (told : Bool) (rules : LinkRules) (P : List UnitPlan) (c : Core) (j j2 : JournalState) (K K2 : DiskState → Type 0) (old new : History) (e : Entry) (es : List Entry) → IsClosed j j2
    → (IsTrue told → HoldsOnDisk old new (AddsSomeOf j.label j.has (e ∷ es))) → IsJournalOf told P c j K (disk_now old) → IsJournalOf told P (core_of rules P c (map failed_as (e ∷ es))) j2 K2 (disk_now new)
journal_failed told rules P c j j2 K K2 old new e es closed through is = record {
  label = closed.label ∙ is.label;
  entries = λ x. closed.entries x ∙ is.entries x ∙ ap (λ (f : Entry → Bool). f x) (sym (failed_recorded rules P (e ∷ es) c));
  live = closed.live ∙ ap not (sym (stays_failed rules P es (core_after rules P (failed_as e) c) refl));
  kept = λ t lives. absurd (false≢true (sym closed.live ∙ lives));
  covers = λ t image left.
      let h = through t in
      let some = (h.each new.moment h.is_later.later (omega arith)).disk image left in
      let rec : records (label_of P) image ≡ some.now = recorded (label_of P) some.now some.now image (λ x. refl) (subst (λ (L : Label). Records L some.now image) is.label some.records) in
      subst (λ (R : Entry → Bool). RecordsAgree (core_of rules P c (map failed_as (e ∷ es))) R) (sym rec)
      (agree_some rules P (e ∷ es) c some.now (λ x has. some.keeps x (is.entries x ∙ has)) (λ x has. elim (some.adds x has) [ inl r ↦ inl (sym (is.entries x) ∙ r) | inr a ↦ inr (inr a) ]));
}
