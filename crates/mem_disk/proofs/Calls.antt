-- The calls of a disk in memory are those of a shop.
use Rattle.std.proofs.Common.{◌≡◌, inl, inr, ℕ, ◌+◌, ◌-◌, ◌<◌, ◌≤◌, ◌^◌, Bool, true, false, List, ◌∷◌, ◌++◌, length, get_or, take, drop, refl, sym, ◌∙◌, ap, subst, arith, length-append, length-take, length-drop, Result, Ok, Err}
use Rattle.std.proofs.lemmas.Bool.{both_ways}
use Rattle.std.proofs.lemmas.List.{take_all, get_or_append_left, get_or-append_right, get_or-take, get_or-drop}
use Rattle.disk_model.specs.Disk.{DiskState, MissedWrite, Wrote as IsWritten}
use Rattle.disk_model.specs.declared.device.DeviceFault.{DeviceFault}
use Rattle.flash_base.specs.Counts.{Rises, one_more}
use Rattle.shop_model.specs.History.{History, Call, LAST, Passes, DiskCall, LinkCall, disk_now, WroteOrMissed}
use Rattle.mem_disk.specs.declared.record.Done.{Done}
use Rattle.mem_disk.specs.declared.record.Done.TheVariants.{Kept, Wrote, Missed}
use Rattle.mem_disk.specs.declared.disk.MemDisk.{MemDisk}
use Rattle.std.specs.Bool.{OnTrue, OnFalse}
use Rattle.mem_disk.specs.Made.{call_in}
use Rattle.mem_disk.specs.Replay.{start, after, replay, spliced}
use Rattle.mem_disk.specs.Disks.{history_of, moment_of, is_listed, FailsExactly, ListsMiss, Passed, Recorded, Starved, WroteSome, SameRecord, DiskFaulted, LinkFaulted, LinkCounted, LinkPassed}
use Rattle.mem_disk.proofs.Replays.{replay-append, same_past}

-- the disk is what the whole record gives
pub disk_is : (s : MemDisk) → disk_now (history_of s) ≡ replay (start s.first.items) s.calls.items
disk_is s i = replay (start s.first.items) (take_all (moment_of s) s.calls.items (omega arith) i)

pub bytes_is : (s : MemDisk) → s.bytes.items ≡ (disk_now (history_of s)).bytes
bytes_is s = s.bytes_now ∙ (λ i. (sym (disk_is s) i).bytes)

pub disk_recorded : (call : Call) (done : Done) (old new : MemDisk) → Recorded call done old new → disk_now (history_of new) ≡ after (disk_now (history_of old)) done
disk_recorded call done old new did =
    disk_is new
    ∙ (λ i. replay (start (did.passed.first i)) (did.calls i))
    ∙ replay-append (start old.first.items) old.calls.items done
    ∙ (λ i. after (sym (disk_is old) i) done)

pub disk_starved : (call : Call) (old new : MemDisk) → Starved call old new → disk_now (history_of new) ≡ disk_now (history_of old)
disk_starved call old new did = disk_is new ∙ (λ i. replay (start (did.passed.first i)) (did.calls i)) ∙ sym (disk_is old)

pub disk_same : (old new : MemDisk) → SameRecord old new → disk_now (history_of new) ≡ disk_now (history_of old)
disk_same old new same = disk_is new ∙ (λ i. replay (start (same.first i)) (same.calls i)) ∙ sym (disk_is old)

-- the past of both ways
recorded_past : (call : Call) (done : Done) (old new : MemDisk) → Recorded call done old new → (m : ℕ) → m ≤ moment_of old → (history_of new).disk_at m ≡ (history_of old).disk_at m
recorded_past call done old new did m le = same_past old.first.items new.first.items old.calls.items new.calls.items done m did.passed.first did.calls (omega (arith, le, did.whole))

starved_past : (call : Call) (old new : MemDisk) → Starved call old new → (m : ℕ) → m ≤ moment_of old → (history_of new).disk_at m ≡ (history_of old).disk_at m
starved_past call old new did m le i = replay (start (did.passed.first i)) (take m (did.calls i))

-- what passed, whatever it did to the disk, and whatever fault is counted behind it
passes : {T : Type 0} (call : Call) (old mid new : MemDisk) (r : Result T DeviceFault) → Passed call old mid → SameRecord mid new → ((m : ℕ) → m ≤ moment_of old → (history_of mid).disk_at m ≡ (history_of old).disk_at m) → Passes call (history_of old) (history_of new) r
passes call old mid new r passed same past = record {
  moment = omega (arith, passed.moment, passed.room, same.idle, ap length same.calls);
  last = λ is. absurd (omega (arith, is, passed.room));
  disk_past = λ m le. (λ i. replay (start (same.first i)) (take m (same.calls i))) ∙ past m le;
  vehicle_past = λ m le. refl;
  calls_past = λ m lt. (λ i. call_in (same.made i) m) ∙ passed.calls_past m lt;
  call_is = λ lt. (λ i. call_in (same.made i) (moment_of old)) ∙ passed.call_is;
}

same_itself : (s : MemDisk) → SameRecord s s
same_itself s = record { first = refl; failing = refl; calls = refl; idle = refl; made = refl; starves = refl; link_calls = refl; linked = refl }

rises_more : (old new : ℕ) → old < 2 ^ 64 → new ≡ one_more old → Rises old new
rises_more old new small is = omega (arith, small, is)

-- a call that was recorded, and did what it should
pub disk_went : {T : Type 0} (call : Call) (done : Done) (old new : MemDisk) (x : T) → Recorded call done old new → DiskCall call (history_of old) (history_of new) (Ok x)
disk_went call done old new x did = record {
  passes = passes call old new new (Ok x) did.passed (same_itself new) (recorded_past call done old new did);
  vehicle = refl;
  link_faults = did.passed.link_faults;
  link_calls = did.passed.link_calls;
  linked = did.passed.linked;
  never_falls = omega (arith, did.passed.disk_faults);
  fault = λ is. absurd (both_ways false refl is);
}

-- a disk call that failed
disk_failed : {T : Type 0} (call : Call) (old mid new : MemDisk) (e : DeviceFault) → Passed call old mid → ((m : ℕ) → m ≤ moment_of old → (history_of mid).disk_at m ≡ (history_of old).disk_at m) → DiskFaulted mid new → DiskCall {T = T} call (history_of old) (history_of new) (Err e)
disk_failed call old mid new e passed past fault = record {
  passes = passes call old mid new (Err e) passed fault.same past;
  vehicle = refl;
  link_faults = fault.link_faults ∙ passed.link_faults;
  link_calls = fault.same.link_calls ∙ passed.link_calls;
  linked = fault.same.linked ∙ passed.linked;
  never_falls = omega (arith, fault.disk_faults, passed.disk_faults, old.disk_count);
  fault = λ is. rises_more old.disk_faults new.disk_faults old.disk_count (fault.disk_faults ∙ ap one_more passed.disk_faults);
}

pub disk_listed : {T : Type 0} (call : Call) (done : Done) (old mid new : MemDisk) (e : DeviceFault) → Recorded call done old mid → DiskFaulted mid new → DiskCall {T = T} call (history_of old) (history_of new) (Err e)
disk_listed call done old mid new e did fault = disk_failed call old mid new e did.passed (recorded_past call done old mid did) fault

pub disk_hungry : {T : Type 0} (call : Call) (old mid new : MemDisk) (e : DeviceFault) → Starved call old mid → DiskFaulted mid new → DiskCall {T = T} call (history_of old) (history_of new) (Err e)
disk_hungry call old mid new e did fault = disk_failed call old mid new e did.passed (starved_past call old mid did) fault

-- at the last moment
last_passes : {T : Type 0} (call : Call) (old new : MemDisk) (e : DeviceFault) → moment_of old ≡ LAST → SameRecord old new → Passes {T = T} call (history_of old) (history_of new) (Err e)
last_passes call old new e last same = record {
  moment = omega (arith, last, same.idle, ap length same.calls);
  last = λ is. refl;
  disk_past = λ m le i. replay (start (same.first i)) (take m (same.calls i));
  vehicle_past = λ m le. refl;
  calls_past = λ m lt i. call_in (same.made i) m;
  call_is = λ lt. absurd (omega (arith, lt, last));
}

pub disk_last : {T : Type 0} (call : Call) (old new : MemDisk) (e : DeviceFault) → moment_of old ≡ LAST → DiskFaulted old new → DiskCall {T = T} call (history_of old) (history_of new) (Err e)
disk_last call old new e last fault = record {
  passes = last_passes call old new e last fault.same;
  vehicle = refl;
  link_faults = fault.link_faults;
  link_calls = fault.same.link_calls;
  linked = fault.same.linked;
  never_falls = omega (arith, fault.disk_faults, old.disk_count);
  fault = λ is. rises_more old.disk_faults new.disk_faults old.disk_count fault.disk_faults;
}

-- the same call with another answer of its kind
pub other_ok : {A B : Type 0} (call : Call) (a b : History) (x : A) (y : B) → DiskCall call a b (Ok x) → DiskCall call a b (Ok y)
other_ok call a b x y did = record {
  passes = record { moment = did.passes.moment; last = did.passes.last; disk_past = did.passes.disk_past; vehicle_past = did.passes.vehicle_past; calls_past = did.passes.calls_past; call_is = did.passes.call_is };
  vehicle = did.vehicle;
  link_faults = did.link_faults;
  link_calls = did.link_calls;
  linked = did.linked;
  never_falls = did.never_falls;
  fault = did.fault;
}

pub other_err : {A B : Type 0} (call : Call) (a b : History) (e f : DeviceFault) → DiskCall {T = A} call a b (Err e) → DiskCall {T = B} call a b (Err f)
other_err call a b e f did = record {
  passes = record { moment = did.passes.moment; last = did.passes.last; disk_past = did.passes.disk_past; vehicle_past = did.passes.vehicle_past; calls_past = did.passes.calls_past; call_is = did.passes.call_is };
  vehicle = did.vehicle;
  link_faults = did.link_faults;
  link_calls = did.link_calls;
  linked = did.linked;
  never_falls = did.never_falls;
  fault = did.fault;
}

-- a write does what it says
pub put : (d : DiskState) (at : ℕ) (text : List ℕ) → at ≤ length d.bytes → IsWritten at text d (record { bytes = spliced d.bytes at text; ranges = (at, length text) ∷ d.ranges; synced = d.synced })
put d at text le = record {
  inside = λ k lt. get_or_append_left (take at d.bytes ++ text) (drop (at + length text) d.bytes) 0 (at + k) (omega (arith, lt, front, front_size))
      ∙ get_or-append_right (take at d.bytes) text at (at + k) 0 front_size (omega arith)
      ∙ ap (λ (n : ℕ). get_or text n 0) (omega arith);
  outside = λ i o. elim o [
    | inl lt ↦ get_or_append_left (take at d.bytes ++ text) (drop (at + length text) d.bytes) 0 i (omega (arith, lt, front, front_size))
        ∙ get_or_append_left (take at d.bytes) text 0 i (omega (arith, lt, front_size))
        ∙ get_or-take at d.bytes i 0 lt
    | inr ge ↦ get_or-append_right (take at d.bytes ++ text) (drop (at + length text) d.bytes) (at + length text) i 0 (omega (arith, front, front_size)) ge
        ∙ get_or-drop (at + length text) d.bytes (i - (at + length text)) 0
        ∙ ap (λ (n : ℕ). get_or d.bytes n 0) (omega (arith, ge))
  ];
  size = omega (arith, le, length-append (take at d.bytes ++ text) (drop (at + length text) d.bytes), length-append (take at d.bytes) text, length-take at d.bytes, length-drop (at + length text) d.bytes);
  ranges = refl;
  synced = refl;
}
  where
    front_size : length (take at d.bytes) ≡ at
    front_size = omega (arith, le, length-take at d.bytes)

    front : length (take at d.bytes ++ text) ≡ length (take at d.bytes) + length text
    front = length-append (take at d.bytes) text

pub missed : (d : DiskState) (at n : ℕ) → MissedWrite at n d (after d (Missed at n))
missed d at n = record { outside = λ i o. refl; no_shorter = omega arith; no_longer = omega arith; ranges = refl; synced = refl }

pub wrote_ok : (call : Call) (at : ℕ) (bytes : List ℕ) (old new : MemDisk) → at ≤ length (disk_now (history_of old)).bytes → WroteSome call at bytes old new → WroteOrMissed at bytes (disk_now (history_of old)) (disk_now (history_of new)) (Ok tt)
wrote_ok call at bytes old new le (v, is, did) = record {
  ok = subst (λ b. IsWritten at b (disk_now (history_of old)) (disk_now (history_of new))) is
      (subst (λ d. IsWritten at v.items (disk_now (history_of old)) d) (sym (disk_recorded call (Wrote at v) old new did)) (put (disk_now (history_of old)) at v.items le));
  err = tt;
}

pub wrote_listed : (call : Call) (at n : ℕ) (bytes : List ℕ) (old mid new : MemDisk) (e : DeviceFault) → n ≡ length bytes → Recorded call (Missed at n) old mid → DiskFaulted mid new → WroteOrMissed at bytes (disk_now (history_of old)) (disk_now (history_of new)) (Err e)
wrote_listed call at n bytes old mid new e size did fault = record {
  ok = tt;
  err = inl (subst (λ (k : ℕ). MissedWrite at k (disk_now (history_of old)) (disk_now (history_of new))) size
      (subst (λ d. MissedWrite at n (disk_now (history_of old)) d) (sym (disk_same mid new fault.same ∙ disk_recorded call (Missed at n) old mid did)) (missed (disk_now (history_of old)) at n)));
}

pub wrote_hungry : (call : Call) (at : ℕ) (bytes : List ℕ) (old mid new : MemDisk) (e : DeviceFault) → Starved call old mid → DiskFaulted mid new → WroteOrMissed at bytes (disk_now (history_of old)) (disk_now (history_of new)) (Err e)
wrote_hungry call at bytes old mid new e did fault = record { ok = tt; err = inr (disk_same mid new fault.same ∙ disk_starved call old mid did) }

pub wrote_last : (at : ℕ) (bytes : List ℕ) (old new : MemDisk) (e : DeviceFault) → DiskFaulted old new → WroteOrMissed at bytes (disk_now (history_of old)) (disk_now (history_of new)) (Err e)
wrote_last at bytes old new e fault = record { ok = tt; err = inr (disk_same old new fault.same) }

-- when a call fails
pub exact_went : {T : Type 0} (call : Call) (done : Done) (old new : MemDisk) (x : T) → is_listed old ≡ false → Recorded call done old new → FailsExactly old new (Ok x)
exact_went call done old new x free did = λ room. (
  λ is. absurd (both_ways false refl is),
  λ cause. elim cause [
    | inl listed ↦ absurd (both_ways _ free listed)
    | inr starved ↦ absurd (omega (arith, starved, did.starves))
  ],
)

pub exact_listed : (T : Type 0) (old new : MemDisk) (e : DeviceFault) → is_listed old ≡ true → FailsExactly {T = T} old new (Err e)
exact_listed T old new e listed = λ room. (λ is. inl listed, λ cause. refl)

pub exact_hungry : (T : Type 0) (call : Call) (old mid new : MemDisk) (e : DeviceFault) → Starved call old mid → DiskFaulted mid new → FailsExactly {T = T} old new (Err e)
exact_hungry T call old mid new e did fault = λ room. (λ is. inr (omega (arith, did.starves, fault.same.starves)), λ cause. refl)

pub exact_last : (T : Type 0) (old new : MemDisk) (e : DeviceFault) → moment_of old ≡ LAST → FailsExactly {T = T} old new (Err e)
exact_last T old new e last = λ room. absurd (omega (arith, room, last))

-- a call that is to leave the disk, recorded or not
pub kept_tried : (call : Call) (old mid new : MemDisk) (went : Bool) → OnTrue went (Recorded call Kept old mid) → OnFalse went (Starved call old mid) → DiskFaulted mid new → disk_now (history_of new) ≡ disk_now (history_of old)
kept_tried call old mid new true yes' no' fault = disk_same mid new fault.same ∙ disk_recorded call Kept old mid yes'
kept_tried call old mid new false yes' no' fault = disk_same mid new fault.same ∙ disk_starved call old mid no'

pub wrote_tried : (call : Call) (at n : ℕ) (bytes : List ℕ) (old mid new : MemDisk) (e : DeviceFault) (went : Bool) → n ≡ length bytes → OnTrue went (Recorded call (Missed at n) old mid) → OnFalse went (Starved call old mid) → DiskFaulted mid new
    → WroteOrMissed at bytes (disk_now (history_of old)) (disk_now (history_of new)) (Err e)
wrote_tried call at n bytes old mid new e true size yes' no' fault = wrote_listed call at n bytes old mid new e size yes' fault
wrote_tried call at n bytes old mid new e false size yes' no' fault = wrote_hungry call at bytes old mid new e no' fault

link_passed : {T : Type 0} (call : Call) (old mid counted new : MemDisk) (e : DeviceFault) → Passed call old mid → ((m : ℕ) → m ≤ moment_of old → (history_of mid).disk_at m ≡ (history_of old).disk_at m) → disk_now (history_of mid) ≡ disk_now (history_of old)
    → LinkCounted mid counted → LinkFaulted counted new → LinkCall {T = T} call (history_of old) (history_of new) (Err e)
link_passed call old mid counted new e passed past disk count fault = record {
  passes = record {
    moment = omega (arith, passed.moment, passed.room, fault.same.idle, count.idle, ap length fault.same.calls, ap length count.calls);
    last = λ is. absurd (omega (arith, is, passed.room));
    disk_past = λ m le. (λ i. replay (start ((fault.same.first ∙ count.first) i)) (take m ((fault.same.calls ∙ count.calls) i))) ∙ past m le;
    vehicle_past = λ m le. refl;
    calls_past = λ m lt. (λ i. call_in ((fault.same.made ∙ count.made) i) m) ∙ passed.calls_past m lt;
    call_is = λ lt. (λ i. call_in ((fault.same.made ∙ count.made) i) (moment_of old)) ∙ passed.call_is;
  };
  disk = disk_same counted new fault.same ∙ disk_is counted ∙ (λ i. replay (start (count.first i)) (count.calls i)) ∙ sym (disk_is mid) ∙ disk;
  disk_faults = fault.disk_faults ∙ count.disk_faults ∙ passed.disk_faults;
  link_calls = omega (arith, fault.same.link_calls, count.link_calls, passed.link_calls, passed.moment, fault.same.idle, count.idle, ap length fault.same.calls, ap length count.calls);
  never_falls = omega (arith, fault.link_faults, count.link_faults, passed.link_faults, old.link_count);
  fault = λ is. rises_more old.link_faults new.link_faults old.link_count (fault.link_faults ∙ ap one_more (count.link_faults ∙ passed.link_faults));
}

pub link_tried : {T : Type 0} (call : Call) (old mid counted new : MemDisk) (e : DeviceFault) (went : Bool) → OnTrue went (Recorded call Kept old mid) → OnFalse went (Starved call old mid)
    → LinkCounted mid counted → LinkFaulted counted new → LinkCall {T = T} call (history_of old) (history_of new) (Err e)
link_tried call old mid counted new e true yes' no' count fault = link_passed call old mid counted new e yes'.passed (recorded_past call Kept old mid yes') (disk_recorded call Kept old mid yes') count fault
link_tried call old mid counted new e false yes' no' count fault = link_passed call old mid counted new e no'.passed (starved_past call old mid no') (disk_starved call old mid no') count fault

-- a write that failed lists its range, where memory was found
pub misses_tried : (call : Call) (at n : ℕ) (bytes : List ℕ) (old mid new : MemDisk) (e : DeviceFault) (went : Bool) → n ≡ length bytes → OnTrue went (Recorded call (Missed at n) old mid) → OnFalse went (Starved call old mid) → DiskFaulted mid new
    → ListsMiss at (length bytes) old new (Err e)
misses_tried call at n bytes old mid new e true size yes' no' fault = λ room same.
    subst (λ (k : ℕ). MissedWrite at k (disk_now (history_of old)) (disk_now (history_of new))) size
    (subst (λ (d : DiskState). MissedWrite at n (disk_now (history_of old)) d) (sym (disk_same mid new fault.same ∙ disk_recorded call (Missed at n) old mid yes')) (missed (disk_now (history_of old)) at n))
misses_tried call at n bytes old mid new e false size yes' no' fault = λ room same. absurd (omega (arith, same, no'.starves, fault.same.starves))

-- a link call that succeeded
pub link_went : {T : Type 0} (call : Call) (old mid counted : MemDisk) (x : T) → Recorded call Kept old mid → LinkCounted mid counted → LinkCall call (history_of old) (history_of counted) (Ok x)
link_went call old mid counted x did count = record {
  passes = record {
    moment = omega (arith, did.passed.moment, did.passed.room, count.idle, ap length count.calls);
    last = λ is. absurd (omega (arith, is, did.passed.room));
    disk_past = λ m le. (λ i. replay (start (count.first i)) (take m (count.calls i))) ∙ recorded_past call Kept old mid did m le;
    vehicle_past = λ m le. refl;
    calls_past = λ m lt. (λ i. call_in (count.made i) m) ∙ did.passed.calls_past m lt;
    call_is = λ lt. (λ i. call_in (count.made i) (moment_of old)) ∙ did.passed.call_is;
  };
  disk = disk_is counted ∙ (λ i. replay (start (count.first i)) (count.calls i)) ∙ sym (disk_is mid) ∙ disk_recorded call Kept old mid did;
  disk_faults = count.disk_faults ∙ did.passed.disk_faults;
  link_calls = omega (arith, count.link_calls, did.passed.link_calls, did.passed.moment, count.idle, ap length count.calls);
  never_falls = omega (arith, count.link_faults, did.passed.link_faults);
  fault = λ is. absurd (both_ways false refl is);
}

-- ------ link calls of whoever has a vehicle beside the disk
-- one link call more, and nothing else
pub record OneMore (mid new : MemDisk) : Type 0 where
  pub first : new.first.items ≡ mid.first.items
  pub failing : new.failing.items ≡ mid.failing.items
  pub calls : new.calls.items ≡ mid.calls.items
  pub idle : new.idle ≡ mid.idle
  pub made : new.made ≡ mid.made
  pub starves : new.starved ≡ mid.starved
  pub disk_faults : new.disk_faults ≡ mid.disk_faults
  pub link_faults : new.link_faults ≡ mid.link_faults
  pub link_calls : new.link_calls ≡ mid.link_calls + 1
  pub linked : new.linked ≡ mid.linked

link_begun_past : (call : Call) (old mid new : MemDisk) (went : Bool) → Passed call old mid
    → ((m : ℕ) → m ≤ moment_of old → (history_of mid).disk_at m ≡ (history_of old).disk_at m)
    → disk_now (history_of mid) ≡ disk_now (history_of old)
    → OnTrue went (new.starved ≡ old.starved) → OnFalse went (new.starved ≡ old.starved + 1)
    → OneMore mid new → LinkPassed call went old new
link_begun_past call old mid new went passed past disk fed hungry more = record {
  moment = omega (arith, passed.moment, more.idle, ap length more.calls);
  disk_past = λ m le. (λ i. replay (start (more.first i)) (take m (more.calls i))) ∙ past m le;
  disk = disk_is new ∙ (λ i. replay (start (more.first i)) (more.calls i)) ∙ sym (disk_is mid) ∙ disk;
  calls_past = λ m lt. (λ i. call_in (more.made i) m) ∙ passed.calls_past m lt;
  call_is = (λ i. call_in (more.made i) (moment_of old)) ∙ passed.call_is;
  failing = more.failing ∙ passed.failing;
  disk_faults = more.disk_faults ∙ passed.disk_faults;
  link_faults = more.link_faults ∙ passed.link_faults;
  link_calls = more.link_calls ∙ ap (λ (n : ℕ). n + 1) passed.link_calls;
  linked = more.linked ∙ passed.linked;
  recorded = fed;
  hungry = hungry;
}

pub link_begun : (call : Call) (old mid new : MemDisk) (went : Bool) → OnTrue went (Recorded call Kept old mid)
    → OnFalse went (Starved call old mid) → OneMore mid new → LinkPassed call went old new
link_begun call old mid new true yes' no' more =
    link_begun_past call old mid new true yes'.passed (recorded_past call Kept old mid yes') (disk_recorded call Kept old mid yes')
    (more.starves ∙ yes'.starves) tt more
link_begun call old mid new false yes' no' more =
    link_begun_past call old mid new false no'.passed (starved_past call old mid no') (disk_starved call old mid no')
    tt (more.starves ∙ no'.starves) more
