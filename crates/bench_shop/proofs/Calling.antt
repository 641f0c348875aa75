-- The calls of a shop in memory are those of a shop.
use Rattle.std.proofs.Common.{◌≡◌, inl, inr, ℕ, ◌+◌, ◌<◌, ◌≤◌, ◌^◌, min, Bool, true, false, List, [], Option, Some, None, refl, sym, ◌∙◌, ap, subst, arith, Result, Ok, Err}
use Rattle.std.proofs.lemmas.Bool.{both_ways, cases_lt, lt-ltb}
use Rattle.std.specs.Bool.{OnTrue, OnFalse}
use Rattle.std.specs.Prelude.{nat_lt, IfOk, IsErr, IsTrue, not, ◌&&◌, ◌||◌, ◌⊎◌, ◌↔◌}
use Rattle.std.specs.Option.{is_some}
use Rattle.std.specs.Result.{is_err}
use Rattle.unit_model.specs.Feed.{Feeds}
use Rattle.unit_model.specs.Poll.{Misses}
use Rattle.unit_model.specs.declared.reply.Got.{Got}
use Rattle.unit_model.specs.declared.reply.Got.TheVariants.{Quiet}
use Rattle.unit_model.specs.declared.reply.Got.TheVariants.{Bytes as GotBytes}
use Rattle.disk_model.specs.declared.device.DeviceFault.{DeviceFault}
use Rattle.flash_base.specs.Counts.{Rises, one_more}
use Rattle.unit_model.specs.Vehicle.{Vehicle}
use Rattle.shop_model.specs.History.{History, Call, LAST, DiskCall, LinkCall, Sent, Received, Redialed, vehicle_now, disk_now}
use Rattle.mem_disk.specs.Disks.{moment_of as disk_moment, disk_calls, history_of as disk_history, FailsExactly, LinkPassed, LinkEnded}
use Rattle.mem_disk.specs.declared.disk.MemDisk.{MemDisk}
use Rattle.vehicle_world.specs.Worlds.{Simulated, world_of}
use Rattle.bench_shop.specs.Benches.{Brings, FailsHungry, Went}
use Rattle.bench_shop.specs.Faults.{is_listed}
use Rattle.bench_shop.specs.Links.{LinkBegun}
use Rattle.bench_shop.specs.Pasts.{last_of, world_in, vehicle_of}
use Rattle.bench_shop.specs.Shops.{history, GarblesIn}
use Rattle.bench_shop.proofs.Links.{misses_none}
use Rattle.bench_shop.specs.declared.past.Past.{Past, Start, Then'}
use Rattle.bench_shop.specs.declared.bench.Bench.{Bench}

-- from the last call on the vehicle is the one now
pub now_behind : (p : Past) (now : Simulated) (m : ℕ) → last_of p ≤ m → world_in p now m ≡ now
now_behind Start now m le = refl
now_behind (Then' at w k before) now m le =
    let test : nat_lt at m ≡ true = lt-ltb at m (omega (arith, le)) in
    rw test refl

-- a vehicle whose last call is past has its present state at the moment of the disk
abbrev IsPast : MemDisk → Bench → Type 0
IsPast d b = last_of b.past ≤ disk_moment d

pub now_is : (d : MemDisk) (b : Bench) → IsPast d b → vehicle_now (history d b) ≡ vehicle_of b.world
now_is d b past i = (now_behind b.past (world_of b.world) (disk_moment d) past i).vehicle

-- a call of the disk, and the end of one of the link, leave it past
pub later_past : (d e : MemDisk) (b : Bench) → IsPast d b → disk_moment e ≡ min (disk_moment d + 1) LAST → IsPast e b
later_past d e b past moment = let few : disk_moment d ≤ LAST = d.few in omega (arith, past, moment, few)

pub late_past : (missed connected : Bool) (d e : MemDisk) (b : Bench) → IsPast d b → LinkEnded missed connected d e → IsPast e b
late_past missed connected d e b past ended = let same = ap (λ (h : History). h.moment) ended.same in omega (arith, past, same)

pub went_past : (call : Call) (numbers : List ℕ) (may missed connected : Bool) (d mid e : MemDisk) (b c : Bench)
    → LinkBegun call numbers may d mid → Went (disk_moment d) b c → LinkEnded missed connected mid e → IsPast e c
went_past call numbers may missed connected d mid e b c begun went ended =
    let same = ap (λ (h : History). h.moment) ended.same in
    let more = begun.passed.moment in
    let last = went.last in
    omega (arith, last, more, same)

pub late_misses : (d e : MemDisk) (b : Bench) → IsPast d b → IsPast e b → Misses (vehicle_now (history d b)) (vehicle_now (history e b))
late_misses d e b old new =
    subst (λ (v : Vehicle). Misses v (vehicle_now (history e b))) (sym (now_is d b old))
    (subst (λ (v : Vehicle). Misses (vehicle_of b.world) v) (sym (now_is e b new)) (misses_none (vehicle_of b.world)))

-- ------ disk calls
-- a call of the disk alone
pub disk_call : {T : Type 0} (call : Call) (d e : MemDisk) (b : Bench) (r : Result T DeviceFault) → IsPast d b → IsPast e b
    → DiskCall call (disk_history d) (disk_history e) r → DiskCall call (history d b) (history e b) r
disk_call call d e b r old new did = record {
  passes = record {
    moment = did.passes.moment;
    last = did.passes.last;
    disk_past = did.passes.disk_past;
    vehicle_past = λ m le. refl;
    calls_past = did.passes.calls_past;
    call_is = did.passes.call_is;
  };
  vehicle = now_is e b new ∙ sym (now_is d b old);
  link_faults = did.link_faults;
  link_calls = did.link_calls;
  linked = did.linked;
  never_falls = did.never_falls;
  fault = did.fault;
}

-- it fails where the disk does
pub disk_fails : {T : Type 0} (numbers : List ℕ) (d e : MemDisk) (b : Bench) (r : Result T DeviceFault) → d.failing.items ≡ numbers
    → FailsExactly d e r → disk_moment d < LAST
    → (IsErr r ↔ (IsTrue (is_listed numbers (disk_calls d)) ⊎ (d.starved + b.hungry < e.starved + b.hungry)))
disk_fails numbers d e b r listed exact room = (
  λ is. elim ((exact room).0 is) [
    | inl one ↦ inl (subst (λ (xs : List ℕ). IsTrue (is_listed xs (disk_calls d))) listed one)
    | inr more ↦ inr (omega (arith, more))
  ],
  λ cause. (exact room).1 (elim cause [
    | inl one ↦ inl (subst (λ (xs : List ℕ). IsTrue (is_listed xs (disk_calls d))) (sym listed) one)
    | inr more ↦ inr (omega (arith, more))
  ]),
)

-- ------ link calls
rises_more : (old new : ℕ) → old < 2 ^ 64 → new ≡ one_more old → Rises old new
rises_more old new small is = omega (arith, small, is)

never_less : (old new : ℕ) (missed : Bool) → old < 2 ^ 64 → OnTrue missed (new ≡ one_more old)
    → OnFalse missed (new ≡ old) → old ≤ new
never_less old new true small faulty fine = omega (arith, small, faulty)
never_less old new false small faulty fine = omega (arith, fine)

faulty_in : (missed : Bool) (old new : ℕ) → missed ≡ true → OnTrue missed (new ≡ one_more old) → new ≡ one_more old
faulty_in true old new is faulty = faulty
faulty_in false old new is faulty = absurd (both_ways false refl is)

-- one that began, went to the vehicle or not, and ended
pub link_call : {T : Type 0} (call : Call) (numbers : List ℕ) (may missed connected : Bool) (d mid e : MemDisk) (b c : Bench)
    (r : Result T DeviceFault) → disk_moment d < LAST → LinkBegun call numbers may d mid
    → Went (disk_moment d) b c → LinkEnded missed connected mid e
    → (IsErr r → missed ≡ true) → LinkCall call (history d b) (history e c) r
link_call call numbers may missed connected d mid e b c r lt begun went ended miss = record {
  passes = record {
    moment = omega (arith, lt, begun.passed.moment, ap (λ (h : History). h.moment) ended.same);
    last = λ is. absurd (omega (arith, is, lt));
    disk_past = λ m le. (λ i. (ended.same i).disk_at m) ∙ begun.passed.disk_past m le;
    vehicle_past = λ m le i. (went.before m le i).vehicle;
    calls_past = λ m less. (λ i. (ended.same i).call_at m) ∙ begun.passed.calls_past m less;
    call_is = λ less. (λ i. (ended.same i).call_at (disk_moment d)) ∙ begun.passed.call_is;
  };
  disk = (λ i. disk_now (ended.same i)) ∙ begun.passed.disk;
  disk_faults = ap (λ (h : History). h.disk_faults) ended.same ∙ begun.passed.disk_faults;
  link_calls = omega (arith, begun.passed.moment, begun.passed.link_calls, ap (λ (h : History). h.moment) ended.same, ap (λ (h : History). h.link_calls) ended.same);
  never_falls = subst (λ (n : ℕ). n ≤ e.link_faults) begun.passed.link_faults
      (never_less mid.link_faults e.link_faults missed mid.link_count ended.faulty ended.fine);
  fault = λ is. subst (λ (n : ℕ). Rises n e.link_faults) begun.passed.link_faults
      (rises_more mid.link_faults e.link_faults mid.link_count (faulty_in missed mid.link_faults e.link_faults (miss is) ended.faulty));
}

-- at the last moment
pub late_call : {T : Type 0} (call : Call) (d e : MemDisk) (b : Bench) (f : DeviceFault) → disk_moment d ≡ LAST
    → LinkEnded true d.linked d e → LinkCall {T = T} call (history d b) (history e b) (Err f)
late_call call d e b f last ended = record {
  passes = record {
    moment = omega (arith, last, ap (λ (h : History). h.moment) ended.same);
    last = λ is. refl;
    disk_past = λ m le i. (ended.same i).disk_at m;
    vehicle_past = λ m le. refl;
    calls_past = λ m less i. (ended.same i).call_at m;
    call_is = λ less. absurd (omega (arith, less, last));
  };
  disk = λ i. disk_now (ended.same i);
  disk_faults = ap (λ (h : History). h.disk_faults) ended.same;
  link_calls = omega (arith, ap (λ (h : History). h.moment) ended.same, ap (λ (h : History). h.link_calls) ended.same);
  never_falls = never_less d.link_faults e.link_faults true d.link_count ended.faulty ended.fine;
  fault = λ is. rises_more d.link_faults e.link_faults d.link_count ended.faulty;
}

-- when a link call fails
fails_by : {T : Type 0} (d mid e : MemDisk) (b c : Bench) (may went listed : Bool) (r : Result T DeviceFault)
    → may ≡ (went && not listed) → OnTrue went (mid.starved ≡ d.starved) → OnFalse went (mid.starved ≡ d.starved + 1)
    → e.starved ≡ mid.starved → FailsHungry may b c r → b.hungry ≤ c.hungry
    → (IsErr r ↔ (IsTrue listed ⊎ (d.starved + b.hungry < e.starved + c.hungry)))
fails_by d mid e b c may false listed r is fed hungry same exact grows =
    (λ err. inr (omega (arith, hungry, same, grows)), λ cause. exact.not_made is)
fails_by d mid e b c may true true r is fed hungry same exact grows = (λ err. inl refl, λ cause. exact.not_made is)
fails_by d mid e b c may true false r is fed hungry same exact grows = (
  λ err. inr (omega (arith, fed, same, (exact.made is).0 err)),
  λ cause. elim cause [
    | inl listed ↦ absurd (both_ways false refl listed)
    | inr more ↦ (exact.made is).1 (omega (arith, fed, same, more))
  ],
)

pub link_fails : {T : Type 0} (call : Call) (numbers : List ℕ) (may missed connected : Bool) (d mid e : MemDisk) (b c : Bench)
    (r : Result T DeviceFault) (m : ℕ) → LinkBegun call numbers may d mid → FailsHungry may b c r → Went m b c
    → LinkEnded missed connected mid e
    → (IsErr r ↔ (IsTrue (is_listed numbers d.link_calls) ⊎ (d.starved + b.hungry < e.starved + c.hungry)))
link_fails call numbers may missed connected d mid e b c r m begun exact went ended =
    fails_by d mid e b c may begun.went (is_listed numbers d.link_calls) r begun.is begun.passed.recorded begun.passed.hungry
    ended.starves exact went.never_falls

-- ------ what the vehicle did
pub sent_now : (bytes : List ℕ) (d e : MemDisk) (b c : Bench) (r : Result Unit DeviceFault) → IsPast d b → IsPast e c
    → Sent bytes (vehicle_of b.world) (vehicle_of c.world) r
    → Sent bytes (vehicle_now (history d b)) (vehicle_now (history e c)) r
sent_now bytes d e b c r old new sent =
    subst (λ (v : Vehicle). Sent bytes v (vehicle_now (history e c)) r) (sym (now_is d b old))
    (subst (λ (v : Vehicle). Sent bytes (vehicle_of b.world) v r) (sym (now_is e c new)) sent)

pub redialed_now : (d e : MemDisk) (b c : Bench) (r : Result Unit DeviceFault) → IsPast d b → IsPast e c
    → Redialed (vehicle_of b.world) (vehicle_of c.world) r
    → Redialed (vehicle_now (history d b)) (vehicle_now (history e c)) r
redialed_now d e b c r old new dialed =
    subst (λ (v : Vehicle). Redialed v (vehicle_now (history e c)) r) (sym (now_is d b old))
    (subst (λ (v : Vehicle). Redialed (vehicle_of b.world) v r) (sym (now_is e c new)) dialed)

cleaner : (A B : Type 0) (out : List ℕ) (old new : Vehicle) (r : Result Got DeviceFault) → (B → A)
    → Received out A old new r → Received out B old new r
cleaner A B out old new (Ok Quiet) f got = got
cleaner A B out old new (Ok (GotBytes n)) f got = (got.0, λ b. got.1 (f b))
cleaner A B out old new (Err e) f got = got

pub received_now : (A B : Type 0) (out : List ℕ) (d e : MemDisk) (b c : Bench) (r : Result Got DeviceFault) → IsPast d b
    → IsPast e c → (B → A) → Received out A (vehicle_of b.world) (vehicle_of c.world) r
    → Received out B (vehicle_now (history d b)) (vehicle_now (history e c)) r
received_now A B out d e b c r old new f got =
    cleaner A B out (vehicle_now (history d b)) (vehicle_now (history e c)) r f
    (subst (λ (v : Vehicle). Received out A v (vehicle_now (history e c)) r) (sym (now_is d b old))
    (subst (λ (v : Vehicle). Received out A (vehicle_of b.world) v r) (sym (now_is e c new)) got))

-- a receive that was garbled counts a fault
pub clean : (piece : Option (List ℕ)) (err missed connected : Bool) (d mid e : MemDisk) (went : Bool) (call : Call)
    → missed ≡ (err || is_some piece) → LinkPassed call went d mid → LinkEnded missed connected mid e
    → ¬ Rises d.link_faults e.link_faults → piece ≡ None
clean None err missed connected d mid e went call is passed ended none = refl
clean (Some x) err missed connected d mid e went call is passed ended none = absurd (none
    (subst (λ (n : ℕ). Rises n e.link_faults) passed.link_faults
    (rises_more mid.link_faults e.link_faults mid.link_count
    (faulty_in missed mid.link_faults e.link_faults (is ∙ or_true err) ended.faulty))))
  where
    or_true : (b : Bool) → (b || true) ≡ true
    or_true true = refl
    or_true false = refl

-- one that was not counts none
fine_in : (missed : Bool) (old new : ℕ) → missed ≡ false → OnFalse missed (new ≡ old) → new ≡ old
fine_in true old new is fine = absurd (both_ways true is refl)
fine_in false old new is fine = fine

pub brought : (piece : Option (List ℕ)) (out : List ℕ) (missed connected : Bool) (d mid e : MemDisk) (went : Bool) (call : Call)
    (r : Result Got DeviceFault) → missed ≡ (is_err r || is_some piece) → LinkPassed call went d mid → LinkEnded missed connected mid e
    → IfOk r (Brings piece out) → IfOk r (GarblesIn piece out d e)
brought piece out missed connected d mid e went call (Err f) is passed ended brings = tt
brought None out missed connected d mid e went call (Ok got) is passed ended brings =
    fine_in missed mid.link_faults e.link_faults is ended.fine ∙ passed.link_faults
brought (Some x) out missed connected d mid e went call (Ok got) is passed ended brings = brings

-- nothing was sent
pub not_sent : (bytes : List ℕ) (v : Vehicle) (e : DeviceFault) → Feeds [] v v → Sent bytes v v (Err e)
not_sent bytes v e feeds = record { ok = tt; err = record { count = 0; mid = v; feeds = feeds; broken = inl refl } }

-- of a result that is an error
pub err_is : {T : Type 0} (r : Result T DeviceFault) (b : Bool) → b ≡ is_err r → IsErr r → b ≡ true
err_is (Ok x) b is err = absurd (both_ways false refl err)
err_is (Err e) b is err = is

pub err_or : {T : Type 0} (r : Result T DeviceFault) (b c : Bool) → b ≡ (is_err r || c) → IsErr r → b ≡ true
err_or (Ok x) b c is err = absurd (both_ways false refl err)
err_or (Err e) b c is err = is

-- it is not the last moment yet
pub not_over : (d : MemDisk) (b : Bool) → b ≡ false → (disk_moment d ≡ LAST → IsTrue b) → disk_moment d < LAST
not_over d b is only = elim (cases_lt (disk_moment d) LAST) [
  | inl lt ↦ lt
  | inr ge ↦ absurd (both_ways b is (only (omega (arith, ge, d.few))))
]
