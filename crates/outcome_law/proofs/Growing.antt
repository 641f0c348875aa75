-- No step of a vehicle lets a count fall or changes what a unit is made of.
use Rattle.std.proofs.Common.{◌≡◌, ◌⊎◌, inl, inr, ℕ, zero, suc, ◌+◌, true, false, List, [], ◌∷◌, ◌++◌, length, Some, None, refl, sym, ◌∙◌, ap, subst, arith}
use Rattle.std.specs.Prelude.{Bool, Option, is_some, ◌==◌, ◌||◌, not, map, nat_le, nat_lt, MatchBool, if◌then◌else◌}
use Rattle.std.proofs.lemmas.Bool.{cases_Bool, cases_eq}
use Rattle.doip_frame.specs.Frame.{Cut, Partial, Wrong, Whole, cut_frame, message_bytes}
use Rattle.doip_frame.specs.declared.frame.Frame.{Frame}
use Rattle.doip_frame.specs.declared.frame.Frame.TheVariants.{HeaderNack, Activate, Activated, AliveAsk, AliveSay, Message, Ack, Nack, Other}
use Rattle.flash_base.specs.ByteMaps.{byte_at, bytes_of, has_each}
use Rattle.flash_base.specs.Lists.{same_bytes}
use Rattle.sha2.specs.Sha256.{sha256}
use Rattle.uds_codec.specs.Key.{key_of}
use Rattle.uds_codec.specs.Request.{Range, range_of, request_of, sid_of}
use Rattle.uds_codec.specs.declared.request.Request.{Request}
use Rattle.uds_codec.specs.declared.request.Request.TheVariants.{Session, Reset, ReadId, Seed, Key, Routine, Download, Upload, Transfer, Pull, Exit, Setting, Messages}
use Rattle.unit_model.proofs.Steps.{step_frames}
use Rattle.unit_model.proofs.Units.{hit, miss, with_same, with_other}
use Rattle.unit_model.specs.Feed.{DueReply, with_unit, enqueue, queue_due, tester_of, Handles, HandlesMessage, HandlesAt, Refuses, Activation, Accepts, Denies, Delays, Ignores, activation, Nothing, AfterCut, FeedsAll, Feeds, FeedsHearing, FeedsPart}
use Rattle.unit_model.specs.Poll.{Ticks, Carries, Misses, raises, raised_by}
use Rattle.unit_model.specs.Step.{UnitStep, Obeys, Holds, Departs, Departure, Refuses as refuses, Odd, Fails, Mutes, Busies, Leaves, raised, raise_code, raise_if}
use Rattle.flash_base.specs.Counts.{one_more}
use Rattle.unit_model.specs.Unit.{ControlUnit, OpenTransfer, Counts, obey, obey_in, obedient, read_in, has_level, key_in, is_locked, erase_in, check_in, finish_in, receive_in, give_in, exit_in, ident_of, is_repeat, block_number, in_default, in_session}
use Rattle.unit_model.specs.Vehicle.{HeldAnswer, Gateway, Vehicle, unit_at, redialed}
use Rattle.unit_model.specs.declared.reply.UnitReply.{UnitReply}
use Rattle.run_model.proofs.Hearing.{found_address}
use Rattle.outcome_law.specs.Counting.{SameMake, Kept, KeptIn}
use Rattle.outcome_law.specs.Rising.{RoseBy, Grows, CountsGrow}
use Rattle.unit_model.proofs.Domains.{fill_domain, put_domain}

pub up_same : (n : ℕ) → Grows n n
up_same n = omega arith

pub up_then : (a b c : ℕ) → Grows a b → Grows b c → Grows a c
up_then a b c f g = omega (arith, f, g)

up_one : (n : ℕ) → Grows n (one_more n)
up_one n = omega arith

up_code : (code : ℕ) (f : ℕ → ℕ) (c : ℕ) → Grows (f c) (raise_code code f c)
up_code code f c = elim (cases_Bool (c == code)) [ inl e ↦ rw e (up_one (f c)) | inr e ↦ rw e (up_same (f c)) ]

up_if : (b : Bool) (n : ℕ) → Grows n (raise_if b n)
up_if true n = up_one n
up_if false n = up_same n

pub counts_same : (c : Counts) → CountsGrow c c
counts_same c = record {
  refused = λ code. up_same (c.refused code);
  odd = up_same c.odd;
  failed = up_same c.failed;
  muted = up_same c.muted;
  late = up_same c.late;
  stalled = up_same c.stalled;
  busy = up_same c.busy;
  nacked = λ code. up_same (c.nacked code);
}

pub counts_then : (a b c : Counts) → CountsGrow a b → CountsGrow b c → CountsGrow a c
counts_then a b c f g = record {
  refused = λ code. up_then _ _ _ (f.refused code) (g.refused code);
  odd = up_then _ _ _ f.odd g.odd;
  failed = up_then _ _ _ f.failed g.failed;
  muted = up_then _ _ _ f.muted g.muted;
  late = up_then _ _ _ f.late g.late;
  stalled = up_then _ _ _ f.stalled g.stalled;
  busy = up_then _ _ _ f.busy g.busy;
  nacked = λ code. up_then _ _ _ (f.nacked code) (g.nacked code);
}

pub counts_is : (c d : Counts) → d ≡ c → CountsGrow c d
counts_is c d is = subst (λ (x : Counts). CountsGrow c x) (sym is) (counts_same c)

pub raised_up : (kind : Departure) (c : Counts) → CountsGrow c (raised kind c)
raised_up (refuses nrc) c = record { refused = up_code nrc c.refused; odd = up_same _; failed = up_same _; muted = up_same _; late = up_same _; stalled = up_same _; busy = up_same _; nacked = λ code. up_same _ }
raised_up (Odd body) c = record { refused = λ code. up_same _; odd = up_one _; failed = up_same _; muted = up_same _; late = up_same _; stalled = up_same _; busy = up_same _; nacked = λ code. up_same _ }
raised_up (Fails body) c = record { refused = λ code. up_same _; odd = up_same _; failed = up_one _; muted = up_same _; late = up_same _; stalled = up_same _; busy = up_same _; nacked = λ code. up_same _ }
raised_up Mutes c = record { refused = λ code. up_same _; odd = up_same _; failed = up_same _; muted = up_one _; late = up_same _; stalled = up_same _; busy = up_same _; nacked = λ code. up_same _ }
raised_up Busies c = record { refused = λ code. up_same _; odd = up_same _; failed = up_same _; muted = up_same _; late = up_same _; stalled = up_same _; busy = up_one _; nacked = λ code. up_same _ }

pub timed_up : (a b : Bool) (c : Counts) → CountsGrow c (record c { late = raise_if a c.late; stalled = raise_if b c.stalled })
timed_up a b c = record { refused = λ code. up_same _; odd = up_same _; failed = up_same _; muted = up_same _; late = up_if a _; stalled = up_if b _; busy = up_same _; nacked = λ code. up_same _ }

nacked_up : (code : ℕ) (c : Counts) → CountsGrow c (record c { nacked = raise_code code c.nacked })
nacked_up code c = record { refused = λ n. up_same _; odd = up_same _; failed = up_same _; muted = up_same _; late = up_same _; stalled = up_same _; busy = up_same _; nacked = up_code code c.nacked }

-- a count that rose, and then did not fall
pub rose_then : (n a b c : ℕ) → RoseBy n a b → Grows b c → RoseBy n a c
rose_then n a b c f g = omega (arith, f, g)

-- ------ a unit
abbrev KeptCounts : ControlUnit → ControlUnit × List ℕ → Type 0
KeptCounts u step = step.0.counts ≡ u.counts

either : (u : ControlUnit) (c : Bool) (a b : ControlUnit × List ℕ) → KeptCounts u a → KeptCounts u b → KeptCounts u (if c then a else b)
either u true a b x y = x
either u false a b x y = y

obey_kept : (u : ControlUnit) (r : Request) → KeptCounts u (obey u r)
obey_kept u (Session kind) = go (kind == 1)
  where
    go : (c : Bool) → (if c then in_default u else in_session u kind).counts ≡ u.counts
    go true = refl
    go false = refl
obey_kept u Reset = refl
obey_kept u (ReadId did) = go (ident_of u.idents did)
  where
    go : (o : Option (List ℕ)) → KeptCounts u (read_in u did o)
    go None = refl
    go (Some value) = refl
obey_kept u (Seed level) = either u (u.session == 2) _ _ (either u (has_level u.key level) _ _ refl refl) refl
obey_kept u (Key level key) = either u (u.session == 2) _ _ (either u (has_level u.key level) _ _ (go u.last_seed) refl) refl
  where
    go : (o : Option (List ℕ)) → KeptCounts u (key_in u level key o)
    go None = refl
    go (Some seed) = either u (same_bytes key (key_of u.key seed)) _ _ refl refl
obey_kept u (Routine id option) = either u (u.session == 2) _ _ (either u (id == 65280) _ _ (either u (is_locked u) _ _ refl (erase (range_of option))) (either u (is_locked u) _ _ refl (either u (id == 65281) _ _ (finish u.checked) (either u (id == u.check) _ _ (check (range_of option)) refl)))) refl
  where
    erase : (o : Option Range) → KeptCounts u (erase_in u o)
    erase None = refl
    erase (Some r) = either u (r.size == 0 || not (length r.more == 0)) _ _ refl (either u (not (has_each r.at r.size u.memory)) _ _ refl refl)

    finish : (cs : List (ℕ × ℕ)) → KeptCounts u (finish_in u cs)
    finish [] = refl
    finish (c ∷ cs) = refl

    check : (o : Option Range) → KeptCounts u (check_in u id o)
    check None = refl
    check (Some r) = either u (r.size == 0 || not (length r.more == 32)) _ _ refl (either u (not (has_each r.at r.size u.memory)) _ _ refl (either u (same_bytes r.more (sha256 (bytes_of r.at r.size u.memory))) _ _ refl refl))
obey_kept u (Download width at size) = either u (u.session == 2) _ _ (either u (is_locked u) _ _ refl (either u (not (has_each at size u.memory)) _ _ refl refl)) refl
obey_kept u (Upload width at size) = either u (u.session == 2) _ _ (either u (is_locked u) _ _ refl (either u (not (has_each at size u.memory)) _ _ refl refl)) refl
obey_kept u (Transfer counter body) = either u (u.session == 2) _ _ (go u.transfer) refl
  where
    go : (o : Option OpenTransfer) → KeptCounts u (receive_in u o counter body)
    go None = refl
    go (Some t) = either u t.up _ _ refl (either u (is_repeat t counter) _ _ refl (either u (not (counter == t.counter)) _ _ refl
        (either u (nat_lt (block_number u) (length body + 2)) _ _ refl (either u (nat_lt t.rest (length body)) _ _ refl refl))))
obey_kept u (Pull counter) = either u (u.session == 2) _ _ (go u.transfer) refl
  where
    go : (o : Option OpenTransfer) → KeptCounts u (give_in u o counter)
    go None = refl
    go (Some t) = either u (not t.up) _ _ refl (either u (is_repeat t counter) _ _ refl (either u (t.rest == 0) _ _ refl (either u (not (counter == t.counter)) _ _ refl refl)))
obey_kept u Exit = either u (u.session == 2) _ _ (go u.transfer) refl
  where
    go : (o : Option OpenTransfer) → KeptCounts u (exit_in u o)
    go None = refl
    go (Some t) = either u (t.rest == 0) _ _ refl refl
obey_kept u (Setting off) = either u (u.session == 1) _ _ refl refl
obey_kept u (Messages off) = either u (u.session == 1) _ _ refl refl

pub obedient_counts : (u : ControlUnit) (bytes : List ℕ) → (obedient u bytes).0.counts ≡ u.counts
obedient_counts u bytes = go (request_of bytes)
  where
    go : (r : Option Request) → KeptCounts u (obey_in u (sid_of bytes) r)
    go None = refl
    go (Some r) = obey_kept u r

pub leaves_counts : (u mid : ControlUnit) (bytes : List ℕ) → Leaves u bytes mid → mid.counts ≡ u.counts
leaves_counts u mid bytes (inl is) = λ i. (is i).counts
leaves_counts u mid bytes (inr (s, range, spoiled)) = λ i. (spoiled.rest i).counts

pub step_up : (u w : ControlUnit) (bytes : List ℕ) (tick : ℕ) (replies : List UnitReply) → UnitStep u bytes tick replies w → CountsGrow u.counts w.counts
step_up u w bytes tick replies step = go step.how
  where
    go : Obeys u bytes tick replies w ⊎ Holds u bytes tick replies w ⊎ Departs u bytes tick replies w → CountsGrow u.counts w.counts
    go (inl o) = subst (λ (x : ControlUnit). CountsGrow u.counts x.counts) (sym o.becomes)
        (counts_then u.counts (obedient u bytes).0.counts _ (counts_is _ _ (obedient_counts u bytes)) (timed_up _ _ (obedient u bytes).0.counts))
    go (inr (inl h)) = counts_is u.counts w.counts ((λ i. (h.becomes i).counts) ∙ obedient_counts u bytes)
    go (inr (inr d)) = subst (λ (x : ControlUnit). CountsGrow u.counts x.counts) (sym d.becomes)
        (counts_then u.counts d.mid.counts _ (counts_is _ _ (leaves_counts u d.mid bytes d.leaves))
        (counts_then d.mid.counts (raised d.kind d.mid.counts) _ (raised_up d.kind d.mid.counts) (timed_up _ _ (raised d.kind d.mid.counts))))

-- ------ what a unit is made of
frame : (u w : ControlUnit) → w.idents ≡ u.idents → w.key ≡ u.key → w.check ≡ u.check → w.block ≡ u.block → w.seed ≡ u.seed → ((a : ℕ) → is_some (byte_at w.memory a) ≡ is_some (byte_at u.memory a)) → SameMake u w
frame u w idents key check block seed domain = record { idents = idents; key = key; check = check; block = block; seed = seed; domain = domain }

pub make_same : (u : ControlUnit) → SameMake u u
make_same u = frame u u refl refl refl refl refl (λ a. refl)

pub make_then : (u w x : ControlUnit) → SameMake u w → SameMake w x → SameMake u x
make_then u w x f g = frame u x (g.idents ∙ f.idents) (g.key ∙ f.key) (g.check ∙ f.check) (g.block ∙ f.block) (g.seed ∙ f.seed) (λ a. g.domain a ∙ f.domain a)

pub make_is : (u w x : ControlUnit) → x ≡ w → SameMake u w → SameMake u x
make_is u w x is m = subst (λ (y : ControlUnit). SameMake u y) (sym is) m

abbrev Made : ControlUnit → ControlUnit × List ℕ → Type 0
Made u step = SameMake u step.0

either_made : (u : ControlUnit) (c : Bool) (a b : ControlUnit × List ℕ) → Made u a → Made u b → Made u (if c then a else b)
either_made u true a b x y = x
either_made u false a b x y = y

plain : (u w : ControlUnit) → w.idents ≡ u.idents → w.key ≡ u.key → w.check ≡ u.check → w.block ≡ u.block → w.seed ≡ u.seed → w.memory ≡ u.memory → SameMake u w
plain u w idents key check block seed memory = frame u w idents key check block seed (λ a i. is_some (byte_at (memory i) a))

obey_made : (u : ControlUnit) (r : Request) → Made u (obey u r)
obey_made u (Session kind) = go (kind == 1)
  where
    go : (c : Bool) → SameMake u (if c then in_default u else in_session u kind)
    go true = plain u _ refl refl refl refl refl refl
    go false = plain u _ refl refl refl refl refl refl
obey_made u Reset = plain u _ refl refl refl refl refl refl
obey_made u (ReadId did) = go (ident_of u.idents did)
  where
    go : (o : Option (List ℕ)) → Made u (read_in u did o)
    go None = make_same u
    go (Some value) = make_same u
obey_made u (Seed level) = either_made u (u.session == 2) _ _ (either_made u (has_level u.key level) _ _ (plain u _ refl refl refl refl refl refl) (make_same u)) (make_same u)
obey_made u (Key level key) = either_made u (u.session == 2) _ _ (either_made u (has_level u.key level) _ _ (go u.last_seed) (make_same u)) (make_same u)
  where
    go : (o : Option (List ℕ)) → Made u (key_in u level key o)
    go None = make_same u
    go (Some seed) = either_made u (same_bytes key (key_of u.key seed)) _ _ (plain u _ refl refl refl refl refl refl) (make_same u)
obey_made u (Routine id option) = either_made u (u.session == 2) _ _ (either_made u (id == 65280) _ _ (either_made u (is_locked u) _ _ (make_same u) (erase (range_of option))) (either_made u (is_locked u) _ _ (make_same u) (either_made u (id == 65281) _ _ (finish u.checked) (either_made u (id == u.check) _ _ (check (range_of option)) (make_same u))))) (make_same u)
  where
    erase : (o : Option Range) → Made u (erase_in u o)
    erase None = make_same u
    erase (Some r) = either_made u (r.size == 0 || not (length r.more == 0)) _ _ (make_same u) (either_made u (not (has_each r.at r.size u.memory)) _ _ (make_same u) (frame u _ refl refl refl refl refl (fill_domain r.at r.size 255 u.memory)))

    finish : (cs : List (ℕ × ℕ)) → Made u (finish_in u cs)
    finish [] = make_same u
    finish (c ∷ cs) = plain u _ refl refl refl refl refl refl

    check : (o : Option Range) → Made u (check_in u id o)
    check None = make_same u
    check (Some r) = either_made u (r.size == 0 || not (length r.more == 32)) _ _ (make_same u) (either_made u (not (has_each r.at r.size u.memory)) _ _ (make_same u) (either_made u (same_bytes r.more (sha256 (bytes_of r.at r.size u.memory))) _ _ (plain u _ refl refl refl refl refl refl) (make_same u)))
obey_made u (Download width at size) = either_made u (u.session == 2) _ _ (either_made u (is_locked u) _ _ (make_same u) (either_made u (not (has_each at size u.memory)) _ _ (make_same u) (plain u _ refl refl refl refl refl refl))) (make_same u)
obey_made u (Upload width at size) = either_made u (u.session == 2) _ _ (either_made u (is_locked u) _ _ (make_same u) (either_made u (not (has_each at size u.memory)) _ _ (make_same u) (plain u _ refl refl refl refl refl refl))) (make_same u)
obey_made u (Transfer counter body) = either_made u (u.session == 2) _ _ (go u.transfer) (make_same u)
  where
    go : (o : Option OpenTransfer) → Made u (receive_in u o counter body)
    go None = make_same u
    go (Some t) = either_made u t.up _ _ (make_same u) (either_made u (is_repeat t counter) _ _ (make_same u) (either_made u (not (counter == t.counter)) _ _ (make_same u)
        (either_made u (nat_lt (block_number u) (length body + 2)) _ _ (make_same u) (either_made u (nat_lt t.rest (length body)) _ _ (make_same u) (frame u _ refl refl refl refl refl (put_domain t.at body u.memory))))))
obey_made u (Pull counter) = either_made u (u.session == 2) _ _ (go u.transfer) (make_same u)
  where
    go : (o : Option OpenTransfer) → Made u (give_in u o counter)
    go None = make_same u
    go (Some t) = either_made u (not t.up) _ _ (make_same u) (either_made u (is_repeat t counter) _ _ (make_same u) (either_made u (t.rest == 0) _ _ (make_same u)
        (either_made u (not (counter == t.counter)) _ _ (make_same u) (plain u _ refl refl refl refl refl refl))))
obey_made u Exit = either_made u (u.session == 2) _ _ (go u.transfer) (make_same u)
  where
    go : (o : Option OpenTransfer) → Made u (exit_in u o)
    go None = make_same u
    go (Some t) = either_made u (t.rest == 0) _ _ (plain u _ refl refl refl refl refl refl) (make_same u)
obey_made u (Setting off) = either_made u (u.session == 1) _ _ (make_same u) (plain u _ refl refl refl refl refl refl)
obey_made u (Messages off) = either_made u (u.session == 1) _ _ (make_same u) (plain u _ refl refl refl refl refl refl)

pub obedient_made : (u : ControlUnit) (bytes : List ℕ) → SameMake u (obedient u bytes).0
obedient_made u bytes = go (request_of bytes)
  where
    go : (r : Option Request) → Made u (obey_in u (sid_of bytes) r)
    go None = make_same u
    go (Some r) = obey_made u r

pub leaves_made : (u mid : ControlUnit) (bytes : List ℕ) → Leaves u bytes mid → SameMake u mid
leaves_made u mid bytes (inl is) = make_is u u mid is (make_same u)
leaves_made u mid bytes (inr (s, range, spoiled)) = frame u mid (λ i. (spoiled.rest i).idents) (λ i. (spoiled.rest i).key) (λ i. (spoiled.rest i).check) (λ i. (spoiled.rest i).block) (λ i. (spoiled.rest i).seed) spoiled.domain

pub step_made : (u w : ControlUnit) (bytes : List ℕ) (tick : ℕ) (replies : List UnitReply) → UnitStep u bytes tick replies w → SameMake u w
step_made u w bytes tick replies step = go step.how
  where
    counted : (mid x : ControlUnit) → SameMake u mid → x.idents ≡ mid.idents → x.key ≡ mid.key → x.check ≡ mid.check → x.block ≡ mid.block → x.seed ≡ mid.seed → x.memory ≡ mid.memory → SameMake u x
    counted mid x m idents key check block seed memory = make_then u mid x m (plain mid x idents key check block seed memory)

    go : Obeys u bytes tick replies w ⊎ Holds u bytes tick replies w ⊎ Departs u bytes tick replies w → SameMake u w
    go (inl o) = counted (obedient u bytes).0 w (obedient_made u bytes) (λ i. (o.becomes i).idents) (λ i. (o.becomes i).key) (λ i. (o.becomes i).check) (λ i. (o.becomes i).block) (λ i. (o.becomes i).seed) (λ i. (o.becomes i).memory)
    go (inr (inl h)) = counted (obedient u bytes).0 w (obedient_made u bytes) (λ i. (h.becomes i).idents) (λ i. (h.becomes i).key) (λ i. (h.becomes i).check) (λ i. (h.becomes i).block) (λ i. (h.becomes i).seed) (λ i. (h.becomes i).memory)
    go (inr (inr d)) = counted d.mid w (leaves_made u d.mid bytes d.leaves) (λ i. (d.becomes i).idents) (λ i. (d.becomes i).key) (λ i. (d.becomes i).check) (λ i. (d.becomes i).block) (λ i. (d.becomes i).seed) (λ i. (d.becomes i).memory)

pub step_kept : (u w : ControlUnit) (bytes : List ℕ) (tick : ℕ) (replies : List UnitReply) → UnitStep u bytes tick replies w → Kept u w
step_kept u w bytes tick replies step = record { make = step_made u w bytes tick replies step; counts = step_up u w bytes tick replies step }

pub kept_same : (u : ControlUnit) → Kept u u
kept_same u = record { make = make_same u; counts = counts_same u.counts }

pub kept_then : (u w x : ControlUnit) → Kept u w → Kept w x → Kept u x
kept_then u w x f g = record { make = make_then u w x f.make g.make; counts = counts_then _ _ _ f.counts g.counts }

pub record VehicleGrows (old new : Vehicle) : Type 0 where
  pub denied : (code : ℕ) → Grows (old.gateway.denied code) (new.gateway.denied code)
  pub silent : Grows old.gateway.silent new.gateway.silent
  pub units : (address : ℕ) → KeptIn (unit_at old.units address) (unit_at new.units address)

-- ------ the units of a vehicle
pub unit_up_same : (o : Option ControlUnit) → KeptIn o o
unit_up_same None = tt
unit_up_same (Some u) = kept_same u

pub unit_up_then : (a b c : Option ControlUnit) → KeptIn a b → KeptIn b c → KeptIn a c
unit_up_then None None None f g = tt
unit_up_then None None (Some w) f g = g
unit_up_then None (Some v) c f g = absurd f
unit_up_then (Some u) None c f g = absurd f
unit_up_then (Some u) (Some v) None f g = g
unit_up_then (Some u) (Some v) (Some w) f g = kept_then _ _ _ f g

abbrev pub UnitsUp : List ControlUnit → List ControlUnit → Type 0
UnitsUp us ws = (a : ℕ) → KeptIn (unit_at us a) (unit_at ws a)

with_up : (us : List ControlUnit) (t : ℕ) (u w : ControlUnit) → unit_at us t ≡ Some u → w.address ≡ t → Kept u w → UnitsUp us (with_unit us t w)
with_up us t u w there at up a = elim (cases_eq a t) [
  | inl e ↦ subst (λ (x : Option ControlUnit × Option ControlUnit). KeptIn x.0 x.1) (λ i. (sym (ap (unit_at us) e ∙ there) i, sym (ap (unit_at (with_unit us t w)) e ∙ with_same us t u w there at) i)) up
  | inr n ↦ subst (λ (x : Option ControlUnit). KeptIn (unit_at us a) x) (sym (with_other us t a w at n)) (unit_up_same (unit_at us a))
]

mapped_up : (f : ControlUnit → ControlUnit) → ((u : ControlUnit) → (f u).address ≡ u.address) → ((u : ControlUnit) → Kept u (f u)) → (us : List ControlUnit) → UnitsUp us (map f us)
mapped_up f at each [] a = tt
mapped_up f at each (u ∷ us) a = elim (cases_eq u.address a) [
  | inl e ↦ subst (λ (x : Option ControlUnit × Option ControlUnit). KeptIn x.0 x.1) (λ i. (sym (hit u us a e) i, sym (hit (f u) (map f us) a (at u ∙ e)) i)) (each u)
  | inr n ↦ subst (λ (x : Option ControlUnit × Option ControlUnit). KeptIn x.0 x.1) (λ i. (sym (miss u us a n) i, sym (miss (f u) (map f us) a (λ e. n (sym (at u) ∙ e))) i)) (mapped_up f at each us a)
]

pub raises_at : (tick : ℕ) (h : HeldAnswer) (u : ControlUnit) → (raises tick h u).address ≡ u.address
raises_at tick h u = elim (cases_Bool (u.address == h.unit)) [ inl e ↦ rw e refl | inr e ↦ rw e refl ]

raises_up : (tick : ℕ) (h : HeldAnswer) (u : ControlUnit) → Kept u (raises tick h u)
raises_up tick h u = elim (cases_Bool (u.address == h.unit)) [ inl e ↦ rw e (record { make = plain u _ refl refl refl refl refl refl; counts = timed_up _ _ u.counts }) | inr e ↦ rw e (kept_same u) ]

pub raised_by_up : (tick : ℕ) (held : List HeldAnswer) (us : List ControlUnit) → UnitsUp us (raised_by tick held us)
raised_by_up tick [] us a = unit_up_same (unit_at us a)
raised_by_up tick (h ∷ hs) us a = unit_up_then _ _ _ (mapped_up (raises tick h) (raises_at tick h) (raises_up tick h) us a) (raised_by_up tick hs (map (raises tick h) us) a)

-- ------ a vehicle
pub vehicle_same : (v : Vehicle) → VehicleGrows v v
vehicle_same v = record { denied = λ code. up_same _; silent = up_same _; units = λ a. unit_up_same _ }

pub vehicle_then : (a b c : Vehicle) → VehicleGrows a b → VehicleGrows b c → VehicleGrows a c
vehicle_then a b c f g = record {
  denied = λ code. up_then _ _ _ (f.denied code) (g.denied code);
  silent = up_then _ _ _ f.silent g.silent;
  units = λ x. unit_up_then _ _ _ (f.units x) (g.units x);
}

-- only the rest of the gateway has changed
pub gateway_up : (v w : Vehicle) → w.gateway.denied ≡ v.gateway.denied → w.gateway.silent ≡ v.gateway.silent → UnitsUp v.units w.units → VehicleGrows v w
gateway_up v w denied silent units = record {
  denied = λ code. subst (λ (f : ℕ → ℕ). Grows (v.gateway.denied code) (f code)) (sym denied) (up_same _);
  silent = subst (λ (n : ℕ). Grows v.gateway.silent n) (sym silent) (up_same _);
  units = units;
}

pub moved_up : (v w x : Vehicle) → x ≡ w → VehicleGrows v w → VehicleGrows v x
moved_up v w x is up = subst (λ (y : Vehicle). VehicleGrows v y) (sym is) up

nothing_up : (old new : Vehicle) (out : List DueReply) → Nothing old new out → VehicleGrows old new
nothing_up old new out did = moved_up old old new did.becomes (vehicle_same old)

activation_up : (how : Activation) (source : ℕ) (v : Vehicle) → VehicleGrows v (activation how source v)
activation_up Accepts source v = gateway_up v _ refl refl (λ a. unit_up_same _)
activation_up (Denies code) source v = record { denied = up_code code v.gateway.denied; silent = up_same _; units = λ a. unit_up_same _ }
activation_up (Delays ticks) source v = record { denied = λ code. up_same _; silent = up_one _; units = λ a. unit_up_same _ }
activation_up Ignores source v = record { denied = λ code. up_same _; silent = up_one _; units = λ a. unit_up_same _ }

message_up : (source target : ℕ) (body : List ℕ) (old new : Vehicle) (out : List DueReply) → HandlesMessage source target body old.gateway.active old new out → VehicleGrows old new
message_up source target body old new out did = go old.gateway.active did
  where
    refused : (code : ℕ) → Refuses source target code old new out → VehicleGrows old new
    refused code r = moved_up old _ new r.becomes (gateway_up old _ refl refl (λ a. unit_up_same _))

    at : (o : Option ControlUnit) → unit_at old.units target ≡ o → HandlesAt source target body o old new out → VehicleGrows old new
    at None is r = refused 3 r
    at (Some u) is (inl n) = moved_up old _ new n.becomes (gateway_up old _ refl refl (with_up old.units target u _ is (found_address old.units target u is) (record { make = plain u _ refl refl refl refl refl refl; counts = nacked_up n.code u.counts })))
    at (Some u) is (inr h) = moved_up old _ new h.becomes (gateway_up old _ refl refl
        (with_up old.units target u h.after is ((step_frames u h.after body old.gateway.tick h.replies h.step).address ∙ found_address old.units target u is) (step_kept u h.after body old.gateway.tick h.replies h.step)))

    go : (active : Option ℕ) → HandlesMessage source target body active old new out → VehicleGrows old new
    go None r = refused 2 r
    go (Some tester) h = at (unit_at old.units target) refl h

handles_up : (f : Frame) (old new : Vehicle) (out : List DueReply) → Handles f old new out → VehicleGrows old new
handles_up (Activate source kind oem) old new out did = moved_up old _ new did.becomes (activation_up did.how source old)
handles_up (Message source target body) old new out did = message_up source target body old new out did
handles_up (HeaderNack code) old new out did = nothing_up old new out did
handles_up (Activated tester entity code oem) old new out did = nothing_up old new out did
handles_up AliveAsk old new out did = nothing_up old new out did
handles_up (AliveSay source) old new out did = nothing_up old new out did
handles_up (Ack source target code before) old new out did = nothing_up old new out did
handles_up (Nack source target code before) old new out did = nothing_up old new out did
handles_up (Other kind payload) old new out did = nothing_up old new out did

cut_up : (n : ℕ) (bytes : List ℕ) (old new : Vehicle) (out : List DueReply) → ((rest : List ℕ) (mid : Vehicle) (second : List DueReply) → FeedsAll n rest mid new second → VehicleGrows mid new)
    → (c : Cut) → AfterCut c (FeedsAll n) bytes old new out → VehicleGrows old new
cut_up n bytes old new out further Partial did = moved_up old _ new did.0 (gateway_up old _ refl refl (λ a. unit_up_same _))
cut_up n bytes old new out further (Wrong bad) did = moved_up old _ new did.0 (gateway_up old _ refl refl (λ a. unit_up_same _))
cut_up n bytes old new out further (Whole kind payload rest) (mid, first, second, handles, more, joined) = vehicle_then old mid new (handles_up _ old mid first handles) (further rest mid second more)

fed_up : (n : ℕ) (bytes : List ℕ) (old new : Vehicle) (out : List DueReply) → FeedsAll n bytes old new out → VehicleGrows old new
fed_up zero bytes old new out did = moved_up old old new did.0 (vehicle_same old)
fed_up (suc n) bytes old new out did = cut_up n bytes old new out (λ rest mid second more. fed_up n rest mid new second more) (cut_frame bytes) did

-- words that are queued leave the gateway's own counts
record KeepsOwn (old new : Gateway) : Type 0 where
  denied : new.denied ≡ old.denied
  silent : new.silent ≡ old.silent

word_keeps : (g : Gateway) (due : ℕ) (frame : List ℕ) → KeepsOwn g (enqueue g due frame)
word_keeps g due frame = elim (cases_Bool (nat_le due g.tick)) [ inl e ↦ rw e (record { denied = refl; silent = refl }) | inr e ↦ rw e (record { denied = refl; silent = refl }) ]

words_keep : (g : Gateway) (ws : List DueReply) → KeepsOwn g (queue_due g ws)
words_keep g [] = record { denied = refl; silent = refl }
words_keep g (w ∷ ws) =
    let frame : List ℕ = message_bytes w.unit (tester_of g) w.body in
    let one = word_keeps g w.due frame in
    let rest = words_keep (enqueue g w.due frame) ws in
    record { denied = rest.denied ∙ one.denied; silent = rest.silent ∙ one.silent }

hearing_up : (bytes : List ℕ) (old new : Vehicle) → FeedsHearing bytes old new → VehicleGrows old new
hearing_up bytes old new did =
    let k = words_keep did.mid.gateway did.out in
    vehicle_then old did.mid new (fed_up (suc (length (old.gateway.unfinished ++ bytes))) (old.gateway.unfinished ++ bytes) old did.mid did.out did.all)
    (moved_up did.mid _ new did.becomes (gateway_up did.mid _ k.denied k.silent (λ a. unit_up_same _)))

pub feeds_up : (bytes : List ℕ) (old new : Vehicle) → Feeds bytes old new → VehicleGrows old new
feeds_up bytes old new did = go old.gateway.deaf did
  where
    go : (deaf : Bool) → MatchBool deaf (new ≡ old) (FeedsHearing bytes old new) → VehicleGrows old new
    go true is = moved_up old old new is (vehicle_same old)
    go false h = hearing_up bytes old new h

pub redialed_up : (v : Vehicle) → VehicleGrows v (redialed v)
redialed_up v = gateway_up v _ refl refl (λ a. unit_up_same _)

pub part_up : (bytes : List ℕ) (old new : Vehicle) → FeedsPart bytes old new → VehicleGrows old new
part_up bytes old new did = go did.broken
  where
    first : VehicleGrows old did.mid
    first = feeds_up _ old did.mid did.feeds

    go : (new ≡ did.mid) ⊎ (new ≡ redialed did.mid) → VehicleGrows old new
    go (inl is) = moved_up old did.mid new is first
    go (inr is) = moved_up old _ new is (vehicle_then old did.mid _ first (redialed_up did.mid))

pub ticks_up : (old new : Vehicle) → Ticks old new → VehicleGrows old new
ticks_up old new did = moved_up old _ new did.becomes (gateway_up old _ refl refl (raised_by_up _ old.gateway.held old.units))

pub carries_up : (piece : List ℕ) (old new : Vehicle) → Carries piece old new → VehicleGrows old new
carries_up piece old new did = moved_up old _ new did.becomes (gateway_up old _ refl refl (λ a. unit_up_same _))

pub misses_up : (old new : Vehicle) → Misses old new → VehicleGrows old new
misses_up old new did = moved_up old _ new did.becomes (gateway_up old _ refl refl (λ a. unit_up_same _))
