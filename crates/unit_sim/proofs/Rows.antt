-- Each row of the table of troubles is a step of the unit's relation.
use Rattle.std.proofs.Common.{◌≡◌, inl, inr, ℕ, zero, suc, ◌+◌, ◌*◌, ◌/◌, ◌%◌, ◌≤◌, ◌<◌, Bool, true, false, List, [], ◌∷◌, ◌++◌, length, Some, None, Option, refl, sym, ◌∙◌, ap, arith}
use Rattle.std.specs.Prelude.{◌==◌, ◌||◌, ◌&&◌, not, nat_lt, nat_le, if◌then◌else◌}
use Rattle.std.proofs.lemmas.Bool.{cases_Bool, and_parts, and_from, le-leb, leb-true, leb-false, lt-leb, eq-eqb}
use Rattle.flash_base.specs.Lists.{Each, same_bytes}
use Rattle.flash_base.specs.Numbers.{number2}
use Rattle.uds_codec.specs.Answer.{Verdict, Pending, Busy, Refusal, Accepted, BadStatus, Malformed, judge}
use Rattle.uds_codec.specs.Laws.{IsWritten}
use Rattle.uds_codec.specs.Request.{request_of, sid_of}
use Rattle.uds_codec.specs.declared.request.Request.{Request}
use Rattle.uds_codec.specs.declared.request.Request.TheVariants.{Session, Reset, ReadId, Seed, Key, Routine, Download, Upload, Transfer, Pull, Exit, Setting, Messages}
use Rattle.unit_model.specs.declared.spec.Act.{Act}
use Rattle.unit_model.specs.declared.spec.Act.TheVariants as act
use Rattle.unit_model.specs.declared.spec.Until.{Until}
use Rattle.unit_model.specs.declared.spec.Until.TheVariants.{Times, Heard}
use Rattle.unit_model.specs.Rules.{is_size}
use Rattle.unit_model.specs.Troubles.{MOST_TICKS, is_act, is_until}
use Rattle.unit_model.specs.Step.{UnitStep, CanSend, Departure, Refuses, Odd, Fails, Mutes, Busies, IsDeparture, raised, said_by, last_replies, last_tick, reply_at, pendings, ascends, is_late, is_stalled, timed, is_good}
use Rattle.unit_model.specs.Unit.{ControlUnit, obedient, heard_one}
use Rattle.unit_sim.specs.Answers.{routine_bytes}
use Rattle.unit_sim.specs.Done.{Done, at_once, departs, refuses, strays, fails, delays, waits, acted, done, is_strange, is_long, routine_in, routine_of, turns}

-- what the unit and its answer must be
pub record IsAsked (u : ControlUnit) (bytes : List ℕ) : Type 0 where
  pub sends : CanSend (obedient u bytes).1
  pub written : (r : Request) → request_of bytes ≡ Some r → IsWritten bytes r

-- a step with these replies
abbrev pub Steps : ControlUnit → List ℕ → ℕ → Done → Type 0
Steps u bytes tick d = UnitStep u bytes tick d.1 (heard_one d.0)

pick : (u : ControlUnit) (bytes : List ℕ) (tick : ℕ) (c : Bool) (a b : Done) → (c ≡ true → Steps u bytes tick a) → (c ≡ false → Steps u bytes tick b) → Steps u bytes tick (if c then a else b)
pick u bytes tick true a b ya yb = ya refl
pick u bytes tick false a b ya yb = yb refl

-- ------ ticks
le_same : (n : ℕ) → nat_le n n ≡ true
le_same n = le-leb n n (omega arith)

shifted : (from every : ℕ) → nat_le (from + 1000) (from + every) ≡ nat_le 1000 every
shifted from every = elim (cases_Bool (nat_le 1000 every)) [
  | inl e ↦ le-leb _ _ (omega (arith, leb-true _ _ e)) ∙ sym e
  | inr e ↦ lt-leb _ _ (omega (arith, leb-false _ _ e)) ∙ sym e
]

now_is_not_late : (from : ℕ) → is_late from (from ∷ []) ≡ false
now_is_not_late from = let no : nat_le (from + 1000) from ≡ false = lt-leb _ _ (omega arith) in rw no refl

later : (from every n : ℕ) → from + every * suc n ≡ from + every + every * n
later from every n = omega arith

turns_ascend : (from every n : ℕ) → ascends from (turns from every n ++ ((from + every * n) ∷ [])) ≡ true
turns_ascend from every zero = and_from _ _ (le-leb _ _ (omega arith)) refl
turns_ascend from every (suc n) =
    and_from _ _ (le-leb _ _ (omega arith))
    (ap (λ (due : ℕ). ascends (from + every) (turns (from + every) every n ++ (due ∷ []))) (later from every n) ∙ turns_ascend (from + every) every n)

same_or : (b : Bool) → (b || b) ≡ b
same_or true = refl
same_or false = refl

or_not : (b : Bool) → (b || false) ≡ b
or_not true = refl
or_not false = refl

turns_late : (from every n : ℕ) → is_late from (turns from every (suc n) ++ ((from + every * suc n) ∷ [])) ≡ is_long every
turns_late from every zero =
    let last : from + every * 1 ≡ from + every = omega arith in
    ap (λ (due : ℕ). nat_le (from + 1000) (from + every) || is_late (from + every) (due ∷ [])) last
    ∙ (λ i. shifted from every i || now_is_not_late (from + every) i)
    ∙ or_not (nat_le 1000 every)
turns_late from every (suc n) =
    ap (λ (due : ℕ). nat_le (from + 1000) (from + every) || is_late (from + every) (turns (from + every) every (suc n) ++ (due ∷ []))) (later from every (suc n))
    ∙ (λ i. shifted from every i || turns_late (from + every) every n i)
    ∙ same_or (nat_le 1000 every)

turns_many : (from every n : ℕ) → length (turns from every n) ≡ n
turns_many from every zero = refl
turns_many from every (suc n) = ap suc (turns_many (from + every) every n)

-- ------ obedient steps
refusal_sends : (a b c : ℕ) → CanSend (a ∷ b ∷ c ∷ [])
refusal_sends a b c = record { some = omega arith; few = omega arith }

all_send : (sid : ℕ) (ticks : List ℕ) (due : ℕ) (body : List ℕ) → CanSend body → Each (λ r. CanSend r.body) (pendings sid ticks ++ (reply_at due body ∷ []))
all_send sid [] due body is = (is, tt)
all_send sid (t ∷ ts) due body is = (refusal_sends 127 sid 120, all_send sid ts due body is)

obeying : (u : ControlUnit) (bytes : List ℕ) (tick : ℕ) (ticks : List ℕ) (due : ℕ) (late stalled : Bool) → IsAsked u bytes → ascends tick (ticks ++ (due ∷ [])) ≡ true → is_late tick (ticks ++ (due ∷ [])) ≡ late → is_stalled ticks ≡ stalled → UnitStep u bytes tick (pendings (sid_of bytes) ticks ++ (reply_at due (obedient u bytes).1 ∷ [])) (heard_one (timed late stalled (obedient u bytes).0))
obeying u bytes tick ticks due late stalled is ascending so_late so_stalled = record {
  how = inl (record {
    ticks = ticks;
    due = due;
    ascending = ascending;
    gives = refl;
    becomes = λ i. heard_one (timed (sym so_late i) (sym so_stalled i) (obedient u bytes).0);
  });
  sizes = all_send (sid_of bytes) ticks due (obedient u bytes).1 is.sends;
}

pub once : (u : ControlUnit) (bytes : List ℕ) (tick : ℕ) → IsAsked u bytes → Steps u bytes tick (at_once (obedient u bytes) tick)
once u bytes tick is = obeying u bytes tick [] tick false false is (and_from _ _ (le_same tick) refl) (now_is_not_late tick) refl

delayed : (u : ControlUnit) (bytes : List ℕ) (tick ticks : ℕ) → IsAsked u bytes → Steps u bytes tick (delays ticks (obedient u bytes) tick)
delayed u bytes tick ticks is = obeying u bytes tick [] (tick + ticks) (is_long ticks) false is (and_from _ _ (le-leb _ _ (omega arith)) refl) (ap (λ (b : Bool). b || false) (shifted tick ticks) ∙ or_not (nat_le 1000 ticks)) refl

waited : (u : ControlUnit) (bytes : List ℕ) (tick ticks : ℕ) (until : Until) → IsAsked u bytes → 1 ≤ ticks → is_until until ≡ true → Steps u bytes tick (waits ticks until (obedient u bytes) bytes tick)
waited u bytes tick ticks (Times zero) is some ok = absurd (cc)
waited u bytes tick ticks (Times (suc n)) is some ok =
    obeying u bytes tick (turns tick ticks (suc n)) (tick + ticks * suc n) (is_long ticks) (nat_lt 200 (suc n)) is (turns_ascend tick ticks (suc n)) (turns_late tick ticks n) (ap (λ (k : ℕ). nat_lt 200 k) (turns_many tick ticks (suc n)))
waited u bytes tick ticks (Heard unit sid) is some ok = record {
  how = inr (inl (record { every = ticks; unit = unit; sid = sid; some = some; gives = refl; becomes = refl }));
  sizes = (is.sends, tt);
}

-- ------ departures
now_ascends : (tick : ℕ) (said : Option (List ℕ)) → ascends tick (last_tick said tick) ≡ true
now_ascends tick None = refl
now_ascends tick (Some body) = and_from _ _ (le_same tick) refl

said_in_time : (tick : ℕ) (said : Option (List ℕ)) → is_late tick (last_tick said tick) ≡ false
said_in_time tick None = refl
said_in_time tick (Some body) = now_is_not_late tick

departing : (kind : Departure) (u : ControlUnit) (bytes : List ℕ) (tick : ℕ) → IsDeparture kind u bytes → Each (λ r. CanSend r.body) (last_replies (said_by kind (sid_of bytes)) tick) → Steps u bytes tick (departs kind u bytes tick)
departing kind u bytes tick is sizes = record {
  how = inr (inr (record {
    kind = kind;
    mid = u;
    ticks = [];
    due = tick;
    is = is;
    leaves = inl refl;
    ascending = now_ascends tick (said_by kind (sid_of bytes));
    gives = refl;
    becomes = λ i. heard_one (timed (sym (said_in_time tick (said_by kind (sid_of bytes))) i) false (record u { counts = raised kind u.counts }));
  }));
  sizes = sizes;
}

same_self : (xs : List ℕ) → same_bytes xs xs ≡ true
same_self [] = refl
same_self (x ∷ xs) = and_from _ _ (eq-eqb x x refl) (same_self xs)

or_none : (a b : Bool) → (a || b) ≡ false → (a ≡ false) × (b ≡ false)
or_none true b e = absurd (cc)
or_none false b e = (refl, e)

not_equal : (n k : ℕ) → (n == k) ≡ false → n ≡ k → ⊥
not_equal n k e is = let yes : (n == k) ≡ true = eq-eqb n k is in let p : ⊥ = cc in p

refused : (nrc : ℕ) (u : ControlUnit) (bytes : List ℕ) (tick : ℕ) → IsAsked u bytes → Steps u bytes tick (refuses nrc u (obedient u bytes) bytes tick)
refused nrc u bytes tick is =
    let said : Bool = same_bytes (obedient u bytes).1 (127 ∷ sid_of bytes ∷ nrc ∷ []) in
    pick u bytes tick (nrc == 33 || nrc == 120 || said) _ _ (λ e. once u bytes tick is) (λ e.
    let parts = or_none (nrc == 33 || nrc == 120) said e in
    let codes = or_none (nrc == 33) (nrc == 120) parts.0 in
    departing (Refuses nrc) u bytes tick
    (not_equal nrc 33 codes.0, not_equal nrc 120 codes.1, λ same. differs (obedient u bytes).1 (127 ∷ sid_of bytes ∷ nrc ∷ []) parts.1 same)
    (refusal_sends 127 (sid_of bytes) nrc, tt))
  where
    differs : (xs ys : List ℕ) → same_bytes xs ys ≡ false → xs ≡ ys → ⊥
    differs xs ys e is = let yes : same_bytes xs ys ≡ true = ap (λ (zs : List ℕ). same_bytes zs ys) is ∙ same_self ys in let p : ⊥ = cc in p

strange_is : (v : Verdict) → is_strange v ≡ true → v ≡ Malformed
strange_is Pending e = absurd (cc)
strange_is Busy e = absurd (cc)
strange_is (Refusal nrc) e = absurd (cc)
strange_is (Accepted rest) e = absurd (cc)
strange_is (BadStatus status) e = absurd (cc)
strange_is Malformed e = refl

strayed : (body : List ℕ) (u : ControlUnit) (bytes : List ℕ) (tick : ℕ) → IsAsked u bytes → 1 ≤ length body → length body ≤ 4096 → Steps u bytes tick (strays body u (obedient u bytes) bytes tick)
strayed body u bytes tick is some few =
    pick u bytes tick (is_strange (judge bytes body)) _ _
    (λ e. departing (Odd body) u bytes tick (strange_is _ e, some, omega (arith, few)) (record { some = some; few = omega (arith, few) }, tt))
    (λ e. once u bytes tick is)

-- ------ a routine that fails
pair_again : (id : ℕ) → id < 65536 → (number2 (id / 256 % 256) (id % 256) == id) ≡ true
pair_again id small = eq-eqb _ _ (omega arith)

routine_judged : (bytes option : List ℕ) (id status : ℕ) → request_of bytes ≡ Some (Routine id option) → sid_of bytes ≡ 49 → id < 65536 → (status == 0) ≡ false → judge bytes (routine_bytes id status) ≡ BadStatus status
routine_judged bytes option id status is sid small bad = rw (sid, is) (rw (pair_again id small, bad) refl)

routine_size : (id status : ℕ) → CanSend (routine_bytes id status)
routine_size id status = record { some = omega arith; few = omega arith }

routine_failed : (u : ControlUnit) (bytes option : List ℕ) (tick id status : ℕ) → IsAsked u bytes → request_of bytes ≡ Some (Routine id option) → Steps u bytes tick (fails (Some id) status u (obedient u bytes) bytes tick)
routine_failed u bytes option tick id status is request =
    pick u bytes tick (not (status == 0) && is_good (judge bytes (obedient u bytes).1)) _ _
    (λ e.
    let parts = and_parts (not (status == 0)) (is_good (judge bytes (obedient u bytes).1)) e in
    let written = is.written (Routine id option) request in
    let sid : sid_of bytes ≡ 49 = ap sid_of written.same in
    let sends = routine_size id status in
    departing (Fails (routine_bytes id status)) u bytes tick
    (status, routine_judged bytes option id status request sid written.fits.0 (not_true _ parts.0), parts.1, sends.few)
    (sends, tt))
    (λ e. once u bytes tick is)
  where
    not_true : (b : Bool) → not b ≡ true → b ≡ false
    not_true true e = absurd (cc)
    not_true false e = refl

request_failed : (u : ControlUnit) (bytes : List ℕ) (tick status : ℕ) (r : Request) → IsAsked u bytes → request_of bytes ≡ Some r → Steps u bytes tick (fails (routine_in r) status u (obedient u bytes) bytes tick)
request_failed u bytes tick status (Routine id option) is request = routine_failed u bytes option tick id status is request
request_failed u bytes tick status (Session kind) is request = once u bytes tick is
request_failed u bytes tick status Reset is request = once u bytes tick is
request_failed u bytes tick status (ReadId did) is request = once u bytes tick is
request_failed u bytes tick status (Seed level) is request = once u bytes tick is
request_failed u bytes tick status (Key level key) is request = once u bytes tick is
request_failed u bytes tick status (Download width at size) is request = once u bytes tick is
request_failed u bytes tick status (Upload width at size) is request = once u bytes tick is
request_failed u bytes tick status (Transfer counter body) is request = once u bytes tick is
request_failed u bytes tick status (Pull counter) is request = once u bytes tick is
request_failed u bytes tick status Exit is request = once u bytes tick is
request_failed u bytes tick status (Setting off) is request = once u bytes tick is
request_failed u bytes tick status (Messages off) is request = once u bytes tick is

failed : (u : ControlUnit) (bytes : List ℕ) (tick status : ℕ) (asked : Option Request) → IsAsked u bytes → asked ≡ request_of bytes → Steps u bytes tick (fails (routine_of asked) status u (obedient u bytes) bytes tick)
failed u bytes tick status None is same = once u bytes tick is
failed u bytes tick status (Some r) is same = request_failed u bytes tick status r is (sym same)

-- ------ every row
between : (most n : ℕ) → is_size most n ≡ true → (1 ≤ n) × (n ≤ most)
between most n e = let parts = and_parts (nat_le 1 n) (nat_le n most) e in (leb-true _ _ parts.0, leb-true _ _ parts.1)

by_act : (a : Act) (u : ControlUnit) (bytes : List ℕ) (tick : ℕ) → IsAsked u bytes → is_act a ≡ true → Steps u bytes tick (acted a u (obedient u bytes) bytes tick)
by_act (act.Refuse nrc) u bytes tick is ok = refused nrc u bytes tick is
by_act (act.Odd body) u bytes tick is ok = let size = between 4096 (length body) ok in strayed body u bytes tick is size.0 size.1
by_act (act.Fail status) u bytes tick is ok = failed u bytes tick status (request_of bytes) is refl
by_act act.Mute u bytes tick is ok = departing Mutes u bytes tick tt tt
by_act (act.Delay ticks) u bytes tick is ok = delayed u bytes tick ticks is
by_act (act.Busy times) u bytes tick is ok = departing Busies u bytes tick tt (refusal_sends 127 (sid_of bytes) 33, tt)
by_act (act.Pending ticks until) u bytes tick is ok =
    let parts = and_parts (is_size MOST_TICKS ticks) (is_until until) ok in
    waited u bytes tick ticks until is (between MOST_TICKS ticks parts.0).0 parts.1

abbrev pub is_act_in : Option Act → Bool
is_act_in None = true
is_act_in (Some a) = is_act a

pub by_trouble : (a : Option Act) (u : ControlUnit) (bytes : List ℕ) (tick : ℕ) → IsAsked u bytes → is_act_in a ≡ true → Steps u bytes tick (done a u bytes tick)
by_trouble None u bytes tick is ok = once u bytes tick is
by_trouble (Some a) u bytes tick is ok = by_act a u bytes tick is ok
