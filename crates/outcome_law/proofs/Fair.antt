-- What an obedient unit answers at each place of the script: well, or as the table of unfit units says, or that the whole check
-- found nothing.
use Rattle.std.proofs.Common.{◌≡◌, ◌⊎◌, inl, inr, ℕ, zero, suc, ◌+◌, ◌-◌, ◌/◌, ◌%◌, ◌<◌, ◌≤◌, true, false, List, [], ◌∷◌, ◌++◌, length, Some, None, refl, sym, ◌∙◌, ap, subst, arith, length-take}
use Rattle.std.specs.Prelude.{Bool, Option, ◌==◌, ◌&&◌, ◌||◌, not, is_some, nat_lt, nat_le, min, if◌then◌else◌, Contains, slice_index_or, unwrap_or}
use Rattle.std.proofs.lemmas.Bool.{cases_Bool, both_ways, and_from, and_parts, eqb-true, eq-eqb, ne_eqb, le-ltb, ltb-true, false≢true, or_parts, not-true, not-false, leb-false}
use Rattle.std.proofs.lemmas.List.{append-nil, length-replicate}
use Rattle.std.proofs.lemmas.List.Elements.{Contains-append_right}
use Rattle.std.proofs.Math.Bool.{and-false}
use Rattle.sha2.proofs.Facts256.{length-sha256}
use Rattle.sha2.specs.Sha256.{sha256}
use Rattle.flash_base.specs.ByteMaps.{MemoryMap, byte_at, byte_or_0, has_each, bytes_of}
use Rattle.flash_base.specs.Lists.{Each, same_bytes}
use Rattle.flash_base.specs.Numbers.{big_endian, number_of, number2}
use Rattle.flash_base.specs.declared.unit.KeyRule.{KeyRule}
use Rattle.flash_base.specs.declared.unit.KeyRule.TheVariants.{Free, Xor, Digest}
use Rattle.flash_plan.specs.Plan.{IsAcceptedUnit, IsFit}
use Rattle.flash_plan.specs.declared.outcome.Outcome.{Outcome}
use Rattle.flash_plan.specs.declared.outcome.Outcome.TheVariants.{IdentMismatch, Refused, BadAnswer}
use Rattle.flash_plan.specs.declared.unit.Segment.{Segment}
use Rattle.flash_plan.specs.declared.unit.UnitPlan.{UnitPlan}
use Rattle.flash_plan.specs.declared.unit.Wanted.{Wanted}
use Rattle.uds_codec.proofs.Numbers.{big_number}
use Rattle.uds_codec.specs.Answer.{Verdict, Pending, Busy, Refusal, Accepted, BadStatus, Malformed, judge, form_of, form_in, seed_form, block_form}
use Rattle.uds_codec.specs.Key.{key_of, level_of, all_zero}
use Rattle.uds_codec.specs.Request.{Range, range_of, request_of, sid_of}
use Rattle.uds_codec.specs.declared.request.Request.{Request}
use Rattle.uds_codec.specs.declared.request.Request.TheVariants.{Session, Reset, ReadId, Seed, Key, Routine, Download, Transfer, Exit}
use Rattle.unit_model.specs.Unit.{ControlUnit, OpenTransfer, obey, obey_in, obedient, answer, refuse, programming, has_key, has_level, is_locked, ident_of, read_in, key_in, give_seed, seed_given, erase_in, erased, check_in, finish_in, downloading, block_bytes, block_number, receive_in, is_repeat, written, exit_in, in_session, next_counter}
use Rattle.run_model.proofs.Along.{says}
use Rattle.run_model.proofs.Ranges.{cursor_reads, each_at}
use Rattle.run_model.specs.Places.{IsPlace, IsAsked, IsCursor, IsBlocks, needs_request}
use Rattle.run_model.specs.Script.{Cursor, Blocks, Place, AtIdent, AtBegin, AtProgram, AtSeed, AtKey, AtErase, AtDownload, AtBlock, AtExit, AtCheck, AtMark, AtFinish, AtReset, AtDone, AtEnd, bytes_at, routine_at, range_record, block_of, is_empty, place_next, after_block, more_blocks, segments_from, idents_from, after_program, has_value}
use Rattle.run_model.specs.Sound.{HoldsBytes}
use Rattle.run_model.specs.States.{StateAt, HasRoom, Opened}
use Rattle.outcome_law.specs.Causes.{Unfit, lacks_ident, lacks_level, other_key, stays_locked, lacks_room, other_check, odd_seed, odd_block, OtherIdent, HasNoneChecked}
use Rattle.outcome_law.specs.Counting.{SameMake, Takes, IsIdentPlace}
use Rattle.unit_model.proofs.Domains.{fill_domain}

-- ------ lists and memory
contains_mid : {T : Type 0} (front back all : List T) (x : T) → front ++ (x ∷ back) ≡ all → Contains all x
contains_mid {T} front back all x is = subst (λ (xs : List T). Contains xs x) is (Contains-append_right front (x ∷ back) x (0, omega arith, refl))

same_self : (xs : List ℕ) → same_bytes xs xs ≡ true
same_self [] = refl
same_self (x ∷ xs) = and_from _ _ (eq-eqb x x refl) (same_self xs)

pub not_value : (vs : List (List ℕ)) (value : List ℕ) → has_value vs value ≡ false → Contains vs value → ⊥
not_value [] value e (k, lt, is) = absurd (omega (arith, lt))
not_value (v ∷ vs) value e (k, lt, is) = at (λ later. not_value vs value (or_parts _ _ e).1 later) k lt is
  where
    at : (Contains vs value → ⊥) → (k : ℕ) → k < suc (length vs) → slice_index_or (v ∷ vs) k value ≡ value → ⊥
    at again zero lt is = both_ways _ (or_parts _ _ e).0 (ap (λ (x : List ℕ). same_bytes x value) is ∙ same_self value)
    at again (suc k) lt is = again (k, omega (arith, lt), is)

pub room_held : (at n : ℕ) (m : MemoryMap) → ((k : ℕ) → k < n → is_some (byte_at m (at + k)) ≡ true) → has_each at n m ≡ true
room_held at zero m has = refl
room_held at (suc n) m has =
    let e : at ≡ at + 0 = omega arith in
    and_from _ _ (ap (λ (a : ℕ). is_some (byte_at m a)) e ∙ has 0 (omega arith))
    (room_held (at + 1) n m (λ k lt. (let f : at + 1 + k ≡ at + suc k = omega arith in ap (λ (a : ℕ). is_some (byte_at m a)) f) ∙ has (suc k) (omega (arith, lt))))

room_of : (at n : ℕ) (m : MemoryMap) → has_each at n m ≡ true → (k : ℕ) → k < n → is_some (byte_at m (at + k)) ≡ true
room_of at zero m all k lt = absurd (omega (arith, lt))
room_of at (suc n) m all zero lt = ap (λ (a : ℕ). is_some (byte_at m a)) (omega arith) ∙ (and_parts _ _ all).0
room_of at (suc n) m all (suc k) lt = ap (λ (a : ℕ). is_some (byte_at m a)) (omega arith) ∙ room_of (at + 1) n m (and_parts _ _ all).1 k (omega (arith, lt))

bytes_held : (at : ℕ) (xs : List ℕ) (m : MemoryMap) → HoldsBytes at xs m → bytes_of at (length xs) m ≡ xs
bytes_held at [] m holds = refl
bytes_held at (x ∷ xs) m holds =
    let first : byte_at m at ≡ Some x = (let e : at ≡ at + 0 = omega arith in ap (byte_at m) e) ∙ holds 0 (omega arith) in
    let more : HoldsBytes (at + 1) xs m = λ k lt. (let e : at + 1 + k ≡ at + suc k = omega arith in ap (byte_at m) e) ∙ holds (suc k) (omega (arith, lt)) in
    (λ i. byte_or_0 (first i) ∷ bytes_held (at + 1) xs m more i)

-- ------ verdicts
-- the place behind a good answer
abbrev pub IsOther : UnitPlan → Bool → ControlUnit → Outcome → Type 0
IsOther plan begun first (IdentMismatch did) = OtherIdent plan begun first did
IsOther plan begun first outcome = ⊥

abbrev pub IsFairEnd : UnitPlan → Bool → ControlUnit → Place → Type 0
IsFairEnd plan begun first (AtEnd outcome) = IsOther plan begun first outcome
IsFairEnd plan begun first place = Unit {0}

-- what the place asks of the unit, but for the whole check, which rests on every segment
abbrev pub TakesOn : Place → ControlUnit → Type 0
TakesOn (AtDownload c) u = (is_locked u ≡ false) × HasRoom c.now u
TakesOn (AtBlock c b) u = b.limit ≤ u.block
TakesOn place u = Unit {0}

abbrev pub IsFairNext : UnitPlan → Bool → ControlUnit → ControlUnit → Place → Type 0
IsFairNext plan begun first w place = IsFairEnd plan begun first place × TakesOn place w × IsIdentPlace plan begun place

-- a whole check that found nothing
abbrev pub IsFairStatus : UnitPlan → (ℕ → Bool) → ControlUnit → Place → Type 0
IsFairStatus plan found first place = ((routine_at plan place).0 ≡ 65281) × HasNoneChecked plan found first

-- found: the segments that were found marked; skipped: those that are left out now
abbrev pub IsFair : UnitPlan → Bool → (ℕ → Bool) → (ℕ → Bool) → ControlUnit → Place → ControlUnit → Verdict → Type 0
IsFair plan begun found skipped first place w Pending = ⊥
IsFair plan begun found skipped first place w Busy = ⊥
IsFair plan begun found skipped first place w (Refusal nrc) = Unfit plan begun first (Refused (sid_of (bytes_at plan place)) nrc)
IsFair plan begun found skipped first place w (Accepted rest) = IsFairNext plan begun first w (place_next plan skipped place rest)
IsFair plan begun found skipped first place w (BadStatus status) = IsFairStatus plan found first place
IsFair plan begun found skipped first place w Malformed = Unfit plan begun first (BadAnswer (sid_of (bytes_at plan place)))

level_not : (rule : KeyRule) (level : ℕ) → has_level rule level ≡ false → level_of rule ≡ Some level → ⊥
level_not Free level e is = false≢true (ap (is_some {T = ℕ}) is)
level_not (Xor l mask) level e is = both_ways _ e (eq-eqb l level (ap (λ (o : Option ℕ). unwrap_or o 0) is))
level_not (Digest l size secret) level e is = both_ways _ e (eq-eqb l level (ap (λ (o : Option ℕ). unwrap_or o 0) is))

level_is : (rule : KeyRule) (level : ℕ) → has_level rule level ≡ true → level_of rule ≡ Some level
level_is Free level e = absurd (false≢true e)
level_is (Xor l mask) level e = ap (λ (n : ℕ). Some n) (eqb-true l level e)
level_is (Digest l size secret) level e = ap (λ (n : ℕ). Some n) (eqb-true l level e)

module _ (plan : UnitPlan) (ok : IsAcceptedUnit plan) (begun : Bool) (found skipped : ℕ → Bool) (first u : ControlUnit) (make : SameMake first u) where
  abbrev Fair : Place → ControlUnit × List ℕ → Type 0
  Fair place step = IsFair plan begun found skipped first place step.0 (judge (bytes_at plan place) step.1)

  by : (place : Place) (r : Request) → request_of (bytes_at plan place) ≡ Some r → Fair place (obey u r) → Fair place (obedient u (bytes_at plan place))
  by place r reads f = subst (λ (o : Option Request). Fair place (obey_in u (sid_of (bytes_at plan place)) o)) (sym reads) f

  pick : (place : Place) (c : Bool) (a b : ControlUnit × List ℕ) → (c ≡ true → Fair place a) → (c ≡ false → Fair place b) → Fair place (if c then a else b)
  pick place true a b fa fb = fa refl
  pick place false a b fa fb = fb refl

  programs : (place : Place) (sid : ℕ) (step : ControlUnit × List ℕ) → u.session ≡ 2 → Fair place step → Fair place (programming u sid step)
  programs place sid step is f = let e : (u.session == 2) ≡ true = eq-eqb u.session 2 is in rw e f

  good : (place : Place) (r : Request) (w : ControlUnit) (x : ℕ) (rest : List ℕ) → request_of (bytes_at plan place) ≡ Some r → (x == 127) ≡ false → (x == sid_of (bytes_at plan place) + 64) ≡ true
      → IsFair plan begun found skipped first place w (form_of r rest) → Fair place (w, x ∷ rest)
  good place r w x rest reads a b f = subst (λ (v : Verdict). IsFair plan begun found skipped first place w v) (sym is) f
    where
      is : judge (bytes_at plan place) (x ∷ rest) ≡ form_of r rest
      is = rw (a, b) (ap (λ (o : Option Request). form_in o rest) reads)

  -- places that are no ends
  idents_on : (seen ws : List Wanted) (w : ControlUnit) → begun ≡ false → seen ++ ws ≡ plan.idents → IsFairNext plan begun first w (idents_from ws)
  idents_on seen [] w fresh is = (tt, tt, tt)
  idents_on seen (x ∷ xs) w fresh is = (tt, tt, (fresh, (seen, is)))

  segments_on : (done left : List Segment) (w : ControlUnit) → IsFairNext plan begun first w (segments_from skipped done left)
  segments_on done [] w = (tt, tt, tt)
  segments_on done (s ∷ ss) w = elim (cases_Bool (skipped (length done))) [ inl e ↦ rw e (segments_on (done ++ (s ∷ [])) ss w) | inr e ↦ rw e (tt, tt, tt) ]

  program_on : (rule : KeyRule) (w : ControlUnit) → IsFairNext plan begun first w (after_program plan skipped rule)
  program_on Free w = segments_on [] plan.segments w
  program_on (Xor level mask) w = (tt, tt, tt)
  program_on (Digest level size secret) w = (tt, tt, tt)

  blocks_on : (c : Cursor) (b : Blocks) (w : ControlUnit) → b.limit ≤ w.block → IsFairNext plan begun first w (more_blocks c b)
  blocks_on c b w le = elim (cases_Bool (is_empty b.rest)) [ inl e ↦ rw e (tt, tt, tt) | inr e ↦ rw e (tt, le, tt) ]

  locked_why : Opened plan u → is_locked u ≡ true → Unfit plan begun first (Refused 49 51)
  locked_why opened locked =
      let p = and_parts (has_key u.key) (not u.unlocked) locked in
      stays_locked (ap has_key (sym make.key) ∙ p.0) (go (cases_Bool (has_key plan.key)) (not-true _ p.1))
    where
      go : (has_key plan.key ≡ true) ⊎ (has_key plan.key ≡ false) → u.unlocked ≡ false → (has_key plan.key ≡ false) ⊎ (all_zero first.seed ≡ true)
      go (inr e) shut = inl e
      go (inl e) shut = elim (opened.1 e) [ inl o ↦ absurd (both_ways _ shut o) | inr z ↦ inr (ap all_zero (sym make.seed) ∙ z) ]

  no_room : (c : Cursor) → IsCursor plan c → has_each c.now.at (length c.now.body) u.memory ≡ false → Unfit plan begun first (Refused 49 49)
  no_room c is e = lacks_room c.now (contains_mid c.done c.left plan.segments c.now is)
      (λ room. both_ways _ e (room_held c.now.at (length c.now.body) u.memory (λ k lt. make.domain (c.now.at + k) ∙ room k lt)))

  some_body : (c : Cursor) → IsCursor plan c → (length c.now.body == 0) ≡ false
  some_body c is =
      let fit : IsFit plan.width c.now = each_at (IsFit plan.width) c.done c.left c.now (subst (λ (ss : List Segment). Each (IsFit plan.width) ss) (sym is) ok.fit) in
      ne_eqb (length c.now.body) 0 (λ e. let some : 1 ≤ length c.now.body = fit.some in omega (arith, e, some))

  -- ------ the places
  ident_fair : (w : Wanted) (ws : List Wanted) → IsIdentPlace plan begun (AtIdent w ws) → IsAsked plan (AtIdent w ws) → Fair (AtIdent w ws) (obedient u (bytes_at plan (AtIdent w ws)))
  ident_fair w ws at asked = by (AtIdent w ws) (ReadId w.did) reads (go (ident_of u.idents w.did) refl)
    where
      number_is : number2 (w.did / 256 % 256) (w.did % 256) ≡ w.did
      number_is = let lt : w.did < 65536 = asked.0.did in omega (arith, lt)

      reads : request_of (bytes_at plan (AtIdent w ws)) ≡ Some (ReadId w.did)
      reads = (says plan (AtIdent w ws) ok tt asked refl).reads

      expected : Contains plan.idents w
      expected = contains_mid at.1.0 ws plan.idents w at.1.1

      next : (value : List ℕ) → ident_of u.idents w.did ≡ Some value → IsFairNext plan begun first u (if has_value w.values value then idents_from ws else AtEnd (IdentMismatch w.did))
      next value is = elim (cases_Bool (has_value w.values value)) [
        | inl e ↦ rw e (idents_on (at.1.0 ++ (w ∷ [])) ws u at.0 (append_one at.1.0 w ws ∙ at.1.1))
        | inr e ↦ rw e (
          record { wanted = w; value = value; expected = expected; did_is = refl; value_is = ap (λ (is : List (ℕ × List ℕ)). ident_of is w.did) (sym make.idents) ∙ is; other = not_value w.values value e; fresh = at.0 },
          tt,
          tt,
        )
      ]
        where
          append_one : (xs : List Wanted) (y : Wanted) (ys : List Wanted) → (xs ++ (y ∷ [])) ++ ys ≡ xs ++ (y ∷ ys)
          append_one [] y ys = refl
          append_one (x ∷ xs) y ys = ap (λ (zs : List Wanted). x ∷ zs) (append_one xs y ys)

      go : (o : Option (List ℕ)) → ident_of u.idents w.did ≡ o → Fair (AtIdent w ws) (read_in u w.did o)
      go None is = lacks_ident w expected (ap (λ (is : List (ℕ × List ℕ)). ident_of is w.did) (sym make.idents) ∙ is) at.0
      go (Some value) is = good (AtIdent w ws) (ReadId w.did) u 98 (big_endian 2 w.did ++ value) reads refl refl
          (let e : (number2 (w.did / 256 % 256) (w.did % 256) == w.did) ≡ true = eq-eqb _ _ number_is in rw e (next value is))

  program_fair : Fair AtProgram (obedient u (bytes_at plan AtProgram))
  program_fair = by AtProgram (Session 2) refl (good AtProgram (Session 2) (in_session u 2) 80 (2 ∷ 0 ∷ 50 ∷ 1 ∷ 244 ∷ []) refl refl refl (program_on plan.key (in_session u 2)))

  seed_fair : (level : ℕ) → IsAsked plan (AtSeed level) → StateAt plan (AtSeed level) u → Fair (AtSeed level) (obedient u (bytes_at plan (AtSeed level)))
  seed_fair level asked state = by (AtSeed level) (Seed level) reads (programs (AtSeed level) 39 _ state
      (pick (AtSeed level) (has_level u.key level) (give_seed u level) (refuse u 39 18) given
      (λ e. lacks_level level asked (λ q. level_not u.key level e (ap level_of make.key ∙ q)))))
    where
      reads : request_of (bytes_at plan (AtSeed level)) ≡ Some (Seed level)
      reads = (says plan (AtSeed level) ok tt asked refl).reads

      size : length (seed_given u) ≡ length first.seed
      size = elim (cases_Bool u.unlocked) [ inl e ↦ rw e (length-replicate (length u.seed) 0 ∙ ap (λ (xs : List ℕ). length xs) make.seed) | inr e ↦ rw e (ap (λ (xs : List ℕ). length xs) make.seed) ]

      keyed : (rest : List ℕ) (w : ControlUnit) → IsFairNext plan begun first w (if all_zero rest then segments_from skipped [] plan.segments else AtKey level rest)
      keyed rest w = elim (cases_Bool (all_zero rest)) [ inl e ↦ rw e (segments_on [] plan.segments w) | inr e ↦ rw e (tt, tt, tt) ]

      formed : (w : ControlUnit) (seed : List ℕ) → length seed ≡ length first.seed → IsFair plan begun found skipped first (AtSeed level) w (seed_form seed)
      formed w seed same = elim (cases_Bool (nat_le 1 (length seed) && nat_le (length seed) 32)) [
        | inl e ↦ rw e (keyed seed w)
        | inr e ↦ rw e (odd_seed (go (cases_Bool (nat_le 1 (length seed))) e))
      ]
        where
          go : (nat_le 1 (length seed) ≡ true) ⊎ (nat_le 1 (length seed) ≡ false) → (nat_le 1 (length seed) && nat_le (length seed) 32) ≡ false → (length first.seed ≡ 0) ⊎ (32 < length first.seed)
          go (inr n) both = let lt : length seed < 1 = leb-false 1 (length seed) n in inl (omega (arith, lt, same))
          go (inl y) both = let lt : 32 < length seed = leb-false (length seed) 32 (right y both) in inr (omega (arith, lt, same))
            where
              right : {a b : Bool} → a ≡ true → (a && b) ≡ false → b ≡ false
              right {a} {b} is f = ap (λ (x : Bool). x && b) (sym is) ∙ f

      given : has_level u.key level ≡ true → Fair (AtSeed level) (give_seed u level)
      given e = good (AtSeed level) (Seed level) (record u { last_seed = Some (seed_given u) }) 103 (level ∷ seed_given u) reads refl refl
          (let same : (level == level) ≡ true = eq-eqb level level refl in rw same (formed (record u { last_seed = Some (seed_given u) }) (seed_given u) size))

  key_fair : (level : ℕ) (seed : List ℕ) → IsAsked plan (AtKey level seed) → StateAt plan (AtKey level seed) u → Fair (AtKey level seed) (obedient u (bytes_at plan (AtKey level seed)))
  key_fair level seed asked state = by (AtKey level seed) (Key level (key_of plan.key seed)) reads (programs (AtKey level seed) 39 _ state.0
      (pick (AtKey level seed) (has_level u.key level) (key_in u level (key_of plan.key seed) u.last_seed) (refuse u 39 18) (λ e. asks e u.last_seed state.1)
      (λ e. lacks_level level asked.0 (λ q. level_not u.key level e (ap level_of make.key ∙ q)))))
    where
      reads : request_of (bytes_at plan (AtKey level seed)) ≡ Some (Key level (key_of plan.key seed))
      reads = (says plan (AtKey level seed) ok tt asked refl).reads

      asks : has_level u.key level ≡ true → (o : Option (List ℕ)) → o ≡ Some seed → Fair (AtKey level seed) (key_in u level (key_of plan.key seed) o)
      asks e o is = subst (λ (x : Option (List ℕ)). Fair (AtKey level seed) (key_in u level (key_of plan.key seed) x)) (sym is)
          (pick (AtKey level seed) (same_bytes (key_of plan.key seed) (key_of u.key seed)) (answer (record u { unlocked = true }) (103 ∷ (level + 1) ∷ [])) (refuse u 39 53)
          (λ f. good (AtKey level seed) (Key level (key_of plan.key seed)) (record u { unlocked = true }) 103 ((level + 1) ∷ []) reads refl refl
          (let same : (level + 1 == level + 1) ≡ true = eq-eqb (level + 1) (level + 1) refl in rw same (segments_on [] plan.segments (record u { unlocked = true }))))
          (λ f. other_key level asked.0 (ap level_of (sym make.key) ∙ level_is u.key level e)
          (λ q. both_ways _ f (ap (λ (k : KeyRule). same_bytes (key_of plan.key seed) (key_of k seed)) (make.key ∙ q) ∙ same_self (key_of plan.key seed)))))

  erase_fair : (c : Cursor) → IsCursor plan c → StateAt plan (AtErase c) u → Fair (AtErase c) (obedient u (bytes_at plan (AtErase c)))
  erase_fair c is state = by (AtErase c) (Routine 65280 (range_record plan c.now)) reads (programs (AtErase c) 49 _ state.0
      (pick (AtErase c) (is_locked u) (refuse u 49 51) (erase_in u (range_of (range_record plan c.now))) (locked_why state)
      (λ open_u. subst (λ (o : Option Range). Fair (AtErase c) (erase_in u o)) (sym range) (at open_u))))
    where
      reads : request_of (bytes_at plan (AtErase c)) ≡ Some (Routine 65280 (range_record plan c.now))
      reads = (says plan (AtErase c) ok is tt refl).reads

      range : range_of (range_record plan c.now) ≡ Some (record { width = plan.width; at = c.now.at; size = length c.now.body; more = [] })
      range = ap range_of (sym (append-nil (range_record plan c.now))) ∙ (cursor_reads plan c [] ok is).reads

      at : is_locked u ≡ false → Fair (AtErase c) (erase_in u (Some (record { width = plan.width; at = c.now.at; size = length c.now.body; more = [] })))
      at open_u = let some = some_body c is in rw some
          (pick (AtErase c) (not (has_each c.now.at (length c.now.body) u.memory)) (refuse u 49 49) (answer (erased u c.now.at (length c.now.body)) (113 ∷ 1 ∷ 255 ∷ 0 ∷ 0 ∷ [])) (λ e. no_room c is (not-true _ e))
          (λ e. (tt, (open_u, fill_room (not-false _ e)), tt)))
        where
          fill_room : has_each c.now.at (length c.now.body) u.memory ≡ true → HasRoom c.now (erased u c.now.at (length c.now.body))
          fill_room has k lt = fill_domain c.now.at (length c.now.body) 255 u.memory (c.now.at + k) ∙ room_of c.now.at (length c.now.body) u.memory has k lt

  -- a block number that its bytes say
  abbrev block_verdict : ℕ → Verdict
  block_verdict n = block_form (block_bytes n)

  -- m: what the bytes say, of a unit with block number n
  in_bytes : (c : Cursor) (w : ControlUnit) (n m : ℕ) (bytes : List ℕ) → first.block ≡ n → w.block ≡ n → number_of bytes ≡ m → m ≤ n → (m < 3 → n < 3)
      → IsFair plan begun found skipped first (AtDownload c) w (if nat_le 3 (number_of bytes) then Accepted bytes else Malformed)
  in_bytes c w n m bytes is block said few low = elim (cases_Bool (nat_le 3 (number_of bytes))) [
    | inl e ↦ rw e (blocks_on c (record { sent = []; rest = c.now.body; counter = 1; limit = min (number_of bytes) 65535 }) w (omega (arith, said, few, block)))
    | inr e ↦ rw e (odd_block (
        let under : number_of bytes < 3 = leb-false 3 (number_of bytes) e in
        let lt : n < 3 = low (omega (arith, said, under)) in
        omega (arith, lt, is)))
  ]

  block_fair : (c : Cursor) (w : ControlUnit) (n m : ℕ) → first.block ≡ n → w.block ≡ n → m ≡ min n 4294967295 → IsFair plan begun found skipped first (AtDownload c) w (block_verdict m)
  block_fair c w n m is block said = elim (cases_Bool (nat_lt m 256)) [
    | inl e ↦ (let lt : m < 256 = ltb-true m 256 e in rw e (in_bytes c w n m (big_endian 1 m) is block (big_number 1 m (omega (arith, lt))) few low))
    | inr e ↦ elim (cases_Bool (nat_lt m 65536)) [
      | inl f ↦ (let lt : m < 65536 = ltb-true m 65536 f in rw (e, f) (in_bytes c w n m (big_endian 2 m) is block (big_number 2 m (omega (arith, lt))) few low))
      | inr f ↦ elim (cases_Bool (nat_lt m 16777216)) [
        | inl g ↦ (let lt : m < 16777216 = ltb-true m 16777216 g in rw (e, f, g) (in_bytes c w n m (big_endian 3 m) is block (big_number 3 m (omega (arith, lt))) few low))
        | inr g ↦ rw (e, f, g) (in_bytes c w n m (big_endian 4 m) is block (big_number 4 m (omega (arith, said))) few low)
      ]
    ]
  ]
    where
      few : m ≤ n
      few = omega (arith, said)

      low : m < 3 → n < 3
      low lt = omega (arith, said, lt)

  download_fair : (c : Cursor) → IsCursor plan c → StateAt plan (AtDownload c) u → TakesOn (AtDownload c) u → Fair (AtDownload c) (obedient u (bytes_at plan (AtDownload c)))
  download_fair c is state takes = by (AtDownload c) (Download plan.width c.now.at (length c.now.body)) reads (programs (AtDownload c) 52 _ state.0
      (let shut = takes.0 in let room = room_held c.now.at (length c.now.body) u.memory takes.1 in rw (shut, room)
      (good (AtDownload c) (Download plan.width c.now.at (length c.now.body)) (downloading u c.now.at (length c.now.body)) 116 (block_bytes (block_number u)) reads refl refl
      (block_fair c (downloading u c.now.at (length c.now.body)) u.block (block_number u) (sym make.block) refl refl))))
    where
      reads : request_of (bytes_at plan (AtDownload c)) ≡ Some (Download plan.width c.now.at (length c.now.body))
      reads = (says plan (AtDownload c) ok is tt refl).reads

  counter_moves : (n : ℕ) → (next_counter n == n) ≡ false
  counter_moves n = elim (cases_Bool (n == 255)) [
    | inl e ↦ let is : n ≡ 255 = eqb-true n 255 e in rw is refl
    | inr e ↦ rw e (ne_eqb (n + 1) n (λ q. omega (arith, q)))
  ]

  taking : (t : OpenTransfer) (counter : ℕ) (body : List ℕ) → t.up ≡ false → t.counter ≡ counter → length body + 2 ≤ block_number u → length body ≤ t.rest → receive_in u (Some t) counter body ≡ (written u t body, 118 ∷ counter ∷ [])
  taking t counter body down same few fits =
      let a : is_repeat t counter ≡ false = (λ i. is_some t.last && next_counter counter == same i) ∙ (λ i. is_some t.last && counter_moves counter i) ∙ and-false (is_some t.last) in
      let b : (counter == t.counter) ≡ true = eq-eqb counter t.counter (sym same) in
      let c : nat_lt (block_number u) (length body + 2) ≡ false = le-ltb _ _ few in
      let d : nat_lt t.rest (length body) ≡ false = le-ltb _ _ fits in
      rw (down, a, b, c, d) refl

  abbrev transfer_at : Cursor → Blocks → Option ℕ → OpenTransfer
  transfer_at c b last = record { up = false; at = c.now.at + length b.sent; rest = length b.rest; counter = b.counter; last = last }

  transfer_fair : (c : Cursor) (b : Blocks) → IsCursor plan c × IsBlocks c b → IsAsked plan (AtBlock c b) → StateAt plan (AtBlock c b) u → TakesOn (AtBlock c b) u → Fair (AtBlock c b) (obedient u (bytes_at plan (AtBlock c b)))
  transfer_fair c b is asked state takes = by (AtBlock c b) (Transfer b.counter (block_of b)) reads (programs (AtBlock c b) 54 _ state.0.0
      (subst (λ (x : ControlUnit × List ℕ). Fair (AtBlock c b) x) (sym step)
      (good (AtBlock c b) (Transfer b.counter (block_of b)) (written u (transfer_at c b state.1.last) (block_of b)) 118 (b.counter ∷ []) reads refl refl
      (let same : (b.counter == b.counter) ≡ true = eq-eqb b.counter b.counter refl in
      rw same (blocks_on c (after_block b) (written u (transfer_at c b state.1.last) (block_of b)) takes)))))
    where
      reads : request_of (bytes_at plan (AtBlock c b)) ≡ Some (Transfer b.counter (block_of b))
      reads = (says plan (AtBlock c b) ok is asked refl).reads

      size : length (block_of b) ≡ min (b.limit - 2) (length b.rest)
      size = length-take (b.limit - 2) b.rest

      step : receive_in u u.transfer b.counter (block_of b) ≡ (written u (transfer_at c b state.1.last) (block_of b), 118 ∷ b.counter ∷ [])
      step = ap (λ (o : Option OpenTransfer). receive_in u o b.counter (block_of b)) state.1.transfer
          ∙ taking (transfer_at c b state.1.last) b.counter (block_of b) refl refl (omega (arith, size, takes, asked, is.1.limit)) (omega (arith, size))

  exit_fair : (c : Cursor) → IsCursor plan c → StateAt plan (AtExit c) u → Fair (AtExit c) (obedient u (bytes_at plan (AtExit c)))
  exit_fair c is state = by (AtExit c) Exit refl (programs (AtExit c) 55 _ state.0.0
      (subst (λ (o : Option OpenTransfer). Fair (AtExit c) (exit_in u o)) (sym state.1.transfer) (exits state.1.last state.1.rest)))
    where
      exits : (t : OpenTransfer) → t.rest ≡ 0 → Fair (AtExit c) (exit_in u (Some t))
      exits t none = let e : (t.rest == 0) ≡ true = eq-eqb t.rest 0 none in rw e (tt, tt, tt)

  check_fair : (c : Cursor) → IsCursor plan c → StateAt plan (AtCheck c) u → Fair (AtCheck c) (obedient u (bytes_at plan (AtCheck c)))
  check_fair c is state = by (AtCheck c) (Routine plan.check option) reads (programs (AtCheck c) 49 _ state.0.0
      (let not_erase = ne_eqb plan.check 65280 ok.check in rw not_erase
      (pick (AtCheck c) (is_locked u) (refuse u 49 51) _ (locked_why state.0)
      (λ open_u. let not_finish = ne_eqb plan.check 65281 ok.check_too in rw not_finish
      (pick (AtCheck c) (plan.check == u.check) (check_in u plan.check (range_of option)) (refuse u 49 49)
      (λ e. subst (λ (o : Option Range). Fair (AtCheck c) (check_in u plan.check o)) (sym (cursor_reads plan c (sha256 c.now.body) ok is).reads) checks)
      (λ e. other_check (λ q. both_ways _ e (eq-eqb plan.check u.check (sym (make.check ∙ q))))))))))
    where
      option : List ℕ
      option = range_record plan c.now ++ sha256 c.now.body

      reads : request_of (bytes_at plan (AtCheck c)) ≡ Some (Routine plan.check option)
      reads = (says plan (AtCheck c) ok is tt refl).reads

      number_is : number2 (plan.check / 256 % 256) (plan.check % 256) ≡ plan.check
      number_is = let lt : plan.check < 65536 = ok.check_range in omega (arith, lt)

      same : same_bytes (sha256 c.now.body) (sha256 (bytes_of c.now.at (length c.now.body) u.memory)) ≡ true
      same = ap (λ (xs : List ℕ). same_bytes (sha256 c.now.body) (sha256 xs)) (bytes_held c.now.at c.now.body u.memory state.1) ∙ same_self (sha256 c.now.body)

      long : (length (sha256 c.now.body) == 32) ≡ true
      long = eq-eqb _ _ (length-sha256 c.now.body)

      checks : Fair (AtCheck c) (check_in u plan.check (Some (record { width = plan.width; at = c.now.at; size = length c.now.body; more = sha256 c.now.body })))
      checks = let some = some_body c is in rw (some, long)
          (pick (AtCheck c) (not (has_each c.now.at (length c.now.body) u.memory)) (refuse u 49 49) _ (λ e. no_room c is (not-true _ e))
          (λ e. rw same (good (AtCheck c) (Routine plan.check option) (record u { checked = (c.now.at, length c.now.body) ∷ u.checked }) 113 (1 ∷ (big_endian 2 plan.check ++ (0 ∷ []))) reads refl refl
          (let number : (number2 (plan.check / 256 % 256) (plan.check % 256) == plan.check) ≡ true = eq-eqb _ _ number_is in
          rw number (tt, tt, tt)))))

  finish_fair : StateAt plan AtFinish u → (u.checked ≡ [] → HasNoneChecked plan found first) → Fair AtFinish (obedient u (bytes_at plan AtFinish))
  finish_fair state takes = by AtFinish (Routine 65281 []) refl (programs AtFinish 49 _ state.0
      (pick AtFinish (is_locked u) (refuse u 49 51) (finish_in u u.checked) (locked_why state) (λ open_u. finishes u.checked takes)))
    where
      finishes : (cs : List (ℕ × ℕ)) → (cs ≡ [] → HasNoneChecked plan found first) → Fair AtFinish (finish_in u cs)
      finishes [] none = (refl, none refl)
      finishes (r ∷ rs) none = (tt, tt, tt)

  reset_fair : Fair AtReset (obedient u (bytes_at plan AtReset))
  reset_fair = by AtReset Reset refl (tt, tt, tt)

  pub fair : (place : Place) → IsPlace plan place → IsAsked plan place → IsIdentPlace plan begun place → needs_request place ≡ true → StateAt plan place u → Takes plan found first place u
      → IsFair plan begun found skipped first place (obedient u (bytes_at plan place)).0 (judge (bytes_at plan place) (obedient u (bytes_at plan place)).1)
  fair (AtIdent w ws) is asked at needs state takes = ident_fair w ws at asked
  fair AtBegin is asked at needs state takes = absurd (false≢true needs)
  fair AtProgram is asked at needs state takes = program_fair
  fair (AtSeed level) is asked at needs state takes = seed_fair level asked state
  fair (AtKey level seed) is asked at needs state takes = key_fair level seed asked state
  fair (AtErase c) is asked at needs state takes = erase_fair c is state
  fair (AtDownload c) is asked at needs state takes = download_fair c is state takes
  fair (AtBlock c b) is asked at needs state takes = transfer_fair c b is asked state takes
  fair (AtExit c) is asked at needs state takes = exit_fair c is state
  fair (AtCheck c) is asked at needs state takes = check_fair c is state
  fair (AtMark c) is asked at needs state takes = absurd (false≢true needs)
  fair AtFinish is asked at needs state takes = finish_fair state takes
  fair AtReset is asked at needs state takes = reset_fair
  fair AtDone is asked at needs state takes = absurd (false≢true needs)
  fair (AtEnd outcome) is asked at needs state takes = absurd (false≢true needs)
