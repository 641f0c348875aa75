-- A word that is taken: the conversation goes on as it is counted, and an end has its cause.
use Rattle.std.proofs.Common.{◌≡◌, ◌⊎◌, inl, inr, ℕ, zero, suc, ◌+◌, ◌≤◌, true, false, List, [], ◌∷◌, ◌++◌, drop, Some, None, refl, sym, ◌∙◌, ap, subst, arith}
use Rattle.std.specs.Prelude.{Bool, Option, ◌==◌, ◌&&◌, not, is_some, unwrap_or}
use Rattle.std.proofs.lemmas.Bool.{cases_Bool, false≢true, both_ways, eq-eqb, ne_eqb, eqb-true}
use Rattle.flash_base.specs.ByteMaps.{byte_at}
use Rattle.flash_plan.specs.Plan.{IsAcceptedUnit}
use Rattle.flash_plan.specs.declared.outcome.Outcome.{Outcome}
use Rattle.flash_plan.specs.declared.outcome.Outcome.TheVariants as outcome
use Rattle.flash_plan.specs.declared.outcome.Outcome.TheVariants.{Refused, BadAnswer, CheckFailed, IdentMismatch, Undelivered, PendingLimit, BusyLimit}
use Rattle.flash_plan.specs.declared.unit.UnitPlan.{UnitPlan}
use Rattle.uds_codec.specs.Answer.{Verdict, Pending, Busy, Refusal, Accepted, BadStatus, Malformed, judge}
use Rattle.uds_codec.specs.Request.{sid_of}
use Rattle.unit_model.specs.Step.{Departure, Refuses, Odd, Fails, Mutes, Busies, IsDeparture, Leaves, said_by, pending_bytes}
use Rattle.unit_model.specs.Unit.{ControlUnit, has_key, obedient}
use Rattle.unit_model.specs.Vehicle.{HeldAnswer}
use Rattle.run_model.specs.Places.{needs_request, is_ended}
use Rattle.run_model.specs.Script.{Place, AtIdent, AtBegin, AtProgram, AtSeed, AtKey, AtErase, AtDownload, AtBlock, AtExit, AtCheck, AtMark, AtFinish, AtReset, AtDone, AtEnd, bytes_at, place_next, place_judged, start_place}
use Rattle.run_model.specs.States.{StateAt, SameButCounts, Obeyed, Departed}
use Rattle.run_model.specs.Talk.{Talk, talk_hears, talk_judged, talk_final, end_talk}
use Rattle.run_model.specs.Ways.{UnitMessage, Reply, Nacked, pending_messages, final_message}
use Rattle.unit_session.proofs.Keeps.{IsFinalForm, left_judged}
use Rattle.unit_session.specs.Left.{requests_left}
use Rattle.bay_core.specs.Joint.{IsTalk}
use Rattle.bay_core.proofs.Talks.{next_fits}
use Rattle.outcome_law.proofs.Checking.{Finishes, FinishesIn, takes_all, takes_on}
use Rattle.outcome_law.proofs.Fair.{TakesOn, IsFair, IsFairEnd, IsFairNext, fair}
use Rattle.outcome_law.proofs.Growing.{leaves_made}
use Rattle.outcome_law.specs.Causes.{IsCaused, IsCausedBy}
use Rattle.outcome_law.specs.Counting.{SameMake, Kept, KeptIn, Takes, TakesIn, IsIdentPlace, IsEndCaused, IsTalkCounted, IsCounted, IsHeardCounted, IsMissedCounted, IsAwaitCounted}
use Rattle.outcome_law.specs.Rising.{RoseBy}
use Rattle.bay_core.proofs.Sending.{place_goes}
use Rattle.bay_core.proofs.Ticking.{some_cons}

-- ------ what a place asks of the unit stays where lock, key, block number and addresses stay
pub takes_kept : (place : Place) (u w : ControlUnit) → w.key ≡ u.key → w.unlocked ≡ u.unlocked → w.block ≡ u.block → ((a : ℕ) → is_some (byte_at w.memory a) ≡ is_some (byte_at u.memory a)) → TakesOn place u → TakesOn place w
takes_kept (AtDownload c) u w key unlocked block domain takes = ((λ i. has_key (key i) && not (unlocked i)) ∙ takes.0, λ k lt. domain (c.now.at + k) ∙ takes.1 k lt)
takes_kept (AtBlock c b) u w key unlocked block domain takes = subst (λ (n : ℕ). b.limit ≤ n) (sym block) takes
takes_kept (AtIdent x xs) u w key unlocked block domain takes = tt
takes_kept AtBegin u w key unlocked block domain takes = tt
takes_kept AtProgram u w key unlocked block domain takes = tt
takes_kept (AtSeed level) u w key unlocked block domain takes = tt
takes_kept (AtKey level seed) u w key unlocked block domain takes = tt
takes_kept (AtErase c) u w key unlocked block domain takes = tt
takes_kept (AtExit c) u w key unlocked block domain takes = tt
takes_kept (AtCheck c) u w key unlocked block domain takes = tt
takes_kept (AtMark c) u w key unlocked block domain takes = tt
takes_kept AtFinish u w key unlocked block domain takes = tt
takes_kept AtReset u w key unlocked block domain takes = tt
takes_kept AtDone u w key unlocked block domain takes = tt
takes_kept (AtEnd outcome) u w key unlocked block domain takes = tt

pub takes_counts : (place : Place) (u w : ControlUnit) → SameButCounts u w → TakesOn place u → TakesOn place w
takes_counts place u w same takes = takes_kept place u w (λ i. (same.same i).key) (λ i. (same.same i).unlocked) (λ i. (same.same i).block) (λ a i. is_some (byte_at (same.same i).memory a)) takes

leaves_unlocked : (u mid : ControlUnit) (bytes : List ℕ) → Leaves u bytes mid → mid.unlocked ≡ u.unlocked
leaves_unlocked u mid bytes (inl is) = λ i. (is i).unlocked
leaves_unlocked u mid bytes (inr (s, range, spoiled)) = λ i. (spoiled.rest i).unlocked

pub takes_left : (place : Place) (u mid : ControlUnit) (bytes : List ℕ) → Leaves u bytes mid → TakesOn place u → TakesOn place mid
takes_left place u mid bytes leaves takes = let m = leaves_made u mid bytes leaves in takes_kept place u mid m.key (leaves_unlocked u mid bytes leaves) m.block m.domain takes

-- ------ small facts
abbrev head_or : UnitMessage → List UnitMessage → UnitMessage
head_or w [] = w
head_or w (x ∷ xs) = x

pub pending_judged : (bytes : List ℕ) → judge bytes (pending_bytes (sid_of bytes)) ≡ Pending
pending_judged bytes = rw (eq-eqb (sid_of bytes) (sid_of bytes) refl) refl

refused_judged : (bytes : List ℕ) (nrc : ℕ) → (nrc ≡ 33 → ⊥) → (nrc ≡ 120 → ⊥) → judge bytes (127 ∷ sid_of bytes ∷ nrc ∷ []) ≡ Refusal nrc
refused_judged bytes nrc a b = let here = eq-eqb (sid_of bytes) (sid_of bytes) refl in let x = ne_eqb nrc 120 b in let y = ne_eqb nrc 33 a in rw (here, x, y) refl

busy_judged : (bytes : List ℕ) → judge bytes (127 ∷ sid_of bytes ∷ 33 ∷ []) ≡ Busy
busy_judged bytes = rw (eq-eqb (sid_of bytes) (sid_of bytes) refl) refl

-- a place behind a good answer is no end but one by an identifier's value
end_caused : (plan : UnitPlan) (begun : Bool) (found : ℕ → Bool) (first u : ControlUnit) (place : Place) → IsFairEnd plan begun first place → IsEndCaused plan begun found (Some first) (Some u) place
end_caused plan begun found first u (AtEnd (IdentMismatch did)) other = other
end_caused plan begun found first u (AtEnd outcome.Complete) other = absurd other
end_caused plan begun found first u (AtEnd (Refused sid nrc)) other = absurd other
end_caused plan begun found first u (AtEnd (BadAnswer sid)) other = absurd other
end_caused plan begun found first u (AtEnd (CheckFailed routine segment status)) other = absurd other
end_caused plan begun found first u (AtEnd (Undelivered code)) other = absurd other
end_caused plan begun found first u (AtEnd (outcome.NoAnswer sid)) other = absurd other
end_caused plan begun found first u (AtEnd (PendingLimit sid)) other = absurd other
end_caused plan begun found first u (AtEnd (BusyLimit sid)) other = absurd other
end_caused plan begun found first u (AtEnd (outcome.LinkLost times)) other = absurd other
end_caused plan begun found first u (AtEnd (outcome.LinkRefused code)) other = absurd other
end_caused plan begun found first u (AtEnd (outcome.Blocked by)) other = absurd other
end_caused plan begun found first u (AtEnd outcome.DiskFault) other = absurd other
end_caused plan begun found first u (AtEnd outcome.NoMemory) other = absurd other
end_caused plan begun found first u (AtIdent w ws) other = tt
end_caused plan begun found first u AtBegin other = tt
end_caused plan begun found first u AtProgram other = tt
end_caused plan begun found first u (AtSeed level) other = tt
end_caused plan begun found first u (AtKey level seed) other = tt
end_caused plan begun found first u (AtErase c) other = tt
end_caused plan begun found first u (AtDownload c) other = tt
end_caused plan begun found first u (AtBlock c b) other = tt
end_caused plan begun found first u (AtExit c) other = tt
end_caused plan begun found first u (AtCheck c) other = tt
end_caused plan begun found first u (AtMark c) other = tt
end_caused plan begun found first u AtFinish other = tt
end_caused plan begun found first u AtReset other = tt
end_caused plan begun found first u AtDone other = tt

takes_end : (plan : UnitPlan) (found : ℕ → Bool) (first now : Option ControlUnit) (outcome : Outcome) → TakesIn plan found first (AtEnd outcome) now
takes_end plan found None now outcome = tt
takes_end plan found (Some f) None outcome = tt
takes_end plan found (Some f) (Some u) outcome = tt

-- a conversation that ends with its cause
pub ended_counted : (plan : UnitPlan) (begun : Bool) (found : ℕ → Bool) (first now : Option ControlUnit) (t : Talk) (outcome : Outcome) → IsCaused plan begun found first now outcome → IsTalkCounted plan begun found first now t → IsTalkCounted plan begun found first now (end_talk outcome t)
ended_counted plan begun found first now t outcome cause is = record { ident = tt; ended = cause; busy = is.busy; takes = λ idle. takes_end plan found first now outcome; left = λ e. absurd (false≢true (sym e)) }

-- ------ the word in front
module _ (plan : UnitPlan) (ok : IsAcceptedUnit plan) (begun recorded : Bool) (found marks : ℕ → Bool) (tick : ℕ) (t : Talk) (sane : IsTalk plan recorded marks t) (awaiting : t.awaiting ≡ true) (held : List HeldAnswer) where
  needs : needs_request t.place ≡ true
  needs = sane.awaits awaiting

  abbrev bytes : List ℕ
  bytes = bytes_at plan t.place

  -- how the conversation stands, and what is awaited then
  pub record Goes (first now : Option ControlUnit) (way : List UnitMessage) (t2 : Talk) : Type 0 where
    pub talk : IsTalkCounted plan begun found first now t2
    pub awaits : t2.awaiting ≡ true → IsAwaitCounted plan found t2 held way first now

  idle : (first now : Option ControlUnit) (way : List UnitMessage) (t2 : Talk) → t2.awaiting ≡ false → IsTalkCounted plan begun found first now t2 → Goes first now way t2
  idle first now way t2 none talk = record { talk = talk; awaits = λ a. absurd (both_ways _ none a) }

  module _ (first u : ControlUnit) (kept : Kept first u) (is : IsTalkCounted plan begun found (Some first) (Some u) t) (finishes : Finishes plan found t.marks first u) where
    fewer : (v : Verdict) → IsFinalForm v → t.number + 1 + requests_left plan (place_judged plan t.marks t.place v) ≤ requests_left plan (start_place plan begun)
    fewer v final =
        let less : requests_left plan (place_judged plan t.marks t.place v) + 1 ≤ requests_left plan t.place = left_judged plan t.marks t.place v (record { place_is = sane.place; asked = sane.asked }) needs final in
        let so_far : t.number + requests_left plan t.place ≤ requests_left plan (start_place plan begun) = is.left (place_goes t.place needs) in
        omega (arith, less, so_far)

    final_end : (v : Verdict) (outcome : Outcome) → place_judged plan t.marks t.place v ≡ AtEnd outcome → IsCausedBy plan begun found first u.counts outcome → IsTalkCounted plan begun found (Some first) (Some u) (talk_final plan v t)
    final_end v outcome at cause = record {
      ident = subst (λ (p : Place). IsIdentPlace plan begun p) (sym at) tt;
      ended = subst (λ (p : Place). IsEndCaused plan begun found (Some first) (Some u) p) (sym at) cause;
      busy = kept.counts.busy;
      takes = λ none. subst (λ (p : Place). Takes plan found first p u) (sym at) tt;
      left = λ e. absurd (false≢true (sym e ∙ ap is_ended at));
    }

    final_good : (rest : List ℕ) → IsFairNext plan begun first u (place_next plan t.marks t.place rest) → IsTalkCounted plan begun found (Some first) (Some u) (talk_final plan (Accepted rest) t)
    final_good rest next = record {
      ident = next.2;
      ended = end_caused plan begun found first u (place_next plan t.marks t.place rest) next.0;
      busy = kept.counts.busy;
      takes = λ none. takes_all plan found t.marks first (place_next plan t.marks t.place rest) u (next_fits plan t.marks t.place rest sane.marked) finishes next.1;
      left = λ e. fewer (Accepted rest) tt;
    }

    -- the unit obeyed
    fair_word : (v : Verdict) → IsFair plan begun found t.marks first t.place u v → IsTalkCounted plan begun found (Some first) (Some u) (talk_judged plan tick v t)
    fair_word Pending f = absurd f
    fair_word Busy f = absurd f
    fair_word (Refusal nrc) f = final_end (Refusal nrc) (Refused (sid_of bytes) nrc) refl (inr f)
    fair_word (Accepted rest) f = final_good rest f
    fair_word (BadStatus status) f = final_end (BadStatus status) _ refl (inr f)
    fair_word Malformed f = final_end Malformed (BadAnswer (sid_of bytes)) refl (inr f)

    fair_counts : (v : Verdict) (w : ControlUnit) → SameButCounts w u → IsFair plan begun found t.marks first t.place w v → IsFair plan begun found t.marks first t.place u v
    fair_counts Pending w same f = f
    fair_counts Busy w same f = f
    fair_counts (Refusal nrc) w same f = f
    fair_counts (Accepted rest) w same f = (f.0, takes_counts (place_next plan t.marks t.place rest) w u same f.1, f.2)
    fair_counts (BadStatus status) w same f = f
    fair_counts Malformed w same f = f

    judged_idle : (v : Verdict) → IsFair plan begun found t.marks first t.place u v → (talk_judged plan tick v t).awaiting ≡ false
    judged_idle Pending f = absurd f
    judged_idle Busy f = absurd f
    judged_idle (Refusal nrc) f = refl
    judged_idle (Accepted rest) f = refl
    judged_idle (BadStatus status) f = refl
    judged_idle Malformed f = refl

    obeyed_word : (before : ControlUnit) (body : List ℕ) → SameMake first before → StateAt plan t.place before → Takes plan found first t.place before → Some body ≡ Some (obedient before bytes).1 → SameButCounts (obedient before bytes).0 u
        → Goes (Some first) (Some u) [] (talk_hears plan tick (Reply body) t)
    obeyed_word before body make state takes said same =
        let f = fair plan ok begun found t.marks first before make t.place sane.place sane.asked is.ident needs state takes in
        let body_is : (obedient before bytes).1 ≡ body = ap (λ (o : Option (List ℕ)). unwrap_or o []) (sym said) in
        let g : IsFair plan begun found t.marks first t.place u (judge bytes body) = subst (λ (b : List ℕ). IsFair plan begun found t.marks first t.place u (judge (bytes_at plan t.place) b)) body_is (fair_counts _ (obedient before bytes).0 same f) in
        idle (Some first) (Some u) [] (talk_hears plan tick (Reply body) t) (judged_idle (judge bytes body) g) (fair_word (judge bytes body) g)

    -- it departed
    busy_word : Takes plan found first t.place u → RoseBy (t.busies + 1) first.counts.busy u.counts.busy → Goes (Some first) (Some u) [] (talk_judged plan tick Busy t)
    busy_word takes rose = elim (cases_Bool (t.busies == 20)) [
      | inl e ↦ rw e (let at : t.busies ≡ 20 = eqb-true t.busies 20 e in
          idle (Some first) (Some u) [] (end_talk (BusyLimit (sid_of bytes)) t) refl (ended_counted plan begun found (Some first) (Some u) t (BusyLimit (sid_of bytes)) (omega (arith, rose, at)) is))
      | inr e ↦ rw e (idle (Some first) (Some u) [] (record t { awaiting = false; pendings = 0; busies = t.busies + 1 }) refl (record { ident = is.ident; ended = is.ended; busy = rose; takes = λ none. takes; left = is.left }))
    ]

    judged_as : (body : List ℕ) (v : Verdict) → judge bytes body ≡ v → Goes (Some first) (Some u) [] (talk_judged plan tick v t) → Goes (Some first) (Some u) [] (talk_hears plan tick (Reply body) t)
    judged_as body v at g = subst (λ (x : Verdict). Goes (Some first) (Some u) [] (talk_judged plan tick x t)) (sym at) g

    departed_word : (before : ControlUnit) (body : List ℕ) (kind : Departure) → IsDeparture kind before bytes → said_by kind (sid_of bytes) ≡ Some body → Takes plan found first t.place u → IsCounted kind t.busies first.counts u.counts
        → Goes (Some first) (Some u) [] (talk_hears plan tick (Reply body) t)
    departed_word before body (Refuses nrc) dep said takes rose =
        let b : 127 ∷ sid_of bytes ∷ nrc ∷ [] ≡ body = ap (λ (o : Option (List ℕ)). unwrap_or o []) said in
        judged_as body (Refusal nrc) (ap (judge bytes) (sym b) ∙ refused_judged bytes nrc dep.0 dep.1) (idle (Some first) (Some u) [] (talk_final plan (Refusal nrc) t) refl (final_end (Refusal nrc) (Refused (sid_of bytes) nrc) refl (inl rose)))
    departed_word before body (Odd odd) dep said takes rose =
        let b : odd ≡ body = ap (λ (o : Option (List ℕ)). unwrap_or o []) said in
        judged_as body Malformed (ap (judge bytes) (sym b) ∙ dep.0) (idle (Some first) (Some u) [] (talk_final plan Malformed t) refl (final_end Malformed (BadAnswer (sid_of bytes)) refl (inl rose)))
    departed_word before body (Fails failed) dep said takes rose =
        let b : failed ≡ body = ap (λ (o : Option (List ℕ)). unwrap_or o []) said in
        judged_as body (BadStatus dep.0) (ap (judge bytes) (sym b) ∙ dep.1) (idle (Some first) (Some u) [] (talk_final plan (BadStatus dep.0) t) refl (final_end (BadStatus dep.0) _ refl (inl rose)))
    departed_word before body Mutes dep said takes rose = absurd (false≢true (ap (is_some {T = List ℕ}) said))
    departed_word before body Busies dep said takes rose =
        let b : 127 ∷ sid_of bytes ∷ 33 ∷ [] ≡ body = ap (λ (o : Option (List ℕ)). unwrap_or o []) said in
        judged_as body Busy (ap (judge bytes) (sym b) ∙ busy_judged bytes) (busy_word takes rose)

    -- a response pending
    pending_word : (way : List UnitMessage) (k : ℕ) (h : IsHeardCounted plan found t first held (Reply (pending_bytes (sid_of bytes)) ∷ way) u) → h.pending ≡ suc k → way ≡ pending_messages (sid_of bytes) k ++ final_message h.said
        → Goes (Some first) (Some u) way (talk_judged plan tick Pending t)
    pending_word way k h at rest = elim (cases_Bool (t.pendings == 200)) [
      | inl e ↦ rw e (
          let full : t.pendings ≡ 200 = eqb-true t.pendings 200 e in
          idle (Some first) (Some u) way (end_talk (PendingLimit (sid_of bytes)) t) refl (ended_counted plan begun found (Some first) (Some u) t (PendingLimit (sid_of bytes))
          (elim h.patience [ inl le ↦ absurd (omega (arith, le, full, at)) | inr rose ↦ rose ]) is))
      | inr e ↦ rw e (record {
        talk = record { ident = is.ident; ended = is.ended; busy = is.busy; takes = λ none. absurd (both_ways _ none awaiting); left = is.left };
        awaits = λ a. inr (record {
          before = h.before;
          said = h.said;
          pending = k;
          state = h.state;
          takes = h.takes;
          make = h.make;
          step = h.step;
          on_way = rest;
          patience = elim h.patience [ inl le ↦ inl (omega (arith, le, at)) | inr rose ↦ inr rose ];
          holding = λ one is_one. let x = h.holding one is_one in (let le : t.pendings + h.pending ≤ one.pending = x.0 in omega (arith, le, at), x.1);
        });
      })
    ]

    heard_word : (word : UnitMessage) (way : List UnitMessage) (k : ℕ) (said : Option (List ℕ)) (h : IsHeardCounted plan found t first held (word ∷ way) u) → h.pending ≡ k → h.said ≡ said → (word ∷ way ≡ pending_messages (sid_of bytes) k ++ final_message said)
        → Goes (Some first) (Some u) way (talk_hears plan tick word t)
    heard_word word way (suc k) said h p q on =
        let w : word ≡ Reply (pending_bytes (sid_of bytes)) = ap (head_or word) on in
        let rest : way ≡ pending_messages (sid_of bytes) k ++ final_message said = ap (drop 1) on in
        let rest2 : way ≡ pending_messages (sid_of bytes) k ++ final_message h.said = rest ∙ ap (λ (o : Option (List ℕ)). pending_messages (sid_of (bytes_at plan t.place)) k ++ final_message o) (sym q) in
        let h2 : IsHeardCounted plan found t first held (Reply (pending_bytes (sid_of bytes)) ∷ way) u = record { before = h.before; said = h.said; pending = h.pending; state = h.state; takes = h.takes; make = h.make; step = h.step; on_way = ap (λ (x : UnitMessage). x ∷ way) (sym w) ∙ h.on_way; patience = h.patience; holding = h.holding } in
        subst (λ (x : UnitMessage). Goes (Some first) (Some u) way (talk_hears plan tick x t)) (sym w)
        (subst (λ (v : Verdict). Goes (Some first) (Some u) way (talk_judged plan tick v t)) (sym (pending_judged bytes)) (pending_word way k h2 p rest2))
    heard_word word way zero None h p q on = absurd (some_cons word way on)
    heard_word word way zero (Some body) h p q on =
        let w : word ≡ Reply body = ap (head_or word) on in
        let rest : way ≡ [] = ap (drop 1) on in
        subst (λ (x : UnitMessage × List UnitMessage). Goes (Some first) (Some u) x.1 (talk_hears plan tick x.0 t)) (λ i. (sym w i, sym rest i)) (go h.step)
      where
        go : Obeyed h.before bytes h.said u ⊎ ((d : Departed h.before bytes h.said u) × IsCounted d.kind t.busies first.counts u.counts) → Goes (Some first) (Some u) [] (talk_hears plan tick (Reply body) t)
        go (inl o) = obeyed_word h.before body h.make h.state h.takes (sym q ∙ o.said_is) o.state
        go (inr (d, counted)) = departed_word h.before body d.kind d.is (sym d.said_is ∙ q)
            (takes_all plan found t.marks first t.place u sane.marked finishes (takes_counts t.place d.mid u d.state (takes_left t.place h.before d.mid bytes d.leaves (takes_on plan found first t.place h.before h.takes)))) counted

    missed_word : (word : UnitMessage) (way : List UnitMessage) → IsMissedCounted first (word ∷ way) u → Goes (Some first) (Some u) way (talk_hears plan tick word t)
    missed_word word way m =
        let w : word ≡ Nacked m.code = ap (head_or word) m.on_way in
        subst (λ (x : UnitMessage). Goes (Some first) (Some u) way (talk_hears plan tick x t)) (sym w)
        (idle (Some first) (Some u) way (end_talk (Undelivered m.code) t) refl (ended_counted plan begun found (Some first) (Some u) t (Undelivered m.code) m.count is))

  pub word_goes : (word : UnitMessage) (way : List UnitMessage) (first now : Option ControlUnit) → KeptIn first now → IsTalkCounted plan begun found first now t → FinishesIn plan found t.marks first now → IsAwaitCounted plan found t held (word ∷ way) first now → Goes first now way (talk_hears plan tick word t)
  word_goes word way None None kept is finishes a =
      let w : word ≡ Nacked 3 = ap (head_or word) a in
      subst (λ (x : UnitMessage). Goes None None way (talk_hears plan tick x t)) (sym w) (idle None None way (end_talk (Undelivered 3) t) refl (ended_counted plan begun found None None t (Undelivered 3) refl is))
  word_goes word way None (Some w) kept is finishes a = absurd kept
  word_goes word way (Some u) None kept is finishes a = absurd kept
  word_goes word way (Some u) (Some w) kept is finishes (inl m) = missed_word u w kept is finishes word way m
  word_goes word way (Some u) (Some w) kept is finishes (inr h) = heard_word u w kept is finishes word way h.pending h.said h refl refl h.on_way
