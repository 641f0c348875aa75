-- What is known of the events since the last dial in each phase.
use Rattle.std.proofs.Common.{◌≡◌, ℕ, true, false, List, Some, None, refl, sym, ◌∙◌, ap, subst}
use Rattle.std.specs.Prelude.{Bool, Option, ◌==◌, ◌&&◌, ◌||◌, not, is_some, nat_le, if◌then◌else◌}
use Rattle.std.proofs.lemmas.Bool.{false≢true, both_ways, or_parts}
use Rattle.doip_frame.specs.Frame.{Stream, stream_of}
use Rattle.doip_frame.specs.declared.frame.Bad.{Bad}
use Rattle.doip_frame.specs.declared.frame.Frame.{Frame}
use Rattle.run_model.specs.Link.{Phase, is_open, is_dialed}
use Rattle.run_model.specs.Link as phase
use Rattle.bay_core.specs.LinkLaws.{refuses_header, first_code, phase_for}
use Rattle.bay_core.specs.declared.event.Event.{Event}
use Rattle.link_law.specs.Happened.{has, count}
use Rattle.link_law.specs.Kinds.{bytes_in, is_ask, is_quiet_wait, is_failed_call}
use Rattle.link_law.specs.Looked.{answer_in, is_denial, is_broken}
use Rattle.link_law.specs.Follows.{is_ended, phase_in}
use Rattle.link_law.proofs.Frames.{before_all}

pub record IsAccepted (F : List Frame) : Type 0 where
  pub no_refusal : refuses_header F ≡ false
  pub code : ℕ
  pub is : first_code F ≡ Some code
  pub ten : (code == 16) ≡ true

pub record IsAwaited (F : List Frame) : Type 0 where
  pub no_refusal : refuses_header F ≡ false
  pub none : first_code F ≡ None

-- what the frames were on an open link
abbrev pub Clean : Phase → List Frame → Type 0
Clean phase.Down F = ⊥
Clean phase.Dialed F = ⊥
Clean phase.Asked F = IsAwaited F
Clean phase.Up F = IsAccepted F
Clean (phase.Refused code) F = ⊥

option_none : (o : Option Bad) → is_some o ≡ false → o ≡ None
option_none None e = refl
option_none (Some bad) e = absurd (false≢true (sym e))

shut : {C : Type 0} (q p : Phase) → is_open q ≡ false → q ≡ p → is_open p ≡ true → C
shut q p not_open e opened = absurd (both_ways _ not_open (ap is_open e ∙ opened))

awaited : (F : List Frame) (B R : Bool) (p : Phase) → refuses_header F ≡ R → answer_in F ≡ None → (if R || B then phase.Down else phase.Asked) ≡ p → is_open p ≡ true → Clean p F × (B ≡ false)
awaited F B true p r is e opened = shut phase.Down p refl e opened
awaited F true false p r is e opened = shut phase.Down p refl e opened
awaited F false false p r is e opened = (subst (λ (q : Phase). Clean q F) e (record { no_refusal = r; none = ap first_code (sym (before_all F r)) ∙ is }), refl)

accepted : (F : List Frame) (B R ten : Bool) (c : ℕ) (p : Phase) → refuses_header F ≡ R → answer_in F ≡ Some c → (c == 16) ≡ ten
    → (if not (not ten) && (R || B) then phase.Down else (if ten then phase.Up else phase.Refused c)) ≡ p → is_open p ≡ true → Clean p F × (B ≡ false)
accepted F B R false c p r is ten e opened = shut (phase.Refused c) p refl e opened
accepted F B true true c p r is ten e opened = shut phase.Down p refl e opened
accepted F true false true c p r is ten e opened = shut phase.Down p refl e opened
accepted F false false true c p r is ten e opened = (subst (λ (q : Phase). Clean q F) e (record { no_refusal = r; code = c; is = ap first_code (sym (before_all F r)) ∙ is; ten = ten }), refl)

clean_by : (F : List Frame) (B : Bool) (o : Option ℕ) (p : Phase) → answer_in F ≡ o → (if not (is_denial o) && (refuses_header F || B) then phase.Down else phase_for o) ≡ p → is_open p ≡ true → Clean p F × (B ≡ false)
clean_by F B None p is e opened = awaited F B (refuses_header F) p refl is e opened
clean_by F B (Some c) p is e opened = accepted F B (refuses_header F) (c == 16) c p refl is refl e opened

-- frames that leave the link open
pub clean_of : (s : Stream) (p : Phase) → (if is_broken s then phase.Down else phase_for (answer_in s.frames)) ≡ p → is_open p ≡ true → Clean p s.frames × (s.bad ≡ None)
clean_of s p e opened = let both = clean_by s.frames (is_some s.bad) (answer_in s.frames) p refl e opened in (both.0, option_none s.bad both.1)

-- ------ events
pub record IsLive (d : Option Bool) (w : List Event) : Type 0 where
  pub dialed : d ≡ Some false
  pub called : has is_failed_call w ≡ false
  pub whole : is_broken (stream_of (bytes_in w)) ≡ false
  pub patient : nat_le 1000 (count is_quiet_wait w) ≡ false

pub record IsOpened (d : Option Bool) (w : List Event) (p : Phase) : Type 0 where
  pub live : IsLive d w
  pub asked : has is_ask w ≡ true
  pub clean : Clean p (stream_of (bytes_in w)).frames
  pub good : (stream_of (bytes_in w)).bad ≡ None
  pub verdict : phase_for (answer_in (stream_of (bytes_in w)).frames) ≡ p

pub record IsFresh (d : Option Bool) (w : List Event) : Type 0 where
  pub live : IsLive d w
  pub asked : has is_ask w ≡ false

live_of : (w : List Event) → is_ended w ≡ false → IsLive (Some false) w
live_of w e = record {
  dialed = refl;
  called = (or_parts _ _ (or_parts _ (nat_le 1000 (count is_quiet_wait w)) e).0).0;
  whole = (or_parts (has is_failed_call w) _ (or_parts _ (nat_le 1000 (count is_quiet_wait w)) e).0).1;
  patient = (or_parts (has is_failed_call w || is_broken (stream_of (bytes_in w))) _ e).1;
}

opened_in : (w : List Event) (p : Phase) (ended asked : Bool) → is_ended w ≡ ended → has is_ask w ≡ asked → (if ended then phase.Down else if asked then phase_for (answer_in (stream_of (bytes_in w)).frames) else phase.Dialed) ≡ p → is_open p ≡ true → IsOpened (Some false) w p
opened_in w p true asked x y e opened = shut phase.Down p refl e opened
opened_in w p false false x y e opened = shut phase.Dialed p refl e opened
opened_in w p false true x y e opened =
    let live : IsLive (Some false) w = live_of w x in
    let both = clean_of (stream_of (bytes_in w)) p (ap (λ (b : Bool). if b then phase.Down else phase_for (answer_in (stream_of (bytes_in w)).frames)) live.whole ∙ e) opened in
    record { live = live; asked = y; clean = both.0; good = both.1; verdict = e }

pub opened_of : (d : Option Bool) (w : List Event) (p : Phase) → phase_in d w ≡ p → is_open p ≡ true → IsOpened d w p
opened_of None w p e opened = shut phase.Down p refl e opened
opened_of (Some true) w p e opened = shut phase.Down p refl e opened
opened_of (Some false) w p e opened = opened_in w p (is_ended w) (has is_ask w) refl refl e opened

not_fresh : {C : Type 0} (q p : Phase) → is_dialed q ≡ false → q ≡ p → is_dialed p ≡ true → C
not_fresh q p other e fresh = absurd (both_ways _ other (ap is_dialed e ∙ fresh))

answer_not_fresh : (o : Option ℕ) → is_dialed (phase_for o) ≡ false
answer_not_fresh None = refl
answer_not_fresh (Some code) = either (code == 16)
  where
    either : (b : Bool) → is_dialed (if b then phase.Up else phase.Refused code) ≡ false
    either true = refl
    either false = refl

fresh_in : (w : List Event) (p : Phase) (ended asked : Bool) → is_ended w ≡ ended → has is_ask w ≡ asked → (if ended then phase.Down else if asked then phase_for (answer_in (stream_of (bytes_in w)).frames) else phase.Dialed) ≡ p → is_dialed p ≡ true → IsFresh (Some false) w
fresh_in w p true asked x y e fresh = not_fresh phase.Down p refl e fresh
fresh_in w p false true x y e fresh = not_fresh (phase_for (answer_in (stream_of (bytes_in w)).frames)) p (answer_not_fresh (answer_in (stream_of (bytes_in w)).frames)) e fresh
fresh_in w p false false x y e fresh = record { live = live_of w x; asked = y }

pub fresh_of : (d : Option Bool) (w : List Event) (p : Phase) → phase_in d w ≡ p → is_dialed p ≡ true → IsFresh d w
fresh_of None w p e fresh = not_fresh phase.Down p refl e fresh
fresh_of (Some true) w p e fresh = not_fresh phase.Down p refl e fresh
fresh_of (Some false) w p e fresh = fresh_in w p (is_ended w) (has is_ask w) refl refl e fresh
