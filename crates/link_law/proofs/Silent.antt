-- One event more that received no bytes.
use Rattle.std.proofs.Common.{◌≡◌, ℕ, ◌+◌, ◌≤◌, true, false, List, [], ◌∷◌, ◌++◌, Some, None, refl, sym, ◌∙◌, ap, subst, arith}
use Rattle.std.specs.Prelude.{Bool, Option, ◌&&◌, ◌||◌, not, nat_le, nat_lt, if◌then◌else◌}
use Rattle.std.proofs.lemmas.Bool.{le-ltb, false≢true}
use Rattle.std.proofs.lemmas.List.{append-nil}
use Rattle.std.proofs.Math.Bool.{or-true}
use Rattle.doip_frame.specs.Frame.{stream_of}
use Rattle.flash_plan.specs.declared.unit.LinkRules.{LinkRules}
use Rattle.flash_plan.specs.declared.unit.UnitPlan.{UnitPlan}
use Rattle.run_model.specs.Link.{Link, is_down, is_dialed, is_asked}
use Rattle.run_model.specs.Link as phase
use Rattle.run_model.specs.Ways.{messages_from}
use Rattle.bay_core.specs.LinkLaws.{phase_for}
use Rattle.bay_core.specs.declared.event.Event.{Event}
use Rattle.link_law.specs.Happened.{one, has, count, to_last}
use Rattle.link_law.specs.Kinds.{event_bytes, bytes_in, is_dial, is_ask, is_say, is_quiet, is_quiet_wait, is_failed_call, dial_of}
use Rattle.link_law.specs.Looked.{answer_in, is_broken, checks_of, unit_messages}
use Rattle.link_law.specs.Follows.{last_dial, since_dial, is_ended, is_loss, phase_in, is_owed, takes, taken, IsLinkOf}
use Rattle.link_law.proofs.Lists.{has_more, has_same, count_same, to_it, to_same, bytes_more, owed_more, brings}
use Rattle.link_law.proofs.Words.{IsKept, untaken}
use Rattle.link_law.proofs.Moving.{Stands, WordsMove, stands}

pub none_more : (n : ℕ) → n ≡ n + 0
none_more n = omega arith

-- the phase behind a call that failed
pub phase_failed : (d : Option Bool) (w : List Event) (x : Event) → is_failed_call x ≡ true → phase_in d (w ++ (x ∷ [])) ≡ phase.Down
phase_failed None w x failed = refl
phase_failed (Some true) w x failed = refl
phase_failed (Some false) w x failed =
    ap (λ (b : Bool). if b || is_broken (stream_of (bytes_in (w ++ (x ∷ [])))) || nat_le 1000 (count is_quiet_wait (w ++ (x ∷ []))) then phase.Down
    else if has is_ask (w ++ (x ∷ [])) then phase_for (answer_in (stream_of (bytes_in (w ++ (x ∷ [])))).frames) else phase.Dialed)
    (has_more is_failed_call x w ∙ ap (λ (b : Bool). has is_failed_call w || b) failed ∙ or-true (has is_failed_call w))

-- an event that is not a dial, nor received bytes
pub record IsSilent (x : Event) : Type 0 where
  pub no_dial : is_dial x ≡ false
  pub none : dial_of x ≡ None
  pub bytes : event_bytes x ≡ []

module _ (w : List Event) (x : Event) (silent : IsSilent x) where
  pub all_bytes : bytes_in w ++ event_bytes x ≡ bytes_in w
  all_bytes = ap (λ (bs : List ℕ). bytes_in w ++ bs) silent.bytes ∙ append-nil (bytes_in w)

  pub since_bytes : bytes_in (w ++ (x ∷ [])) ≡ bytes_in w
  since_bytes = bytes_more w x ∙ all_bytes

  -- no check comes without bytes
  none_brought : brings w x ≡ false
  none_brought = ap (λ (bs : List ℕ). nat_lt (checks_of (bytes_in w)) (checks_of bs)) all_bytes ∙ le-ltb (checks_of (bytes_in w)) (checks_of (bytes_in w)) (itself (checks_of (bytes_in w)))
    where
      itself : (n : ℕ) → n ≤ n
      itself n = omega arith

  pub owed_same : is_say x ≡ false → is_owed (w ++ (x ∷ [])) ≡ is_owed w
  owed_same no_say = owed_more [] w x ∙ (λ i. (is_owed w && not (no_say i)) || none_brought i) ∙ as_before (is_owed w)
    where
      as_before : (b : Bool) → ((b && true) || false) ≡ b
      as_before true = refl
      as_before false = refl

  pub owed_none : is_say x ≡ true → is_owed (w ++ (x ∷ [])) ≡ false
  owed_none say = owed_more [] w x ∙ (λ i. (is_owed w && not (say i)) || none_brought i) ∙ none_left (is_owed w)
    where
      none_left : (b : Bool) → ((b && false) || false) ≡ false
      none_left true = refl
      none_left false = refl

  -- no call that failed
  pub ended_more : is_failed_call x ≡ false → is_ended (w ++ (x ∷ [])) ≡ (has is_failed_call w || is_broken (stream_of (bytes_in w)) || nat_le 1000 (count is_quiet_wait (w ++ (x ∷ []))))
  ended_more works = λ i. has_same is_failed_call x works w i || is_broken (stream_of (since_bytes i)) || nat_le 1000 (count is_quiet_wait (w ++ (x ∷ [])))

  pub phase_same : (d : Option Bool) → is_failed_call x ≡ false → is_quiet_wait x ≡ false → is_ask x ≡ false → phase_in d (w ++ (x ∷ [])) ≡ phase_in d w
  phase_same None works no_wait no_ask = refl
  phase_same (Some true) works no_wait no_ask = refl
  phase_same (Some false) works no_wait no_ask = λ i.
      if (ended_more works ∙ ap (λ (n : ℕ). has is_failed_call w || is_broken (stream_of (bytes_in w)) || nat_le 1000 n) (count_same is_quiet_wait x no_wait w)) i then phase.Down
      else if has_same is_ask x no_ask w i then phase_for (answer_in (stream_of (since_bytes i)).frames) else phase.Dialed

module _ (rules : LinkRules) (P : List UnitPlan) (es : List Event) (x : Event) (silent : IsSilent x) where
  pub untaken_words : (l l2 : Link) → ((a : ℕ) → takes rules.tester P a (since_dial es) x ≡ false) → IsLinkOf rules P es l → l2.inbox ≡ l.inbox → WordsMove rules P es x l2
  untaken_words l l2 takes_none is inbox = record {
    known = λ a known. subst (λ (b : Bool). IsKept (messages_from a l2.inbox) (taken rules.tester P a (since_dial es)) b (unit_messages rules.tester a (bytes_in (since_dial es) ++ event_bytes x))) (sym (takes_none a))
        (subst (λ (bs : List ℕ). IsKept (messages_from a l2.inbox) (taken rules.tester P a (since_dial es)) false (unit_messages rules.tester a bs)) (sym (all_bytes (since_dial es) x silent))
        (untaken (messages_from a l2.inbox) (taken rules.tester P a (since_dial es)) (unit_messages rules.tester a (bytes_in (since_dial es))) (is.came a known) (ap (messages_from a) inbox ∙ is.inbox a known)));
    others = λ a unknown. ap (messages_from a) inbox ∙ is.others a unknown;
  }

  pub asked_same : (l : Link) → is_ask x ≡ false → IsLinkOf rules P es l → l.asked ≡ count is_quiet (to_last is_ask (es ++ (x ∷ [])))
  asked_same l no_ask is = is.asked ∙ ap (count is_quiet) (sym (to_same is_ask x no_ask es))

  pub unasked_same : {l : Link} → is_ask x ≡ false → IsLinkOf rules P es l → has is_ask (since_dial es ++ (x ∷ [])) ≡ false → bytes_in (since_dial es) ++ event_bytes x ≡ []
  unasked_same {l} no_ask is none_asked = all_bytes (since_dial es) x silent ∙ is.unasked (sym (has_same is_ask x no_ask (since_dial es)) ∙ none_asked)

  pub asked_now : (l : Link) → is_ask x ≡ true → is_quiet x ≡ false → IsLinkOf rules P es l → l.ticks ≡ count is_quiet (to_last is_ask (es ++ (x ∷ [])))
  asked_now l ask no_quiet is = is.ticks ∙ sym (count_same is_quiet x no_quiet es) ∙ ap (count is_quiet) (sym (to_it is_ask x ask es))

  -- ------ an event that leaves the phase as it is
  pub record Keeps (l l2 : Link) : Type 0 where
    pub works : is_failed_call x ≡ false
    pub no_wait : is_quiet_wait x ≡ false
    pub no_ask : is_ask x ≡ false
    pub no_loss : is_loss es x ≡ false
    pub calm : l.phase ≡ phase.Asked → is_quiet x ≡ false
    pub phase : l2.phase ≡ l.phase
    pub losses : l2.losses ≡ l.losses
    pub got : l2.got ≡ l.got
    pub rest : l2.rest ≡ l.rest
    pub asked : l2.asked ≡ l.asked
    pub ticks : l2.ticks ≡ l.ticks + one (is_quiet x)
    pub owes : l2.owes ≡ is_owed (since_dial es ++ (x ∷ []))
    pub words : WordsMove rules P es x l2

  pub keeps : (l l2 : Link) → Stands rules P es l → Keeps l l2 → Stands rules P (es ++ (x ∷ [])) l2
  keeps l l2 s k = stands rules P es x silent.no_dial silent.none l l2 s (record {
    got = k.got ∙ s.link.bytes ∙ sym (all_bytes (since_dial es) x silent);
    rest = k.rest ∙ s.link.rest ∙ ap (λ (bs : List ℕ). (stream_of bs).rest) (sym (all_bytes (since_dial es) x silent));
    phase = k.phase ∙ s.link.phase ∙ sym (phase_same (since_dial es) x silent (last_dial es) k.works k.no_wait k.no_ask);
    ticks = k.ticks;
    asked = k.asked ∙ asked_same l k.no_ask s.link;
    losses = k.losses ∙ none_more l.losses ∙ ap (λ (b : Bool). l.losses + one b) (sym k.no_loss);
    dials = λ i. k.losses i + one (not (is_down (k.phase i)));
    owes = k.owes;
    unasked = unasked_same k.no_ask s.link;
    words = k.words;
  }) (λ e. sym (waits_same (count is_quiet_wait (since_dial es))) ∙ s.fresh (sym k.phase ∙ e))
      (λ e. k.ticks ∙ ap (λ (b : Bool). l.ticks + one b) (k.calm (sym k.phase ∙ e)) ∙ sym (none_more l.ticks) ∙ s.waits (sym k.phase ∙ e) ∙ (λ i. sym k.asked i + waits_same (count is_quiet_wait (since_dial es)) i))
    where
      waits_same : (n : ℕ) → n ≡ n + one (is_quiet_wait x)
      waits_same n = none_more n ∙ ap (λ (b : Bool). n + one b) (sym k.no_wait)

  -- ------ a call that failed
  pub record Fails (l l2 : Link) : Type 0 where
    pub failed : is_failed_call x ≡ true
    pub no_quiet : is_quiet x ≡ false
    pub loss : is_loss es x ≡ true
    pub stood : is_down l.phase ≡ false
    pub phase : l2.phase ≡ phase.Down
    pub losses : l2.losses ≡ l.losses + 1
    pub got : l2.got ≡ l.got
    pub rest : l2.rest ≡ l.rest
    pub ticks : l2.ticks ≡ l.ticks
    pub asked : l2.asked ≡ count is_quiet (to_last is_ask (es ++ (x ∷ [])))
    pub owes : l2.owes ≡ is_owed (since_dial es ++ (x ∷ []))
    pub unasked : has is_ask (since_dial es ++ (x ∷ [])) ≡ false → bytes_in (since_dial es) ++ event_bytes x ≡ []
    pub words : WordsMove rules P es x l2

  pub fails : (l l2 : Link) → Stands rules P es l → Fails l l2 → Stands rules P (es ++ (x ∷ [])) l2
  fails l l2 s k = stands rules P es x silent.no_dial silent.none l l2 s (record {
    got = k.got ∙ s.link.bytes ∙ sym (all_bytes (since_dial es) x silent);
    rest = k.rest ∙ s.link.rest ∙ ap (λ (bs : List ℕ). (stream_of bs).rest) (sym (all_bytes (since_dial es) x silent));
    phase = k.phase ∙ sym (phase_failed (last_dial es) (since_dial es) x k.failed);
    ticks = k.ticks ∙ none_more l.ticks ∙ ap (λ (b : Bool). l.ticks + one b) (sym k.no_quiet);
    asked = k.asked;
    losses = k.losses ∙ ap (λ (b : Bool). l.losses + one b) (sym k.loss);
    dials = (λ i. k.losses i + one (not (is_down (k.phase i)))) ∙ moved_one l.losses ∙ ap (λ (b : Bool). l.losses + one (not b)) (sym k.stood);
    owes = k.owes;
    unasked = k.unasked;
    words = k.words;
  }) (λ e. absurd (false≢true (ap is_dialed (sym k.phase ∙ e)))) (λ e. absurd (false≢true (ap is_asked (sym k.phase ∙ e))))
    where
      moved_one : (n : ℕ) → (n + 1) + 0 ≡ n + 1
      moved_one n = omega arith
