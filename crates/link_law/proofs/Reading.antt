-- What the frames of a piece do to an open link, by the frames that are looked at.
use Rattle.std.proofs.Common.{◌≡◌, inl, inr, ℕ, ◌+◌, true, false, List, [], ◌∷◌, ◌++◌, Some, None, refl, sym, ◌∙◌, ap, subst, append_assoc, arith}
use Rattle.std.specs.Prelude.{Bool, Option, ◌==◌, ◌&&◌, ◌||◌, not, is_some, nat_lt, if◌then◌else◌}
use Rattle.std.proofs.lemmas.Bool.{cases_Bool, both_ways, eqb-true}
use Rattle.std.proofs.lemmas.List.{append-nil}
use Rattle.std.proofs.Math.Bool.{or-false, or-true, or_assoc}
use Rattle.doip_frame.specs.declared.frame.Bad.{Bad}
use Rattle.doip_frame.specs.declared.frame.Frame.{Frame}
use Rattle.doip_frame.specs.declared.frame.Frame.TheVariants.{HeaderNack, Activate, Activated, AliveAsk, AliveSay, Message, Ack, Nack, Other}
use Rattle.run_model.proofs.Pieces.{kept}
use Rattle.run_model.proofs.Sees.{stays}
use Rattle.run_model.proofs.Words.{words_more, from_more}
use Rattle.run_model.specs.Link.{Link, Phase, is_open, is_asked, is_known, drop_link, keep_message, see, see_frame, see_all, see_end}
use Rattle.run_model.specs.Link as phase
use Rattle.run_model.specs.Ways.{UnitMessage, Reply, Nacked, messages_from, message_in, messages_in}
use Rattle.bay_core.specs.LinkLaws.{refuses_header, phase_for}
use Rattle.link_law.specs.Happened.{one}
use Rattle.link_law.specs.Looked.{before_refusal, before_answer, answer_in, is_denial, looked_at, checks_in}
use Rattle.link_law.proofs.Frames.{checks_more}

-- the frames that were looked at, and the phase and the losses behind them
pub record Reads (tester : ℕ) (units : List ℕ) (l m : Link) (fs : List Frame) (p : Phase) (lost : Bool) : Type 0 where
  pub phase : m.phase ≡ p
  pub losses : m.losses ≡ l.losses + one lost
  pub ticks : m.ticks ≡ l.ticks
  pub asked : m.asked ≡ l.asked
  pub got : m.got ≡ l.got
  pub rest : m.rest ≡ l.rest
  pub owes : m.owes ≡ (l.owes || nat_lt 0 (checks_in fs))
  pub words : (a : ℕ) → is_known units a ≡ true → messages_from a m.inbox ≡ messages_from a l.inbox ++ messages_in tester a fs
  pub others : (a : ℕ) → is_known units a ≡ false → messages_from a m.inbox ≡ messages_from a l.inbox

or_more : (a : Bool) (m n : ℕ) → ((a || nat_lt 0 m) || nat_lt 0 n) ≡ (a || nat_lt 0 (m + n))
or_more a m n = ap (λ (b : Bool). b) (or_assoc a (nat_lt 0 m) (nat_lt 0 n)) ∙ ap (λ (b : Bool). a || b) (positive m n)
  where
    positive : (m n : ℕ) → (nat_lt 0 m || nat_lt 0 n) ≡ nat_lt 0 (m + n)
    positive m n = grind arith

add_none : (n : ℕ) → n ≡ n + 0
add_none n = omega arith

-- one frame that is looked at, and no refusal and no first answer
module _ (tester : ℕ) (units : List ℕ) where
  pub none_read : (l : Link) → Reads tester units l l [] l.phase false
  none_read l = record {
    phase = refl;
    losses = add_none l.losses;
    ticks = refl;
    asked = refl;
    got = refl;
    rest = refl;
    owes = sym (or-false l.owes);
    words = λ a known. sym (append-nil (messages_from a l.inbox));
    others = λ a unknown. refl;
  }

  -- frames that change nothing at all
  nothing : (f : Frame) (l : Link) → checks_in (f ∷ []) ≡ 0 → ((a : ℕ) → message_in tester a f ≡ []) → Reads tester units l l (f ∷ []) l.phase false
  nothing f l no_check no_word = record {
    phase = refl;
    losses = add_none l.losses;
    ticks = refl;
    asked = refl;
    got = refl;
    rest = refl;
    owes = sym (or-false l.owes) ∙ ap (λ (n : ℕ). l.owes || nat_lt 0 n) (sym no_check);
    words = λ a known. sym (append-nil (messages_from a l.inbox)) ∙ ap (λ (ws : List UnitMessage). messages_from a l.inbox ++ (ws ++ [])) (sym (no_word a));
    others = λ a unknown. refl;
  }

  -- a message
  module _ (source target : ℕ) (word : UnitMessage) (l : Link) where
    record WordKeeps (m : Link) : Type 0 where
      phase : m.phase ≡ l.phase
      losses : m.losses ≡ l.losses
      ticks : m.ticks ≡ l.ticks
      asked : m.asked ≡ l.asked
      got : m.got ≡ l.got
      rest : m.rest ≡ l.rest
      owes : m.owes ≡ l.owes

    keeps : (b : Bool) → WordKeeps (keep_message b source word l)
    keeps true = record { phase = refl; losses = refl; ticks = refl; asked = refl; got = refl; rest = refl; owes = refl }
    keeps false = record { phase = refl; losses = refl; ticks = refl; asked = refl; got = refl; rest = refl; owes = refl }

    -- a message of an address of no unit goes to no inbox
    other_word : (a : ℕ) → is_known units a ≡ false → messages_from a (keep_message (target == tester && is_known units source) source word l).inbox ≡ messages_from a l.inbox
    other_word a unknown = elim (cases_Bool (target == tester)) [
      | inr e ↦ rw e refl
      | inl e ↦ elim (cases_Bool (is_known units source)) [
        | inr h ↦ rw (e, h) refl
        | inl h ↦ elim (cases_Bool (source == a)) [
          | inl f ↦ absurd (both_ways _ unknown (ap (is_known units) (sym (eqb-true source a f)) ∙ h))
          | inr f ↦ rw (e, h) (from_more a l.inbox ((source, word) ∷ []) ∙ rw f (append-nil (messages_from a l.inbox)))
        ]
      ]
    ]

    message : (f : Frame) → checks_in (f ∷ []) ≡ 0 → ((a : ℕ) → message_in tester a f ≡ (if target == tester && source == a then word ∷ [] else []))
        → Reads tester units l (keep_message (target == tester && is_known units source) source word l) (f ∷ []) l.phase false
    message f no_check is =
        let k : WordKeeps (keep_message (target == tester && is_known units source) source word l) = keeps (target == tester && is_known units source) in
        record {
          phase = k.phase;
          losses = k.losses ∙ add_none l.losses;
          ticks = k.ticks;
          asked = k.asked;
          got = k.got;
          rest = k.rest;
          owes = k.owes ∙ sym (or-false l.owes) ∙ ap (λ (n : ℕ). l.owes || nat_lt 0 n) (sym no_check);
          words = λ a known. kept tester units a known source target word l ∙ ap (λ (ws : List UnitMessage). messages_from a l.inbox ++ ws) (sym (append-nil (message_in tester a f) ∙ is a));
          others = λ a unknown. other_word a unknown;
        }

  -- a frame that is neither a refused header nor an answer to the activation
  abbrev IsPlain : Frame → Type 0
  IsPlain f = (l : Link) → Reads tester units l (see_frame tester units f l) (f ∷ []) l.phase false

  alive_ask : IsPlain AliveAsk
  alive_ask l = record {
    phase = refl;
    losses = add_none l.losses;
    ticks = refl;
    asked = refl;
    got = refl;
    rest = refl;
    owes = sym (or-true l.owes);
    words = λ a known. sym (append-nil (messages_from a l.inbox));
    others = λ a unknown. refl;
  }

  -- one part behind another
  pub then_reads : (l m n : Link) (fs gs : List Frame) (p q : Phase) (lost : Bool) → Reads tester units l m fs p false → Reads tester units m n gs q lost → Reads tester units l n (fs ++ gs) q lost
  then_reads l m n fs gs p q lost x y = record {
    phase = y.phase;
    losses = y.losses ∙ ap (λ (k : ℕ). k + one lost) (x.losses ∙ sym (add_none l.losses));
    ticks = y.ticks ∙ x.ticks;
    asked = y.asked ∙ x.asked;
    got = y.got ∙ x.got;
    rest = y.rest ∙ x.rest;
    owes = y.owes ∙ ap (λ (b : Bool). b || nat_lt 0 (checks_in gs)) x.owes ∙ or_more l.owes (checks_in fs) (checks_in gs) ∙ ap (λ (k : ℕ). l.owes || nat_lt 0 k) (sym (checks_more fs gs));
    words = λ a known. y.words a known ∙ ap (λ (ws : List UnitMessage). ws ++ messages_in tester a gs) (x.words a known) ∙ append_assoc (messages_from a l.inbox) (messages_in tester a fs) (messages_in tester a gs)
        ∙ ap (λ (ws : List UnitMessage). messages_from a l.inbox ++ ws) (sym (words_more tester a fs gs));
    others = λ a unknown. y.others a unknown ∙ x.others a unknown;
  }

  -- ------ once the activation was accepted
  opened : (f : Frame) (l : Link) → is_open l.phase ≡ true → see tester units f l ≡ see_frame tester units f l
  opened f l is = ap (λ (b : Bool). if b then see_frame tester units f l else l) is

  -- a plain frame, and others behind it
  next : (f : Frame) (fs gs : List Frame) (l : Link) (p q : Phase) (lost : Bool) → is_open l.phase ≡ true → l.phase ≡ p → Reads tester units l (see_frame tester units f l) (f ∷ []) l.phase false
      → ((m : Link) → m.phase ≡ p → Reads tester units m (see_all tester units fs m) gs q lost) → Reads tester units l (see_all tester units (f ∷ fs) l) (f ∷ gs) q lost
  next f fs gs l p q lost is here one more =
      subst (λ (m : Link). Reads tester units l (see_all tester units fs m) (f ∷ gs) q lost) (sym (opened f l is))
      (then_reads l (see_frame tester units f l) (see_all tester units fs (see_frame tester units f l)) (f ∷ []) gs l.phase q lost one (more (see_frame tester units f l) (one.phase ∙ here)))

  dropped : (l : Link) → Reads tester units l (drop_link l) [] phase.Down true
  dropped l = record {
    phase = refl;
    losses = refl;
    ticks = refl;
    asked = refl;
    got = refl;
    rest = refl;
    owes = sym (or-false l.owes);
    words = λ a known. sym (append-nil (messages_from a l.inbox));
    others = λ a unknown. refl;
  }

  refused : (code : ℕ) (fs : List Frame) (l : Link) → is_open l.phase ≡ true → Reads tester units l (see_all tester units (HeaderNack code ∷ fs) l) [] phase.Down true
  refused code fs l is =
      subst (λ (m : Link). Reads tester units l m [] phase.Down true) (sym (ap (see_all tester units fs) (opened (HeaderNack code) l is) ∙ stays tester units fs (drop_link l) refl)) (dropped l)

  abbrev up_phase : Bool → Phase
  up_phase lost = if lost then phase.Down else phase.Up

  pub up_reads : (fs : List Frame) (l : Link) → l.phase ≡ phase.Up → Reads tester units l (see_all tester units fs l) (before_refusal fs) (up_phase (refuses_header fs)) (refuses_header fs)
  up_reads [] l up = subst (λ (p : Phase). Reads tester units l l [] p false) up (none_read l)
  up_reads (HeaderNack code ∷ fs) l up = refused code fs l (ap is_open up)
  up_reads (Activated t entity code oem ∷ fs) l up = next (Activated t entity code oem) fs (before_refusal fs) l phase.Up _ (refuses_header fs) (ap is_open up) up
      (subst (λ (m : Link). Reads tester units l m (Activated t entity code oem ∷ []) l.phase false) (sym (ap (λ (b : Bool). if b then record l { phase = if code == 16 then phase.Up else phase.Refused code } else l) (ap is_asked up))) (nothing (Activated t entity code oem) l refl (λ a. refl))) (up_reads fs)
  up_reads (AliveAsk ∷ fs) l up = next AliveAsk fs (before_refusal fs) l phase.Up _ (refuses_header fs) (ap is_open up) up (alive_ask l) (up_reads fs)
  up_reads (Message source target body ∷ fs) l up = next (Message source target body) fs (before_refusal fs) l phase.Up _ (refuses_header fs) (ap is_open up) up
      (message source target (Reply body) l (Message source target body) refl (λ a. refl)) (up_reads fs)
  up_reads (Nack source target code old ∷ fs) l up = next (Nack source target code old) fs (before_refusal fs) l phase.Up _ (refuses_header fs) (ap is_open up) up
      (message source target (Nacked code) l (Nack source target code old) refl (λ a. refl)) (up_reads fs)
  up_reads (Activate source kind oem ∷ fs) l up = next (Activate source kind oem) fs (before_refusal fs) l phase.Up _ (refuses_header fs) (ap is_open up) up (nothing (Activate source kind oem) l refl (λ a. refl)) (up_reads fs)
  up_reads (AliveSay source ∷ fs) l up = next (AliveSay source) fs (before_refusal fs) l phase.Up _ (refuses_header fs) (ap is_open up) up (nothing (AliveSay source) l refl (λ a. refl)) (up_reads fs)
  up_reads (Ack source target code old ∷ fs) l up = next (Ack source target code old) fs (before_refusal fs) l phase.Up _ (refuses_header fs) (ap is_open up) up (nothing (Ack source target code old) l refl (λ a. refl)) (up_reads fs)
  up_reads (Other kind payload ∷ fs) l up = next (Other kind payload) fs (before_refusal fs) l phase.Up _ (refuses_header fs) (ap is_open up) up (nothing (Other kind payload) l refl (λ a. refl)) (up_reads fs)

  -- ------ while it is awaited
  abbrev pub lost_by : List Frame → Bool
  lost_by fs = not (is_denial (answer_in fs)) && refuses_header fs

  abbrev pub phase_by : List Frame → Phase
  phase_by fs = if lost_by fs then phase.Down else phase_for (answer_in fs)

  -- an answer of this code
  answered : (t entity code : ℕ) (oem : Option ℕ) (l : Link) → l.phase ≡ phase.Asked → see tester units (Activated t entity code oem) l ≡ record l { phase = if code == 16 then phase.Up else phase.Refused code }
  answered t entity code oem l waits =
      opened (Activated t entity code oem) l (ap is_open waits) ∙ ap (λ (b : Bool). if b then record l { phase = if code == 16 then phase.Up else phase.Refused code } else l) (ap is_asked waits)

  in_phase : (l : Link) (p : Phase) (fs : List Frame) → checks_in fs ≡ 0 → ((a : ℕ) → messages_in tester a fs ≡ []) → Reads tester units l (record l { phase = p }) fs p false
  in_phase l p fs no_check no_word = record {
    phase = refl;
    losses = add_none l.losses;
    ticks = refl;
    asked = refl;
    got = refl;
    rest = refl;
    owes = sym (or-false l.owes) ∙ ap (λ (n : ℕ). l.owes || nat_lt 0 n) (sym no_check);
    words = λ a known. sym (append-nil (messages_from a l.inbox)) ∙ ap (λ (ws : List UnitMessage). messages_from a l.inbox ++ ws) (sym (no_word a));
    others = λ a unknown. refl;
  }

  -- what an answer that accepts, or does not, leaves of the frames behind it
  abbrev By : Link → Link → Frame → List Frame → ℕ → Bool → Type 0
  By l m f fs code ten = Reads tester units l m (if not ten then [] else f ∷ before_refusal fs) (if not (not ten) && refuses_header fs then phase.Down else (if ten then phase.Up else phase.Refused code)) (not (not ten) && refuses_header fs)

  accepted : (t entity code : ℕ) (oem : Option ℕ) (fs : List Frame) (l : Link) → l.phase ≡ phase.Asked → (code == 16) ≡ true
      → Reads tester units l (see_all tester units (Activated t entity code oem ∷ fs) l) (looked_at (Activated t entity code oem ∷ fs)) (phase_by (Activated t entity code oem ∷ fs)) (lost_by (Activated t entity code oem ∷ fs))
  accepted t entity code oem fs l waits ten =
      let is : see tester units (Activated t entity code oem) l ≡ record l { phase = phase.Up } = answered t entity code oem l waits ∙ ap (λ (b : Bool). record l { phase = if b then phase.Up else phase.Refused code }) ten in
      let both : Reads tester units l (see_all tester units fs (record l { phase = phase.Up })) (Activated t entity code oem ∷ before_refusal fs) (up_phase (refuses_header fs)) (refuses_header fs) =
      then_reads l (record l { phase = phase.Up }) (see_all tester units fs (record l { phase = phase.Up })) (Activated t entity code oem ∷ []) (before_refusal fs) phase.Up (up_phase (refuses_header fs)) (refuses_header fs)
      (in_phase l phase.Up (Activated t entity code oem ∷ []) refl (λ a. refl)) (up_reads fs (record l { phase = phase.Up }) refl) in
      subst (By l (see_all tester units (Activated t entity code oem ∷ fs) l) (Activated t entity code oem) fs code) (sym ten)
      (subst (λ (m : Link). Reads tester units l (see_all tester units fs m) (Activated t entity code oem ∷ before_refusal fs) (up_phase (refuses_header fs)) (refuses_header fs)) (sym is) both)

  denied : (t entity code : ℕ) (oem : Option ℕ) (fs : List Frame) (l : Link) → l.phase ≡ phase.Asked → (code == 16) ≡ false
      → Reads tester units l (see_all tester units (Activated t entity code oem ∷ fs) l) (looked_at (Activated t entity code oem ∷ fs)) (phase_by (Activated t entity code oem ∷ fs)) (lost_by (Activated t entity code oem ∷ fs))
  denied t entity code oem fs l waits other =
      let is : see tester units (Activated t entity code oem) l ≡ record l { phase = phase.Refused code } = answered t entity code oem l waits ∙ ap (λ (b : Bool). record l { phase = if b then phase.Up else phase.Refused code }) other in
      let whole : see_all tester units (Activated t entity code oem ∷ fs) l ≡ record l { phase = phase.Refused code } = ap (see_all tester units fs) is ∙ stays tester units fs (record l { phase = phase.Refused code }) refl in
      subst (By l (see_all tester units (Activated t entity code oem ∷ fs) l) (Activated t entity code oem) fs code) (sym other)
      (subst (λ (m : Link). Reads tester units l m [] (phase.Refused code) false) (sym whole) (in_phase l (phase.Refused code) [] refl (λ a. refl)))

  -- a plain frame in front
  cons_either : (b : Bool) (f : Frame) (x y : List Frame) → f ∷ (if b then x else y) ≡ (if b then f ∷ x else f ∷ y)
  cons_either true f x y = refl
  cons_either false f x y = refl

  waits_next : (f : Frame) (fs : List Frame) (l : Link) → l.phase ≡ phase.Asked → Reads tester units l (see_frame tester units f l) (f ∷ []) l.phase false
      → ((m : Link) → m.phase ≡ phase.Asked → Reads tester units m (see_all tester units fs m) (looked_at fs) (phase_by fs) (lost_by fs))
      → Reads tester units l (see_all tester units (f ∷ fs) l) (if is_denial (answer_in fs) then f ∷ before_answer fs else f ∷ before_refusal fs) (phase_by fs) (lost_by fs)
  waits_next f fs l waits one more =
      subst (λ (gs : List Frame). Reads tester units l (see_all tester units (f ∷ fs) l) gs (phase_by fs) (lost_by fs)) (cons_either (is_denial (answer_in fs)) f (before_answer fs) (before_refusal fs))
      (next f fs (looked_at fs) l phase.Asked (phase_by fs) (lost_by fs) (ap is_open waits) waits one more)

  pub waits_reads : (fs : List Frame) (l : Link) → l.phase ≡ phase.Asked → Reads tester units l (see_all tester units fs l) (looked_at fs) (phase_by fs) (lost_by fs)
  waits_reads [] l waits = subst (λ (p : Phase). Reads tester units l l [] p false) waits (none_read l)
  waits_reads (HeaderNack code ∷ fs) l waits = refused code fs l (ap is_open waits)
  waits_reads (Activated t entity code oem ∷ fs) l waits = elim (cases_Bool (code == 16)) [ inl e ↦ accepted t entity code oem fs l waits e | inr e ↦ denied t entity code oem fs l waits e ]
  waits_reads (AliveAsk ∷ fs) l waits = waits_next AliveAsk fs l waits (alive_ask l) (waits_reads fs)
  waits_reads (Message source target body ∷ fs) l waits = waits_next (Message source target body) fs l waits (message source target (Reply body) l (Message source target body) refl (λ a. refl)) (waits_reads fs)
  waits_reads (Nack source target code old ∷ fs) l waits = waits_next (Nack source target code old) fs l waits (message source target (Nacked code) l (Nack source target code old) refl (λ a. refl)) (waits_reads fs)
  waits_reads (Activate source kind oem ∷ fs) l waits = waits_next (Activate source kind oem) fs l waits (nothing (Activate source kind oem) l refl (λ a. refl)) (waits_reads fs)
  waits_reads (AliveSay source ∷ fs) l waits = waits_next (AliveSay source) fs l waits (nothing (AliveSay source) l refl (λ a. refl)) (waits_reads fs)
  waits_reads (Ack source target code old ∷ fs) l waits = waits_next (Ack source target code old) fs l waits (nothing (Ack source target code old) l refl (λ a. refl)) (waits_reads fs)
  waits_reads (Other kind payload ∷ fs) l waits = waits_next (Other kind payload) fs l waits (nothing (Other kind payload) l refl (λ a. refl)) (waits_reads fs)

  -- ------ what stands behind the last whole frame
  pub end_shut : (bad : Option Bad) (l m : Link) (fs : List Frame) (p : Phase) (lost : Bool) → is_open p ≡ false → Reads tester units l m fs p lost → Reads tester units l (see_end bad m) fs p lost
  end_shut None l m fs p lost shut r = r
  end_shut (Some bad) l m fs p lost shut r =
      let stay : see_end (Some bad) m ≡ m = ap (λ (b : Bool). if b then drop_link m else m) (ap is_open r.phase ∙ shut) in
      subst (λ (x : Link). Reads tester units l x fs p lost) (sym stay) r

  pub end_open : (bad : Option Bad) (l m : Link) (fs : List Frame) (p : Phase) → is_open p ≡ true → Reads tester units l m fs p false → Reads tester units l (see_end bad m) fs (if is_some bad then phase.Down else p) (is_some bad)
  end_open None l m fs p open_now r = r
  end_open (Some bad) l m fs p open_now r =
      let gone : see_end (Some bad) m ≡ drop_link m = ap (λ (b : Bool). if b then drop_link m else m) (ap is_open r.phase ∙ open_now) in
      subst (λ (x : Link). Reads tester units l x fs phase.Down true) (sym gone) (record {
        phase = refl;
        losses = ap (λ (n : ℕ). n + 1) (r.losses ∙ sym (add_none l.losses));
        ticks = r.ticks;
        asked = r.asked;
        got = r.got;
        rest = r.rest;
        owes = r.owes;
        words = r.words;
        others = r.others;
      })
