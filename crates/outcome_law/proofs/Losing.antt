-- Losses of the link are covered by faults and by activations that were not answered in time; a denial was counted.
use Rattle.std.proofs.Common.{◌≡◌, ◌⊎◌, inl, inr, ℕ, zero, suc, ◌+◌, ◌<◌, ◌≤◌, true, false, List, [], ◌∷◌, ◌++◌, length, Some, None, refl, sym, ◌∙◌, ap, subst, arith, append_assoc, length-append}
use Rattle.std.specs.Prelude.{Option, ◌==◌, is_some, unwrap_or}
use Rattle.std.proofs.lemmas.Bool.{cases_Bool, false≢true, both_ways, and_parts, eqb-true, eq-eqb}
use Rattle.std.proofs.lemmas.List.{append-nil}
use Rattle.bay_core.proofs.LinkLaws.{link_laws, code_more}
use Rattle.bay_core.proofs.Links.{heard_steps}
use Rattle.bay_core.proofs.Piecing.{frames_first, after_same, got_frames}
use Rattle.bay_core.specs.Core.{addresses_of}
use Rattle.bay_core.specs.LinkLaws.{refuses_header, first_code, phase_for}
use Rattle.bay_core.specs.declared.event.Event.TheVariants.{Tended}
use Rattle.bay_core.specs.declared.event.Heard.TheVariants.{Piece}
use Rattle.bay_core.specs.declared.event.Tend.TheVariants.{Polled}
use Rattle.doip_frame.proofs.Streams.{Shortens, shortens, Grows as CutGrows, grows, enough, split}
use Rattle.doip_frame.specs.Frame.{Cut, Partial, Wrong, Whole, cut_frame, frame_of, Stream, stream_of, stream_in, stream_after, with_frame}
use Rattle.doip_frame.specs.declared.frame.Bad.{Bad}
use Rattle.doip_frame.specs.declared.frame.Frame.TheVariants.{HeaderNack, Activate, Activated, AliveAsk, AliveSay, Message, Ack, Nack, Other}
use Rattle.doip_frame.specs.declared.frame.Frame.{Frame}
use Rattle.flash_base.specs.Lists.{Each, BeginsWith, same_bytes}
use Rattle.flash_plan.specs.declared.unit.LinkRules.{LinkRules}
use Rattle.flash_plan.specs.declared.unit.UnitPlan.{UnitPlan}
use Rattle.run_model.proofs.Sees.{piece_keeps, piece_lives}
use Rattle.run_model.specs.Connected.{IsConnected, accepts}
use Rattle.run_model.specs.Link.{Link, Phase, is_live, is_open, is_up, is_asked, see_all, see_end, hear_piece, quiet_link, polled_quiet, unanswered}
use Rattle.run_model.specs.Link as phase
use Rattle.unit_model.specs.Poll.{IsShown, IsPlain, IsSeen, ticked}
use Rattle.unit_model.specs.Vehicle.{Vehicle}
use Rattle.outcome_law.proofs.Fairness.{fair_front, fair_back, fair_on, ticked_fair}
use Rattle.outcome_law.proofs.Growing.{VehicleGrows, rose_then, up_then}
use Rattle.outcome_law.specs.LinkCounting.{is_garbled, fault_of, has_answer, IsFairFrame, AreFair, IsPhaseCounted, IsLinkCounted}
use Rattle.outcome_law.specs.Rising.{RoseBy, Rose, Grows}
use Rattle.run_model.proofs.Phases.{asked_is, asked_open, open_live}
use Rattle.outcome_law.proofs.Silence.{rest_frames}

-- ------ bytes
bytes_same : (xs ys : List ℕ) → same_bytes xs ys ≡ true → xs ≡ ys
bytes_same [] [] e = refl
bytes_same [] (y ∷ ys) e = absurd (false≢true e)
bytes_same (x ∷ xs) [] e = absurd (false≢true e)
bytes_same (x ∷ xs) (y ∷ ys) e = let p = and_parts (x == y) (same_bytes xs ys) e in λ i. eqb-true x y p.0 i ∷ bytes_same xs ys p.1 i

-- a refusal stays one, whatever comes behind it
bad_in : (n : ℕ) (a b : List ℕ) (bad : Bad) → length a < n → (stream_in n a).bad ≡ Some bad → (stream_of (a ++ b)).bad ≡ Some bad
bad_in zero a b bad lt e = absurd (omega (arith, lt))
bad_in (suc n) a b bad lt e = go (λ rest short is. bad_in n rest b bad (omega (arith, short, lt)) is) (cut_frame a) (shortens a) (grows a b) e
  where
    go : ((rest : List ℕ) → length rest < length a → (stream_in n rest).bad ≡ Some bad → (stream_of (rest ++ b)).bad ≡ Some bad)
        → (cut : Cut) → Shortens cut (length a) → CutGrows cut (cut_frame (a ++ b)) b → (stream_after cut (stream_in n) a).bad ≡ Some bad → (stream_of (a ++ b)).bad ≡ Some bad
    go again Partial short grow e = absurd (false≢true (ap (is_some {T = Bad}) e))
    go again (Wrong wrong) short grow e = ap (λ (c : Cut). (stream_after c (stream_in (length (a ++ b))) (a ++ b)).bad) grow ∙ e
    go again (Whole kind payload rest) short grow e =
        let here : stream_of (a ++ b) ≡ with_frame (frame_of kind payload) (stream_in (length (a ++ b)) (rest ++ b)) = ap (λ c. stream_after c (stream_in (length (a ++ b))) (a ++ b)) grow in
        let same : stream_in (length (a ++ b)) (rest ++ b) ≡ stream_of (rest ++ b) = enough (length (a ++ b)) (suc (length (rest ++ b))) (rest ++ b) (omega (arith, short, length-append a b, length-append rest b)) (omega arith) in
        ap (λ (s : Stream). s.bad) (here ∙ ap (with_frame (frame_of kind payload)) same) ∙ again rest short e

none_bad : (a b : List ℕ) → (stream_of (a ++ b)).bad ≡ None → (stream_of a).bad ≡ None
none_bad a b good = go (stream_of a).bad refl
  where
    go : (o : Option Bad) → (stream_of a).bad ≡ o → o ≡ None
    go None e = refl
    go (Some bad) e = absurd (false≢true (ap (is_some {T = Bad}) (sym good ∙ bad_in (suc (length a)) a b bad (omega arith) e)))

module _ (tester : ℕ) (l : Link) (v : Vehicle) (c : IsConnected tester l v.gateway) where
  none_whole : v.gateway.ready ≡ [] → (stream_of (l.rest ++ v.gateway.ready)).frames ≡ []
  none_whole none = ap (λ (x : List ℕ). (stream_of (l.rest ++ x)).frames) none ∙ ap (λ (x : List ℕ). (stream_of x).frames) (append-nil l.rest) ∙ rest_frames tester l v.gateway c

  carried_is : (piece : List ℕ) (w : Vehicle) → IsShown piece v w → w.gateway.carried ≡ l.got ++ piece
  carried_is piece w shown = ap (λ (x : Vehicle). x.gateway.carried) shown.carries.becomes ∙ ap (λ (x : List ℕ). x ++ piece) c.carried

  -- the frames of a piece come first among those that were ready
  piece_frames : (piece : List ℕ) (w : Vehicle) → IsShown piece v w → BeginsWith (stream_of (l.rest ++ piece)).frames (stream_of (l.rest ++ v.gateway.ready)).frames
  piece_frames piece w shown = go shown.how
    where
      go : IsPlain piece v w ⊎ IsSeen piece v w → BeginsWith (stream_of (l.rest ++ piece)).frames (stream_of (l.rest ++ v.gateway.ready)).frames
      go (inl plain) = subst (λ (x : List ℕ). BeginsWith (stream_of (l.rest ++ piece)).frames (stream_of x).frames) (append_assoc l.rest piece w.gateway.ready ∙ ap (λ (x : List ℕ). l.rest ++ x) (sym plain.ready)) (frames_first (l.rest ++ piece) w.gateway.ready)
      go (inr seen) =
          let b : BeginsWith (stream_of (l.got ++ piece)).frames (stream_of (l.got ++ v.gateway.ready)).frames =
          subst (λ (x : List ℕ × List ℕ). BeginsWith (stream_of x.0).frames (stream_of (x.1 ++ v.gateway.ready)).frames) (λ i. (carried_is piece w shown i, c.carried i)) seen.frames in
          after_same (stream_of l.got).frames _ _ (subst (λ (x : List Frame × List Frame). BeginsWith x.0 x.1) (λ i. (got_frames tester l v.gateway c piece i, got_frames tester l v.gateway c v.gateway.ready i)) b)

  -- where the bytes are the next ones due, no refusal is among them
  plain_good : (piece : List ℕ) (w : Vehicle) → v.gateway.ready ≡ piece ++ w.gateway.ready → (stream_of (l.rest ++ piece)).bad ≡ None
  plain_good piece w is = none_bad (l.rest ++ piece) w.gateway.ready (ap (λ (x : List ℕ). (stream_of x).bad) (append_assoc l.rest piece w.gateway.ready ∙ ap (λ (x : List ℕ). l.rest ++ x) (sym is)) ∙ c.ready.bad)

  -- and where no refusal was seen, they are
  good_plain : (piece : List ℕ) (w : Vehicle) → IsShown piece v w → (stream_of (l.rest ++ piece)).bad ≡ None → v.gateway.ready ≡ piece ++ w.gateway.ready
  good_plain piece w shown good = go shown.how
    where
      got_bad : (stream_of (l.got ++ piece)).bad ≡ (stream_of (l.rest ++ piece)).bad
      got_bad = ap (λ (x : Stream). x.bad) (split l.got piece c.bad) ∙ ap (λ (x : List ℕ). (stream_of (x ++ piece)).bad) c.rest

      go : IsPlain piece v w ⊎ IsSeen piece v w → v.gateway.ready ≡ piece ++ w.gateway.ready
      go (inl plain) = plain.ready
      go (inr bad) = absurd (both_ways _ (ap (is_some {T = Bad}) (ap (λ (x : List ℕ). (stream_of x).bad) (carried_is piece w shown) ∙ got_bad ∙ good)) bad.is_bad)

-- ------ fair frames
no_refusal : (old new : ℕ → ℕ) (fs : List Frame) → Each (IsFairFrame old new) fs → refuses_header fs ≡ false
no_refusal old new [] all = refl
no_refusal old new (HeaderNack code ∷ fs) all = absurd all.0
no_refusal old new (Activated t entity code oem ∷ fs) all = no_refusal old new fs all.1
no_refusal old new (Activate source kind oem ∷ fs) all = no_refusal old new fs all.1
no_refusal old new (AliveAsk ∷ fs) all = no_refusal old new fs all.1
no_refusal old new (AliveSay source ∷ fs) all = no_refusal old new fs all.1
no_refusal old new (Message s t body ∷ fs) all = no_refusal old new fs all.1
no_refusal old new (Ack s t code before ∷ fs) all = no_refusal old new fs all.1
no_refusal old new (Nack s t code before ∷ fs) all = no_refusal old new fs all.1
no_refusal old new (Other kind payload ∷ fs) all = no_refusal old new fs all.1

code_fair : (old new : ℕ → ℕ) (fs : List Frame) (code : ℕ) → Each (IsFairFrame old new) fs → first_code fs ≡ Some code → (code ≡ 16) ⊎ Rose (old code) (new code)
code_fair old new [] code all e = absurd (false≢true (ap (is_some {T = ℕ}) e))
code_fair old new (HeaderNack n ∷ fs) code all e = absurd all.0
code_fair old new (Activated t entity n oem ∷ fs) code all e = subst (λ (k : ℕ). (k ≡ 16) ⊎ Rose (old k) (new k)) (ap (λ (o : Option ℕ). unwrap_or o 0) e) all.0
code_fair old new (Activate source kind oem ∷ fs) code all e = code_fair old new fs code all.1 e
code_fair old new (AliveAsk ∷ fs) code all e = code_fair old new fs code all.1 e
code_fair old new (AliveSay source ∷ fs) code all e = code_fair old new fs code all.1 e
code_fair old new (Message s t body ∷ fs) code all e = code_fair old new fs code all.1 e
code_fair old new (Ack s t n before ∷ fs) code all e = code_fair old new fs code all.1 e
code_fair old new (Nack s t n before ∷ fs) code all e = code_fair old new fs code all.1 e
code_fair old new (Other kind payload ∷ fs) code all e = code_fair old new fs code all.1 e

-- ------ phases
end_phase : (bad : Option Bad) (m : Link) → ((see_end bad m).phase ≡ m.phase) ⊎ ((see_end bad m).phase ≡ phase.Down)
end_phase None m = inl refl
end_phase (Some bad) m = elim (cases_Bool (is_open m.phase)) [ inl e ↦ rw e (inr refl) | inr e ↦ rw e (inl refl) ]

phase_counted_down : (old new : ℕ → ℕ) (p : Phase) → p ≡ phase.Down → IsPhaseCounted old new p
phase_counted_down old new p is = subst (λ (x : Phase). IsPhaseCounted old new x) (sym is) tt

phase_counted_up : (old new : ℕ → ℕ) (p : Phase) → is_up p ≡ true → IsPhaseCounted old new p
phase_counted_up old new phase.Down e = tt
phase_counted_up old new phase.Dialed e = tt
phase_counted_up old new phase.Asked e = tt
phase_counted_up old new phase.Up e = tt
phase_counted_up old new (phase.Refused code) e = absurd (false≢true e)

answer_counted : (old new : ℕ → ℕ) (o : Option ℕ) → ((code : ℕ) → o ≡ Some code → (code ≡ 16) ⊎ Rose (old code) (new code)) → IsPhaseCounted old new (phase_for o)
answer_counted old new None how = tt
answer_counted old new (Some code) how = elim (cases_Bool (code == 16)) [
  | inl e ↦ rw e tt
  | inr e ↦ rw e (elim (how code refl) [ inl is ↦ absurd (both_ways _ e (eq-eqb code 16 is)) | inr rose ↦ rose ])
]

pub phase_on : (old a b : ℕ → ℕ) (p : Phase) → ((code : ℕ) → Grows (a code) (b code)) → IsPhaseCounted old a p → IsPhaseCounted old b p
phase_on old a b phase.Down grow is = tt
phase_on old a b phase.Dialed grow is = tt
phase_on old a b phase.Asked grow is = tt
phase_on old a b phase.Up grow is = tt
phase_on old a b (phase.Refused code) grow is = rose_then 1 _ _ _ is (grow code)

-- ------ a piece
module _ (rules : LinkRules) (P : List UnitPlan) (piece : List ℕ) (l : Link) (first v w : Vehicle) (faults : ℕ) (c : IsConnected rules.tester l v.gateway) (opened : is_open l.phase ≡ true) (shown : IsShown piece v w) (grow : VehicleGrows v w) (is : IsLinkCounted l faults first v) where
  abbrev l2 : Link
  l2 = hear_piece rules.tester (addresses_of P) piece l

  abbrev fs : List Frame
  fs = (stream_of (l.rest ++ piece)).frames

  live : is_live l.phase ≡ true
  live = open_live l.phase opened

  fair : AreFair first.gateway.denied w.gateway.denied l v.gateway
  fair = fair_on first.gateway.denied v.gateway.denied w.gateway.denied l v.gateway grow.denied (is.fair (open_live l.phase opened))

  ready_fair : Each (IsFairFrame first.gateway.denied w.gateway.denied) (stream_of (l.rest ++ v.gateway.ready)).frames
  ready_fair = fair_back first.gateway.denied w.gateway.denied (stream_of l.got).frames _ (subst (λ (x : List Frame). Each (IsFairFrame first.gateway.denied w.gateway.denied) x) (got_frames rules.tester l v.gateway c v.gateway.ready) fair.ready)

  fs_fair : Each (IsFairFrame first.gateway.denied w.gateway.denied) (stream_of (l.rest ++ piece)).frames
  fs_fair = let b = piece_frames rules.tester l v c piece w shown in fair_front first.gateway.denied w.gateway.denied (stream_of (l.rest ++ piece)).frames b.0 (subst (λ (x : List Frame). Each (IsFairFrame first.gateway.denied w.gateway.denied) x) b.1 ready_fair)

  abbrev start : Link
  start = record l { got = l.got ++ piece; rest = (stream_of (l.rest ++ piece)).rest }

  decided : is_asked l.phase ≡ true → (see_all rules.tester (addresses_of P) (stream_of (l.rest ++ piece)).frames start).phase ≡ phase_for (first_code (stream_of (l.rest ++ piece)).frames)
  decided waits = link_laws.first rules.tester (addresses_of P) (stream_of (l.rest ++ piece)).frames start (asked_is l.phase waits) (no_refusal first.gateway.denied w.gateway.denied _ fs_fair)

  piece_denied : IsPhaseCounted first.gateway.denied w.gateway.denied (hear_piece rules.tester (addresses_of P) piece l).phase
  piece_denied = elim (cases_Bool (is_asked l.phase)) [
    | inl waits ↦ elim (end_phase (stream_of (l.rest ++ piece)).bad (see_all rules.tester (addresses_of P) (stream_of (l.rest ++ piece)).frames start)) [
      | inl same ↦ subst (λ (p : Phase). IsPhaseCounted first.gateway.denied w.gateway.denied p) (sym (same ∙ decided waits)) (answer_counted first.gateway.denied w.gateway.denied (first_code (stream_of (l.rest ++ piece)).frames) (λ code e. code_fair first.gateway.denied w.gateway.denied _ code fs_fair e))
      | inr down ↦ phase_counted_down first.gateway.denied w.gateway.denied _ down
    ]
    | inr not_waits ↦ elim (heard_steps rules P (Piece piece) l) [
      | inl d ↦ phase_counted_down first.gateway.denied w.gateway.denied _ d.0
      | inr s ↦ phase_counted_up first.gateway.denied w.gateway.denied _ (s.1 (up_of l.phase opened not_waits))
    ]
  ]
    where
      up_of : (p : Phase) → is_open p ≡ true → is_asked p ≡ false → is_up p ≡ true
      up_of phase.Down o n = absurd (false≢true o)
      up_of phase.Dialed o n = absurd (false≢true o)
      up_of phase.Asked o n = absurd (false≢true (sym n))
      up_of phase.Up o n = refl
      up_of (phase.Refused code) o n = absurd (false≢true o)

  -- a loss is a fault
  piece_losses : (hear_piece rules.tester (addresses_of P) piece l).losses ≤ l.losses + fault_of (is_garbled piece v w)
  piece_losses = elim (cases_Bool (same_bytes v.gateway.ready (piece ++ w.gateway.ready))) [
    | inr garbled ↦ rw garbled (elim (link_laws.loss rules P (Tended (Polled (Piece piece))) l) [
      | inl same ↦ omega (arith, same)
      | inr (one, why) ↦ omega (arith, one)
    ])
    | inl plain ↦ rw plain (elim (link_laws.loss rules P (Tended (Polled (Piece piece))) l) [
      | inl same ↦ omega (arith, same)
      | inr (one, inl bad) ↦ absurd (both_ways _ (ap (is_some {T = Bad}) (plain_good rules.tester l v c piece w (bytes_same _ _ plain))) bad)
      | inr (one, inr refuses) ↦ absurd (both_ways _ (no_refusal first.gateway.denied w.gateway.denied _ fs_fair) refuses)
    ])
  ]

  piece_awaits : is_asked (hear_piece rules.tester (addresses_of P) piece l).phase ≡ true → (has_answer (stream_of ((hear_piece rules.tester (addresses_of P) piece l).rest ++ w.gateway.ready)).frames ≡ true) ⊎ RoseBy (is.losses.silent + 1) first.gateway.silent w.gateway.silent
  piece_awaits waiting = elim (cases_Bool (is_asked l.phase)) [
    | inr not_waits ↦ absurd (both_ways _ (waiting_not not_waits) waiting)
    | inl waits ↦ elim (is.losses.awaits waits) [
      | inr rose ↦ inr (rose_then _ _ _ _ rose grow.silent)
      | inl answered ↦ inl (ap (is_some {T = ℕ}) (sym (code_more (stream_of (l.rest ++ piece)).frames _ (none_yet waits)) ∙ ap first_code (sym whole)) ∙ answered)
    ]
  ]
    where
      life : (stream_of (l.rest ++ piece)).bad ≡ None
      life = (piece_lives rules.tester (addresses_of P) piece l opened (open_live _ (asked_open _ waiting))).0

      ready : v.gateway.ready ≡ piece ++ w.gateway.ready
      ready = good_plain rules.tester l v c piece w shown (piece_lives rules.tester (addresses_of P) piece l opened (open_live _ (asked_open _ waiting))).0

      whole : (stream_of (l.rest ++ v.gateway.ready)).frames ≡ (stream_of (l.rest ++ piece)).frames ++ (stream_of ((hear_piece rules.tester (addresses_of P) piece l).rest ++ w.gateway.ready)).frames
      whole = ap (λ (x : List ℕ). (stream_of (l.rest ++ x)).frames) ready ∙ ap (λ (x : List ℕ). (stream_of x).frames) (sym (append_assoc l.rest piece w.gateway.ready)) ∙ ap (λ (x : Stream). x.frames) (split (l.rest ++ piece) w.gateway.ready life)
          ∙ ap (λ (x : List ℕ). (stream_of (l.rest ++ piece)).frames ++ (stream_of (x ++ w.gateway.ready)).frames) (sym (piece_keeps rules.tester (addresses_of P) piece l).rest)

      waiting_not : is_asked l.phase ≡ false → is_asked (hear_piece rules.tester (addresses_of P) piece l).phase ≡ false
      waiting_not n = go (piece_lives rules.tester (addresses_of P) piece l opened (open_live _ (asked_open _ waiting))).1
        where
          go : ((hear_piece rules.tester (addresses_of P) piece l).phase ≡ l.phase) ⊎ (((hear_piece rules.tester (addresses_of P) piece l).phase ≡ phase.Up) × (accepts (stream_of (l.rest ++ piece)).frames ≡ true)) → is_asked (hear_piece rules.tester (addresses_of P) piece l).phase ≡ false
          go (inl same) = ap is_asked same ∙ n
          go (inr up) = ap is_asked up.0

      none_yet : is_asked l.phase ≡ true → first_code (stream_of (l.rest ++ piece)).frames ≡ None
      none_yet waits = go (first_code (stream_of (l.rest ++ piece)).frames) refl (end_phase (stream_of (l.rest ++ piece)).bad (see_all rules.tester (addresses_of P) (stream_of (l.rest ++ piece)).frames start))
        where
          go : (o : Option ℕ) → first_code (stream_of (l.rest ++ piece)).frames ≡ o → ((hear_piece rules.tester (addresses_of P) piece l).phase ≡ (see_all rules.tester (addresses_of P) (stream_of (l.rest ++ piece)).frames start).phase) ⊎ ((hear_piece rules.tester (addresses_of P) piece l).phase ≡ phase.Down) → o ≡ None
          go None e how = refl
          go (Some code) e (inr down) = absurd (false≢true (sym (ap is_asked down) ∙ waiting))
          go (Some code) e (inl same) = absurd (both_ways _ (answers code) (sym (ap is_asked (same ∙ decided waits ∙ ap phase_for e)) ∙ waiting))
            where
              answers : (code : ℕ) → is_asked (phase_for (Some code)) ≡ false
              answers code = elim (cases_Bool (code == 16)) [ inl f ↦ rw f refl | inr f ↦ rw f refl ]

  pub piece_counted : IsLinkCounted (hear_piece rules.tester (addresses_of P) piece l) (faults + fault_of (is_garbled piece v w)) first w
  piece_counted = record {
    losses = record {
      silent = is.losses.silent;
      losses = let a : l.losses ≤ faults + is.losses.silent = is.losses.losses in omega (arith, a, piece_losses);
      count = rose_then _ _ _ _ is.losses.count grow.silent;
      awaits = piece_awaits;
    };
    denials = λ code. up_then _ _ _ (is.denials code) (grow.denied code);
    denied = piece_denied;
    fair = λ lives. same_bytes_on lives;
  }
    where
      same_bytes_on : is_live (hear_piece rules.tester (addresses_of P) piece l).phase ≡ true → AreFair first.gateway.denied w.gateway.denied (hear_piece rules.tester (addresses_of P) piece l) w.gateway
      same_bytes_on lives =
          let ready : v.gateway.ready ≡ piece ++ w.gateway.ready = good_plain rules.tester l v c piece w shown (piece_lives rules.tester (addresses_of P) piece l opened lives).0 in
          let on : (hear_piece rules.tester (addresses_of P) piece l).got ++ w.gateway.ready ≡ l.got ++ v.gateway.ready =
          ap (λ (x : List ℕ). x ++ w.gateway.ready) (piece_keeps rules.tester (addresses_of P) piece l).got ∙ append_assoc l.got piece w.gateway.ready ∙ ap (λ (x : List ℕ). l.got ++ x) (sym ready) in
          record {
            ready = subst (λ (x : List ℕ). Each (IsFairFrame first.gateway.denied w.gateway.denied) (stream_of x).frames) (sym on) fair.ready;
            later = subst (λ (q : List (ℕ × List ℕ)). Each (λ x. Each (IsFairFrame first.gateway.denied w.gateway.denied) (stream_of x.1).frames) q) (sym (ap (λ (x : Vehicle). x.gateway.later) shown.carries.becomes)) fair.later;
          }

-- ------ a tick
pub quiet_counted : (tester : ℕ) (l : Link) (first v : Vehicle) (faults : ℕ) → IsConnected tester l v.gateway → is_open l.phase ≡ true → v.gateway.ready ≡ [] → VehicleGrows v (ticked v) → IsLinkCounted l faults first v → IsLinkCounted (polled_quiet l) faults first (ticked v)
quiet_counted tester l first v faults c opened none grow is = elim (cases_Bool (unanswered (quiet_link l))) [
  | inl e ↦ rw e (record {
    losses = record {
      silent = is.losses.silent + 1;
      losses = let a : l.losses ≤ faults + is.losses.silent = is.losses.losses in omega (arith, a);
      count = waited (and_parts (is_asked l.phase) _ e).0;
      awaits = λ x. absurd (false≢true x);
    };
    denials = λ code. up_then _ _ _ (is.denials code) (grow.denied code);
    denied = tt;
    fair = λ lives. absurd (false≢true lives);
  })
  | inr e ↦ rw e (record {
    losses = record { silent = is.losses.silent; losses = is.losses.losses; count = rose_then _ _ _ _ is.losses.count grow.silent; awaits = λ x. inr (waited x) };
    denials = λ code. up_then _ _ _ (is.denials code) (grow.denied code);
    denied = phase_on first.gateway.denied v.gateway.denied (ticked v).gateway.denied l.phase grow.denied is.denied;
    fair = λ lives. ticked_fair first.gateway.denied (ticked v).gateway.denied tester l v.gateway c (fair_on first.gateway.denied v.gateway.denied (ticked v).gateway.denied l v.gateway grow.denied (is.fair lives)) none;
  })
]
  where
    waited : is_asked l.phase ≡ true → RoseBy (is.losses.silent + 1) first.gateway.silent (ticked v).gateway.silent
    waited waits = elim (is.losses.awaits waits) [
      | inr rose ↦ rose_then _ _ _ _ rose grow.silent
      | inl answered ↦ absurd (false≢true (sym (ap has_answer (none_whole tester l v c none)) ∙ answered))
    ]
