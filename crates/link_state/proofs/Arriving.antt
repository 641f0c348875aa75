-- What inboxes hold.
use Rattle.std.proofs.Common.{◌≡◌, ◌≢◌, inl, inr, ℕ, true, false, List, [], ◌∷◌, ◌++◌, Some, None, refl, sym, ◌∙◌, ap, append_assoc}
use Rattle.std.specs.Prelude.{Bool, Option, ◌==◌, ◌&&◌, if◌then◌else◌}
use Rattle.std.proofs.lemmas.Bool.{cases_Bool, false≢true, eq-eqb, eqb-true}
use Rattle.std.proofs.lemmas.List.{append-nil}
use Rattle.doip_frame.specs.Frame.{stream_of}
use Rattle.doip_frame.specs.declared.frame.Bad.{Bad}
use Rattle.doip_frame.specs.declared.frame.Frame.{Frame}
use Rattle.doip_frame.specs.declared.frame.Frame.TheVariants.{HeaderNack, Activate, Activated, AliveAsk, AliveSay, Message, Ack, Nack, Other}
use Rattle.run_model.specs.Link.{Link, is_known, is_open, is_asked, keep_message, see, see_frame, see_all, see_end, drop_link, unanswered, quiet_link, lost_or}
use Rattle.run_model.specs.Ways.{UnitMessage, Reply, Nacked, messages_from, message_in, messages_in}
use Rattle.link_state.specs.Laws.{AreInboxLaws, looked, option_list}
use Rattle.link_state.proofs.Inboxes.{more_there, more_else, head_of, tail_of, first_is, without_there, without_else}

module _ (tester : ℕ) (units : List ℕ) (a : ℕ) (known : is_known units a ≡ true) where
  -- a message that may be kept is kept for its unit alone
  kept_words : (source target : ℕ) (w : UnitMessage) (l : Link) → messages_from a (keep_message (target == tester && is_known units source) source w l).inbox ≡ messages_from a l.inbox ++ (if target == tester && source == a then w ∷ [] else [])
  kept_words source target w l = elim (cases_Bool (target == tester)) [
    | inr t ↦ rw t (sym (append-nil (messages_from a l.inbox)))
    | inl t ↦ elim (cases_Bool (source == a)) [
      | inl s ↦
          (let is : source ≡ a = eqb-true source a s in
          let here : is_known units source ≡ true = ap (is_known units) is ∙ known in
          rw (t, here, s) (ap (λ (x : ℕ). messages_from a (l.inbox ++ ((x, w) ∷ []))) is ∙ more_there a l.inbox w))
      | inr s ↦
          (let ne : source ≢ a = λ is. false≢true (sym s ∙ eq-eqb source a is) in
          elim (cases_Bool (is_known units source)) [
            | inl k ↦ rw (t, k, s) (more_else a source l.inbox w ne ∙ sym (append-nil (messages_from a l.inbox)))
            | inr k ↦ rw (t, k, s) (sym (append-nil (messages_from a l.inbox)))
          ])
    ]
  ]

  none : (l : Link) → messages_from a l.inbox ≡ messages_from a l.inbox ++ []
  none l = sym (append-nil (messages_from a l.inbox))

  frame_words : (f : Frame) (l : Link) → messages_from a (see_frame tester units f l).inbox ≡ messages_from a l.inbox ++ message_in tester a f
  frame_words (HeaderNack code) l = none l
  frame_words (Activated t entity code oem) l = elim (cases_Bool (is_asked l.phase)) [ inl e ↦ rw e (none l) | inr e ↦ rw e (none l) ]
  frame_words AliveAsk l = none l
  frame_words (Message source target body) l = kept_words source target (Reply body) l
  frame_words (Nack source target code old) l = kept_words source target (Nacked code) l
  frame_words (Activate source kind oem) l = none l
  frame_words (AliveSay source) l = none l
  frame_words (Ack source target code old) l = none l
  frame_words (Other kind payload) l = none l

  shut_stays : (fs : List Frame) (l : Link) → is_open l.phase ≡ false → see_all tester units fs l ≡ l
  shut_stays [] l shut = refl
  shut_stays (f ∷ fs) l shut =
      let same : see tester units f l ≡ l = ap (λ (b : Bool). if b then see_frame tester units f l else l) shut in
      ap (see_all tester units fs) same ∙ shut_stays fs l shut

  all_words : (fs : List Frame) (l : Link) → messages_from a (see_all tester units fs l).inbox ≡ messages_from a l.inbox ++ messages_in tester a (looked tester units fs l)
  all_words [] l = none l
  all_words (f ∷ fs) l = by (is_open l.phase) refl (all_words fs (see tester units f l))
    where
      by : (b : Bool) → is_open l.phase ≡ b → messages_from a (see_all tester units fs (see tester units f l)).inbox ≡ messages_from a (see tester units f l).inbox ++ messages_in tester a (looked tester units fs (see tester units f l))
          → messages_from a (see_all tester units fs (see tester units f l)).inbox ≡ messages_from a l.inbox ++ messages_in tester a (if is_open l.phase then f ∷ looked tester units fs (see tester units f l) else [])
      by true opened ih =
          let same : see tester units f l ≡ see_frame tester units f l = ap (λ (b : Bool). if b then see_frame tester units f l else l) opened in
          ih
          ∙ ap (λ (x : Link). messages_from a x.inbox ++ messages_in tester a (looked tester units fs (see tester units f l))) same
          ∙ ap (λ (ws : List UnitMessage). ws ++ messages_in tester a (looked tester units fs (see tester units f l))) (frame_words f l)
          ∙ append_assoc (messages_from a l.inbox) (message_in tester a f) (messages_in tester a (looked tester units fs (see tester units f l)))
          ∙ ap (λ (b : Bool). messages_from a l.inbox ++ messages_in tester a (if b then f ∷ looked tester units fs (see tester units f l) else [])) (sym opened)
      by false shut ih =
          ap (λ (x : Link). messages_from a x.inbox) (shut_stays (f ∷ fs) l shut) ∙ none l
          ∙ ap (λ (b : Bool). messages_from a l.inbox ++ messages_in tester a (if b then f ∷ looked tester units fs (see tester units f l) else [])) (sym shut)

  end_words : (bad : Option Bad) (l : Link) → (see_end bad l).inbox ≡ l.inbox
  end_words None l = refl
  end_words (Some bad) l = elim (cases_Bool (is_open l.phase)) [ inl e ↦ rw e refl | inr e ↦ rw e refl ]

-- what is looked at does not hang on the bytes kept
looked_same : (tester : ℕ) (units got rest : List ℕ) (fs : List Frame) (l : Link) → looked tester units fs (record l { got = got; rest = rest }) ≡ looked tester units fs l
looked_same tester units got rest [] l = refl
looked_same tester units got rest (f ∷ fs) l = ap (λ (gs : List Frame). if is_open l.phase then f ∷ gs else []) (ap (looked tester units fs) (moved f) ∙ looked_same tester units got rest fs (see tester units f l))
  where
    word_moved : (ours : Bool) (source : ℕ) (w : UnitMessage) → keep_message ours source w (record l { got = got; rest = rest }) ≡ record (keep_message ours source w l) { got = got; rest = rest }
    word_moved true source w = refl
    word_moved false source w = refl

    frame_moved : (f : Frame) → see_frame tester units f (record l { got = got; rest = rest }) ≡ record (see_frame tester units f l) { got = got; rest = rest }
    frame_moved (HeaderNack code) = refl
    frame_moved (Activated t entity code oem) = elim (cases_Bool (is_asked l.phase)) [ inl e ↦ rw e refl | inr e ↦ rw e refl ]
    frame_moved AliveAsk = refl
    frame_moved (Message source target body) = word_moved _ source _
    frame_moved (Nack source target code old) = word_moved _ source _
    frame_moved (Activate source kind oem) = refl
    frame_moved (AliveSay source) = refl
    frame_moved (Ack source target code old) = refl
    frame_moved (Other kind payload) = refl

    moved : (f : Frame) → see tester units f (record l { got = got; rest = rest }) ≡ record (see tester units f l) { got = got; rest = rest }
    moved f = elim (cases_Bool (is_open l.phase)) [ inl e ↦ rw e (frame_moved f) | inr e ↦ rw e refl ]

head_tail : (ws : List UnitMessage) → ws ≡ option_list (head_of ws) ++ tail_of ws
head_tail [] = refl
head_tail (w ∷ ws) = refl

quiet_same : (l : Link) → (if unanswered (quiet_link l) then drop_link (quiet_link l) else quiet_link l).inbox ≡ l.inbox
quiet_same l = elim (cases_Bool (unanswered (quiet_link l))) [ inl e ↦ rw e refl | inr e ↦ rw e refl ]

lost_same : (lost : Bool) (l : Link) → (lost_or lost l).inbox ≡ l.inbox
lost_same true l = refl
lost_same false l = refl

pub inbox_laws : AreInboxLaws
inbox_laws = record {
  piece = λ tester units bytes a l known.
      let fs = (stream_of (l.rest ++ bytes)).frames in
      let rest : List ℕ = (stream_of (l.rest ++ bytes)).rest in
      let m : Link = record l { got = l.got ++ bytes; rest = rest } in
      ap (messages_from a) (end_words tester units a known (stream_of (l.rest ++ bytes)).bad (see_all tester units fs m)) ∙ all_words tester units a known fs m
      ∙ ap (λ (gs : List Frame). messages_from a l.inbox ++ messages_in tester a gs) (looked_same tester units (l.got ++ bytes) rest fs l);
  taken = λ a l. head_tail (messages_from a l.inbox) ∙ (λ i. option_list (sym (first_is a l.inbox) i) ++ sym (without_there a l.inbox) i);
  others = λ a b l ne. without_else a b l.inbox ne;
  quiet = λ l. quiet_same l;
  dialed = λ lost l. lost_same lost _;
}
