-- Which receives are a loss of the link.
use Rattle.std.proofs.Common.{◌≡◌, inl, inr, ℕ, ◌+◌, true, false, List, [], ◌∷◌, ◌++◌, Some, None, refl, sym, ◌∙◌, ap, arith}
use Rattle.std.specs.Prelude.{Bool, Option, ◌==◌, ◌&&◌, ◌||◌, nat_lt, is_some, if◌then◌else◌}
use Rattle.std.proofs.lemmas.Bool.{cases_Bool, false≢true}
use Rattle.doip_frame.specs.Frame.{stream_of}
use Rattle.doip_frame.specs.declared.frame.Bad.{Bad}
use Rattle.doip_frame.specs.declared.frame.Frame.{Frame}
use Rattle.doip_frame.specs.declared.frame.Frame.TheVariants.{HeaderNack, Activate, Activated, AliveAsk, AliveSay, Message, Ack, Nack, Other}
use Rattle.gateway_link.specs.Link.{breaks, refuses_header, with_piece}
use Rattle.link_state.specs.Laws.{looked}
use Rattle.run_model.specs.Link.{Link, is_known, is_open, is_asked, keep_message, see, see_frame, see_all, see_end, hear_piece, drop_link, polled_quiet, quiet_link, unanswered}
use Rattle.run_model.specs.Ways.{UnitMessage, Reply, Nacked}

one : Bool → ℕ
one true = 1
one false = 0

none_more : (n : ℕ) → nat_lt n n ≡ false
none_more n = grind arith

one_more : (n : ℕ) → nat_lt n (n + 1) ≡ true
one_more n = grind arith

pub quiet_lost : (l : Link) → nat_lt l.losses (polled_quiet l).losses ≡ unanswered (quiet_link l)
quiet_lost l = elim (cases_Bool (unanswered (quiet_link l))) [
  | inl e ↦ rw e (one_more l.losses)
  | inr e ↦ rw e (none_more l.losses)
]

module _ (tester : ℕ) (units : List ℕ) where
  shut_stays : (fs : List Frame) (l : Link) → is_open l.phase ≡ false → see_all tester units fs l ≡ l
  shut_stays [] l shut = refl
  shut_stays (f ∷ fs) l shut =
      let same : see tester units f l ≡ l = ap (λ (b : Bool). if b then see_frame tester units f l else l) shut in
      ap (see_all tester units fs) same ∙ shut_stays fs l shut

  -- so many losses more, and after one the link is not open
  record Loses (lost : Bool) (old new : Link) : Type 0 where
    losses : lost ≡ false → new.losses ≡ old.losses
    loss : lost ≡ true → new.losses ≡ old.losses + 1
    shut : lost ≡ true → is_open new.phase ≡ false

  word_losses : (ours : Bool) (source : ℕ) (word : UnitMessage) (l : Link) → (keep_message ours source word l).losses ≡ l.losses
  word_losses true source word l = refl
  word_losses false source word l = refl

  answer_losses : (l : Link) (code : ℕ) → (see_frame tester units (Activated 0 0 code None) l).losses ≡ l.losses
  answer_losses l code = elim (cases_Bool (is_asked l.phase)) [ inl e ↦ rw e refl | inr e ↦ rw e refl ]

  goes_on : (lost : Bool) (old mid new : Link) → mid.losses ≡ old.losses → Loses lost mid new → Loses lost old new
  goes_on lost old mid new same x = record { losses = λ e. x.losses e ∙ same; loss = λ e. x.loss e ∙ ap (λ (n : ℕ). n + 1) same; shut = x.shut }

  all_lose : (fs : List Frame) (l : Link) → Loses (refuses_header (looked tester units fs l)) l (see_all tester units fs l)
  all_lose [] l = record { losses = λ e. refl; loss = λ e. absurd (false≢true e); shut = λ e. absurd (false≢true e) }
  all_lose (f ∷ fs) l = by (is_open l.phase) refl (all_lose fs (see_frame tester units f l))
    where
      more : (f : Frame) → Loses (refuses_header (looked tester units fs (see_frame tester units f l))) (see_frame tester units f l) (see_all tester units fs (see_frame tester units f l))
          → Loses (refuses_header (f ∷ looked tester units fs (see_frame tester units f l))) l (see_all tester units fs (see_frame tester units f l))
      more (HeaderNack code) x =
          let stays : see_all tester units fs (drop_link l) ≡ drop_link l = shut_stays fs (drop_link l) refl in
          record { losses = λ e. absurd (false≢true (sym e)); loss = λ e. ap (λ (m : Link). m.losses) stays; shut = λ e. ap (λ (m : Link). is_open m.phase) stays }
      more (Activated t entity code oem) x = goes_on _ l _ _ (answer_losses l code) x
      more AliveAsk x = goes_on _ l _ _ refl x
      more (Message source target body) x = goes_on _ l _ _ (word_losses (target == tester && is_known units source) source (Reply body) l) x
      more (Nack source target code old) x = goes_on _ l _ _ (word_losses (target == tester && is_known units source) source (Nacked code) l) x
      more (Activate source kind oem) x = goes_on _ l _ _ refl x
      more (AliveSay source) x = goes_on _ l _ _ refl x
      more (Ack source target code old) x = goes_on _ l _ _ refl x
      more (Other kind payload) x = goes_on _ l _ _ refl x

      by : (b : Bool) → is_open l.phase ≡ b → Loses (refuses_header (looked tester units fs (see_frame tester units f l))) (see_frame tester units f l) (see_all tester units fs (see_frame tester units f l))
          → Loses (refuses_header (looked tester units (f ∷ fs) l)) l (see_all tester units (f ∷ fs) l)
      by true opened x = rw opened (more f x)
      by false shut x = rw shut (record { losses = λ e. ap (λ (m : Link). m.losses) (shut_stays fs l shut); loss = λ e. absurd (false≢true e); shut = λ e. absurd (false≢true e) })

  ends : (lost : Bool) (bad : Option Bad) (old seen : Link) → Loses lost old seen → nat_lt old.losses (see_end bad seen).losses ≡ lost || (is_some bad && is_open seen.phase)
  ends true None old seen x = rw (x.loss refl) (one_more old.losses)
  ends true (Some bad) old seen x = rw (x.shut refl, x.loss refl) (one_more old.losses)
  ends false None old seen x = rw (x.losses refl) (none_more old.losses)
  ends false (Some bad) old seen x = elim (cases_Bool (is_open seen.phase)) [
    | inl e ↦ rw (e, x.losses refl) (one_more old.losses)
    | inr e ↦ rw (e, x.losses refl) (none_more old.losses)
  ]

  pub piece_lost : (bytes : List ℕ) (l : Link) → nat_lt l.losses (hear_piece tester units bytes l).losses ≡ breaks tester units bytes l
  piece_lost bytes l = ends _ (stream_of (l.rest ++ bytes)).bad l _ (goes_on _ l (with_piece bytes l) _ refl (all_lose (stream_of (l.rest ++ bytes)).frames (with_piece bytes l)))
