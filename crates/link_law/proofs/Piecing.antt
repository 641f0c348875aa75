-- A piece received, as an event.
use Rattle.std.proofs.Common.{◌≡◌, inl, inr, ℕ, ◌+◌, true, false, List, [], ◌∷◌, ◌++◌, Some, None, refl, sym, ◌∙◌, ap, subst, arith}
use Rattle.std.specs.Prelude.{Bool, Option, ◌==◌, ◌&&◌, ◌||◌, not, nat_le, nat_lt, if◌then◌else◌}
use Rattle.std.proofs.lemmas.Bool.{cases_lt, lt-ltb, le-ltb, false≢true, both_ways}
use Rattle.std.proofs.Math.Bool.{or-false, and-true}
use Rattle.doip_frame.proofs.Streams.{split}
use Rattle.doip_frame.specs.Frame.{Stream, stream_of}
use Rattle.doip_frame.specs.declared.frame.Frame.{Frame}
use Rattle.flash_plan.specs.declared.unit.LinkRules.{LinkRules}
use Rattle.flash_plan.specs.declared.unit.UnitPlan.{UnitPlan}
use Rattle.run_model.proofs.Words.{words_more}
use Rattle.run_model.specs.Link.{Link, Phase, is_down, is_dialed, is_asked, is_open, hear_piece}
use Rattle.run_model.specs.Link as phase
use Rattle.run_model.specs.Ways.{UnitMessage, messages_in}
use Rattle.bay_core.specs.Core.{addresses_of}
use Rattle.bay_core.specs.LinkLaws.{phase_for}
use Rattle.bay_core.specs.declared.event.Event.{Event}
use Rattle.link_law.specs.Happened.{one, count}
use Rattle.link_law.specs.Kinds.{event_bytes, bytes_in, is_dial, is_ask, is_say, is_quiet, is_quiet_wait, is_failed_call, dial_of}
use Rattle.link_law.specs.Looked.{answer_in, is_broken, checks_in, checks_of, unit_messages}
use Rattle.link_law.specs.Follows.{last_dial, since_dial, is_ended, is_loss, phase_in, is_owed}
use Rattle.link_law.proofs.Frames.{checks_more}
use Rattle.link_law.proofs.Lists.{has_same, count_same, to_same, bytes_more, owed_more, brings}
use Rattle.link_law.proofs.Moving.{Stands, WordsMove, stands}
use Rattle.link_law.proofs.Pieces.{PieceReads, piece_reads, joint}
use Rattle.link_law.proofs.Silent.{none_more}
use Rattle.link_law.proofs.Standing.{IsOpened, opened_of}

-- an event that received bytes
pub record IsPiece (x : Event) : Type 0 where
  pub no_dial : is_dial x ≡ false
  pub none : dial_of x ≡ None
  pub works : is_failed_call x ≡ false
  pub no_wait : is_quiet_wait x ≡ false
  pub no_quiet : is_quiet x ≡ false
  pub no_ask : is_ask x ≡ false
  pub no_say : is_say x ≡ false

-- the phase behind it
piece_phase : (d : Option Bool) (w : List Event) (p : Phase) (x : Event) → IsPiece x → IsOpened d w p
    → phase_in d (w ++ (x ∷ [])) ≡ (if is_broken (stream_of (bytes_in w ++ event_bytes x)) then phase.Down else phase_for (answer_in (stream_of (bytes_in w ++ event_bytes x)).frames))
piece_phase d w p x is o = ap (λ (y : Option Bool). phase_in y (w ++ (x ∷ []))) o.live.dialed
    ∙ (λ i. if ended i then phase.Down else if (has_same is_ask x is.no_ask w ∙ o.asked) i then phase_for (answer_in (stream_of (bytes_more w x i)).frames) else phase.Dialed)
  where
    ended : is_ended (w ++ (x ∷ [])) ≡ is_broken (stream_of (bytes_in w ++ event_bytes x))
    ended = (λ i. (has_same is_failed_call x is.works w ∙ o.live.called) i || is_broken (stream_of (bytes_more w x i)) || (ap (nat_le 1000) (count_same is_quiet_wait x is.no_wait w) ∙ o.live.patient) i)
        ∙ or-false (is_broken (stream_of (bytes_in w ++ event_bytes x)))

answer_stands : (o : Option ℕ) → is_down (phase_for o) ≡ false
answer_stands None = refl
answer_stands (Some code) = either (code == 16)
  where
    either : (b : Bool) → is_down (if b then phase.Up else phase.Refused code) ≡ false
    either true = refl
    either false = refl

answer_not_fresh : (gone : Bool) (o : Option ℕ) → is_dialed (if gone then phase.Down else phase_for o) ≡ false
answer_not_fresh true o = refl
answer_not_fresh false None = refl
answer_not_fresh false (Some code) = either (code == 16)
  where
    either : (b : Bool) → is_dialed (if b then phase.Up else phase.Refused code) ≡ false
    either true = refl
    either false = refl

-- a loss ends a connection
ends_one : (n : ℕ) (gone : Bool) (o : Option ℕ) → (n + one gone) + one (not (is_down (if gone then phase.Down else phase_for o))) ≡ n + 1
ends_one n true o = omega arith
ends_one n false o = ap (λ (b : Bool). (n + 0) + one (not b)) (answer_stands o) ∙ none_less n
  where
    none_less : (n : ℕ) → (n + 0) + 1 ≡ n + 1
    none_less n = omega arith

open_stands : (p : Phase) → is_open p ≡ true → is_down p ≡ false
open_stands phase.Down e = absurd (false≢true e)
open_stands phase.Dialed e = refl
open_stands phase.Asked e = refl
open_stands phase.Up e = refl
open_stands (phase.Refused code) e = refl

-- more checks than before
more_checks : (c n : ℕ) → nat_lt 0 n ≡ nat_lt c (c + n)
more_checks c n = elim (cases_lt 0 n) [
  | inl some ↦ lt-ltb 0 n some ∙ sym (lt-ltb c (c + n) (omega (arith, some)))
  | inr none ↦ le-ltb 0 n none ∙ sym (le-ltb c (c + n) (omega (arith, none)))
]

module _ (rules : LinkRules) (P : List UnitPlan) (es : List Event) (x : Event) (is : IsPiece x) (loss : is_loss es x ≡ is_broken (stream_of (bytes_in (since_dial es) ++ event_bytes x)))
    (l : Link) (opened : is_open l.phase ≡ true) (s : Stands rules P es l) where
  -- the frames before, and the link behind the piece
  abbrev before : List Frame
  before = (stream_of (bytes_in (since_dial es))).frames

  abbrev behind : Link
  behind = hear_piece rules.tester (addresses_of P) (event_bytes x) l

  abbrev all : List ℕ
  all = bytes_in (since_dial es) ++ event_bytes x

  abbrev told : Link
  told = record l { got = l.got ++ event_bytes x; rest = (stream_of (l.rest ++ event_bytes x)).rest }

  was : IsOpened (last_dial es) (since_dial es) l.phase
  was = opened_of (last_dial es) (since_dial es) l.phase (sym s.link.phase) opened

  whole : stream_of (bytes_in (since_dial es) ++ event_bytes x) ≡ joint (stream_of (bytes_in (since_dial es))).frames (stream_of (l.rest ++ event_bytes x))
  whole = split (bytes_in (since_dial es)) (event_bytes x) was.good ∙ ap (λ (r : List ℕ). joint (stream_of (bytes_in (since_dial es))).frames (stream_of (r ++ event_bytes x))) (sym s.link.rest)

  pub reads : PieceReads rules.tester (addresses_of P) told behind before (stream_of all)
  reads = subst (PieceReads rules.tester (addresses_of P) told behind before) (sym whole) (piece_reads rules.tester (addresses_of P) told before (stream_of (l.rest ++ event_bytes x)) l.phase refl was.clean)

  pub words_all : (a : ℕ) → unit_messages rules.tester a all ≡ unit_messages rules.tester a (bytes_in (since_dial es)) ++ messages_in rules.tester a reads.extra
  words_all a = ap (messages_in rules.tester a) reads.looked ∙ words_more rules.tester a before reads.extra ∙ ap (λ (fs : List Frame). messages_in rules.tester a fs ++ messages_in rules.tester a reads.extra) (sym reads.old)

  checks_all : checks_of all ≡ checks_of (bytes_in (since_dial es)) + checks_in reads.extra
  checks_all = ap checks_in reads.looked ∙ checks_more before reads.extra ∙ ap (λ (fs : List Frame). checks_in fs + checks_in reads.extra) (sym reads.old)

  owed : (l.owes || nat_lt 0 (checks_in reads.extra)) ≡ is_owed (since_dial es ++ (x ∷ []))
  owed =
      (λ i. s.link.owes i || (more_checks (checks_of (bytes_in (since_dial es))) (checks_in reads.extra) ∙ ap (nat_lt (checks_of (bytes_in (since_dial es)))) (sym checks_all)) i)
      ∙ ap (λ (b : Bool). b || brings (since_dial es) x) (sym (ap (λ (b : Bool). is_owed (since_dial es) && not b) is.no_say ∙ and-true (is_owed (since_dial es))))
      ∙ sym (owed_more [] (since_dial es) x)

  -- with these messages in the inbox
  pub piece_stands : (inbox : List (ℕ × UnitMessage)) → WordsMove rules P es x (record behind { inbox = inbox }) → Stands rules P (es ++ (x ∷ [])) (record behind { inbox = inbox })
  piece_stands inbox words = stands rules P es x is.no_dial is.none l (record behind { inbox = inbox }) s (record {
    got = reads.reads.got ∙ ap (λ (bs : List ℕ). bs ++ event_bytes x) s.link.bytes;
    rest = reads.reads.rest ∙ ap (λ (t : Stream). t.rest) (sym whole);
    phase = reads.reads.phase ∙ sym (piece_phase (last_dial es) (since_dial es) l.phase x is was);
    ticks = reads.reads.ticks ∙ none_more l.ticks ∙ ap (λ (b : Bool). l.ticks + one b) (sym is.no_quiet);
    asked = reads.reads.asked ∙ s.link.asked ∙ ap (count is_quiet) (sym (to_same is_ask x is.no_ask es));
    losses = reads.reads.losses ∙ ap (λ (b : Bool). l.losses + one b) (sym loss);
    dials = (λ i. reads.reads.losses i + one (not (is_down (reads.reads.phase i))))
        ∙ ends_one l.losses (is_broken (stream_of all)) (answer_in (stream_of all).frames)
        ∙ ap (λ (b : Bool). l.losses + one (not b)) (sym (open_stands l.phase opened));
    owes = reads.reads.owes ∙ owed;
    unasked = λ none_asked. absurd (both_ways _ none_asked (has_same is_ask x is.no_ask (since_dial es) ∙ was.asked));
    words = words;
  }) (λ e. absurd (both_ways _ (answer_not_fresh (is_broken (stream_of all)) (answer_in (stream_of all).frames)) (ap is_dialed (sym reads.reads.phase ∙ e))))
      (λ e. reads.reads.ticks ∙ s.waits (reads.later (ap is_asked (sym reads.reads.phase ∙ e)))
      ∙ (λ i. sym reads.reads.asked i + (none_more (count is_quiet_wait (since_dial es)) ∙ ap (λ (b : Bool). count is_quiet_wait (since_dial es) + one b) (sym is.no_wait)) i))
