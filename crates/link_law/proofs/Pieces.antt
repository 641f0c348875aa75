-- What a piece does to an open link, by all the bytes of the connection.
use Rattle.std.proofs.Common.{◌≡◌, ℕ, true, false, List, ◌++◌, Some, None, refl, sym, ◌∙◌, ap, subst}
use Rattle.std.specs.Prelude.{Bool, Option, ◌==◌, ◌&&◌, ◌||◌, not, is_some, if◌then◌else◌}
use Rattle.std.proofs.lemmas.Bool.{both_ways}
use Rattle.doip_frame.specs.Frame.{Stream}
use Rattle.doip_frame.specs.declared.frame.Bad.{Bad}
use Rattle.doip_frame.specs.declared.frame.Frame.{Frame}
use Rattle.run_model.specs.Link.{Link, Phase, is_asked, see_all, see_end}
use Rattle.run_model.specs.Link as phase
use Rattle.bay_core.specs.LinkLaws.{refuses_header, phase_for}
use Rattle.link_law.specs.Looked.{before_refusal, answer_in, is_denial, looked_at, is_broken}
use Rattle.link_law.proofs.Frames.{refuses_more, waits_answer, waits_looked, waits_all, up_answer, up_looked, up_all}
use Rattle.link_law.proofs.Reading.{Reads, up_reads, waits_reads, end_shut, end_open}
use Rattle.link_law.proofs.Standing.{Clean, IsAwaited, IsAccepted}

-- the frames before, those of the piece, and what stands behind them
abbrev pub joint : List Frame → Stream → Stream
joint F t = record { frames = F ++ t.frames; rest = t.rest; bad = t.bad }

pub record PieceReads (tester : ℕ) (units : List ℕ) (l n : Link) (F : List Frame) (s : Stream) : Type 0 where
  pub extra : List Frame
  pub old : looked_at F ≡ F
  pub looked : looked_at s.frames ≡ F ++ extra
  pub reads : Reads tester units l n extra (if is_broken s then phase.Down else phase_for (answer_in s.frames)) (is_broken s)
  pub later : is_asked (if is_broken s then phase.Down else phase_for (answer_in s.frames)) ≡ true → l.phase ≡ phase.Asked

-- once an answer came no other is awaited
never_waits : (gone : Bool) (o : Option ℕ) (c : ℕ) → o ≡ Some c → is_asked (if gone then phase.Down else phase_for o) ≡ false
never_waits gone o c is = ap (λ (x : Option ℕ). is_asked (if gone then phase.Down else phase_for x)) is ∙ one gone (c == 16)
  where
    one : (gone ten : Bool) → is_asked (if gone then phase.Down else (if ten then phase.Up else phase.Refused c)) ≡ false
    one true ten = refl
    one false true = refl
    one false false = refl

module _ (tester : ℕ) (units : List ℕ) (l : Link) where
  -- by the answer to the activation, whether a header was refused, and the refusal at the end
  abbrev By : Link → List Frame → Option ℕ → Bool → Bool → Type 0
  By n fs o R B = Reads tester units l n fs (if not (is_denial o) && (R || B) then phase.Down else phase_for o) (not (is_denial o) && (R || B))

  settle_by : (ten R : Bool) (c : ℕ) (bad : Option Bad) (m : Link) (fs : List Frame) → Reads tester units l m fs (if not (not ten) && R then phase.Down else (if ten then phase.Up else phase.Refused c)) (not (not ten) && R)
      → Reads tester units l (see_end bad m) fs (if not (not ten) && (R || is_some bad) then phase.Down else (if ten then phase.Up else phase.Refused c)) (not (not ten) && (R || is_some bad))
  settle_by true true c bad m fs r = end_shut tester units bad l m fs phase.Down true refl r
  settle_by true false c bad m fs r = end_open tester units bad l m fs phase.Up refl r
  settle_by false R c bad m fs r = end_shut tester units bad l m fs (phase.Refused c) false refl r

  settle : (o : Option ℕ) (R : Bool) (bad : Option Bad) (m : Link) (fs : List Frame) → Reads tester units l m fs (if not (is_denial o) && R then phase.Down else phase_for o) (not (is_denial o) && R) → By (see_end bad m) fs o R (is_some bad)
  settle None true bad m fs r = end_shut tester units bad l m fs phase.Down true refl r
  settle None false bad m fs r = end_open tester units bad l m fs phase.Asked refl r
  settle (Some c) R bad m fs r = settle_by (c == 16) R c bad m fs r

  waits_piece : (F : List Frame) (t : Stream) → l.phase ≡ phase.Asked → IsAwaited F → PieceReads tester units l (see_end t.bad (see_all tester units t.frames l)) F (joint F t)
  waits_piece F t waits is = record {
    extra = looked_at t.frames;
    old = waits_all F is.no_refusal is.none;
    looked = waits_looked F is.no_refusal is.none t.frames;
    reads = subst (λ (o : Option ℕ). By (see_end t.bad (see_all tester units t.frames l)) (looked_at t.frames) o (refuses_header (F ++ t.frames)) (is_some t.bad)) (sym (waits_answer F is.no_refusal is.none t.frames))
        (subst (λ (R : Bool). By (see_end t.bad (see_all tester units t.frames l)) (looked_at t.frames) (answer_in t.frames) R (is_some t.bad)) (sym (refuses_more F t.frames is.no_refusal))
        (settle (answer_in t.frames) (refuses_header t.frames) t.bad (see_all tester units t.frames l) (looked_at t.frames) (waits_reads tester units t.frames l waits)));
    later = λ e. waits;
  }

  up_piece : (F : List Frame) (t : Stream) → l.phase ≡ phase.Up → IsAccepted F → PieceReads tester units l (see_end t.bad (see_all tester units t.frames l)) F (joint F t)
  up_piece F t up is = record {
    extra = before_refusal t.frames;
    old = up_all F is.no_refusal is.code is.is is.ten;
    looked = up_looked F is.no_refusal is.code is.is is.ten t.frames;
    reads = subst (λ (o : Option ℕ). By (see_end t.bad (see_all tester units t.frames l)) (before_refusal t.frames) o (refuses_header (F ++ t.frames)) (is_some t.bad)) (sym (up_answer F is.no_refusal is.code is.is is.ten t.frames))
        (subst (λ (R : Bool). By (see_end t.bad (see_all tester units t.frames l)) (before_refusal t.frames) (Some is.code) R (is_some t.bad)) (sym (refuses_more F t.frames is.no_refusal))
        (subst (λ (ten : Bool). Reads tester units l (see_end t.bad (see_all tester units t.frames l)) (before_refusal t.frames) (if not (not ten) && (refuses_header t.frames || is_some t.bad) then phase.Down else (if ten then phase.Up else phase.Refused is.code)) (not (not ten) && (refuses_header t.frames || is_some t.bad))) (sym is.ten)
        (settle_by true (refuses_header t.frames) is.code t.bad (see_all tester units t.frames l) (before_refusal t.frames) (up_reads tester units t.frames l up))));
    later = λ e. absurd (both_ways _ (never_waits (is_broken (joint F t)) (answer_in (F ++ t.frames)) is.code (up_answer F is.no_refusal is.code is.is is.ten t.frames)) e);
  }

  pub piece_reads : (F : List Frame) (t : Stream) (p : Phase) → l.phase ≡ p → Clean p F → PieceReads tester units l (see_end t.bad (see_all tester units t.frames l)) F (joint F t)
  piece_reads F t phase.Down here clean = absurd clean
  piece_reads F t phase.Dialed here clean = absurd clean
  piece_reads F t phase.Asked here clean = waits_piece F t here clean
  piece_reads F t phase.Up here clean = up_piece F t here clean
  piece_reads F t (phase.Refused code) here clean = absurd clean
