-- A quiet poll for the answer to the activation.
use Rattle.std.proofs.Common.{◌≡◌, inl, inr, ℕ, ◌+◌, ◌≤◌, ◌<◌, true, false, List, [], ◌∷◌, ◌++◌, refl, sym, ◌∙◌, ap, subst, arith}
use Rattle.std.specs.Prelude.{Bool, Option, ◌&&◌, ◌||◌, not, nat_le, if◌then◌else◌}
use Rattle.std.proofs.lemmas.Bool.{cases_Bool, le-leb, lt-leb, leb-true, leb-false, false≢true}
use Rattle.doip_frame.specs.Frame.{stream_of}
use Rattle.flash_plan.specs.declared.unit.LinkRules.{LinkRules}
use Rattle.flash_plan.specs.declared.unit.UnitPlan.{UnitPlan}
use Rattle.run_model.specs.Link.{Link, Phase, is_down, is_dialed, is_asked, is_open, drop_link, quiet_link, unanswered, polled_quiet}
use Rattle.run_model.specs.Link as phase
use Rattle.bay_core.specs.LinkLaws.{phase_for}
use Rattle.bay_core.specs.declared.event.Event.{Event}
use Rattle.bay_core.specs.declared.event.Event.TheVariants.{Tended}
use Rattle.bay_core.specs.declared.event.Tend.TheVariants.{Polled}
use Rattle.bay_core.specs.declared.event.Heard.TheVariants.{Quiet}
use Rattle.link_law.specs.Happened.{one, count}
use Rattle.link_law.specs.Kinds.{is_ask, is_quiet_wait}
use Rattle.link_law.specs.Looked.{answer_in}
use Rattle.link_law.specs.Follows.{last_dial, since_dial, is_ended, phase_in}
use Rattle.link_law.proofs.Lists.{has_same, count_more}
use Rattle.link_law.proofs.Moving.{Stands, stands}
use Rattle.link_law.proofs.Standing.{IsOpened, opened_of}
use Rattle.link_law.proofs.Silent.{IsSilent, untaken_words, asked_same, unasked_same, owed_same, all_bytes, since_bytes, ended_more, none_more}

shift : (a q : ℕ) → nat_le (a + 1000) ((a + q) + 1) ≡ nat_le 1000 (q + 1)
shift a q = elim (cases_Bool (nat_le 1000 (q + 1))) [
  | inl e ↦ (let le : 1000 ≤ q + 1 = leb-true _ _ e in le-leb (a + 1000) ((a + q) + 1) (omega (arith, le)) ∙ sym e)
  | inr e ↦ (let lt : q + 1 < 1000 = leb-false _ _ e in lt-leb (a + 1000) ((a + q) + 1) (omega (arith, lt)) ∙ sym e)
]

silent : IsSilent (Tended (Polled Quiet))
silent = record { no_dial = refl; none = refl; bytes = refl }

-- the phase behind it
quiet_phase : (d : Option Bool) (w : List Event) (p : Phase) → IsOpened d w p → phase_in d (w ++ (Tended (Polled Quiet) ∷ [])) ≡ (if nat_le 1000 (count is_quiet_wait w + 1) then phase.Down else p)
quiet_phase d w p o = ap (λ (x : Option Bool). phase_in x (w ++ (Tended (Polled Quiet) ∷ []))) o.live.dialed
    ∙ (λ i. if ended i then phase.Down else if (has_same is_ask (Tended (Polled Quiet)) refl w ∙ o.asked) i then (ap (λ (bs : List ℕ). phase_for (answer_in (stream_of bs).frames)) (since_bytes w (Tended (Polled Quiet)) silent) ∙ o.verdict) i else phase.Dialed)
  where
    ended : is_ended (w ++ (Tended (Polled Quiet) ∷ [])) ≡ nat_le 1000 (count is_quiet_wait w + 1)
    ended = ended_more w (Tended (Polled Quiet)) silent refl ∙ (λ i. o.live.called i || o.live.whole i || nat_le 1000 (count_more is_quiet_wait (Tended (Polled Quiet)) w i))

module _ (rules : LinkRules) (P : List UnitPlan) (es : List Event) (l : Link) (waits : l.phase ≡ phase.Asked) (s : Stands rules P es l) where
  opened : IsOpened (last_dial es) (since_dial es) l.phase
  opened = opened_of (last_dial es) (since_dial es) l.phase (sym s.link.phase) (ap is_open waits)

  test : unanswered (quiet_link l) ≡ nat_le 1000 (count is_quiet_wait (since_dial es) + 1)
  test = ap (λ (p : Phase). is_asked p && nat_le (l.asked + 1000) (l.ticks + 1)) waits
      ∙ ap (λ (n : ℕ). nat_le (l.asked + 1000) (n + 1)) (s.waits waits)
      ∙ shift l.asked (count is_quiet_wait (since_dial es))

  behind : (late : Bool) → nat_le 1000 (count is_quiet_wait (since_dial es) + 1) ≡ late → Stands rules P (es ++ (Tended (Polled Quiet) ∷ [])) (if late then drop_link (quiet_link l) else quiet_link l)
  behind true late = stands rules P es (Tended (Polled Quiet)) refl refl l (drop_link (quiet_link l)) s (record {
    got = s.link.bytes ∙ sym (all_bytes (since_dial es) (Tended (Polled Quiet)) silent);
    rest = s.link.rest ∙ ap (λ (bs : List ℕ). (stream_of bs).rest) (sym (all_bytes (since_dial es) (Tended (Polled Quiet)) silent));
    phase = sym (quiet_phase (last_dial es) (since_dial es) l.phase opened ∙ ap (λ (b : Bool). if b then phase.Down else l.phase) late);
    ticks = refl;
    asked = asked_same rules P es (Tended (Polled Quiet)) silent l refl s.link;
    losses = ap (λ (b : Bool). l.losses + one b) (sym late);
    dials = lost_one l.losses ∙ ap (λ (p : Phase). l.losses + one (not (is_down p))) (sym waits);
    owes = s.link.owes ∙ sym (owed_same (since_dial es) (Tended (Polled Quiet)) silent refl);
    unasked = unasked_same rules P es (Tended (Polled Quiet)) silent refl s.link;
    words = untaken_words rules P es (Tended (Polled Quiet)) silent l (drop_link (quiet_link l)) (λ a. refl) s.link refl;
  }) (λ e. absurd (false≢true (ap is_dialed e))) (λ e. absurd (false≢true (ap is_asked e)))
    where
      lost_one : (n : ℕ) → (n + 1) + 0 ≡ n + 1
      lost_one n = omega arith
  behind false late = stands rules P es (Tended (Polled Quiet)) refl refl l (quiet_link l) s (record {
    got = s.link.bytes ∙ sym (all_bytes (since_dial es) (Tended (Polled Quiet)) silent);
    rest = s.link.rest ∙ ap (λ (bs : List ℕ). (stream_of bs).rest) (sym (all_bytes (since_dial es) (Tended (Polled Quiet)) silent));
    phase = sym (quiet_phase (last_dial es) (since_dial es) l.phase opened ∙ ap (λ (b : Bool). if b then phase.Down else l.phase) late);
    ticks = refl;
    asked = asked_same rules P es (Tended (Polled Quiet)) silent l refl s.link;
    losses = none_more l.losses ∙ ap (λ (b : Bool). l.losses + one b) (sym late);
    dials = refl;
    owes = s.link.owes ∙ sym (owed_same (since_dial es) (Tended (Polled Quiet)) silent refl);
    unasked = unasked_same rules P es (Tended (Polled Quiet)) silent refl s.link;
    words = untaken_words rules P es (Tended (Polled Quiet)) silent l (quiet_link l) (λ a. refl) s.link refl;
  }) (λ e. absurd (false≢true (ap is_dialed (sym waits ∙ e))))
      (λ e. ap (λ (n : ℕ). n + 1) (s.waits waits) ∙ one_more l.asked (count is_quiet_wait (since_dial es)))
    where
      one_more : (a q : ℕ) → (a + q) + 1 ≡ a + (q + 1)
      one_more a q = omega arith

  pub polled : Stands rules P (es ++ (Tended (Polled Quiet) ∷ [])) (polled_quiet l)
  polled = subst (λ (b : Bool). Stands rules P (es ++ (Tended (Polled Quiet) ∷ [])) (if b then drop_link (quiet_link l) else quiet_link l)) (sym test) (behind (nat_le 1000 (count is_quiet_wait (since_dial es) + 1)) refl)
