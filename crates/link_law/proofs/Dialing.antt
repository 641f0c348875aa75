-- A dial, and the request for the activation.
use Rattle.std.proofs.Common.{◌≡◌, ℕ, ◌+◌, ◌≤◌, true, false, List, [], ◌∷◌, ◌++◌, length, drop, Some, refl, sym, ◌∙◌, ap, subst, arith}
use Rattle.std.specs.Prelude.{Bool, Option, ◌||◌, not, nat_le, nat_lt, is_some, if◌then◌else◌}
use Rattle.std.proofs.lemmas.Bool.{false≢true, both_ways}
use Rattle.std.proofs.Math.Bool.{or-true}
use Rattle.doip_frame.specs.Frame.{stream_of}
use Rattle.flash_plan.specs.declared.unit.LinkRules.{LinkRules}
use Rattle.flash_plan.specs.declared.unit.UnitPlan.{UnitPlan}
use Rattle.run_model.specs.Link.{Link, Phase, is_down, is_dialed, is_asked, first_message, dialed_link, asked_link, new_link, drop_link}
use Rattle.run_model.specs.Link as phase
use Rattle.run_model.specs.Ways.{UnitMessage, messages_from}
use Rattle.bay_core.specs.LinkLaws.{phase_for}
use Rattle.bay_core.specs.declared.event.Event.{Event}
use Rattle.bay_core.specs.declared.event.Event.TheVariants.{Tended}
use Rattle.bay_core.specs.declared.event.Tend.TheVariants.{Dialed, Asked}
use Rattle.link_law.specs.Happened.{one, has, count}
use Rattle.link_law.specs.Kinds.{bytes_in, is_dial, is_ask, is_quiet, is_quiet_wait}
use Rattle.link_law.specs.Looked.{answer_in, unit_messages}
use Rattle.link_law.specs.Follows.{last_dial, since_dial, is_ended, is_loss, phase_in, is_owed, taken}
use Rattle.link_law.proofs.Lists.{has_more, count_more, count_same, behind_it, to_same, count_after_more, dial_is}
use Rattle.link_law.proofs.Moving.{Stands, stands}
use Rattle.link_law.proofs.Standing.{IsFresh, fresh_of}
use Rattle.link_law.proofs.Silent.{IsSilent, fails, untaken_words, asked_now, owed_same, all_bytes, since_bytes, ended_more, none_more}

module _ (rules : LinkRules) (P : List UnitPlan) (es : List Event) (lost : Bool) where
  -- the link behind a dial
  record IsDialed (l l2 : Link) : Type 0 where
    phase : l2.phase ≡ phase_in (Some lost) []
    got : l2.got ≡ []
    rest : l2.rest ≡ []
    inbox : l2.inbox ≡ []
    owes : l2.owes ≡ false
    losses : l2.losses ≡ l.losses + one lost
    ticks : l2.ticks ≡ l.ticks
    asked : l2.asked ≡ l.asked
    calm : is_asked l2.phase ≡ false
    dials : l2.losses + one (not (is_down l2.phase)) ≡ l.losses + 1

  now : since_dial (es ++ (Tended (Dialed lost) ∷ [])) ≡ []
  now = behind_it is_dial (Tended (Dialed lost)) refl es

  dialed_stands : (l l2 : Link) → l.phase ≡ phase.Down → Stands rules P es l → IsDialed l l2 → Stands rules P (es ++ (Tended (Dialed lost) ∷ [])) l2
  dialed_stands l l2 down s d = record {
    link = record {
      bytes = d.got ∙ ap bytes_in (sym now);
      rest = d.rest ∙ ap (λ (w : List Event). (stream_of (bytes_in w)).rest) (sym now);
      phase = d.phase ∙ (λ i. phase_in (sym (dial_is es (Tended (Dialed lost)) refl) i) (sym now i));
      ticks = d.ticks ∙ s.link.ticks ∙ sym (count_same is_quiet (Tended (Dialed lost)) refl es);
      asked = d.asked ∙ s.link.asked ∙ ap (count is_quiet) (sym (to_same is_ask (Tended (Dialed lost)) refl es));
      losses = d.losses ∙ ap (λ (n : ℕ). n + one lost) s.link.losses ∙ sym (count_after_more is_loss [] es (Tended (Dialed lost)));
      dials = d.dials ∙ ap (λ (n : ℕ). n + 1) (none_more l.losses ∙ ap (λ (p : Phase). l.losses + one (not (is_down p))) (sym down) ∙ s.link.dials) ∙ sym (count_more is_dial (Tended (Dialed lost)) es);
      owes = d.owes ∙ ap is_owed (sym now);
      unasked = λ none_asked. ap bytes_in now;
      came = λ a known. subst (λ (w : List Event). taken rules.tester P a w ≤ length (unit_messages rules.tester a (bytes_in w))) (sym now) (omega arith);
      inbox = λ a known. ap (messages_from a) d.inbox ∙ ap (λ (w : List Event). drop (taken rules.tester P a w) (unit_messages rules.tester a (bytes_in w))) (sym now);
      kept = λ a known. ap (λ (ms : List (ℕ × UnitMessage)). is_some (first_message a ms)) d.inbox ∙ ap (λ (w : List Event). nat_lt (taken rules.tester P a w) (length (unit_messages rules.tester a (bytes_in w)))) (sym now);
      others = λ a unknown. ap (messages_from a) d.inbox;
    };
    fresh = λ e. ap (count is_quiet_wait) now;
    waits = λ e. absurd (both_ways _ d.calm (ap is_asked e));
  }

lost_dial : (n : ℕ) → (n + 1) + 0 ≡ n + 1
lost_dial n = omega arith

pub dialed : (rules : LinkRules) (P : List UnitPlan) (es : List Event) (lost : Bool) (l : Link) → l.phase ≡ phase.Down → Stands rules P es l → Stands rules P (es ++ (Tended (Dialed lost) ∷ [])) (dialed_link lost l)
dialed rules P es true l down s = dialed_stands rules P es true l (drop_link (new_link l)) down s
    (record { phase = refl; got = refl; rest = refl; inbox = refl; owes = refl; losses = refl; ticks = refl; asked = refl; calm = refl; dials = lost_dial l.losses })
dialed rules P es false l down s = dialed_stands rules P es false l (new_link l) down s
    (record { phase = refl; got = refl; rest = refl; inbox = refl; owes = refl; losses = none_more l.losses; ticks = refl; asked = refl; calm = refl; dials = refl })

-- ------ the activation asked for
ask_silent : (lost : Bool) → IsSilent (Tended (Asked lost))
ask_silent lost = record { no_dial = refl; none = refl; bytes = refl }

module _ (rules : LinkRules) (P : List UnitPlan) (es : List Event) (l : Link) (fresh : l.phase ≡ phase.Dialed) (s : Stands rules P es l) where
  was : IsFresh (last_dial es) (since_dial es)
  was = fresh_of (last_dial es) (since_dial es) l.phase (sym s.link.phase) (ap is_dialed fresh)

  not_ended : is_ended (since_dial es ++ (Tended (Asked false) ∷ [])) ≡ false
  not_ended = ended_more (since_dial es) (Tended (Asked false)) (ask_silent false) refl
      ∙ (λ i. was.live.called i || was.live.whole i || (ap (nat_le 1000) (count_same is_quiet_wait (Tended (Asked false)) refl (since_dial es)) ∙ was.live.patient) i)

  has_asked : has is_ask (since_dial es ++ (Tended (Asked false) ∷ [])) ≡ true
  has_asked = has_more is_ask (Tended (Asked false)) (since_dial es) ∙ or-true (has is_ask (since_dial es))

  no_bytes : bytes_in (since_dial es ++ (Tended (Asked false) ∷ [])) ≡ []
  no_bytes = since_bytes (since_dial es) (Tended (Asked false)) (ask_silent false) ∙ s.link.unasked was.asked

  waits_now : phase_in (last_dial es) (since_dial es ++ (Tended (Asked false) ∷ [])) ≡ phase.Asked
  waits_now = ap (λ (d : Option Bool). phase_in d (since_dial es ++ (Tended (Asked false) ∷ []))) was.live.dialed
      ∙ (λ i. if not_ended i then phase.Down else if has_asked i then phase_for (answer_in (stream_of (no_bytes i)).frames) else phase.Dialed)

  asked_well : Stands rules P (es ++ (Tended (Asked false) ∷ [])) (asked_link false l)
  asked_well = stands rules P es (Tended (Asked false)) refl refl l (asked_link false l) s (record {
    got = s.link.bytes ∙ sym (all_bytes (since_dial es) (Tended (Asked false)) (ask_silent false));
    rest = s.link.rest ∙ ap (λ (bs : List ℕ). (stream_of bs).rest) (sym (all_bytes (since_dial es) (Tended (Asked false)) (ask_silent false)));
    phase = sym waits_now;
    ticks = none_more l.ticks;
    asked = asked_now rules P es (Tended (Asked false)) (ask_silent false) l refl refl s.link;
    losses = none_more l.losses;
    dials = ap (λ (p : Phase). l.losses + one (not (is_down p))) (sym fresh);
    owes = s.link.owes ∙ sym (owed_same (since_dial es) (Tended (Asked false)) (ask_silent false) refl);
    unasked = λ none_asked. absurd (both_ways _ none_asked (has_asked));
    words = untaken_words rules P es (Tended (Asked false)) (ask_silent false) l (asked_link false l) (λ a. refl) s.link refl;
  }) (λ e. absurd (false≢true (ap is_dialed e)))
      (λ e. none_more l.ticks ∙ ap (λ (n : ℕ). l.ticks + (n + 0)) (sym (s.fresh fresh)))

  asked_lost : Stands rules P (es ++ (Tended (Asked true) ∷ [])) (asked_link true l)
  asked_lost = fails rules P es (Tended (Asked true)) (ask_silent true) l (asked_link true l) s (record {
    failed = refl;
    no_quiet = refl;
    loss = refl;
    stood = ap is_down fresh;
    phase = refl;
    losses = refl;
    got = refl;
    rest = refl;
    ticks = refl;
    asked = asked_now rules P es (Tended (Asked true)) (ask_silent true) l refl refl s.link;
    owes = s.link.owes ∙ sym (owed_same (since_dial es) (Tended (Asked true)) (ask_silent true) refl);
    unasked = λ none_asked. absurd (both_ways _ none_asked (has_more is_ask (Tended (Asked true)) (since_dial es) ∙ or-true (has is_ask (since_dial es))));
    words = untaken_words rules P es (Tended (Asked true)) (ask_silent true) l (asked_link true l) (λ a. refl) s.link refl;
  })

pub asked : (rules : LinkRules) (P : List UnitPlan) (es : List Event) (lost : Bool) (l : Link) → l.phase ≡ phase.Dialed → Stands rules P es l → Stands rules P (es ++ (Tended (Asked lost) ∷ [])) (asked_link lost l)
asked rules P es true l fresh s = asked_lost rules P es l fresh s
asked rules P es false l fresh s = asked_well rules P es l fresh s
