-- One event more: what has to be shown of the link behind it.
use Rattle.std.proofs.Common.{◌≡◌, ℕ, ◌+◌, ◌≤◌, true, false, List, [], ◌∷◌, ◌++◌, length, drop, None, sym, ◌∙◌, ap, subst}
use Rattle.std.specs.Prelude.{not}
use Rattle.doip_frame.specs.Frame.{stream_of}
use Rattle.flash_plan.specs.declared.unit.LinkRules.{LinkRules}
use Rattle.flash_plan.specs.declared.unit.UnitPlan.{UnitPlan}
use Rattle.run_model.specs.Link.{Link, is_down, is_known}
use Rattle.run_model.specs.Link as phase
use Rattle.run_model.specs.Ways.{messages_from}
use Rattle.bay_core.specs.Core.{addresses_of}
use Rattle.bay_core.specs.declared.event.Event.{Event}
use Rattle.link_law.specs.Happened.{one, has, count, to_last}
use Rattle.link_law.specs.Kinds.{event_bytes, bytes_in, is_dial, is_ask, is_quiet, is_quiet_wait, dial_of}
use Rattle.link_law.specs.Looked.{unit_messages}
use Rattle.link_law.specs.Follows.{last_dial, since_dial, is_loss, phase_in, is_owed, takes, taken, IsLinkOf}
use Rattle.link_law.proofs.Lists.{count_more, count_same, behind_same, bytes_more, count_after_more, dial_same}
use Rattle.link_law.proofs.Words.{IsKept, more_came}

-- the link by the events, and besides what holds before the first answer to the activation
pub record Stands (rules : LinkRules) (P : List UnitPlan) (es : List Event) (l : Link) : Type 0 where
  pub link : IsLinkOf rules P es l
  pub fresh : l.phase ≡ phase.Dialed → count is_quiet_wait (since_dial es) ≡ 0
  pub waits : l.phase ≡ phase.Asked → l.ticks ≡ l.asked + count is_quiet_wait (since_dial es)

module _ (rules : LinkRules) (P : List UnitPlan) (es : List Event) (x : Event) where
  -- each unit's messages behind the event
  pub record WordsMove (l2 : Link) : Type 0 where
    pub known : (a : ℕ) → is_known (addresses_of P) a ≡ true
        → IsKept (messages_from a l2.inbox) (taken rules.tester P a (since_dial es)) (takes rules.tester P a (since_dial es) x) (unit_messages rules.tester a (bytes_in (since_dial es) ++ event_bytes x))
    pub others : (a : ℕ) → is_known (addresses_of P) a ≡ false → messages_from a l2.inbox ≡ []

  pub record Moves (l l2 : Link) : Type 0 where
    pub got : l2.got ≡ bytes_in (since_dial es) ++ event_bytes x
    pub rest : l2.rest ≡ (stream_of (bytes_in (since_dial es) ++ event_bytes x)).rest
    pub phase : l2.phase ≡ phase_in (last_dial es) (since_dial es ++ (x ∷ []))
    pub ticks : l2.ticks ≡ l.ticks + one (is_quiet x)
    pub asked : l2.asked ≡ count is_quiet (to_last is_ask (es ++ (x ∷ [])))
    pub losses : l2.losses ≡ l.losses + one (is_loss es x)
    pub dials : l2.losses + one (not (is_down l2.phase)) ≡ l.losses + one (not (is_down l.phase))
    pub owes : l2.owes ≡ is_owed (since_dial es ++ (x ∷ []))
    pub unasked : has is_ask (since_dial es ++ (x ∷ [])) ≡ false → bytes_in (since_dial es) ++ event_bytes x ≡ []
    pub words : WordsMove l2

  module _ (no_dial : is_dial x ≡ false) (none : dial_of x ≡ None) where
    pub since : since_dial (es ++ (x ∷ [])) ≡ since_dial es ++ (x ∷ [])
    since = behind_same is_dial x no_dial es

    pub bytes_now : bytes_in (since_dial (es ++ (x ∷ []))) ≡ bytes_in (since_dial es) ++ event_bytes x
    bytes_now = ap bytes_in since ∙ bytes_more (since_dial es) x

    taken_now : (a : ℕ) → taken rules.tester P a (since_dial (es ++ (x ∷ []))) ≡ taken rules.tester P a (since_dial es) + one (takes rules.tester P a (since_dial es) x)
    taken_now a = ap (taken rules.tester P a) since ∙ count_after_more (takes rules.tester P a) [] (since_dial es) x

    pub moved : (l l2 : Link) → IsLinkOf rules P es l → Moves l l2 → IsLinkOf rules P (es ++ (x ∷ [])) l2
    moved l l2 is m = record {
      bytes = m.got ∙ sym bytes_now;
      rest = m.rest ∙ ap (λ (bs : List ℕ). (stream_of bs).rest) (sym bytes_now);
      phase = m.phase ∙ (λ i. phase_in (sym (dial_same es x no_dial none) i) (sym since i));
      ticks = m.ticks ∙ ap (λ (n : ℕ). n + one (is_quiet x)) is.ticks ∙ sym (count_more is_quiet x es);
      asked = m.asked;
      losses = m.losses ∙ ap (λ (n : ℕ). n + one (is_loss es x)) is.losses ∙ sym (count_after_more is_loss [] es x);
      dials = m.dials ∙ is.dials ∙ sym (count_same is_dial x no_dial es);
      owes = m.owes ∙ ap is_owed (sym since);
      unasked = λ none_asked. bytes_now ∙ m.unasked (sym (ap (has is_ask) since) ∙ none_asked);
      came = λ a known. subst (λ (n : ℕ). n ≤ length (unit_messages rules.tester a (bytes_in (since_dial (es ++ (x ∷ [])))))) (sym (taken_now a))
          (subst (λ (bs : List ℕ). taken rules.tester P a (since_dial es) + one (takes rules.tester P a (since_dial es) x) ≤ length (unit_messages rules.tester a bs)) (sym bytes_now) (m.words.known a known).came);
      inbox = words_now;
      kept = λ a known. more_came a (taken rules.tester P a (since_dial (es ++ (x ∷ [])))) (unit_messages rules.tester a (bytes_in (since_dial (es ++ (x ∷ []))))) l2.inbox (words_now a known);
      others = m.words.others;
    }
      where
        words_now : (a : ℕ) → is_known (addresses_of P) a ≡ true → messages_from a l2.inbox ≡ drop (taken rules.tester P a (since_dial (es ++ (x ∷ [])))) (unit_messages rules.tester a (bytes_in (since_dial (es ++ (x ∷ [])))))
        words_now a known = (m.words.known a known).words ∙ (λ i. drop (sym (taken_now a) i) (unit_messages rules.tester a (sym bytes_now i)))

    pub stands : (l l2 : Link) → Stands rules P es l → Moves l l2 → (l2.phase ≡ phase.Dialed → count is_quiet_wait (since_dial es) + one (is_quiet_wait x) ≡ 0)
        → (l2.phase ≡ phase.Asked → l2.ticks ≡ l2.asked + (count is_quiet_wait (since_dial es) + one (is_quiet_wait x))) → Stands rules P (es ++ (x ∷ [])) l2
    stands l l2 s m fresh waits = record {
      link = moved l l2 s.link m;
      fresh = λ e. count_now ∙ fresh e;
      waits = λ e. waits e ∙ ap (λ (n : ℕ). l2.asked + n) (sym count_now);
    }
      where
        count_now : count is_quiet_wait (since_dial (es ++ (x ∷ []))) ≡ count is_quiet_wait (since_dial es) + one (is_quiet_wait x)
        count_now = ap (count is_quiet_wait) since ∙ count_more is_quiet_wait x (since_dial es)
