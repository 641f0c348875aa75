-- What is handed out since a dial.
use Rattle.std.proofs.Common.{◌≡◌, ◌≢◌, inl, inr, ℕ, true, false, List, [], ◌∷◌, ◌++◌, refl, sym, ◌∙◌, ap, append_assoc}
use Rattle.std.specs.Prelude.{Bool, ◌==◌, ◌||◌}
use Rattle.std.proofs.lemmas.Bool.{cases_Bool, false≢true, eq-eqb, eqb-true}
use Rattle.std.proofs.lemmas.List.{append-nil}
use Rattle.gateway_link.specs.Handed.{AreHanded, Step, Dials, Asks, Says, Sends, Polls, Takes, is_dial, has_dial, step_link, after, came_by, came, handed_by, handed}
use Rattle.gateway_link.specs.declared.calls.Came.TheVariants.{Quiet, Piece, Lost}
use Rattle.link_state.specs.Laws.{AreInboxLaws, option_list}
use Rattle.run_model.specs.Link.{Link, is_known, first_message, take_message, dialed_link, lost_or}
use Rattle.run_model.specs.Ways.{UnitMessage, messages_from}

module _ (laws : AreInboxLaws) (tester : ℕ) (units : List ℕ) (a : ℕ) (known : is_known units a ≡ true) where
  words : Link → List UnitMessage
  words l = messages_from a l.inbox

  lost_words : (lost : Bool) (l : Link) → (lost_or lost l).inbox ≡ l.inbox
  lost_words true l = refl
  lost_words false l = refl

  -- what was there and what comes in a step is what is handed out in it and what is there then
  step_words : (s : Step) (l : Link) → has_dial (s ∷ []) ≡ false → messages_from a l.inbox ++ came_by tester units a s l ≡ handed_by tester units a s l ++ messages_from a (step_link tester units s l).inbox
  step_words (Dials lost) l none = absurd (false≢true (sym none))
  step_words (Asks lost) l none = append-nil _ ∙ ap (messages_from a) (sym (lost_words lost _))
  step_words (Says lost) l none = append-nil _ ∙ ap (messages_from a) (sym (lost_words lost _))
  step_words (Sends lost) l none = append-nil _ ∙ ap (messages_from a) (sym (lost_words lost l))
  step_words (Polls Quiet) l none = append-nil _ ∙ ap (messages_from a) (sym (laws.quiet l))
  step_words (Polls (Piece bytes)) l none = sym (laws.piece tester units bytes a l known)
  step_words (Polls Lost) l none = append-nil _
  step_words (Takes b) l none = elim (cases_Bool (b == a)) [
    | inl e ↦
        let is : b ≡ a = eqb-true b a e in
        rw e (append-nil _ ∙ laws.taken a l ∙ ap (λ (x : ℕ). option_list (first_message a l.inbox) ++ messages_from a (take_message x l).inbox) (sym is))
    | inr e ↦
        let ne : b ≢ a = λ is. false≢true (sym e ∙ eq-eqb b a is) in
        rw e (append-nil _ ∙ sym (laws.others a b l ne))
  ]

  first_none : (x y : Bool) → x || y ≡ false → x ≡ false
  first_none true y e = e
  first_none false y e = refl

  second_none : (x y : Bool) → x || y ≡ false → y ≡ false
  second_none true y e = absurd (false≢true (sym e))
  second_none false y e = e

  or_none : (x : Bool) → x ≡ false → x || false ≡ false
  or_none true e = e
  or_none false e = refl

  all_words : (steps : List Step) (l : Link) → has_dial steps ≡ false → messages_from a l.inbox ++ came tester units a steps l ≡ handed tester units a steps l ++ messages_from a (after tester units steps l).inbox
  all_words [] l none = append-nil _
  all_words (s ∷ ss) l none =
      let w = messages_from a l.inbox in
      let next : Link = step_link tester units s l in
      let one : has_dial (s ∷ []) ≡ false = or_none (is_dial s) (first_none (is_dial s) (has_dial ss) none) in
      sym (append_assoc w (came_by tester units a s l) (came tester units a ss next))
      ∙ ap (λ (x : List UnitMessage). x ++ came tester units a ss next) (step_words s l one)
      ∙ append_assoc (handed_by tester units a s l) (messages_from a next.inbox) (came tester units a ss next)
      ∙ ap (λ (x : List UnitMessage). handed_by tester units a s l ++ x) (all_words ss next (second_none (is_dial s) (has_dial ss) none))
      ∙ sym (append_assoc (handed_by tester units a s l) (handed tester units a ss next) (messages_from a (after tester units ss next).inbox))

pub are_handed : AreInboxLaws → AreHanded
are_handed laws = record {
  in_order = λ tester units a lost before steps known none.
      ap (λ (i : List (ℕ × UnitMessage)). messages_from a i ++ came tester units a steps (dialed_link lost before)) (sym (laws.dialed lost before))
      ∙ all_words laws tester units a known steps (dialed_link lost before) none;
}
