-- Each unit's inbox and the one inbox of the definition, with a message more and with one less.
use Rattle.std.proofs.Common.{◌≡◌, ◌≢◌, inl, inr, ℕ, ◌<◌, List, [], ◌∷◌, ◌++◌, length, drop, Some, None, refl, sym, ◌∙◌, ap}
use Rattle.std.specs.Prelude.{Option, ◌==◌, is_some, slice_index}
use Rattle.std.proofs.lemmas.Bool.{cases_Bool, false≢true, eq-eqb, eqb-true}
use Rattle.run_model.specs.Link.{first_message, without_first}
use Rattle.run_model.specs.Ways.{UnitMessage, messages_from}
use Rattle.link_state.specs.Inboxes.{message_of, messages_all, first_of, queue_at, IsPlace}
use Rattle.link_state.specs.State.{AreDistinct, option_message}
use Rattle.link_state.specs.declared.inbox.Message.{Message}
use Rattle.link_state.proofs.Inboxes.{spoken_more, more_there, more_else, head_of, tail_of, first_is, without_there, without_else}

abbrev pub Fits : List ℕ → List (List Message) → List (ℕ × UnitMessage) → Type 0
Fits units boxes inbox = (n : ℕ) → n < length units → messages_all (queue_at boxes n) ≡ messages_from (slice_index units n) inbox

pub spoken_some : (o : Option Message) → is_some (option_message o) ≡ is_some o
spoken_some None = refl
spoken_some (Some m) = refl

module _ (units : List ℕ) (old new : List (List Message)) (n source : ℕ) (inbox : List (ℕ × UnitMessage)) (distinct : AreDistinct units) (place : IsPlace units source n) (fits : Fits units old inbox) (others : (k : ℕ) → k ≢ n → queue_at new k ≡ queue_at old k) where
  other_address : (k : ℕ) → k < length units → k ≢ n → source ≢ slice_index units k
  other_address k lt ne = λ is. ne (distinct k n lt place.within (sym is ∙ sym place.is))

  pub kept : (m : Message) → queue_at new n ≡ queue_at old n ++ (m ∷ []) → Fits units new (inbox ++ ((source, message_of m) ∷ []))
  kept m there k lt = elim (cases_Bool (k == n)) [
    | inl e ↦
        let is : k ≡ n = eqb-true k n e in
        let address : slice_index units k ≡ source = ap (slice_index units) is ∙ place.is in
        ap (λ (j : ℕ). messages_all (queue_at new j)) is ∙ ap messages_all there ∙ spoken_more (queue_at old n) m
        ∙ ap (λ (ws : List UnitMessage). ws ++ (message_of m ∷ [])) (fits n place.within ∙ ap (λ (a : ℕ). messages_from a inbox) place.is)
        ∙ sym (more_there source inbox (message_of m)) ∙ ap (λ (a : ℕ). messages_from a (inbox ++ ((source, message_of m) ∷ []))) (sym address)
    | inr e ↦
        let ne : k ≢ n = λ is. false≢true (sym e ∙ eq-eqb k n is) in
        ap messages_all (others k ne) ∙ fits k lt ∙ sym (more_else (slice_index units k) source inbox (message_of m) (other_address k lt ne))
  ]

  spoken_less : (ms : List Message) → messages_all (drop 1 ms) ≡ tail_of (messages_all ms)
  spoken_less [] = refl
  spoken_less (m ∷ ms) = refl

  spoken_first : (ms : List Message) → option_message (first_of ms) ≡ head_of (messages_all ms)
  spoken_first [] = refl
  spoken_first (m ∷ ms) = refl

  here : messages_all (queue_at old n) ≡ messages_from source inbox
  here = fits n place.within ∙ ap (λ (a : ℕ). messages_from a inbox) place.is

  pub took : queue_at new n ≡ drop 1 (queue_at old n) → Fits units new (without_first source inbox)
  took there k lt = elim (cases_Bool (k == n)) [
    | inl e ↦
        let is : k ≡ n = eqb-true k n e in
        let address : slice_index units k ≡ source = ap (slice_index units) is ∙ place.is in
        ap (λ (j : ℕ). messages_all (queue_at new j)) is ∙ ap messages_all there ∙ spoken_less (queue_at old n) ∙ ap tail_of here
        ∙ sym (without_there source inbox) ∙ ap (λ (a : ℕ). messages_from a (without_first source inbox)) (sym address)
    | inr e ↦
        let ne : k ≢ n = λ is. false≢true (sym e ∙ eq-eqb k n is) in
        ap messages_all (others k ne) ∙ fits k lt ∙ sym (without_else (slice_index units k) source inbox (other_address k lt ne))
  ]

  pub first_took : (r : Option Message) → r ≡ first_of (queue_at old n) → option_message r ≡ first_message source inbox
  first_took r is = ap option_message is ∙ spoken_first (queue_at old n) ∙ ap head_of here ∙ sym (first_is source inbox)
