-- Inboxes one by one, and the one inbox of the definition.
use Rattle.std.proofs.Common.{◌≡◌, ◌≢◌, inl, inr, ℕ, true, false, List, [], ◌∷◌, ◌++◌, Some, None, refl, sym, ◌∙◌, ap}
use Rattle.std.specs.Prelude.{Option, ◌==◌}
use Rattle.std.proofs.lemmas.Bool.{cases_Bool, eq-eqb, eqb-true, ne_eqb}
use Rattle.std.proofs.lemmas.List.{append-nil}
use Rattle.run_model.proofs.Words.{from_more}
use Rattle.run_model.specs.Link.{first_message, without_first}
use Rattle.run_model.specs.Ways.{UnitMessage, messages_from}
use Rattle.link_state.specs.Inboxes.{message_of, messages_all}
use Rattle.link_state.specs.declared.inbox.Message.{Message}

pub spoken_more : (ms : List Message) (m : Message) → messages_all (ms ++ (m ∷ [])) ≡ messages_all ms ++ (message_of m ∷ [])
spoken_more [] m = refl
spoken_more (x ∷ xs) m = ap (λ (ws : List UnitMessage). message_of x ∷ ws) (spoken_more xs m)

-- ------ a message more
pub more_there : (a : ℕ) (inbox : List (ℕ × UnitMessage)) (w : UnitMessage) → messages_from a (inbox ++ ((a, w) ∷ [])) ≡ messages_from a inbox ++ (w ∷ [])
more_there a inbox w = from_more a inbox ((a, w) ∷ []) ∙ ap (λ (ws : List UnitMessage). messages_from a inbox ++ ws) one
  where
    one : messages_from a ((a, w) ∷ []) ≡ w ∷ []
    one = let e : (a == a) ≡ true = eq-eqb a a refl in rw e refl

pub more_else : (a b : ℕ) (inbox : List (ℕ × UnitMessage)) (w : UnitMessage) → b ≢ a → messages_from a (inbox ++ ((b, w) ∷ [])) ≡ messages_from a inbox
more_else a b inbox w ne = from_more a inbox ((b, w) ∷ []) ∙ ap (λ (ws : List UnitMessage). messages_from a inbox ++ ws) none ∙ append-nil (messages_from a inbox)
  where
    none : messages_from a ((b, w) ∷ []) ≡ []
    none = let e : (b == a) ≡ false = ne_eqb b a ne in rw e refl

-- ------ the oldest message taken
abbrev pub head_of : List UnitMessage → Option UnitMessage
head_of [] = None
head_of (w ∷ ws) = Some w

abbrev pub tail_of : List UnitMessage → List UnitMessage
tail_of [] = []
tail_of (w ∷ ws) = ws

pub first_is : (a : ℕ) (inbox : List (ℕ × UnitMessage)) → first_message a inbox ≡ head_of (messages_from a inbox)
first_is a [] = refl
first_is a (m ∷ ms) = elim (cases_Bool (m.0 == a)) [ inl e ↦ rw e refl | inr e ↦ rw e (first_is a ms) ]

pub without_there : (a : ℕ) (inbox : List (ℕ × UnitMessage)) → messages_from a (without_first a inbox) ≡ tail_of (messages_from a inbox)
without_there a [] = refl
without_there a (m ∷ ms) = elim (cases_Bool (m.0 == a)) [ inl e ↦ rw e refl | inr e ↦ rw e (rw e (without_there a ms)) ]

pub without_else : (a b : ℕ) (inbox : List (ℕ × UnitMessage)) → b ≢ a → messages_from a (without_first b inbox) ≡ messages_from a inbox
without_else a b [] ne = refl
without_else a b (m ∷ ms) ne = elim (cases_Bool (m.0 == b)) [
  | inl e ↦
      let is : m.0 ≡ b = eqb-true m.0 b e in
      let other : (m.0 == a) ≡ false = ne_eqb m.0 a (λ q. ne (sym is ∙ q)) in
      rw (e, other) refl
  | inr e ↦ rw e (elim (cases_Bool (m.0 == a)) [
    | inl f ↦ rw f (ap (λ (ws : List UnitMessage). m.1 ∷ ws) (without_else a b ms ne))
    | inr f ↦ rw f (without_else a b ms ne)
  ])
]
