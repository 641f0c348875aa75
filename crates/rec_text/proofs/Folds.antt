-- A reading of lines by recursion is its steps, and then its end.
use Rattle.std.proofs.Common.{◌≡◌, ◌⊎◌, ◌∙◌, ◌+◌, ℕ, List, [], ◌∷◌, Result, Ok, Err, inl, inr, ap, refl, sym}
use Rattle.rec_text.specs.Putting.{◌>>=◌}
use Rattle.rec_text.specs.Reading.{steps}
use Rattle.rec_text.specs.declared.fault.RecFault.{RecFault}
use Rattle.rec_text.specs.declared.fault.RecFault.TheVariants.{NoMemory}

module _ {S A : Type 0} (step : S → ℕ → List ℕ → Result S RecFault) (finish : S → Result A RecFault) (from : S → ℕ → List (List ℕ) → Result A RecFault)
    (none : (s : S) (n : ℕ) → from s n [] ≡ finish s)
    (one : (s : S) (n : ℕ) (line : List ℕ) (more : List (List ℕ)) → from s n (line ∷ more) ≡ (step s (n + 1) line >>= λ t. from t (n + 1) more)) where
  past : (n : ℕ) (more : List (List ℕ)) (r : Result S RecFault) → ((t : S) → from t n more ≡ (steps step t n more >>= finish))
      → (r >>= λ t. from t n more) ≡ ((r >>= λ t. steps step t n more) >>= finish)
  past n more (Ok t) h = h t
  past n more (Err e) h = refl

  folds : (ls : List (List ℕ)) (s : S) (n : ℕ) → from s n ls ≡ (steps step s n ls >>= finish)
  folds [] s n = none s n
  folds (line ∷ more) s n = one s n line more ∙ past (n + 1) more (step s (n + 1) line) (λ t. folds more t (n + 1))

  -- a call that stopped at a line
  pub stopped : (ls : List (List ℕ)) (s : S) (n : ℕ) (e : RecFault) (r : Result A RecFault) → (e ≡ NoMemory) ⊎ (steps step s n ls ≡ Err e) → r ≡ Err e
      → (r ≡ Err NoMemory) ⊎ (r ≡ from s n ls)
  stopped ls s n e r (inl lacks) is = inl (is ∙ ap Err lacks)
  stopped ls s n e r (inr at) is = inr (is ∙ sym (folds ls s n ∙ ap (λ (q : Result S RecFault). q >>= finish) at))

  -- a call that took every line, and then what follows them
  pub went : (ls : List (List ℕ)) (s : S) (n : ℕ) (t : S) (r : Result A RecFault) → steps step s n ls ≡ Ok t → (r ≡ Err NoMemory) ⊎ (r ≡ finish t)
      → (r ≡ Err NoMemory) ⊎ (r ≡ from s n ls)
  went ls s n t r all (inl lacks) = inl lacks
  went ls s n t r all (inr is) = inr (is ∙ sym (folds ls s n ∙ ap (λ (q : Result S RecFault). q >>= finish) all))
