-- The tests of a file, one by one, and what they find together.
use Rattle.std.proofs.Common.{◌≡◌, inl, inr, ℕ, true, false, List, refl}
use Rattle.std.proofs.lemmas.Bool.{cases_Bool, and_parts, both_ways}
use Rattle.journal_model.specs.Records.{Label, is_fresh, is_headed, says_digest, is_standing, is_journal}
use Rattle.journal_steps.specs.Tested.{NotMade, NoJournal, OfOtherPlan, OfThisPlan, tested}
use Rattle.journal_steps.proofs.Made.{fresh_no_journal}

module _ (P : Label) (image : List ℕ) where
  pub tested_fresh : is_fresh image ≡ true → tested P image ≡ NotMade
  tested_fresh fresh = rw fresh refl

  pub tested_headless : is_fresh image ≡ false → is_headed image ≡ false → tested P image ≡ NoJournal
  tested_headless fresh headed = rw (fresh, headed) refl

  pub tested_other : is_fresh image ≡ false → is_headed image ≡ true → says_digest P image 0 ≡ false → tested P image ≡ OfOtherPlan
  tested_other fresh headed digest = rw (fresh, headed, digest) refl

  pub tested_fallen : is_fresh image ≡ false → says_digest P image 0 ≡ true → is_standing P image ≡ false → tested P image ≡ NoJournal
  tested_fallen fresh digest standing = elim (cases_Bool (is_headed image)) [
    | inl headed ↦ rw (fresh, headed, digest, standing) refl
    | inr headless ↦ tested_headless fresh headless
  ]

  pub tested_journal : is_journal P image ≡ true → tested P image ≡ OfThisPlan
  tested_journal journal =
      let parts = and_parts _ _ journal in
      let front = and_parts _ _ parts.0 in
      let headed : is_headed image ≡ true = front.0 in
      let digest : says_digest P image 0 ≡ true = front.1 in
      let standing : is_standing P image ≡ true = parts.1 in
      elim (cases_Bool (is_fresh image)) [
        | inl fresh ↦ absurd (both_ways _ (fresh_no_journal P image fresh) journal)
        | inr made ↦ rw (made, headed, digest, standing) refl
      ]
