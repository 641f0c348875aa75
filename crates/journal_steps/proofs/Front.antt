-- The tests look at no byte past the last body of a migrated file.
use Rattle.std.proofs.Common.{◌≡◌, inl, inr, ℕ, ◌+◌, ◌-◌, ◌<◌, ◌≤◌, min, Bool, true, false, List, length, take, sym, ◌∙◌, ap, arith, length-take}
use Rattle.std.specs.Prelude.{◌==◌, ◌&&◌, nat_le, slice_index, slice_range, if◌then◌else◌}
use Rattle.std.proofs.lemmas.Bool.{cases_lt, le-leb, lt-leb}
use Rattle.std.proofs.lemmas.List.{get_or-take, get_or_past}
use Rattle.flash_plan.specs.declared.outcome.Entry.{Entry}
use Rattle.journal_model.specs.Records.{Label, Form, slots_of, end_of, old_form, new_form, behind, form_of, gate_at, body_at, is_new, is_migrated, is_fresh, is_headed, says_digest, is_standing, is_journal, is_open, has, records}
use Rattle.journal_steps.specs.Read.{IsFront, limit_of}
use Rattle.journal_steps.proofs.Same.{Heads, Copies, fresh_same, form_same, headed_same, first_digest_same, standing_same, entries_same}

pub front_of : (m k : ℕ) (image : List ℕ) → k ≡ min m (length image) → IsFront m image (slice_range image 0 k)
front_of m k image is = record {
  size = omega (arith, length-take (k - 0) image, is);
  same = λ i lt. elim (cases_lt i (length image)) [
    | inl less ↦ get_or-take (k - 0) image i 0 (omega (arith, lt, less, is))
    | inr more ↦ get_or_past (take (k - 0) image) i 0 (omega (arith, more, length-take (k - 0) image)) ∙ sym (get_or_past image i 0 more)
  ];
}

pick_form : (Q : Form → Type 0) (b c : Bool) (x y z : Form) → Q x → Q y → Q z → Q (if b then x else (if c then y else z))
pick_form Q true c x y z qx qy qz = qx
pick_form Q false true x y z qx qy qz = qy
pick_form Q false false x y z qx qy qz = qz

-- what holds of the three forms holds of that of an image
pub each_form : (P : Label) (image : List ℕ) (Q : Form → Type 0) → Q (new_form P 0) → Q (new_form P (behind P)) → Q (old_form P) → Q (form_of P image)
each_form P image Q new moved old = pick_form Q (is_new image) (is_migrated image) (new_form P 0) (new_form P (behind P)) (old_form P) new moved old

pub form_ends : (P : Label) (image : List ℕ) → end_of (form_of P image) ≤ limit_of P
form_ends P image = each_form P image (λ F. end_of F ≤ limit_of P) (omega arith) (omega arith) (omega arith)

module _ (P : Label) (image front : List ℕ) (is : IsFront (limit_of P) image front) where
  le_same : (c : ℕ) → c ≤ limit_of P → nat_le c (length front) ≡ nat_le c (length image)
  le_same c small = elim (cases_lt (length image) c) [
    | inl less ↦ lt-leb c (length front) (omega (arith, is.size, less)) ∙ sym (lt-leb c (length image) less)
    | inr more ↦ le-leb c (length front) (omega (arith, is.size, more, small)) ∙ sym (le-leb c (length image) more)
  ]

  short_same : nat_le (length front) 1 ≡ nat_le (length image) 1
  short_same = elim (cases_lt 1 (length image)) [
    | inl more ↦ lt-leb (length front) 1 (omega (arith, is.size, more)) ∙ sym (lt-leb (length image) 1 more)
    | inr less ↦ le-leb (length front) 1 (omega (arith, is.size, less)) ∙ sym (le-leb (length image) 1 less)
  ]

  head : (i : ℕ) → i < 64 → slice_index front i ≡ slice_index image i
  head i lt = is.same i (omega (arith, lt))

  front_heads : Heads P image front
  front_heads = record {
    longer = le_same 64 (omega arith);
    long = le_same (end_of (form_of P image)) (form_ends P image);
    front = head;
    second = λ moved i lt. is.same (behind P + i) (omega (arith, lt));
  }

  copies : Copies P image front
  copies = record {
    heads = front_heads;
    all = λ k lt. record {
      gate = ap (λ (x : ℕ). x == 165) (is.same (gate_at (form_of P image) k) (omega (arith, lt, form_ends P image)));
      body = λ opened t tlt. is.same (body_at (form_of P image) k + t) (omega (arith, lt, tlt, form_ends P image));
    };
  }

  pub front_fresh : is_fresh front ≡ is_fresh image
  front_fresh = fresh_same P image front head short_same (le_same 8 (omega arith))

  pub front_headed : is_headed front ≡ is_headed image
  front_headed = headed_same P image front front_heads

  pub front_digest : says_digest P front 0 ≡ says_digest P image 0
  front_digest = first_digest_same P image front front_heads

  pub front_standing : is_standing P front ≡ is_standing P image
  front_standing = standing_same P image front copies

  pub front_journal : is_journal P front ≡ is_journal P image
  front_journal = λ i. front_headed i && front_digest i && front_standing i

  pub front_form : form_of P front ≡ form_of P image
  front_form = form_same P image front front_heads

  pub front_has : (e : Entry) → has (form_of P front) front e ≡ has (form_of P image) image e
  front_has e = entries_same P image front copies e

  pub front_records : (e : Entry) → records P front e ≡ records P image e
  front_records e = λ i. front_journal i && front_has e i

  pub front_gate : (k : ℕ) → k < slots_of (form_of P image) → is_open (form_of P image) front k ≡ is_open (form_of P image) image k
  front_gate k lt = (copies.all k lt).gate
