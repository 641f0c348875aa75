-- Bytes that agree at the header, the gates and the open bodies record the same.
use Rattle.std.proofs.Common.{◌≡◌, inl, inr, ℕ, zero, suc, ◌+◌, ◌<◌, ◌≤◌, true, false, List, length, slice_index, refl, sym, ◌∙◌, ap, subst, arith, lit<}
use Rattle.std.specs.Prelude.{◌==◌, Bool, not, ◌&&◌, ◌||◌, nat_le, replicate, if◌then◌else◌}
use Rattle.std.proofs.lemmas.Bool.{cases_Bool, cases_eq, and_left, and_parts, leb-true}
use Rattle.flash_plan.specs.declared.outcome.Entry.{Entry}
use Rattle.flash_plan.specs.declared.outcome.Entry.TheVariants.{Begun, Marked, Complete}
use Rattle.flash_base.specs.Numbers.{each_below, some_below}
use Rattle.journal_model.specs.Records.{Label, Form, slots_of, segments_of, end_of, old_form, new_form, behind, form_of, is_new, is_migrated, body_at, is_open, spells, is_spelt, has, is_formed, is_distinct, is_ordered, is_filled, is_journal, body_of, magic, magic_and_version, bytes4, stands_at, is_fresh, is_header, is_new_header, is_headed, says_digest, says_slots, counts, has_second, is_standing, records}
use Rattle.journal_steps.specs.Read.{one_formed, one_apart, one_distinct, one_ordered}
use Rattle.journal_steps.proofs.Slots.{below_same}

pub some_same : (n : ℕ) (p q : ℕ → Bool) → ((k : ℕ) → k < n → p k ≡ q k) → some_below n p ≡ some_below n q
some_same zero p q each = refl
some_same (suc n) p q each = λ i. some_same n p q (λ k lt. each k (omega (arith, lt))) i || each n (omega arith) i

pub some_at : (n : ℕ) (p : ℕ → Bool) (k : ℕ) → k < n → p k ≡ true → some_below n p ≡ true
some_at zero p k lt is = absurd (omega (arith, lt))
some_at (suc n) p k lt is = elim (cases_eq k n) [
  | inl e ↦ or_right _ _ (subst (λ (j : ℕ). p j ≡ true) e is)
  | inr ne ↦ or_left _ _ (some_at n p k (omega (arith, lt, ne)) is)
]
  where
    or_right : (x y : Bool) → y ≡ true → (x || y) ≡ true
    or_right true y e = refl
    or_right false y e = e

    or_left : (x y : Bool) → x ≡ true → (x || y) ≡ true
    or_left x y e = rw e refl

-- the order, by the entries that two images have
pub ordered_told : (F : Form) (R Q : Entry → Bool) → ((x : Entry) → R x ≡ Q x) → each_below F.units (one_ordered F R) ≡ each_below F.units (one_ordered F Q)
ordered_told F R Q same = below_same F.units (one_ordered F R) (one_ordered F Q) (λ u lt i. same (Begun u) i
    || (not (same (Complete u) i) && below_same (segments_of F u) (λ s. not (R (Marked u s))) (λ s. not (Q (Marked u s))) (λ s slt j. not (same (Marked u s) j)) i))

-- the two agree at gate k of a form, and where it is open at body k
pub record Agrees (F : Form) (base image : List ℕ) (k : ℕ) : Type 0 where
  pub gate : is_open F image k ≡ is_open F base k
  pub body : is_open F base k ≡ true → (t : ℕ) → t < 16 → slice_index image (body_at F k + t) ≡ slice_index base (body_at F k + t)

module _ (F : Form) (base image : List ℕ) where
  pub spells_same : (k : ℕ) → Agrees F base image k → is_open F base k ≡ true → (x : Entry) → spells F image k x ≡ spells F base k x
  spells_same k agrees is x = below_same 16 (λ j. slice_index image (body_at F k + j) == slice_index (body_of x) j) (λ j. slice_index base (body_at F k + j) == slice_index (body_of x) j) (λ t lt. ap (λ (b : ℕ). b == slice_index (body_of x) t) (agrees.body is t lt))

  pub slot_same : (k : ℕ) → Agrees F base image k → (x : Entry) → (is_open F image k && spells F image k x) ≡ (is_open F base k && spells F base k x)
  slot_same k agrees x = elim (cases_Bool (is_open F base k)) [
    | inl is ↦ λ i. agrees.gate i && spells_same k agrees is x i
    | inr is ↦ and_left _ _ (agrees.gate ∙ is) ∙ sym (and_left _ _ is)
  ]

  shut_same : (k : ℕ) (x y : Bool) → Agrees F base image k → is_open F base k ≡ false → (not (is_open F image k) || x) ≡ (not (is_open F base k) || y)
  shut_same k x y agrees is = let now : is_open F image k ≡ false = agrees.gate ∙ is in rw (now, is) refl

  -- the body of an open slot is in the form in both, or in neither
  pub spelt_same : (k : ℕ) → ((x : Entry) → spells F image k x ≡ spells F base k x) → is_spelt F image k ≡ is_spelt F base k
  spelt_same k same = some_same F.units (λ u. spells F image k (Begun u) || spells F image k (Complete u) || some_below (segments_of F u) (λ s. spells F image k (Marked u s)))
      (λ u. spells F base k (Begun u) || spells F base k (Complete u) || some_below (segments_of F u) (λ s. spells F base k (Marked u s)))
      (λ u lt i. same (Begun u) i || same (Complete u) i || some_same (segments_of F u) (λ s. spells F image k (Marked u s)) (λ s. spells F base k (Marked u s)) (λ s slt. same (Marked u s)) i)

  pub formed_same : (k : ℕ) → Agrees F base image k → one_formed F image k ≡ one_formed F base k
  formed_same k agrees = elim (cases_Bool (is_open F base k)) [
    | inl is ↦ λ i. not (agrees.gate i) || spelt_same k (spells_same k agrees is) i
    | inr is ↦ shut_same k _ _ agrees is
  ]

  pub apart_same : (k l : ℕ) → Agrees F base image k → is_open F base k ≡ true → Agrees F base image l → one_apart F image k l ≡ one_apart F base k l
  apart_same k l at_k is at_l = elim (cases_Bool (is_open F base l)) [
    | inl is_l ↦ λ i. not (at_l.gate i) || not (below_same 16 (λ j. slice_index image (body_at F k + j) == slice_index image (body_at F l + j)) (λ j. slice_index base (body_at F k + j) == slice_index base (body_at F l + j)) (λ j lt i2. at_k.body is j lt i2 == at_l.body is_l j lt i2) i)
    | inr is_l ↦ shut_same l _ _ at_l is_l
  ]

  pub distinct_same : (k : ℕ) → ((l : ℕ) → l ≤ k → Agrees F base image l) → one_distinct F image k ≡ one_distinct F base k
  distinct_same k agrees = let here = agrees k (omega arith) in elim (cases_Bool (is_open F base k)) [
    | inl is ↦ λ i. not (here.gate i) || below_same k (one_apart F image k) (one_apart F base k) (λ l lt. apart_same k l here is (agrees l (omega (arith, lt)))) i
    | inr is ↦ shut_same k _ _ here is
  ]

  module _ (all : (k : ℕ) → k < slots_of F → Agrees F base image k) where
    pub has_same : (x : Entry) → has F image x ≡ has F base x
    has_same x = some_same (slots_of F) (λ k. is_open F image k && spells F image k x) (λ k. is_open F base k && spells F base k x) (λ k lt. slot_same k (all k lt) x)

    pub all_formed : is_formed F image ≡ is_formed F base
    all_formed = below_same (slots_of F) (one_formed F image) (one_formed F base) (λ k lt. formed_same k (all k lt))

    pub all_distinct : is_distinct F image ≡ is_distinct F base
    all_distinct = below_same (slots_of F) (one_distinct F image) (one_distinct F base) (λ k lt. distinct_same k (λ l le. all l (omega (arith, lt, le))))

    pub all_ordered : is_ordered F image ≡ is_ordered F base
    all_ordered = ordered_told F (has F image) (has F base) has_same

    pub filled_same : nat_le (end_of F) (length image) ≡ nat_le (end_of F) (length base) → is_filled F image ≡ is_filled F base
    filled_same long = λ i. long i && all_formed i && all_distinct i && all_ordered i

-- ------ the header
-- tests of two lists that agree
pub stands_same : (base image : List ℕ) (at size : ℕ) (text : List ℕ) → ((i : ℕ) → i < size → slice_index image (at + i) ≡ slice_index base (at + i)) → stands_at image at size text ≡ stands_at base at size text
stands_same base image at size text same = below_same size (λ i. slice_index image (at + i) == slice_index text i) (λ i. slice_index base (at + i) == slice_index text i) (λ t lt i. same t lt i == slice_index text t)

module _ (P : Label) (base image : List ℕ) (front : (i : ℕ) → i < 64 → slice_index image i ≡ slice_index base i) where
  pub fresh_same : nat_le (length image) 1 ≡ nat_le (length base) 1 → nat_le 8 (length image) ≡ nat_le 8 (length base) → is_fresh image ≡ is_fresh base
  fresh_same short eight = λ i. (short i || front 0 (lit< tt) i == 0)
      || (eight i && stands_same base image 1 7 magic (λ t lt. front (1 + t) (omega (arith, lt))) i && not (front 0 (lit< tt) i == 165))

-- headers from two places on whose first 63 bytes agree
module _ (P : Label) (base image : List ℕ) (at to : ℕ) (front : (i : ℕ) → i < 63 → slice_index image (to + i) ≡ slice_index base (at + i)) where
  gate_same : slice_index image to ≡ slice_index base at
  gate_same = ap (λ (i : ℕ). slice_index image i) (omega arith) ∙ front 0 (lit< tt) ∙ ap (λ (i : ℕ). slice_index base i) (omega arith)

  part : (text : List ℕ) (start size : ℕ) → start + size ≤ 63 → stands_at image (to + start) size text ≡ stands_at base (at + start) size text
  part text start size within = below_same size (λ i. slice_index image (to + start + i) == slice_index text i) (λ i. slice_index base (at + start + i) == slice_index text i) (λ t lt.
      ap (λ (b : ℕ). b == slice_index text t) (ap (λ (i : ℕ). slice_index image i) (omega arith) ∙ front (start + t) (omega (arith, lt, within)) ∙ ap (λ (i : ℕ). slice_index base i) (omega arith)))

  pub header_same : (v : ℕ) → is_header image to v ≡ is_header base at v
  header_same v = λ i. gate_same i == 165 && part (magic_and_version v) 1 11 (omega arith) i && part (replicate 15 0) 48 15 (omega arith) i

  pub new_header_same : slice_index image (to + 63) ≡ slice_index base (at + 63) → is_new_header image to ≡ is_new_header base at
  new_header_same last = λ i. header_same 2 i && last i == 0

  pub digest_same : says_digest P image to ≡ says_digest P base at
  digest_same = part P.digest 16 32 (omega arith)

  pub slots_same : (n : ℕ) → says_slots image to n ≡ says_slots base at n
  slots_same n = part (bytes4 n) 12 4 (omega arith)

-- ------ a journal
-- the two agree at both headers, and in whether they are long enough
pub record Heads (P : Label) (base image : List ℕ) : Type 0 where
  pub longer : nat_le 64 (length image) ≡ nat_le 64 (length base)
  pub long : nat_le (end_of (form_of P base)) (length image) ≡ nat_le (end_of (form_of P base)) (length base)
  pub front : (i : ℕ) → i < 64 → slice_index image i ≡ slice_index base i
  pub second : is_migrated base ≡ true → (i : ℕ) → i < 64 → slice_index image (behind P + i) ≡ slice_index base (behind P + i)

module _ (P : Label) (base image : List ℕ) (heads : Heads P base image) where
  zero_front : (i : ℕ) → i < 63 → slice_index image (0 + i) ≡ slice_index base (0 + i)
  zero_front i lt = ap (λ (j : ℕ). slice_index image j) (omega arith) ∙ heads.front i (omega (arith, lt)) ∙ ap (λ (j : ℕ). slice_index base j) (omega arith)

  zero_last : slice_index image (0 + 63) ≡ slice_index base (0 + 63)
  zero_last = ap (λ (j : ℕ). slice_index image j) (omega arith) ∙ heads.front 63 (lit< tt) ∙ ap (λ (j : ℕ). slice_index base j) (omega arith)

  second_front : is_migrated base ≡ true → (i : ℕ) → i < 63 → slice_index image (behind P + i) ≡ slice_index base (behind P + i)
  second_front is i lt = heads.second is i (omega (arith, lt))

  new_same : is_new image ≡ is_new base
  new_same = λ i. heads.front 8 (lit< tt) i == 2

  migrated_same : is_migrated image ≡ is_migrated base
  migrated_same = λ i. not (new_same i) && heads.front 63 (lit< tt) i == 165

  pub form_same : form_of P image ≡ form_of P base
  form_same = λ i. if new_same i then new_form P 0 else (if migrated_same i then new_form P (behind P) else old_form P)

  pub headed_same : is_headed image ≡ is_headed base
  headed_same = λ i. heads.longer i && (header_same P base image 0 0 zero_front 1 i || new_header_same P base image 0 0 zero_front zero_last i)

  pub first_digest_same : says_digest P image 0 ≡ says_digest P base 0
  first_digest_same = digest_same P base image 0 0 zero_front

  counts_same : counts P image ≡ counts P base
  counts_same = (λ i. says_slots image 0 (if new_same i then slots_of (new_form P 0) else slots_of (old_form P)))
      ∙ slots_same P base image 0 0 zero_front (if is_new base then slots_of (new_form P 0) else slots_of (old_form P))

  second_same : has_second P image ≡ has_second P base
  second_same = elim (cases_Bool (is_migrated base)) [
    | inl is ↦ λ i. not (migrated_same i) || (new_header_same P base image (behind P) (behind P) (second_front is) (heads.second is 63 (lit< tt)) i
        && digest_same P base image (behind P) (behind P) (second_front is) i && slots_same P base image (behind P) (behind P) (second_front is) (slots_of (new_form P 0)) i)
    | inr isnt ↦ let now : is_migrated image ≡ false = migrated_same ∙ isnt in rw (now, isnt) refl
  ]

  -- with the same test of the slots, both are journals or neither is
  pub standing_by : is_filled (form_of P base) image ≡ is_filled (form_of P base) base → is_standing P image ≡ is_standing P base
  standing_by filled = λ i. counts_same i && second_same i && ((λ j. is_filled (form_same j) image) ∙ filled) i

  pub journal_by : is_filled (form_of P base) image ≡ is_filled (form_of P base) base → is_journal P image ≡ is_journal P base
  journal_by filled = λ i. headed_same i && first_digest_same i && standing_by filled i

-- and at the slots that count
pub record Copies (P : Label) (base image : List ℕ) : Type 0 where
  pub heads : Heads P base image
  pub all : (k : ℕ) → k < slots_of (form_of P base) → Agrees (form_of P base) base image k

module _ (P : Label) (base image : List ℕ) (copies : Copies P base image) where
  filled : is_filled (form_of P base) image ≡ is_filled (form_of P base) base
  filled = filled_same (form_of P base) base image copies.all copies.heads.long

  pub standing_same : is_standing P image ≡ is_standing P base
  standing_same = standing_by P base image copies.heads filled

  pub journal_same : is_journal P image ≡ is_journal P base
  journal_same = journal_by P base image copies.heads filled

  pub entries_same : (e : Entry) → has (form_of P image) image e ≡ has (form_of P base) base e
  entries_same e = (λ i. has (form_same P base image copies.heads i) image e) ∙ has_same (form_of P base) base image copies.all e

  pub records_same : (e : Entry) → records P image e ≡ records P base e
  records_same e = λ i. journal_same i && entries_same e i

-- ------ where the second header stands
pub filled_of : (P : Label) (image : List ℕ) → is_journal P image ≡ true → is_filled (form_of P image) image ≡ true
filled_of P image is = (and_parts _ _ (and_parts _ _ is).1).1

-- a journal has all the slots of its form
pub long_of : (P : Label) (image : List ℕ) → is_journal P image ≡ true → end_of (form_of P image) ≤ length image
long_of P image is = leb-true (end_of (form_of P image)) (length image) (and_parts _ _ (and_parts _ _ (and_parts _ _ (filled_of P image is)).0).0).0

pub migrated_form : (P : Label) (image : List ℕ) → is_migrated image ≡ true → form_of P image ≡ new_form P (behind P)
migrated_form P image is = let old : is_new image ≡ false = not_new (is_new image) (and_parts _ _ is).0 in λ i. if old i then new_form P 0 else (if is i then new_form P (behind P) else old_form P)
  where
    not_new : (b : Bool) → not b ≡ true → b ≡ false
    not_new true e = sym e
    not_new false e = refl

-- what changes a journal behind the header of its slots alone, and not its length, leaves its headers
pub heads_before : (P : Label) (base image : List ℕ) (F : Form) → form_of P base ≡ F → length image ≡ length base → ((i : ℕ) → i < F.at + 64 → slice_index image i ≡ slice_index base i) → Heads P base image
heads_before P base image F form size same = record {
  longer = λ i. nat_le 64 (size i);
  long = λ i. nat_le (end_of (form_of P base)) (size i);
  front = λ i lt. same i (omega (arith, lt));
  second = λ is i lt. let at : F.at ≡ behind P = ap (λ (G : Form). G.at) (sym form ∙ migrated_form P base is) in same (behind P + i) (omega (arith, lt, at));
}
