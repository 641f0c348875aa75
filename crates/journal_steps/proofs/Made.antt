-- What a crash leaves while a file is made: a fresh one, or a journal with no entry.
use Rattle.std.proofs.Common.{◌≡◌, inl, inr, ℕ, ◌+◌, ◌*◌, ◌<◌, ◌≤◌, true, false, List, length, refl, ◌∙◌, ap, arith, lit<}
use Rattle.std.specs.Prelude.{◌==◌, Bool, not, ◌&&◌, ◌||◌, nat_le, slice_index, replicate, if◌then◌else◌}
use Rattle.std.proofs.lemmas.Bool.{cases_Bool, cases_eq, and_parts, and_from, and_left, or_cases, both_ways, eq-eqb, eqb-true, ne_eqb, le-leb, leb-true}
use Rattle.flash_plan.specs.declared.outcome.Entry.{Entry}
use Rattle.flash_plan.specs.declared.outcome.Entry.TheVariants.{Marked, Complete}
use Rattle.journal_model.specs.Records.{Label, Form, slots_of, segments_of, end_of, old_form, new_form, behind, form_of, is_new, is_migrated, gate_at, magic, magic_and_version, bytes4, stands_at, is_fresh, is_header, is_new_header, is_headed, says_digest, says_slots, counts, has_second, is_filled, is_journal, is_open, has, spells}
use Rattle.journal_steps.specs.Append.{Records}
use Rattle.journal_steps.specs.Make.{IsStart, IsMade, no_entry}
use Rattle.journal_steps.specs.Read.{one_formed, one_distinct, one_ordered}
use Rattle.journal_steps.proofs.Slots.{below_at, below_from, none_below}
use Rattle.journal_steps.proofs.Same.{stands_same}

-- an open header gate, and length enough
header_gate : (image : List ℕ) (v : ℕ) → is_header image 0 v ≡ true → slice_index image 0 ≡ 165
header_gate image v is = eqb-true _ _ (and_parts _ _ (and_parts _ _ is).0).0

pub headed_gate : (image : List ℕ) → is_headed image ≡ true → slice_index image 0 ≡ 165
headed_gate image is = elim (or_cases (is_header image 0 1) (is_new_header image 0) (and_parts _ _ is).1) [
  | inl old ↦ header_gate image 1 old
  | inr new ↦ header_gate image 2 (and_parts _ _ new).0
]

pub headed_long : (image : List ℕ) → is_headed image ≡ true → 64 ≤ length image
headed_long image is = leb-true 64 (length image) (and_parts _ _ is).0

-- a fresh file has no open header
pub fresh_headless : (image : List ℕ) → is_fresh image ≡ true → is_headed image ≡ false
fresh_headless image fresh = elim (cases_Bool (is_headed image)) [
  | inr lacks ↦ lacks
  | inl stands ↦
      let gate = headed_gate image stands in
      let long = headed_long image stands in
      absurd (elim (or_cases (nat_le (length image) 1 || slice_index image 0 == 0) _ fresh) [
        | inl early ↦ elim (or_cases (nat_le (length image) 1) _ early) [
          | inl short ↦ omega (arith, leb-true (length image) 1 short, long)
          | inr none ↦ omega (arith, eqb-true _ _ none, gate)
        ]
        | inr magical ↦ shut image gate (and_parts _ _ magical).1
      ])
]
  where
    shut : (image : List ℕ) → slice_index image 0 ≡ 165 → not (slice_index image 0 == 165) ≡ true → ⊥
    shut image gate other = both_ways _ ((λ i. not (eq-eqb _ _ gate i))) other

pub fresh_no_journal : (P : Label) (image : List ℕ) → is_fresh image ≡ true → is_journal P image ≡ false
fresh_no_journal P image fresh = and_left _ _ (and_left _ _ (fresh_headless image fresh))

-- a file whose byte 0 is 0
pub fresh_zero : (image : List ℕ) → slice_index image 0 ≡ 0 → is_fresh image ≡ true
fresh_zero image is = or_left _ _ (or_right _ _ (eq-eqb _ _ is))
  where
    or_right : (x y : Bool) → y ≡ true → (x || y) ≡ true
    or_right true y e = refl
    or_right false y e = e

    or_left : (x y : Bool) → x ≡ true → (x || y) ≡ true
    or_left x y e = rw e refl

pub fresh_short : (image : List ℕ) → length image ≤ 1 → is_fresh image ≡ true
fresh_short image le = rw (le-leb (length image) 1 le) refl

-- the magic stands behind a closed gate
pub fresh_magic : (image : List ℕ) → 8 ≤ length image → stands_at image 1 7 magic ≡ true → (slice_index image 0 ≡ 165 → ⊥) → is_fresh image ≡ true
fresh_magic image long stands shut = or_right _ _ (and_from _ _ (and_from _ _ (le-leb 8 (length image) long) stands) (λ i. not (ne_eqb _ _ shut i)))
  where
    or_right : (x y : Bool) → y ≡ true → (x || y) ≡ true
    or_right true y e = refl
    or_right false y e = e

-- a form whose gates are closed
module _ (F : Form) (image : List ℕ) (shut : (k : ℕ) → k < slots_of F → is_open F image k ≡ false) where
  pub none_there : (e : Entry) → has F image e ≡ false
  none_there e = none_below (slots_of F) (λ k. is_open F image k && spells F image k e) (λ k lt. and_left _ _ (shut k lt))

  closed : (k : ℕ) → k < slots_of F → (b : Bool) → (not (is_open F image k) || b) ≡ true
  closed k lt b = rw (shut k lt) refl

  or_second : (x y : Bool) → y ≡ true → (x || y) ≡ true
  or_second true y e = refl
  or_second false y e = e

  nothing : (u : ℕ) → one_ordered F (has F image) u ≡ true
  nothing u = or_second _ _ (and_from _ _ (λ i. not (none_there (Complete u) i)) (below_from (segments_of F u) (λ s. not (has F image (Marked u s))) (λ s lt i. not (none_there (Marked u s) i))))

  pub filled_shut : end_of F ≤ length image → is_filled F image ≡ true
  filled_shut long = and_from _ _ (and_from _ _ (and_from _ _ (le-leb (end_of F) (length image) long)
      (below_from (slots_of F) (one_formed F image) (λ k lt. closed k lt _)))
      (below_from (slots_of F) (one_distinct F image) (λ k lt. closed k lt _)))
      (below_from F.units (one_ordered F (has F image)) (λ u lt. nothing u))

-- byte 8 says version 2
pub new_version : (image : List ℕ) → stands_at image 1 11 (magic_and_version 2) ≡ true → is_new image ≡ true
new_version image version = below_at 11 (λ i. slice_index image (1 + i) == slice_index (magic_and_version 2) i) version 7 (lit< tt)

pub new_form_of : (P : Label) (image : List ℕ) → is_new image ≡ true → form_of P image ≡ new_form P 0
new_form_of P image is = λ i. if is i then new_form P 0 else (if is_migrated image then new_form P (behind P) else old_form P)

-- a version 2 file, by its parts
pub new_journal : (P : Label) (image : List ℕ) → is_headed image ≡ true → is_new image ≡ true → says_digest P image 0 ≡ true → says_slots image 0 (slots_of (new_form P 0)) ≡ true → is_filled (new_form P 0) image ≡ true → is_journal P image ≡ true
new_journal P image headed new digest count filled = and_from _ _ (and_from _ _ headed digest) (and_from _ _ (and_from _ _ counted second) filled_there)
  where
    counted : counts P image ≡ true
    counted = (λ i. says_slots image 0 (if new i then slots_of (new_form P 0) else slots_of (old_form P))) ∙ count

    not_migrated : is_migrated image ≡ false
    not_migrated = and_left _ _ (λ i. not (new i))

    second : has_second P image ≡ true
    second = λ i. not (not_migrated i) || (is_new_header image (behind P) && says_digest P image (behind P) && says_slots image (behind P) (slots_of (new_form P 0)))

    filled_there : is_filled (form_of P image) image ≡ true
    filled_there = (λ i. is_filled (new_form_of P image new i) image) ∙ filled

-- the bytes from 1 on are those of a new journal
module _ (P : Label) (image : List ℕ) (made : IsMade P image) where
  pub made_shut : (k : ℕ) → k < slots_of (new_form P 0) → is_open (new_form P 0) image k ≡ false
  made_shut k lt = ne_eqb _ _ (λ is. let zeroed : slice_index image (gate_at (new_form P 0) k) ≡ 0 = ap (λ (i : ℕ). slice_index image i) (omega arith) ∙ made.gates k lt in omega (arith, is, zeroed))

  made_new : is_new image ≡ true
  made_new = new_version image made.version

  made_headed : slice_index image 0 ≡ 165 → is_headed image ≡ true
  made_headed opened = and_from _ _ (le-leb 64 (length image) (omega (arith, made.size)))
      (or_last (is_header image 0 1) _ (and_from _ _ (and_from _ _ (and_from _ _ (eq-eqb _ _ opened) made.version) made.zeros) (eq-eqb _ _ made.last)))
    where
      or_last : (x y : Bool) → y ≡ true → (x || y) ≡ true
      or_last true y e = refl
      or_last false y e = e

  pub made_journal : slice_index image 0 ≡ 165 → Records P no_entry image
  made_journal opened = record {
    journal = new_journal P image (made_headed opened) made_new made.digest made.count (filled_shut (new_form P 0) image made_shut (omega (arith, made.size)));
    entries = λ e. (λ i. has (new_form_of P image made_new i) image e) ∙ none_there (new_form P 0) image made_shut e;
  }

  pub made_form : form_of P image ≡ new_form P 0
  made_form = new_form_of P image made_new

  pub made_start : IsStart P image
  made_start = elim (cases_eq (slice_index image 0) 165) [
    | inl opened ↦ inr (made_journal opened)
    | inr other ↦ inl (fresh_magic image (omega (arith, made.size)) magical other)
  ]
    where
      magical : stands_at image 1 7 magic ≡ true
      magical = below_from 7 (λ i. slice_index image (1 + i) == slice_index magic i) (λ t lt.
          at_magic t lt (below_at 11 (λ i. slice_index image (1 + i) == slice_index (magic_and_version 2) i) made.version t (omega (arith, lt))))
        where
          at_magic : (t : ℕ) → t < 7 → (slice_index image (1 + t) == slice_index (magic_and_version 2) t) ≡ true → (slice_index image (1 + t) == slice_index magic t) ≡ true
          at_magic t lt is = (λ i. slice_index image (1 + t) == eqb-true _ _ (below_at 7 (λ j. slice_index magic j == slice_index (magic_and_version 2) j) refl t lt) i) ∙ is

-- what agrees with a new journal from byte 1 on
pub made_copied : (P : Label) (file image : List ℕ) → IsMade P file → 64 + 17 * slots_of (new_form P 0) ≤ length image → ((i : ℕ) → 1 ≤ i → i < 64 + 17 * slots_of (new_form P 0) → slice_index image i ≡ slice_index file i) → IsMade P image
made_copied P file image made size same = record {
  size = size;
  version = stands_same file image 1 11 (magic_and_version 2) (λ t lt. same (1 + t) (omega arith) (omega (arith, lt))) ∙ made.version;
  count = stands_same file image 12 4 (bytes4 (slots_of (new_form P 0))) (λ t lt. same (12 + t) (omega arith) (omega (arith, lt))) ∙ made.count;
  digest = stands_same file image 16 32 P.digest (λ t lt. same (16 + t) (omega arith) (omega (arith, lt))) ∙ made.digest;
  zeros = stands_same file image 48 15 (replicate 15 0) (λ t lt. same (48 + t) (omega arith) (omega (arith, lt))) ∙ made.zeros;
  last = same 63 (omega arith) (omega arith) ∙ made.last;
  gates = λ k lt. same (64 + k) (omega arith) (omega (arith, lt)) ∙ made.gates k lt;
}
