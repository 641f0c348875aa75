-- A run of slots, each with a new entry behind its gate, of which some gates are open.
use Rattle.std.proofs.Common.{◌≡◌, ◌⊎◌, inl, inr, ℕ, zero, suc, ◌+◌, ◌<◌, ◌≤◌, true, false, List, length, set, length-set, refl, sym, ◌∙◌, ap, subst, arith}
use Rattle.std.specs.Prelude.{◌==◌, Bool, ◌&&◌, ◌||◌, slice_index}
use Rattle.std.proofs.lemmas.Bool.{cases_Bool, cases_eq, both_ways, ne_eqb}
use Rattle.std.proofs.lemmas.List.{get_or-set_same, get_or-set_other}
use Rattle.flash_plan.specs.declared.outcome.Entry.{Entry}
use Rattle.flash_plan.specs.declared.outcome.Entry.TheVariants.{Begun, Marked, Complete}
use Rattle.flash_base.specs.Numbers.{some_below}
use Rattle.journal_model.specs.Records.{Label, Form, slots_of, end_of, form_of, gate_at, body_at, names, has, is_filled, is_open, body_of}
use Rattle.journal_steps.specs.Append.{Records, and_entry, is_entry, IsPrepared}
use Rattle.journal_steps.proofs.Slots.{none_below}
use Rattle.journal_steps.proofs.Same.{Agrees, Heads, heads_before, form_same, journal_by, filled_of, long_of, some_same}
use Rattle.journal_steps.proofs.More.{filled_more, has_more, prepared_same}
use Rattle.journal_steps.proofs.Settled.{records_by}

-- what a journal records, in its form
pub in_form : (P : Label) (F : Form) (R : Entry → Bool) (base : List ℕ) → form_of P base ≡ F → Records P R base → (x : Entry) → has F base x ≡ R x
in_form P F R base form holds x = (λ i. has (sym form i) base x) ∙ holds.entries x

pub filled_in : (P : Label) (F : Form) (R : Entry → Bool) (base : List ℕ) → form_of P base ≡ F → Records P R base → is_filled F base ≡ true
filled_in P F R base form holds = (λ i. is_filled (sym form i) base) ∙ filled_of P base holds.journal

pub long_in : (P : Label) (F : Form) (R : Entry → Bool) (base : List ℕ) → form_of P base ≡ F → Records P R base → end_of F ≤ length base
long_in P F R base form holds = subst (λ (G : Form). end_of G ≤ length base) form (long_of P base holds.journal)

-- a journal with one more gate open
module _ (P : Label) (F : Form) (R : Entry → Bool) (base image : List ℕ) (form : form_of P base ≡ F) (holds : Records P R base)
    (size : length image ≡ length base) (front : (i : ℕ) → i < F.at + 64 → slice_index image i ≡ slice_index base i) where
  heads : Heads P base image
  heads = heads_before P base image F form size front

  form_image : form_of P image ≡ F
  form_image = form_same P base image heads ∙ form

  module _ (k : ℕ) (e0 : Entry) (lt : k < slots_of F) (named : names F e0 ≡ true)
      (closed : is_open F base k ≡ false) (opened : is_open F image k ≡ true)
      (others : (j : ℕ) → j < slots_of F → (j ≡ k → ⊥) → Agrees F base image j)
      (body : (t : ℕ) → t < 16 → slice_index image (body_at F k + t) ≡ slice_index (body_of e0) t)
      (fresh : R e0 ≡ false) (prepared : IsPrepared R e0) where
    fresh_there : has F base e0 ≡ false
    fresh_there = in_form P F R base form holds e0 ∙ fresh

    prepared_there : IsPrepared (has F base) e0
    prepared_there = prepared_same R (has F base) e0 (in_form P F R base form holds) prepared

    filled : is_filled (form_of P base) image ≡ is_filled (form_of P base) base
    filled = (λ i. is_filled (form i) image) ∙ filled_more F base image k e0 lt named closed opened others body fresh_there prepared_there size (filled_in P F R base form holds)
        ∙ sym (filled_of P base holds.journal)

    pub journal_more : Records P (and_entry R e0) image
    journal_more = record {
      journal = journal_by P base image heads filled ∙ holds.journal;
      entries = λ x. (λ i. has (form_image i) image x) ∙ has_more F base image k e0 lt named closed opened others body fresh_there prepared_there x
          ∙ (λ i. in_form P F R base form holds x i || is_entry e0 x);
    }

  -- all slots agree
  pub same_records : ((j : ℕ) → j < slots_of F → Agrees F base image j) → Records P R image
  same_records all = records_by P R base image (record {
    heads = heads;
    all = subst (λ (G : Form). (j : ℕ) → j < slots_of G → Agrees G base image j) (sym form) all;
  }) holds

  pub same_form : form_of P image ≡ F
  same_form = form_image

-- with the entries of the run whose gates are open
abbrev pub and_open : Form → (Entry → Bool) → List ℕ → ℕ → (ℕ → Entry) → ℕ → Entry → Bool
and_open F R image k at m x = R x || some_below m (λ j. is_open F image (k + j) && is_entry (at j) x)

-- new entries for a run of m closed slots from k on
pub record IsGroup (P : Label) (F : Form) (R : Entry → Bool) (base : List ℕ) (k : ℕ) (at : ℕ → Entry) (m : ℕ) : Type 0 where
  pub within : k + m ≤ slots_of F
  pub form : form_of P base ≡ F
  pub holds : Records P R base
  pub closed : (j : ℕ) → j < m → is_open F base (k + j) ≡ false
  pub named : (j : ℕ) → j < m → names F (at j) ≡ true
  pub fresh : (j : ℕ) → j < m → R (at j) ≡ false
  pub differ : (i j : ℕ) → i < j → j < m → is_entry (at i) (at j) ≡ false
  pub prepared : (j : ℕ) → j < m → IsPrepared R (at j)

-- an image that differs from the base at the gates and bodies of the run alone, where the bodies stand
pub record IsRun (F : Form) (base image : List ℕ) (k : ℕ) (at : ℕ → Entry) (m : ℕ) : Type 0 where
  pub size : length image ≡ length base
  pub front : (i : ℕ) → i < F.at + 64 → slice_index image i ≡ slice_index base i
  pub others : (j : ℕ) → j < slots_of F → (j < k) ⊎ (k + m ≤ j) → Agrees F base image j
  pub bodies : (j t : ℕ) → j < m → t < 16 → slice_index image (body_at F (k + j) + t) ≡ slice_index (body_of (at j)) t

pub or_none : (b : Bool) → (b || false) ≡ b
or_none true = refl
or_none false = refl

or_more : (a s o e : Bool) → o ≡ true → ((a || s) || e) ≡ (a || (s || (o && e)))
or_more true s o e is = refl
or_more false s o e is = λ i. s || (sym is i && e)

or_same : (a s o e : Bool) → o ≡ false → (a || s) ≡ (a || (s || (o && e)))
or_same a true o e is = refl
or_same a false o e is = λ i. a || (sym is i && e)

or_false : (x y : Bool) → x ≡ false → y ≡ false → (x || y) ≡ false
or_false x y e1 e2 = rw (e1, e2) refl

or_left : (x y : Bool) → x ≡ true → (x || y) ≡ true
or_left x y e = rw e refl

pub and_right : (x y : Bool) → y ≡ false → (x && y) ≡ false
and_right true y is = is
and_right false y is = refl

prepared_more : (R Q : Entry → Bool) (e : Entry) → ((x : Entry) → R x ≡ true → Q x ≡ true) → IsPrepared R e → IsPrepared Q e
prepared_more R Q (Begun u) more is = tt
prepared_more R Q (Marked u s) more is = more (Begun u) is
prepared_more R Q (Complete u) more is = more (Begun u) is

pub retold : (P : Label) (R Q : Entry → Bool) (image : List ℕ) → ((x : Entry) → R x ≡ Q x) → Records P R image → Records P Q image
retold P R Q image same holds = record { journal = holds.journal; entries = λ x. holds.entries x ∙ same x }

fewer : (P : Label) (F : Form) (R : Entry → Bool) (base : List ℕ) (k : ℕ) (at : ℕ → Entry) (m : ℕ) → IsGroup P F R base k at (suc m) → IsGroup P F R base k at m
fewer P F R base k at m group = record {
  form = group.form;
  within = omega (arith, group.within);
  holds = group.holds;
  closed = λ j lt. group.closed j (omega (arith, lt));
  named = λ j lt. group.named j (omega (arith, lt));
  fresh = λ j lt. group.fresh j (omega (arith, lt));
  differ = λ i j ij lt. group.differ i j ij (omega (arith, lt));
  prepared = λ j lt. group.prepared j (omega (arith, lt));
}

-- one slot more
one_step : (P : Label) (F : Form) (R : Entry → Bool) (base : List ℕ) (k : ℕ) (at : ℕ → Entry) (m : ℕ) → IsGroup P F R base k at (suc m)
    → ((image : List ℕ) → IsRun F base image k at m → Records P (and_open F R image k at m) image)
    → (image : List ℕ) → IsRun F base image k at (suc m) → Records P (and_open F R image k at (suc m)) image
one_step P F R base k at m group earlier image run = elim (cases_Bool (is_open F image (k + m))) [
  | inl opened ↦ retold P (and_entry Rm (at m)) (and_open F R image k at (suc m)) image (λ x. (λ i. (R x || gates_same x i) || is_entry (at m) x) ∙ or_more (R x) (some_below m (λ j. is_open F image (k + j) && is_entry (at j) x)) (is_open F image (k + m)) (is_entry (at m) x) opened)
      (journal_more P F Rm shut image form_shut below (sym size0) (λ i lt. sym (away i (λ same. omega (arith, lt, same))))
      (k + m) (at m) (omega (arith, group.within)) (group.named m (omega arith)) shut_closed opened
      (λ j lt ne. record { gate = sym (gate_away j ne); body = λ is t tlt. sym (body_away j t) })
      (λ t tlt. run.bodies m t (omega arith) tlt)
      (or_false _ _ (group.fresh m (omega arith)) (none_below m (λ j. is_open F shut (k + j) && is_entry (at j) (at m)) (λ j lt. and_right _ _ (group.differ j m lt (omega arith)))))
      (prepared_more R Rm (at m) (λ x is. or_left _ _ is) (group.prepared m (omega arith))))
  | inr shut_there ↦ retold P Rm (and_open F R image k at (suc m)) image (λ x. (λ i. R x || gates_same x i) ∙ or_same (R x) (some_below m (λ j. is_open F image (k + j) && is_entry (at j) x)) (is_open F image (k + m)) (is_entry (at m) x) shut_there)
      (same_records P F Rm shut image form_shut below (sym size0) (λ i lt. sym (away i (λ same. omega (arith, lt, same)))) (λ j lt. elim (cases_eq j (k + m)) [
        | inl same ↦ subst (λ (i : ℕ). Agrees F shut image i) (sym same) (record { gate = shut_there ∙ sym shut_closed; body = λ is. absurd (both_ways _ shut_closed is) })
        | inr ne ↦ record { gate = sym (gate_away j ne); body = λ is t tlt. sym (body_away j t) }
      ]))
]
  where
    -- the image with the last gate of the run closed
    shut : List ℕ
    shut = set image (gate_at F (k + m)) 0

    Rm : Entry → Bool
    Rm = and_open F R shut k at m

    size0 : length shut ≡ length image
    size0 = length-set image (gate_at F (k + m)) 0

    long : end_of F ≤ length image
    long = let there : end_of F ≤ length base = long_in P F R base group.form group.holds in omega (arith, there, run.size)

    away : (i : ℕ) → (i ≡ gate_at F (k + m) → ⊥) → slice_index shut i ≡ slice_index image i
    away i ne = get_or-set_other image (gate_at F (k + m)) i 0 0 ne

    gate_away : (j : ℕ) → (j ≡ k + m → ⊥) → is_open F shut j ≡ is_open F image j
    gate_away j ne = ap (λ (b : ℕ). b == 165) (away (gate_at F j) (λ same. ne (omega (arith, same))))

    body_away : (j t : ℕ) → slice_index shut (body_at F j + t) ≡ slice_index image (body_at F j + t)
    body_away j t = away (body_at F j + t) (λ same. omega (arith, same, group.within))

    shut_closed : is_open F shut (k + m) ≡ false
    shut_closed = ne_eqb _ _ (λ is. omega (arith, is, get_or-set_same image (gate_at F (k + m)) 0 0 (omega (arith, long, group.within))))

    gates_same : (x : Entry) → some_below m (λ j. is_open F shut (k + j) && is_entry (at j) x) ≡ some_below m (λ j. is_open F image (k + j) && is_entry (at j) x)
    gates_same x = some_same m (λ j. is_open F shut (k + j) && is_entry (at j) x) (λ j. is_open F image (k + j) && is_entry (at j) x) (λ j lt i. gate_away (k + j) (λ same. omega (arith, same, lt)) i && is_entry (at j) x)

    front_shut : (i : ℕ) → i < F.at + 64 → slice_index shut i ≡ slice_index base i
    front_shut i lt = away i (λ same. omega (arith, same, lt)) ∙ run.front i lt

    form_shut : form_of P shut ≡ F
    form_shut = same_form P F R base shut group.form group.holds (size0 ∙ run.size) front_shut

    below : Records P Rm shut
    below = earlier shut (record {
      size = size0 ∙ run.size;
      front = front_shut;
      others = λ j lt side. elim (cases_eq j (k + m)) [
        | inl same ↦ subst (λ (i : ℕ). Agrees F base shut i) (sym same) (record { gate = shut_closed ∙ sym (group.closed m (omega arith)); body = λ is. absurd (both_ways _ (group.closed m (omega arith)) is) })
        | inr ne ↦
            let there : Agrees F base image j = run.others j lt (elim side [ inl less ↦ inl less | inr more ↦ inr (omega (arith, more, ne)) ]) in
            record {
              gate = gate_away j ne ∙ there.gate;
              body = λ is t tlt. body_away j t ∙ there.body is t tlt;
            }
      ];
      bodies = λ j t lt tlt. body_away (k + j) t ∙ run.bodies j t (omega (arith, lt)) tlt;
    })

-- each image of the run records what the base does, and the entries whose gates are open
pub group_more : (P : Label) (F : Form) (R : Entry → Bool) (base : List ℕ) (k : ℕ) (at : ℕ → Entry) (m : ℕ) → IsGroup P F R base k at m → (image : List ℕ) → IsRun F base image k at m → Records P (and_open F R image k at m) image
group_more P F R base k at zero group image run = retold P R (and_open F R image k at zero) image (λ x. sym (or_none (R x)))
    (same_records P F R base image group.form group.holds run.size run.front (λ j lt. run.others j lt (order j k)))
  where
    order : (a b : ℕ) → (a < b) ⊎ (b + 0 ≤ a)
    order a b = grind arith
group_more P F R base k at (suc m) group image run = one_step P F R base k at m group (group_more P F R base k at m (fewer P F R base k at m group)) image run
