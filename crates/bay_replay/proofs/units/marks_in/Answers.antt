use Rattle.std.proofs.Common.{◌≡◌, ℕ, ◌+◌, ◌<◌, false, List, ◌∷◌, length, get_or, drop, drop-cons, add-one, refl, sym, ap, ◌∙◌}
use Rattle.std.specs.Prelude.{Bool, ◌||◌, ◌&&◌, ◌==◌}
use Rattle.std.proofs.lemmas.Bool.{ne_eqb}
use Rattle.barrier_board.specs.Board.{has_entry}
use Rattle.flash_plan.specs.Outcomes.{same_entry}
use Rattle.flash_plan.specs.declared.outcome.Entry.{Entry}
use Rattle.flash_plan.specs.declared.outcome.Entry.TheVariants.{Begun, Marked, Complete}
use Rattle.run_model.specs.Entries.{marks_of}
use Rattle.unit_session.specs.Session.{has_mark}
use Rattle.unit_session.specs.declared.marks.Marks.{Marks}
use Rattle.bay_replay.specs.Units.{low_marks}
use Rattle.bay_replay.proofs.Marks.{other_found, mark_found}
use Rattle.bay_replay.proofs.units.marks_in.Goals as goal
use Rattle.bay_replay.proofs.units.marks_in.Goals.{in-Marked+then-n-unit, in-Marked+else-n-unit, in_default}

-- marks that were taken, or are still to come
abbrev there : (ℕ → Bool) → List Entry → ℕ → ℕ → Bool
there marks rest u k = marks k || low_marks (marks_of (has_entry rest) u) k

cut : (es : List Entry) (i : ℕ) (e : Entry) → i < length es → get_or es i (Begun 0) ≡ e → drop i es ≡ e ∷ drop (i + 1) es
cut es i e lt is = drop-cons es i (Begun 0) lt ∙ (λ j. is j ∷ drop (sym (add-one i) j) es)

other_mark : (u n s k : ℕ) → (n ≡ u → ⊥) → same_entry (Marked u k) (Marked n s) ≡ false
other_mark u n s k ne = ap (λ (b : Bool). b && k == s) (ne_eqb u n (λ is. ne (sym is)))

no_mark : (e : Entry) → ((n s : ℕ) → e ≡ Marked n s → ⊥) → (u k : ℕ) → same_entry (Marked u k) e ≡ false
no_mark (Begun n) none u k = refl
no_mark (Marked n s) none u k = absurd (none n s refl)
no_mark (Complete n) none u k = refl

pub loop-e-preserved : goal.loop-e-preserved
loop-e-preserved c = λ k.
    let es : List Entry = c.args.entries.now in
    let i : ℕ = c.loop-e.e-index in
    let u : ℕ = c.args.unit in
    let rest : List Entry = drop (i + 1) es in
    elim c.match-e.branch [
      | in-Marked+then-n-unit w ↦
          let here : drop i es ≡ Marked u w.in-Marked.segment ∷ rest =
          cut es i (Marked u w.in-Marked.segment) c.loop-e-test.true (w.in-Marked.is ∙ ap (λ (n : ℕ). Marked n w.in-Marked.segment) w.if-n-unit.true) in
          ap (λ (m : Marks). there (has_mark m) rest u k) w.marks-is
          ∙ sym (mark_found rest u w.in-Marked.segment (has_mark c.loop-e.marks) (has_mark w.with-marks.result) w.with-marks.ensures.one (λ le. ap has_mark (w.with-marks.ensures.beyond le)) k)
          ∙ ap (λ (xs : List Entry). there (has_mark c.loop-e.marks) xs u k) (sym here) ∙ c.loop-e.invariant k
      | in-Marked+else-n-unit w ↦
          let e : Entry = Marked w.in-Marked.n w.in-Marked.segment in
          ap (λ (m : Marks). there (has_mark m) rest u k) w.marks-is
          ∙ sym (other_found rest e u (has_mark c.loop-e.marks) (λ x. other_mark u w.in-Marked.n w.in-Marked.segment x w.if-n-unit.false) k)
          ∙ ap (λ (xs : List Entry). there (has_mark c.loop-e.marks) xs u k) (sym (cut es i e c.loop-e-test.true w.in-Marked.is)) ∙ c.loop-e.invariant k
      | in_default w ↦
          let e : Entry = get_or es i (Begun 0) in
          ap (λ (m : Marks). there (has_mark m) rest u k) w.marks-is
          ∙ sym (other_found rest e u (has_mark c.loop-e.marks) (λ x. no_mark e w.in_default.not-Marked u x) k)
          ∙ ap (λ (xs : List Entry). there (has_mark c.loop-e.marks) xs u k) (sym (cut es i e c.loop-e-test.true refl)) ∙ c.loop-e.invariant k
    ]
