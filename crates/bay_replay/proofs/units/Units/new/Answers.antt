use Rattle.std.proofs.Common.{◌≡◌, ℕ, ◌+◌, ◌<◌, List, [], ◌∷◌, ◌++◌, length, false, refl, sym, ap, subst, ◌∙◌, below_more, arith, length-append}
use Rattle.barrier_board.specs.Board.{has_entry}
use Rattle.flash_plan.specs.Plan.{plan_of, count_of}
use Rattle.flash_plan.specs.declared.outcome.Entry.{Entry}
use Rattle.flash_plan.specs.declared.outcome.Entry.TheVariants.{Begun}
use Rattle.run_model.specs.Entries.{marks_of}
use Rattle.run_model.specs.Talk.{talk_start}
use Rattle.unit_session.specs.Session.{has_mark}
use Rattle.bay_replay.specs.declared.units.Unit.{Unit as Kept}
use Rattle.bay_replay.specs.Units.{unit_of, low_marks, IsFresh}
use Rattle.bay_replay.proofs.Slots.{unit_last, unit_front}
use Rattle.bay_replay.proofs.units.Units.new.Goals as goal

pub loop-n-preserved : goal.loop-n-preserved
loop-n-preserved c =
    let n : ℕ = c.loop-n.n in
    let old : List Kept = c.loop-n.items.items in
    let x : Kept = record { session = c.new.result; claimed = false; begun = c.has-begun.result; faulted = false } in
    let is : c.push.new.self.items ≡ old ++ (x ∷ []) = c.in_ok-push.ensures.items in
    let size : length old ≡ n = c.loop-n.invariant.size in
    let lt : n < count_of c.args.plan.now = omega (arith, c.loop-n-test.true, c.units-n-end.ensures) in
    let begun : c.has-begun.result ≡ has_entry c.args.found.now (Begun n) = c.has-begun.ensures ∙ ap (λ (xs : List Entry). has_entry xs (Begun n)) c.as_slice.ensures in
    let marks : has_mark c.marks_in-marks.result ≡ low_marks (marks_of (has_entry c.args.found.now) n) =
    (λ i k. c.marks_in-marks.ensures k i) ∙ ap (λ (xs : List Entry). low_marks (marks_of (has_entry xs) n)) c.as_slice-in-loop-n.ensures in
    let fresh : IsFresh (plan_of c.args.plan.now n) c.args.found.now n x = record {
      claimed = refl;
      faulted = refl;
      begun = begun;
      known = c.new.ensures.begun ∙ begun;
      talk = c.new.ensures.talk (plan_of c.args.plan.now n) ∙ (λ i. talk_start (plan_of c.args.plan.now n) (begun i) (marks i));
      fits = c.new.ensures.of (plan_of c.args.plan.now n) (c.is_accepted.ensures.each n lt);
    } in
    record {
      size = ap (λ (xs : List Kept). length xs) is ∙ length-append old (x ∷ []) ∙ ap (λ (k : ℕ). k + 1) size;
      each = subst (λ (xs : List Kept). (k : ℕ) → k < n + 1 → IsFresh (plan_of c.args.plan.now k) c.args.found.now k (unit_of xs k)) (sym is)
          (below_more (λ (k : ℕ). IsFresh (plan_of c.args.plan.now k) c.args.found.now k (unit_of (old ++ (x ∷ [])) k)) n
          (λ k less. let within : k < length old = omega (arith, less, size) in subst (λ (y : Kept). IsFresh (plan_of c.args.plan.now k) c.args.found.now k y) (sym (unit_front old x k within)) (c.loop-n.invariant.each k less))
          (subst (λ (y : Kept). IsFresh (plan_of c.args.plan.now n) c.args.found.now n y) (sym (ap (λ (k : ℕ). unit_of (old ++ (x ∷ [])) k) (sym size) ∙ unit_last old x)) fresh));
    }
