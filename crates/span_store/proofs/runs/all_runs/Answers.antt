use Rattle.std.proofs.Common.{Vec, Global, ◌≡◌, ◌-◌, ◌∙◌, ◌++◌, ◌∷◌, [], List, ℕ, sym, ap, subst, arith, append_assoc}
use Rattle.flash_base.specs.Lists.{Each}
use Rattle.span_store.specs.Extents.{Extent, map_of, end_of}
use Rattle.span_store.specs.Runs.{IsRun, runs}
use Rattle.span_store.proofs.Merged.{runs_from, runs-merged, runs_none, runs_within, next_is, run_first, run_longer, run_next, run_last}
use Rattle.span_store.proofs.runs.all_runs.Goals as goal
use Rattle.span_store.proofs.runs.all_runs.Goals.{then-start-end+in_ok-push, else-start-end}

pub returns-in_default-clause-runs : goal.returns-in_default-clause-runs
returns-in_default-clause-runs c = c.new-runs.ensures.items ∙ sym (runs_none c.args.store.now.entries c.requires c.in_default.ensures.first)

pub overflow_add-end : goal.overflow_add-end
overflow_add-end c =
    let w = c.in-Some.ensures.first in
    let n = next_is c.args.store.now.entries 0 (c.in-Some.first, c.in-Some.bytes.now) w.0 c.requires w.1 in
    let t = n.2 in
    omega arith

pub loop-start-init : goal.loop-start-init
loop-start-init c =
    let es : List Extent = c.args.store.now.entries in
    let e : Extent = (c.in-Some.first, c.in-Some.bytes.now) in
    let w = c.in-Some.ensures.first in
    let n = next_is es 0 e w.0 c.requires w.1 in
    record {
      within = n.2;
      order = omega arith;
      known = run_first es e w.0 c.requires w.1 ∙ sym (ap (λ (l : List (ℕ × ℕ)). l ++ runs_from c.in-Some.first (end_of e) es) c.new-runs.ensures.items);
    }

pub overflow_add-end-in-Some-after : goal.overflow_add-end-in-Some-after
overflow_add-end-in-Some-after c =
    let w = c.in-Some-after.ensures.first in
    let n = next_is c.args.store.now.entries c.loop-start.end (c.in-Some-after.start, c.in-Some-after.bytes.now) w.0 c.requires w.1 in
    let t = n.2 in
    omega arith

pub loop-start-smaller : goal.loop-start-smaller
loop-start-smaller c =
    let w = c.in-Some-after.ensures.first in
    let n = next_is c.args.store.now.entries c.loop-start.end (c.in-Some-after.start, c.in-Some-after.bytes.now) w.0 c.requires w.1 in
    let a = n.0 in
    let b = n.1 in
    let t = n.2 in
    omega arith

pub loop-start-preserved : goal.loop-start-preserved
loop-start-preserved c =
    let es : List Extent = c.args.store.now.entries in
    let e : Extent = (c.in-Some-after.start, c.in-Some-after.bytes.now) in
    let w = c.in-Some-after.ensures.first in
    let n = next_is es c.loop-start.end e w.0 c.requires w.1 in
    let a = n.0 in
    let order = c.loop-start.invariant.order in
    let one : ℕ × ℕ = (c.loop-start.from, c.loop-start.end - c.loop-start.from) in
    elim c.if-start-end.branch [
      | then-start-end+in_ok-push t ↦ record {
        within = n.2;
        order = (let is = t.from-is in omega arith);
        known = c.loop-start.invariant.known
            ∙ ap (λ l. c.loop-start.runs.items ++ l) (run_next es c.loop-start.from c.loop-start.end e w.0 c.requires order w.1 t.if-start-end.true)
            ∙ sym (append_assoc c.loop-start.runs.items (one ∷ []) (runs_from e.0 (end_of e) es))
            ∙ ap (λ (l : List (ℕ × ℕ)). l ++ runs_from e.0 (end_of e) es) (sym t.in_ok-push.ensures.items)
            ∙ ap (λ s. t.push.new.self.items ++ runs_from s (end_of e) es) (sym t.from-is)
            ∙ ap (λ (v : Vec (ℕ × ℕ) Global). v.items ++ runs_from c.if-start-end.from (end_of e) es) (sym t.runs-is);
      }
      | else-start-end t ↦ record {
        within = n.2;
        order = (let is = t.from-is in omega arith);
        known = c.loop-start.invariant.known
            ∙ ap (λ l. c.loop-start.runs.items ++ l) (run_longer es c.loop-start.from c.loop-start.end e w.0 c.requires order w.1 t.if-start-end.false)
            ∙ ap (λ s. c.loop-start.runs.items ++ runs_from s (end_of e) es) (sym t.from-is)
            ∙ ap (λ (v : Vec (ℕ × ℕ) Global). v.items ++ runs_from c.if-start-end.from (end_of e) es) (sym t.runs-is);
      }
    ]

pub returns-clause-runs : goal.returns-clause-runs
returns-clause-runs c =
    let es : List Extent = c.args.store.now.entries in
    c.in_ok-push-2.ensures.items
    ∙ ap (λ l. c.loop-start.runs.items ++ l) (sym (run_last es c.loop-start.from c.loop-start.end c.in_default-after.ensures.first))
    ∙ sym c.loop-start.invariant.known
    ∙ sym (runs-merged es c.requires)

pub returns-clause-within : goal.returns-clause-within
returns-clause-within c =
    let es : List Extent = c.args.store.now.entries in
    let are : c.push-2.new.self.items ≡ runs (map_of es) =
    c.in_ok-push-2.ensures.items
    ∙ ap (λ l. c.loop-start.runs.items ++ l) (sym (run_last es c.loop-start.from c.loop-start.end c.in_default-after.ensures.first))
    ∙ sym c.loop-start.invariant.known
    ∙ sym (runs-merged es c.requires) in
    subst (Each IsRun) (sym are) (runs_within es c.requires)
