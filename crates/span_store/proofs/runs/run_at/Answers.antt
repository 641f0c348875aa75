use Rattle.std.proofs.Common.{◌≡◌, ◌+◌, ◌-◌, ◌∙◌, ◌∷◌, suc, List, length, sym, ap, arith}
use Rattle.std.specs.List.{slice_get}
use Rattle.span_store.specs.Extents.{Extent, end_of}
use Rattle.span_store.proofs.Merged.{merged, runs_from, runs-merged, next_is, no_runs, run_first, run_longer, run_next, run_last, only_one}
use Rattle.span_store.proofs.runs.run_at.Goals as goal
use Rattle.span_store.proofs.runs.run_at.Goals.{then-start-end+else-seen-i, else-start-end}

pub returns-in_default : goal.returns-in_default
returns-in_default c = let n = no_runs c.args.store.now.entries c.requires.extents c.in_default.ensures.first in let l = c.requires.within in absurd (omega (arith, n, l))

pub overflow_add-end : goal.overflow_add-end
overflow_add-end c =
    let w = c.in-Some.ensures.first in
    let n = next_is c.args.store.now.entries 0 (c.in-Some.first, c.in-Some.bytes.now) w.0 c.requires.extents w.1 in
    let t = n.2 in
    omega arith

pub loop-start-init : goal.loop-start-init
loop-start-init c =
    let es : List Extent = c.args.store.now.entries in
    let e : Extent = (c.in-Some.first, c.in-Some.bytes.now) in
    let w = c.in-Some.ensures.first in
    let n = next_is es 0 e w.0 c.requires.extents w.1 in
    let z : c.args.i ≡ c.args.i - 0 = omega arith in
    record {
      within = n.2;
      order = omega arith;
      seen = omega arith;
      known = ap (λ l. slice_get l c.args.i) (run_first es e w.0 c.requires.extents w.1) ∙ ap (slice_get (runs_from c.in-Some.first (end_of e) es)) z;
    }

pub returns-then-seen-i : goal.returns-then-seen-i
returns-then-seen-i c =
    let es : List Extent = c.args.store.now.entries in
    let e : Extent = (c.in-Some-after.start, c.in-Some-after.bytes.now) in
    let w = c.in-Some-after.ensures.first in
    let z : c.args.i - c.loop-start.seen ≡ 0 = (let s = c.if-seen-i.true in omega arith) in
    ap (λ l. slice_get l c.args.i) (runs-merged es c.requires.extents)
    ∙ c.loop-start.invariant.known
    ∙ ap (λ l. slice_get l (c.args.i - c.loop-start.seen)) (run_next es c.loop-start.at c.loop-start.end e w.0 c.requires.extents c.loop-start.invariant.order w.1 c.if-start-end.true)
    ∙ ap (slice_get ((c.loop-start.at, c.loop-start.end - c.loop-start.at) ∷ runs_from e.0 (end_of e) es)) z

pub overflow_add-end-in-Some-after : goal.overflow_add-end-in-Some-after
overflow_add-end-in-Some-after c =
    let w = c.in-Some-after.ensures.first in
    let n = next_is c.args.store.now.entries c.loop-start.end (c.in-Some-after.start, c.in-Some-after.bytes.now) w.0 c.requires.extents w.1 in
    let t = n.2 in
    omega arith

pub loop-start-smaller : goal.loop-start-smaller
loop-start-smaller c =
    let w = c.in-Some-after.ensures.first in
    let n = next_is c.args.store.now.entries c.loop-start.end (c.in-Some-after.start, c.in-Some-after.bytes.now) w.0 c.requires.extents w.1 in
    let a = n.0 in
    let b = n.1 in
    let t = n.2 in
    omega arith

pub loop-start-preserved : goal.loop-start-preserved
loop-start-preserved c =
    let es : List Extent = c.args.store.now.entries in
    let e : Extent = (c.in-Some-after.start, c.in-Some-after.bytes.now) in
    let w = c.in-Some-after.ensures.first in
    let n = next_is es c.loop-start.end e w.0 c.requires.extents w.1 in
    let a = n.0 in
    let order = c.loop-start.invariant.order in
    let seen = c.loop-start.invariant.seen in
    elim c.if-start-end.branch [
      | then-start-end+else-seen-i t ↦
          let other = t.if-seen-i.false in
          let i : c.args.i - c.loop-start.seen ≡ suc (c.args.i - (c.loop-start.seen + 1)) = omega arith in
          let j : c.args.i - (c.loop-start.seen + 1) ≡ c.args.i - c.if-start-end.seen = (let is = t.seen-is in omega arith) in
          record {
            within = n.2;
            order = (let is = t.at-is in omega arith);
            seen = (let is = t.seen-is in omega arith);
            known = c.loop-start.invariant.known
                ∙ ap (λ l. slice_get l (c.args.i - c.loop-start.seen)) (run_next es c.loop-start.at c.loop-start.end e w.0 c.requires.extents order w.1 t.if-start-end.true)
                ∙ ap (slice_get ((c.loop-start.at, c.loop-start.end - c.loop-start.at) ∷ runs_from e.0 (end_of e) es)) i
                ∙ ap (slice_get (runs_from e.0 (end_of e) es)) j
                ∙ ap (λ s. slice_get (runs_from s (end_of e) es) (c.args.i - c.if-start-end.seen)) (sym t.at-is);
          }
      | else-start-end t ↦
          let j : c.args.i - c.loop-start.seen ≡ c.args.i - c.if-start-end.seen = (let is = t.seen-is in omega arith) in
          record {
            within = n.2;
            order = (let is = t.at-is in omega arith);
            seen = (let is = t.seen-is in omega arith);
            known = c.loop-start.invariant.known
                ∙ ap (λ l. slice_get l (c.args.i - c.loop-start.seen)) (run_longer es c.loop-start.at c.loop-start.end e w.0 c.requires.extents order w.1 t.if-start-end.false)
                ∙ ap (slice_get (runs_from c.loop-start.at (end_of e) es)) j
                ∙ ap (λ s. slice_get (runs_from s (end_of e) es) (c.args.i - c.if-start-end.seen)) (sym t.at-is);
          }
    ]

pub returns : goal.returns
returns c =
    let es : List Extent = c.args.store.now.entries in
    let all = ap length (runs-merged es c.requires.extents) in
    let l = c.requires.within in
    let last = run_last es c.loop-start.at c.loop-start.end c.in_default-after.ensures.first in
    ap (λ l. slice_get l c.args.i) (runs-merged es c.requires.extents)
    ∙ only_one (c.loop-start.at, c.loop-start.end - c.loop-start.at) (c.args.i - c.loop-start.seen) (merged es) c.args.i (omega (arith, all, l))
    (c.loop-start.invariant.known ∙ ap (λ r. slice_get r (c.args.i - c.loop-start.seen)) last)
