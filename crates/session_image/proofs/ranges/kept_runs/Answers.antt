use Rattle.std.proofs.Common.{◌≡◌, ◌≤◌, ◌<◌, ◌+◌, ◌-◌, ◌++◌, ◌∷◌, [], ◌∙◌, ℕ, List, length, sym, ap, subst, arith, append_assoc}
use Rattle.std.specs.FinMap.{retain_keys}
use Rattle.flash_base.specs.Lists.{Each}
use Rattle.ecu_mem.specs.Bounds.{IsRange}
use Rattle.span_store.specs.ByteMap.{ByteMap}
use Rattle.span_store.specs.Runs.{before_runs, runs}
use Rattle.span_store.proofs.Fronts.{fewer}
use Rattle.span_store.proofs.Walking.{run_ends, run_goes_on, runs_front}
use Rattle.session_image.specs.Content.{is_kept}
use Rattle.session_image.specs.Keeping.{left_of}
use Rattle.session_image.proofs.Sizes.{each_pushed}
use Rattle.session_image.proofs.Stretches.{front_from, rest_low, runs_none}
use Rattle.session_image.proofs.ranges.kept_runs.Goals.{then-start-end+in_ok-push, else-start-end}
use Rattle.session_image.proofs.ranges.kept_runs.Goals as goal

pub returns-in_default-clause-runs : goal.returns-in_default-clause-runs
returns-in_default-clause-runs c =
    let whole : left_of c.new-kept.result ≡ retain_keys c.args.spans.now (is_kept c.args.filters.now) =
    c.new-kept.ensures.left ∙ ap (λ (w : ByteMap). retain_keys w (is_kept c.args.filters.now)) c.pieces.ensures in
    c.new-runs.ensures.items ∙ sym (ap runs (sym whole) ∙ runs_none (left_of c.new-kept.result) c.in_default.ensures.front.0)

pub loop-start-init : goal.loop-start-init
loop-start-init c =
    let t = c.in-Some.ensures.front in
    let some : 0 < length c.in-Some.bytes.now = t.0 in
    let e : ℕ × List ℕ = (c.in-Some.at, c.in-Some.bytes.now) in
    let m : ByteMap = left_of c.new-kept.result in
    let n : ByteMap = left_of c.next.new.self in
    let size : length c.in-Some.bytes.now ≡ c.in-Some.at + length c.in-Some.bytes.now - c.in-Some.at = omega arith in
    let whole : left_of c.new-kept.result ≡ retain_keys c.args.spans.now (is_kept c.args.filters.now) =
    c.new-kept.ensures.left ∙ ap (λ (w : ByteMap). retain_keys w (is_kept c.args.filters.now)) c.pieces.ensures in
    record {
      ready = c.in-Some.ensures.ready;
      order = omega arith;
      within = t.1;
      low = rest_low m n e t;
      each = subst (Each IsRange) (sym c.new-runs.ensures.items) tt;
      runs =
          ap runs (sym whole)
          ∙ runs_front m n e t
          ∙ ap (λ (k : ℕ). before_runs (c.in-Some.at, k) (runs n)) size
          ∙ ap (λ (l : List (ℕ × ℕ)). l ++ before_runs (c.in-Some.at, c.in-Some.at + length c.in-Some.bytes.now - c.in-Some.at) (runs n)) (sym c.new-runs.ensures.items);
    }

pub loop-start-smaller : goal.loop-start-smaller
loop-start-smaller c = fewer (left_of c.loop-start.kept) (left_of c.next-in-loop-start.new.self) (c.in-Some-next.start, c.in-Some-next.bytes.now) c.in-Some-next.ensures.front

pub loop-start-preserved : goal.loop-start-preserved
loop-start-preserved c =
    let i = c.loop-start.invariant in
    let t = c.in-Some-next.ensures.front in
    let some : 0 < length c.in-Some-next.bytes.now = t.0 in
    let e : ℕ × List ℕ = (c.in-Some-next.start, c.in-Some-next.bytes.now) in
    let m : ByteMap = left_of c.loop-start.kept in
    let n : ByteMap = left_of c.next-in-loop-start.new.self in
    let from : ℕ = c.loop-start.from in
    let end : ℕ = c.loop-start.end in
    let done : List (ℕ × ℕ) = c.loop-start.runs.items in
    let le : c.loop-start.end ≤ c.in-Some-next.start = front_from m n e end t i.low in
    let order : c.loop-start.from < c.loop-start.end = i.order in
    let stop : ℕ = c.in-Some-next.start + length c.in-Some-next.bytes.now in
    elim c.if-start-end.branch [
      | then-start-end+in_ok-push w ↦
          let items : c.if-start-end.runs.items ≡ done ++ ((from, end - from) ∷ []) = ap (λ v. v.items) w.runs-is ∙ w.in_ok-push.ensures.items in
          let first : c.if-start-end.from ≡ c.in-Some-next.start = w.from-is in
          record {
            ready = c.in-Some-next.ensures.ready;
            order = omega arith;
            within = t.1;
            low = rest_low m n e t;
            each = each_pushed IsRange done c.if-start-end.runs.items (from, end - from) items i.each (omega arith, let fits = i.within in omega arith);
            runs =
                i.runs
                ∙ ap (λ (l : List (ℕ × ℕ)). done ++ l) (run_ends m n e from end t (omega arith) w.if-start-end.true)
                ∙ sym (append_assoc done ((from, end - from) ∷ []) (before_runs (c.in-Some-next.start, stop - c.in-Some-next.start) (runs n)))
                ∙ ap (λ (l : List (ℕ × ℕ)). l ++ before_runs (c.in-Some-next.start, stop - c.in-Some-next.start) (runs n)) (sym items)
                ∙ ap (λ (k : ℕ). c.if-start-end.runs.items ++ before_runs (k, stop - k) (runs n)) (sym first);
          }
      | else-start-end w ↦
          let items : c.if-start-end.runs.items ≡ done = ap (λ v. v.items) w.runs-is in
          let first : c.if-start-end.from ≡ from = w.from-is in
          record {
            ready = c.in-Some-next.ensures.ready;
            order = omega arith;
            within = t.1;
            low = rest_low m n e t;
            each = subst (Each IsRange) (sym items) i.each;
            runs =
                i.runs
                ∙ ap (λ (l : List (ℕ × ℕ)). done ++ l) (run_goes_on m n e from end t (omega arith) w.if-start-end.false)
                ∙ ap (λ (l : List (ℕ × ℕ)). l ++ before_runs (from, stop - from) (runs n)) (sym items)
                ∙ ap (λ (k : ℕ). c.if-start-end.runs.items ++ before_runs (k, stop - k) (runs n)) (sym first);
          }
    ]

pub returns-clause-runs : goal.returns-clause-runs
returns-clause-runs c =
    let i = c.loop-start.invariant in
    let done : List (ℕ × ℕ) = c.loop-start.runs.items in
    let r : ℕ × ℕ = (c.loop-start.from, c.loop-start.end - c.loop-start.from) in
    c.in_ok-push-2.ensures.items ∙ sym (i.runs ∙ ap (λ (l : List (ℕ × ℕ)). done ++ before_runs r l) (runs_none (left_of c.loop-start.kept) c.in_default-next.ensures.front.0))
