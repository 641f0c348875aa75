use Rattle.std.proofs.Common.{◌≡◌, ℕ, ◌+◌, ◌-◌, ◌≤◌, true, List, ◌++◌, length, take, drop, sym, ap, subst, ◌∙◌, arith, append_assoc, take-add}
use Rattle.std.proofs.lemmas.List.{drop_all, length-take-le, length-drop}
use Rattle.doip_frame.specs.Deframe.{EndsThere, is_partial}
use Rattle.doip_frame.specs.Frame.{cut_frame}
use Rattle.doip_frame.specs.Look.{missing_of}
use Rattle.doip_frame.proofs.Looks.{missing_ends, missing_some, partial_from, stops_from}
use Rattle.doip_frame.proofs.deframer.fill.Goals as goal

pub loop-used-smaller : goal.loop-used-smaller
loop-used-smaller c =
    let h : List ℕ = c.loop-used.held.items in
    let seen : c.deref.result.now ≡ h = c.deref.ensures.value in
    let yes : is_partial (cut_frame h) ≡ true = ap (λ (l : List ℕ). is_partial (cut_frame l)) (sym seen) ∙ sym c.is_part.ensures ∙ c.if-is_part.true in
    let some : 1 ≤ missing_of h = missing_some h (partial_from (cut_frame h) yes) in
    let lacks : c.missing-lacks.result ≡ missing_of h = c.missing-lacks.ensures ∙ ap missing_of c.deref-in-loop-used.ensures.value in
    let n = c.min-n.ensures in
    omega (arith, some, lacks, n, c.loop-used-test.true)

pub loop-used-preserved : goal.loop-used-preserved
loop-used-preserved c =
    let h : List ℕ = c.loop-used.held.items in
    let p : List ℕ = c.args.piece.now in
    let u : ℕ = c.loop-used.used in
    let n : ℕ = c.min-n.result in
    let seen : c.deref.result.now ≡ h = c.deref.ensures.value in
    let yes : is_partial (cut_frame h) ≡ true = ap (λ (l : List ℕ). is_partial (cut_frame l)) (sym seen) ∙ sym c.is_part.ensures ∙ c.if-is_part.true in
    let lacks : c.missing-lacks.result ≡ missing_of h = c.missing-lacks.ensures ∙ ap missing_of c.deref-in-loop-used.ensures.value in
    let least = c.min-n.ensures in
    let span : u + n - u ≡ n = omega arith in
    let left : length (drop u p) ≡ length p - u = length-drop u p in
    let taken : length (take n (drop u p)) ≡ n = length-take-le n (drop u p) (omega (arith, least, left)) in
    let items : c.extend_from_slice.new.self.items ≡ h ++ take n (drop u p) =
    c.in_ok-extend_from_slice.ensures.items ∙ ap (λ (l : List ℕ). l ++ take (u + n - u) (drop u p)) c.reserve_exact.ensures.items ∙ ap (λ (j : ℕ). h ++ take j (drop u p)) span in
    let all : h ++ take n (drop u p) ≡ c.args.held.now.items ++ take (u + n) p =
    ap (λ (l : List ℕ). l ++ take n (drop u p)) c.loop-used.invariant.held
    ∙ append_assoc c.args.held.now.items (take u p) (take n (drop u p))
    ∙ ap (λ (l : List ℕ). c.args.held.now.items ++ l) (sym (take-add u n p)) in
    record {
      within = omega (arith, least, c.loop-used-test.true);
      held = items ∙ all;
      ends = subst (λ (l : List ℕ). EndsThere (cut_frame l)) (sym items) (missing_ends h (take n (drop u p)) (partial_from (cut_frame h) yes) (omega (arith, taken, least, lacks)));
    }

pub returns-after-loop-used-clause-stops : goal.returns-after-loop-used-clause-stops
returns-after-loop-used-clause-stops c = stops_from (cut_frame c.loop-used.held.items) (drop c.loop-used.used c.args.piece.now) c.loop-used.invariant.ends (λ e. drop_all c.loop-used.used c.args.piece.now (omega (arith, c.loop-used-test.false)))
