use Rattle.std.proofs.Common.{◌≡◌, ◌∙◌, ◌+◌, ◌≤◌, ℕ, List, ◌∷◌, Ok, Option, ap, sym, arith, length, drop, get_or, subst}
use Rattle.std.proofs.lemmas.Bool.{ne_eqb}
use Rattle.std.proofs.lemmas.List.{drop_more}
use Rattle.flash_base.specs.Lists.{Each}
use Rattle.span_store.specs.ByteMap.{top}
use Rattle.ecu_mem.specs.Bounds.{IsRange}
use Rattle.session_image.specs.Kept.{sizes, IsWithin}
use Rattle.session_image.specs.Pieces.{bodies, byte_of, filled, total}
use Rattle.session_image.specs.declared.content.Content.{Content}
use Rattle.session_image.proofs.Begins.{with_start, bodies_begin}
use Rattle.session_image.proofs.Filled.{filled_length}
use Rattle.session_image.proofs.Joins.{joined, given, next}
use Rattle.session_image.proofs.Sizes.{each_pushed, sizes_pushed}
use Rattle.session_image.proofs.pieces.bodies.Goals as goal

pub loop-i-preserved : goal.loop-i-preserved
loop-i-preserved c =
    let i = c.loop-i.invariant in
    let held : Content = c.args.content.now in
    let fs : List (ℕ × ℕ) = c.args.filters.now in
    let fill : Option ℕ = c.args.fill in
    let n : ℕ = c.loop-i.number in
    let before : ℕ = c.loop-i.before in
    let rs : List (ℕ × ℕ) = c.args.ranges.now in
    let j : ℕ = c.loop-i.i in
    let r : ℕ × ℕ = get_or rs j (0, 0) in
    let rest : List (ℕ × ℕ) = drop (j + 1) rs in
    let step : drop j rs ≡ r ∷ rest = drop_more rs j (0, 0) c.loop-i-test.true in
    let kept : c.loop-i.content ≡ held = i.same c.loop-i-test.true in
    let body : List ℕ = c.in_ok-body.body in
    let y : ℕ × List ℕ = (r.0, body) in
    let made : filled n (byte_of held fs r.0 before) fill r.0 r.1 ≡ Ok body =
    ap (λ (k : Content). filled n (byte_of k fs r.0 before) fill r.0 r.1) (sym kept) ∙ given c.in_ok-body.ensures.bytes in
    let each : Each IsRange (r ∷ rest) = subst (Each IsRange) step i.rest in
    let all : total (drop j rs) ≡ r.1 + total rest = ap total step in
    let some : 1 ≤ r.1 = each.0.0 in
    let end : r.0 + r.1 ≤ top = each.0.1 in
    let many : length body ≡ r.1 = filled_length n (byte_of held fs r.0 before) fill r.0 r.1 body made in
    let more : sizes c.push.new.self ≡ sizes c.loop-i.bodies + length body = sizes_pushed c.loop-i.bodies c.push.new.self y c.in_ok-push.ensures.ok in
    let one : IsWithin y = (omega arith, omega arith) in
    record {
      same = λ l. c.in_ok-body.ensures.same (ne_eqb (j + 1) (length rs) (λ e. omega arith)) ∙ kept;
      are = next (bodies held fs fill n before) (bodies held fs fill (n + 1) (before + r.1)) r
          (with_start r.0 (filled n (byte_of held fs r.0 before) fill r.0 r.1)) rest y c.loop-i.bodies c.push.new.self (bodies held fs fill c.args.first 0 rs)
          (bodies_begin held fs fill n before r) (ap (with_start r.0) made) c.in_ok-push.ensures.ok
          (i.are ∙ ap (λ l. joined c.loop-i.bodies (bodies held fs fill n before l)) step);
      rest = each.1;
      before = omega (arith, all, i.before);
      limit = omega (arith, all, some, i.limit);
      within = each_pushed IsWithin c.loop-i.bodies c.push.new.self y c.in_ok-push.ensures.ok i.within one;
      sizes = omega (arith, all, many, more, i.sizes);
    }
