use Rattle.std.proofs.Common.{◌≡◌, ◌∙◌, ◌+◌, ◌-◌, ◌∷◌, [], ℕ, List, sym, ap, arith, length, drop, replicate}
use Rattle.std.proofs.lemmas.List.{drop_all, length-replicate}
use Rattle.session_image.specs.Checks.{or_byte, check_bytes}
use Rattle.session_image.specs.Kept.{byte_in, laid}
use Rattle.session_image.proofs.Joins.{drop_at}
use Rattle.session_image.proofs.Laid.{all_over, none_there, length-laid, written_back}
use Rattle.session_image.proofs.checks.check_bytes.Goals as goal

pub loop-left-init : goal.loop-left-init
loop-left-init c =
    let ps = c.args.pieces.now in
    let none : drop (length ps) ps ≡ [] = drop_all (length ps) ps (omega arith) in
    let items : c.in_ok-out.out.items ≡ replicate c.args.size (or_byte c.args.fill 255) = c.in_ok-out.ensures in
    record {
      within = omega arith;
      size = ap length items ∙ length-replicate c.args.size (or_byte c.args.fill 255);
      laid =
          items ∙ none_there c.args.fill c.args.from c.args.size
          ∙ ap (λ l. check_bytes l c.args.fill c.args.from c.args.size) (sym none);
    }

pub loop-left-preserved : goal.loop-left-preserved
loop-left-preserved c =
    let i = c.loop-left.invariant in
    let ps = c.args.pieces.now in
    let left : ℕ = c.loop-left.left in
    let p = c.index-pieces-left.result in
    let out = c.loop-left.out in
    let new = c.lay_over.new.out in
    let look = byte_in p.source p.body in
    let over : c.lay_over.new.out ≡ laid (byte_in p.source p.body) c.args.from out.items =
    c.lay_over.ensures ∙ ap (λ (l : List ℕ). laid (byte_in p.source l) c.args.from c.deref_mut.result.now) c.as_slice.ensures ∙ ap (laid look c.args.from) c.deref_mut.ensures.value in
    let back : left - 1 + 1 ≡ left = omega arith in
    let step : drop (left - 1) ps ≡ p ∷ drop (left - 1 + 1) ps = drop_at ps (left - 1) p (omega arith) c.index-pieces-left.is in
    let many : length c.lay_over.new.out ≡ length out.items = ap length over ∙ length-laid look c.args.from out.items in
    let full : out.len ≡ length out.items = sym c.deref_mut.ensures.len ∙ ap length c.deref_mut.ensures.value in
    let whole = written_back out.len out.items new many full in
    record {
      within = omega arith;
      size = ap length whole ∙ many ∙ i.size;
      laid =
          whole ∙ over ∙ ap (laid look c.args.from) i.laid ∙ all_over p (drop left ps) c.args.fill c.args.from c.args.size
          ∙ ap (λ l. check_bytes l c.args.fill c.args.from c.args.size) (ap (λ n. p ∷ drop n ps) (sym back) ∙ sym step);
    }
