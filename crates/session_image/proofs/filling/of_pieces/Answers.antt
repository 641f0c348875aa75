use Rattle.std.proofs.Common.{◌+◌, ◌++◌, ◌∙◌, ℕ, List, inl, inr, sym, ap, Ok, Err}
use Rattle.std.proofs.lemmas.Result.{err_from_is_err_and}
use Rattle.std.specs.FinMap.{get}
use Rattle.span_store.specs.ByteMap.{ByteMap}
use Rattle.span_store.proofs.Fronts.{fewer}
use Rattle.session_image.specs.Keeping.{left_of}
use Rattle.session_image.specs.Pieces.{filled}
use Rattle.session_image.proofs.Stretches.{front_from, front_to, holed, holed_last, rest_high, rest_low, stretched, stretched_last}
use Rattle.session_image.proofs.filling.of_pieces.Goals as goal

pub returns-in_err-pad : goal.returns-in_err-pad
returns-in_err-pad c =
    let p = err_from_is_err_and c.from_residual-in_err-pad.result c.from_residual-in_err-pad.ensures.1 in
    let i = c.loop-start.invariant in
    let m : ByteMap = left_of c.loop-start.pieces in
    let n : ByteMap = left_of c.next.new.self in
    let e : ℕ × List ℕ = (c.in-Some.start, c.in-Some.bytes.now) in
    let stop : ℕ = c.args.range.0 + c.args.range.1 in
    let t = c.in-Some.ensures.front in
    rw (p.1, p.2) (elim c.in_err-pad.ensures.err [
      | inl x ↦ inl (ap Err x)
      | inr x ↦ inr (sym (holed c.args.number c.args.fill m n c.loop-start.here stop e c.in_err-pad.field-0.0 c.loop-start.out.items
          (filled c.args.number (get (left_of c.args.pieces.now)) c.args.fill c.args.range.0 c.args.range.1)
          t (front_from m n e c.loop-start.here t i.low) (front_to m n e stop t i.high) x i.made))
    ])

pub loop-start-smaller : goal.loop-start-smaller
loop-start-smaller c = fewer (left_of c.loop-start.pieces) (left_of c.next.new.self) (c.in-Some.start, c.in-Some.bytes.now) c.in-Some.ensures.front

pub loop-start-preserved : goal.loop-start-preserved
loop-start-preserved c =
    let i = c.loop-start.invariant in
    let m : ByteMap = left_of c.loop-start.pieces in
    let n : ByteMap = left_of c.next.new.self in
    let e : ℕ × List ℕ = (c.in-Some.start, c.in-Some.bytes.now) in
    let stop : ℕ = c.args.range.0 + c.args.range.1 in
    let t = c.in-Some.ensures.front in
    let padded = c.in_ok-pad.ensures.ok in
    record {
      ready = c.in-Some.ensures.ready;
      within = front_to m n e stop t i.high;
      low = rest_low m n e t;
      high = rest_high m n e stop t i.high;
      made =
          stretched c.args.number c.args.fill m n c.loop-start.here stop e padded.0 c.loop-start.out.items c.extend.new.out.items
          (filled c.args.number (get (left_of c.args.pieces.now)) c.args.fill c.args.range.0 c.args.range.1)
          t (front_from m n e c.loop-start.here t i.low) (front_to m n e stop t i.high) padded.1
          (c.in_ok-extend.ensures ∙ ap (λ (l : List ℕ). l ++ c.in-Some.bytes.now) padded.2) i.made;
    }

pub returns-in_err-pad-2 : goal.returns-in_err-pad-2
returns-in_err-pad-2 c =
    let p = err_from_is_err_and c.from_residual-in_err-pad-2.result c.from_residual-in_err-pad-2.ensures.1 in
    let i = c.loop-start.invariant in
    rw (p.1, p.2) (elim c.in_err-pad-2.ensures.err [
      | inl x ↦ inl (ap Err x)
      | inr x ↦ inr (sym (holed_last c.args.number c.args.fill (left_of c.loop-start.pieces) c.loop-start.here (c.args.range.0 + c.args.range.1) c.in_err-pad-2.field-0.0 c.loop-start.out.items
          (filled c.args.number (get (left_of c.args.pieces.now)) c.args.fill c.args.range.0 c.args.range.1)
          c.in_default.ensures.front.0 x i.made))
    ])

pub returns : goal.returns
returns c =
    let i = c.loop-start.invariant in
    let padded = c.in_ok-pad-2.ensures.ok in
    inr (ap Ok c.from_vec.ensures
    ∙ sym (stretched_last c.args.number c.args.fill (left_of c.loop-start.pieces) c.loop-start.here (c.args.range.0 + c.args.range.1) padded.0 c.loop-start.out.items c.pad-2.new.out.items
    (filled c.args.number (get (left_of c.args.pieces.now)) c.args.fill c.args.range.0 c.args.range.1)
    c.in_default.ensures.front.0 padded.1 padded.2 i.made))
