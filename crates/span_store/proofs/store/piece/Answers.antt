use Rattle.std.proofs.Common.{◌-◌, ◌+◌, Some, sym, arith, subst}
use Rattle.std.proofs.lemmas.List.{take_rest}
use Rattle.span_store.specs.Extents.{map_of, IsPiece, EndBy, low, high}
use Rattle.span_store.proofs.Order.{last_below, high_from}
use Rattle.span_store.proofs.Pieces.{piece_in, piece_after, ends_before}
use Rattle.span_store.proofs.Maps.{beyond}
use Rattle.span_store.proofs.store.piece.Goals as goal

pub overflow_sub-known : goal.overflow_sub-known
overflow_sub-known c = let l = last_below (c.args.from + 1) c.args.store.now.entries (c.in-Some.start, c.in-Some.bytes.now) c.in-Some.ensures.last in omega arith

pub returns-then-known-bytes : goal.returns-then-known-bytes
returns-then-known-bytes c =
    let l = last_below (c.args.from + 1) c.args.store.now.entries (c.in-Some.start, c.in-Some.bytes.now) c.in-Some.ensures.last in
    subst (λ bs. IsPiece (map_of c.args.store.now.entries) c.args.from (Some (c.args.from, bs))) (sym (take_rest c.in-Some.bytes.now (c.args.from - c.in-Some.start)))
    (piece_in c.args.store.now.entries (c.in-Some.start, c.in-Some.bytes.now) c.args.from c.in-Some.ensures.split c.in-Some.ensures.last c.requires (omega arith))

pub returns-else-known-bytes : goal.returns-else-known-bytes
returns-else-known-bytes c =
    let es = c.args.store.now.entries in
    let l = last_below (c.args.from + 1) es (c.in-Some.start, c.in-Some.bytes.now) c.in-Some.ensures.last in
    piece_after _ c.after.result es (low (c.args.from + 1) es) (high (c.args.from + 1) es) c.args.from c.after.ensures.split c.requires
    (ends_before es (c.in-Some.start, c.in-Some.bytes.now) (c.args.from + 1) c.in-Some.ensures.split c.in-Some.ensures.last c.requires c.args.from (omega arith))
    (high_from (c.args.from + 1) es) c.after.ensures.first

pub returns-in-None : goal.returns-in-None
returns-in-None c =
    let es = c.args.store.now.entries in
    piece_after _ c.after-in-None.result es (low (c.args.from + 1) es) (high (c.args.from + 1) es) c.args.from c.after-in-None.ensures.split c.requires
    (subst (λ l. EndBy c.args.from l) (sym c.in-None.ensures.last) tt)
    (high_from (c.args.from + 1) es) c.after-in-None.ensures.first

pub returns-then-from-ge-TOP : goal.returns-then-from-ge-TOP
returns-then-from-ge-TOP c = λ a l. beyond c.args.store.now.entries a c.requires (let t = c.if-from-ge-TOP.true in omega arith)
