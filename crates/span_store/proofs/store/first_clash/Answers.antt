use Rattle.std.proofs.Common.{◌-◌, ◌≤◌, length, sym, arith}
use Rattle.std.proofs.lemmas.List.{take_rest}
use Rattle.span_store.specs.Extents.{map_of, Extent}
use Rattle.span_store.proofs.Clashes.{past_gap_at, past_piece_at, past_end, none_left, found_at}
use Rattle.span_store.proofs.store.first_clash.Goals as goal

pub returns-in_default : goal.returns-in_default
returns-in_default c = sym (none_left (map_of c.args.store.now.entries) c.args.at c.loop-here.here c.args.bytes.now c.loop-here.invariant.from c.in_default.ensures c.loop-here.invariant.known)

pub returns-then-stop-start : goal.returns-then-stop-start
returns-then-stop-start c =
    let known = past_gap_at (map_of c.args.store.now.entries) c.args.at c.loop-here.here c.args.bytes.now (c.in-Some.start, c.in-Some.old.now) c.loop-here.invariant.from c.in-Some.ensures c.loop-here.invariant.known in
    sym (past_end (map_of c.args.store.now.entries) c.args.at c.in-Some.start c.args.bytes.now (omega arith) known)

pub returns-in-Some-difference : goal.returns-in-Some-difference
returns-in-Some-difference c =
    let m = map_of c.args.store.now.entries in
    let e : Extent = (c.in-Some.start, c.in-Some.old.now) in
    let p = c.in-Some.ensures in
    let le : c.args.at ≤ c.in-Some.start = (let a = c.loop-here.invariant.from in let b = p.0 in omega arith) in
    let known = past_gap_at m c.args.at c.loop-here.here c.args.bytes.now e c.loop-here.invariant.from p c.loop-here.invariant.known in
    let rest = take_rest c.args.bytes.now (c.in-Some.start - c.args.at) in
    let d = rw rest at c.in-Some-difference.ensures in
    rw rest (sym (found_at m c.args.at c.args.bytes.now e c.in-Some-difference.k le p.4 d.0 d.1 d.2 d.3 known))

pub loop-here-preserved : goal.loop-here-preserved
loop-here-preserved c =
    let m = map_of c.args.store.now.entries in
    let e : Extent = (c.in-Some.start, c.in-Some.old.now) in
    let p = c.in-Some.ensures in
    let le : c.args.at ≤ c.in-Some.start = (let a = c.loop-here.invariant.from in let b = p.0 in omega arith) in
    let known = past_gap_at m c.args.at c.loop-here.here c.args.bytes.now e c.loop-here.invariant.from p c.loop-here.invariant.known in
    let rest = take_rest c.args.bytes.now (c.in-Some.start - c.args.at) in
    let d = rw rest at c.in_default-difference.ensures in
    let fits : length c.in-Some.old.now ≤ length c.in-Some.old.now = omega arith in
    record {
      from = omega arith;
      within = p.2;
      known = past_piece_at m c.args.at (length c.in-Some.old.now) c.args.bytes.now e le p.4 fits d known;
    }
