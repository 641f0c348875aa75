use Rattle.std.proofs.Common.{◌≡◌, true, ℕ, List, sym, subst}
use Rattle.bench_shop.specs.Faults.{is_piece}
use Rattle.bench_shop.proofs.Listed.{garbled_on, piece_is}
use Rattle.bench_shop.proofs.faults.Faults.garble.Goals as goal

pub returns-clause-form : goal.returns-clause-form
returns-clause-form c =
    garbled_on c.args.self.now.garbled c.push.new.self (c.args.receive, c.in_ok-bytes.bytes) c.push.result c.requires.form
    (subst (λ (b : List ℕ). is_piece (c.args.receive, b) ≡ true) (sym c.in_ok-bytes.ensures) (piece_is c.args.receive c.args.piece.now c.requires.some c.requires.few))
    c.push.ensures.ok c.push.ensures.err
