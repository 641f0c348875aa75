use Rattle.std.proofs.Common.{◌≡◌, ◌∙◌, ◌+◌, ◌<◌, ℕ, get_or, sym, ap, rules, arith}
use Rattle.std.specs.Prelude.{Some}
use Rattle.flash_journal.proofs.Marks.{has_mark}
use Rattle.flash_journal.proofs.layout.Layout.mark.Goals as goal

pub index-requires : goal.index-requires
index-requires c = let within = (has_mark c.args.self.now c.args.unit c.args.segment c.if-unit-self.false (omega arith)).index in search rules

pub overflow_add-result : goal.overflow_add-result
overflow_add-result c =
    let mark = has_mark c.args.self.now c.args.unit c.args.segment c.if-unit-self.false (omega arith) in
    let start = mark.start c.index.result.now in
    let below = mark.below in
    let few = c.args.self.now.few in
    omega (arith, c.index.ensures)

pub returns-clause-place : goal.returns-clause-place
returns-clause-place c =
    let mark = has_mark c.args.self.now c.args.unit c.args.segment c.if-unit-self.false (omega arith) in
    ap (λ (k : ℕ). Some k) (ap (λ (k : ℕ). k + c.args.segment) c.index.ensures ∙ mark.start c.index.result.now) ∙ sym mark.place

pub returns-clause-within : goal.returns-clause-within
returns-clause-within c =
    let mark = has_mark c.args.self.now c.args.unit c.args.segment c.if-unit-self.false (omega arith) in
    let start = mark.start c.index.result.now in
    let below = mark.below in
    omega (arith, c.index.ensures)
