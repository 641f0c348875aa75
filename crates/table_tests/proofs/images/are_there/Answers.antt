use Rattle.std.proofs.Common.{◌≡◌, ◌∙◌, ◌+◌, ◌-◌, ◌∷◌, ℕ, List, sym, ap, arith, drop, subst, rules}
use Rattle.std.specs.Prelude.{IsSome}
use Rattle.flash_base.specs.Files.{first_of}
use Rattle.flash_base.specs.Lists.{Each}
use Rattle.session_image.proofs.Joins.{drop_here}
use Rattle.table_tests.proofs.images.are_there.Goals as goal

pub loop-left-preserved : goal.loop-left-preserved
loop-left-preserved c =
    let i = c.loop-left.invariant in
    let files = c.args.files.now in
    let names : List (List ℕ) = c.args.names.now in
    let left : ℕ = c.loop-left.left in
    let name : List ℕ = c.at.result.now in
    let back : left - 1 + 1 ≡ left = omega arith in
    let step : drop (left - 1) names ≡ name ∷ drop left names = drop_here names (left - 1) name c.at.ensures ∙ ap (λ (n : ℕ). name ∷ drop n names) back in
    let there : IsSome (first_of name files) = c.has_file.ensures (search rules) in
    record {
      within = omega arith;
      there = subst (Each (λ (n : List ℕ). IsSome (first_of n files))) (sym step) (there, i.there);
    }
