use Rattle.std.proofs.Common.{◌≡◌, ◌≤◌, length, ◌∙◌, subst, List, ℕ, sym}
use Rattle.bench_gen.specs.Sizes.{image_of}
use Rattle.bench_gen.proofs.Images.{image_few, whole_image}
use Rattle.bench_gen.proofs.image.image.Goals as goal

pub returns-clause-is : goal.returns-clause-is
returns-clause-is c = c.in_ok-put_rows.ensures ∙ whole_image c.args.n c.args.k

pub returns-clause-few : goal.returns-clause-few
returns-clause-few c =
    let is : c.put_rows.new.out ≡ image_of c.args.n c.args.k = c.in_ok-put_rows.ensures ∙ whole_image c.args.n c.args.k in
    subst (λ (bytes : List ℕ). length bytes ≤ 1048576) (sym is) (image_few c.args.n c.args.k)
