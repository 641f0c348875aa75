use Rattle.std.proofs.Common.{◌+◌, ◌*◌, ◌%◌, refl, ◌∙◌}
use Rattle.bench_gen.proofs.Images.{row_slice, start_fits}
use Rattle.bench_gen.proofs.image.row_of.Goals as goal

pub window-requires : goal.window-requires
window-requires c = start_fits (c.args.row + 31 * c.args.k + c.args.n) c.args.table.now c.requires.table

pub returns : goal.returns
returns c = c.window.ensures ∙ row_slice c.args.n c.args.k c.args.row ((c.args.row + 31 * c.args.k + c.args.n) % 256) c.args.table.now c.requires.table refl
