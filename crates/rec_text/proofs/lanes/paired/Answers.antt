use Rattle.std.proofs.Common.{ℕ, ◌+◌, ◌*◌, ◌++◌, ◌%◌, List, map, replicate, ap, ◌∙◌}
use Rattle.std.specs.List.{range_with_len}
use Rattle.std.proofs.lemmas.Simd.{pick_l_left}
use lib.Lanes.{zip2, pick_l}
use Rattle.rec_text.proofs.Wide.{plus}
use Rattle.rec_text.proofs.lanes.paired.Goals as goal

pub returns : goal.returns
returns c =
    let v = c.args.v in
    let evens : List ℕ = map (λ k. 2 * k) (range_with_len 0 16) in
    let odds : List ℕ = map (λ k. 2 * k + 1) (range_with_len 0 16) in
    ap (λ l. zip2 plus (zip2 (λ a b. a * b % 256) l (replicate 16 16)) (pick_l 0 (v ++ v) odds)) (pick_l_left 0 v v 32 evens c.fits-v.0 tt)
    ∙ ap (λ l. zip2 plus (zip2 (λ a b. a * b % 256) (pick_l 0 v evens) (replicate 16 16)) l) (pick_l_left 0 v v 32 odds c.fits-v.0 tt)
