use Rattle.std.proofs.Common.{◌<◌, ◌≤◌, ◌+◌, sym, ap, subst, arith, length, ℕ, List}
use Rattle.unit_model.specs.declared.memory.Region.{Region}
use Rattle.unit_model.specs.RegionTests.{LIMIT}
use Rattle.unit_model.proofs.Parts.{limit_of}
use Rattle.unit_model.proofs.memory.saving.patches_of.Goals as goal

pub push_chunks-requires : goal.push_chunks-requires
push_chunks-requires c =
    let lt : c.loop-region.region-index < length c.args.regions.now = omega arith in
    let limit : c.region-item.result.at + length c.region-item.result.bytes.items ≤ LIMIT =
    subst (λ (r : Region). r.at + length r.bytes.items ≤ LIMIT) (sym c.region-item.is) (limit_of c.args.regions.now c.loop-region.region-index c.region-item.result c.requires lt) in
    subst (λ (xs : List ℕ). c.region-item.result.at + length xs ≤ LIMIT) (sym c.deref.ensures.value) limit
