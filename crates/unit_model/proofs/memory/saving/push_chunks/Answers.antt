use Rattle.std.proofs.Common.{◌≡◌, ◌∙◌, ◌+◌, ◌-◌, ◌*◌, ◌/◌, ◌≤◌, ◌++◌, suc, ap, arith, length, drop, ℕ, List}
use Rattle.unit_model.specs.declared.spec.PatchSpec.{PatchSpec}
use Rattle.unit_model.specs.Saving.{chunks}
use Rattle.unit_model.proofs.Saved.{chunk_more}
use Rattle.unit_model.proofs.memory.saving.push_chunks.Goals as goal

pub loop-i-preserved : goal.loop-i-preserved
loop-i-preserved c =
    let xs : List ℕ = c.args.bytes.now in
    let i : ℕ = c.loop-i.i in
    let count : ℕ = length xs / 4096 + 1 in
    let next : count - i ≡ suc (count - (i + 1)) = omega arith in
    let within : i * 4096 ≤ length xs = omega arith in
    ap (λ (ps : List PatchSpec). ps ++ chunks (count - (i + 1)) (c.args.at + (i + 1) * 4096) (drop ((i + 1) * 4096) xs)) c.in_ok-push_chunk.ensures
    ∙ chunk_more c.loop-i.patches.items c.args.at i (count - (i + 1)) (count - i) c.min-end.result xs next within c.min-end.ensures
    ∙ c.loop-i.invariant
