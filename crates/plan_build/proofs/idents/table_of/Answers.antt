use Rattle.std.proofs.Common.{◌≡◌, ◌∙◌, ◌+◌, ◌-◌, ◌<◌, ℕ, arith, length}
use Rattle.std.specs.String.{string_bytes}
use Rattle.std.proofs.lemmas.Map.Text.{hash_map_updates_text}
use Rattle.indexmap.specs.IndexMap.{get_by_text}
use Rattle.plan_build.proofs.Lists.{table_more}
use Rattle.plan_build.proofs.idents.table_of.Goals as goal

pub loop-left-preserved : goal.loop-left-preserved
loop-left-preserved c =
    let left : ℕ = c.loop-left.left in
    let i = c.loop-left.invariant in
    let next : left ≡ left - 1 + 1 = omega (arith, c.loop-left-test.true) in
    let within : left - 1 < length c.args.dids.now = omega (arith, i.within, c.loop-left-test.true) in
    let key : string_bytes c.in_ok-key.key ≡ c.index-dids-left.result.0 = c.in_ok-key.ensures.ok ∙ c.as_str.ensures in
    record {
      table = table_more c.args.dids.now (left - 1) left c.index-dids-left.result (string_bytes c.in_ok-key.key) (get_by_text c.loop-left.table) (get_by_text c.insert.new.self) next within c.index-dids-left.is key i.table
          (hash_map_updates_text (string_bytes c.in_ok-key.key) c.loop-left.table c.insert.new.self _ c.in_ok-insert.ensures.updates);
      within = omega (arith, i.within);
    }
