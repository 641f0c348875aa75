use Rattle.std.proofs.Common.{rules, ◌≤◌, length}
use Rattle.serde_json.specs.View.{view}
use Rattle.odx_tree.proofs.Steps.{tree_of-value, tree_of-none}
use Rattle.odx_tree.proofs.reading.read.Goals as goal

pub returns-in-Ok : goal.returns-in-Ok
returns-in-Ok c =
    let short : length c.args.bytes.now ≤ 67108864 = search rules in
    search (rules, tree_of-value c.args.bytes.now (view c.in-Ok.value) short)

pub returns-in_default : goal.returns-in_default
returns-in_default c =
    let short : length c.args.bytes.now ≤ 67108864 = search rules in
    search (rules, tree_of-none c.args.bytes.now short)
