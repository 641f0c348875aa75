use Rattle.std.proofs.Common.{◌≡◌, ◌∙◌, sym, ap, subst}
use Rattle.span_store.specs.Lowest.{IsLowest}
use Rattle.session_image.specs.Pieces.{IsShared}
use Rattle.session_image.specs.Targets.{first_met}
use Rattle.session_image.proofs.Ordered.{lowest_shared}
use Rattle.session_image.proofs.overlap.overlap.Goals as goal

pub returns : goal.returns
returns c =
    let ps = c.args.pieces.now in
    let ts = c.in_ok-targets.targets.items in
    let is : c.first_met.result ≡ first_met 0 ts = c.first_met.ensures ∙ ap (first_met 0) c.as_slice.ensures.value in
    subst (IsLowest (IsShared ps)) (sym is) (lowest_shared ps ts c.in_ok-targets.ensures.same c.in_ok-targets.ensures.ascend)
