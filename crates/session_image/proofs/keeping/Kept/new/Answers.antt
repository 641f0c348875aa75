use Rattle.std.proofs.Common.{◌∙◌, ℕ, List, ap, sym, subst}
use Rattle.std.specs.FinMap.{retain_keys}
use Rattle.span_store.specs.ByteMap.{over}
use Rattle.session_image.specs.Content.{is_kept}
use Rattle.session_image.specs.Filtering.{Apart, IsRest}
use Rattle.session_image.proofs.Chosen.{Apart_back, before_hand, kept_rest}
use Rattle.session_image.proofs.keeping.Kept.new.Goals as goal

pub returns-clause-ready : goal.returns-clause-ready
returns-clause-ready c =
    let cut = c.from_there.ensures in
    record {
      ends = c.requires.ends;
      behind = c.requires.behind;
      ascend = Apart_back 0 cut.first c.from_there.result.now (subst (Apart 0) (sym c.as_slice.ensures.value ∙ cut.all) c.filters.invariant.ascend);
    }

pub returns-clause-left : goal.returns-clause-left
returns-clause-left c =
    let m = over c.args.rest c.args.at c.args.bytes.now in
    let cut : IsRest c.filters.inside.apart.items c.args.at c.from_there.result.now = subst (λ (l : List (ℕ × ℕ)). IsRest l c.args.at c.from_there.result.now) c.as_slice.ensures.value c.from_there.ensures in
    kept_rest m c.filters.inside.said.now c.filters.inside.apart.items c.from_there.result.now c.is_empty.result c.args.at c.is_empty.ensures c.filters.invariant cut
    (before_hand c.args.rest c.args.at c.args.bytes.now c.requires.behind)
    ∙ ap (λ (fs : List (ℕ × ℕ)). retain_keys m (is_kept fs)) c.filters.view_is
