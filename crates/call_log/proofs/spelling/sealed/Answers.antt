use Rattle.std.proofs.Common.{◌≡◌, ◌∙◌, ◌++◌, List, ℕ, ap}
use Rattle.doip_frame.specs.Frame.{frame_bytes}
use Rattle.call_log.specs.Log.{seal_bytes}
use Rattle.call_log.proofs.spelling.sealed.Goals as goal

pub returns : goal.returns
returns c =
    let seal : c.as_slice-2.result.now ≡ seal_bytes c.args.kind c.args.payload = c.as_slice-2.ensures ∙ c.in_ok-seal.ensures ∙ ap (seal_bytes c.args.kind) c.as_slice.ensures in
    c.in_ok-extend.ensures.ok
    ∙ ap (λ (bytes : List ℕ). bytes ++ c.as_slice-2.result.now) c.in_ok-bytes.ensures
    ∙ ap (λ (more : List ℕ). frame_bytes c.args.kind c.args.payload ++ more) seal
