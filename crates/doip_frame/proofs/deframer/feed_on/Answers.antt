use Rattle.std.proofs.Common.{◌≡◌, ◌-◌, List, [], ◌∷◌, ◌++◌, length, take, drop, sym, ap, subst, ◌∙◌}
use Rattle.std.proofs.lemmas.Result.{IfOk-weaker, on_ok_weaker}
use Rattle.doip_frame.specs.declared.frame.Frame.{Frame}
use Rattle.doip_frame.specs.Deframe.{left}
use Rattle.doip_frame.specs.Frame.{Stream, stream_of}
use Rattle.doip_frame.specs.Look.{CutsWhole}
use Rattle.doip_frame.proofs.Feeds.{part_stream, wrong_stream, whole_form, whole_step}
use Rattle.doip_frame.proofs.deframer.feed_on.Goals as goal

pub read-requires : goal.read-requires
read-requires c =
    let w = subst (CutsWhole c.in-Complete.kind c.in-Complete.size) (c.deref.ensures.value ∙ sym c.deref-in-Complete.ensures.value) c.in-Complete.ensures in
    whole_form c.args.held.now.items c.args.piece.now c.fill.new.held.items c.deref-in-Complete.result.now c.in_ok-used.used c.in_ok-used.ensures.ok c.deref-in-Complete.ensures.value c.in_ok-used.ensures.stops c.in-Complete.kind c.in-Complete.size w

pub returns-in-Part-clause-frames : goal.returns-in-Part-clause-frames
returns-in-Part-clause-frames c =
    let e = part_stream c.args.held.now.items c.args.piece.now c.fill.new.held.items c.deref.result.now c.in_ok-used.used c.in_ok-used.ensures.ok c.deref.ensures.value c.in_ok-used.ensures.stops c.in-Part.ensures in
    c.new.ensures ∙ ap (λ (s : Stream). s.frames) (sym e)

pub returns-in-Part-clause-bad : goal.returns-in-Part-clause-bad
returns-in-Part-clause-bad c =
    let e = part_stream c.args.held.now.items c.args.piece.now c.fill.new.held.items c.deref.result.now c.in_ok-used.used c.in_ok-used.ensures.ok c.deref.ensures.value c.in_ok-used.ensures.stops c.in-Part.ensures in
    ap (λ (s : Stream). s.bad) (sym e)

pub returns-in-Part-clause-held : goal.returns-in-Part-clause-held
returns-in-Part-clause-held c =
    let e = part_stream c.args.held.now.items c.args.piece.now c.fill.new.held.items c.deref.result.now c.in_ok-used.used c.in_ok-used.ensures.ok c.deref.ensures.value c.in_ok-used.ensures.stops c.in-Part.ensures in
    ap (λ (s : Stream). left s.bad s.rest) (sym e)

pub returns-in-Refused-clause-frames : goal.returns-in-Refused-clause-frames
returns-in-Refused-clause-frames c =
    let e = wrong_stream c.args.held.now.items c.args.piece.now c.fill.new.held.items c.deref.result.now c.in_ok-used.used c.in_ok-used.ensures.ok c.deref.ensures.value c.in_ok-used.ensures.stops c.in-Refused.bad c.in-Refused.ensures in
    c.new-in-Refused.ensures ∙ ap (λ (s : Stream). s.frames) (sym e)

pub returns-in-Refused-clause-bad : goal.returns-in-Refused-clause-bad
returns-in-Refused-clause-bad c =
    let e = wrong_stream c.args.held.now.items c.args.piece.now c.fill.new.held.items c.deref.result.now c.in_ok-used.used c.in_ok-used.ensures.ok c.deref.ensures.value c.in_ok-used.ensures.stops c.in-Refused.bad c.in-Refused.ensures in
    ap (λ (s : Stream). s.bad) (sym e)

pub returns-in-Refused-clause-held : goal.returns-in-Refused-clause-held
returns-in-Refused-clause-held c =
    let e = wrong_stream c.args.held.now.items c.args.piece.now c.fill.new.held.items c.deref.result.now c.in_ok-used.used c.in_ok-used.ensures.ok c.deref.ensures.value c.in_ok-used.ensures.stops c.in-Refused.bad c.in-Refused.ensures in
    c.clear.ensures.items ∙ ap (λ (s : Stream). left s.bad s.rest) (sym e)

pub returns-in_ok-push-in-Complete-clause-frames : goal.returns-in_ok-push-in-Complete-clause-frames
returns-in_ok-push-in-Complete-clause-frames c =
    let w = subst (CutsWhole c.in-Complete.kind c.in-Complete.size) (c.deref.ensures.value ∙ sym c.deref-in-Complete.ensures.value) c.in-Complete.ensures in
    let e = whole_step c.args.held.now.items c.args.piece.now c.fill.new.held.items c.deref-in-Complete.result.now c.in_ok-used.used c.in_ok-used.ensures.ok c.deref-in-Complete.ensures.value c.in_ok-used.ensures.stops c.in-Complete.kind c.in-Complete.size w in
    let after : Stream = stream_of (take (length c.args.piece.now - c.in_ok-used.used) (drop c.in_ok-used.used c.args.piece.now)) in
    let one : c.push.new.self ≡ c.in_ok-frame-in-Complete.frame ∷ [] = c.in_ok-push-in-Complete.ensures.ok ∙ ap (λ (l : List Frame). l ++ c.in_ok-frame-in-Complete.frame ∷ []) c.new-frames.ensures in
    IfOk-weaker c.straight.result _ _ (λ fed g. g ∙ ap (λ (l : List Frame). l ++ after.frames) one ∙ ap (λ (f : Frame). f ∷ after.frames) c.in_ok-frame-in-Complete.ensures ∙ ap (λ (s : Stream). s.frames) (sym e)) c.straight.ensures.frames

pub returns-in_ok-push-in-Complete-clause-bad : goal.returns-in_ok-push-in-Complete-clause-bad
returns-in_ok-push-in-Complete-clause-bad c =
    let e = whole_step c.args.held.now.items c.args.piece.now c.fill.new.held.items c.deref.result.now c.in_ok-used.used c.in_ok-used.ensures.ok c.deref.ensures.value c.in_ok-used.ensures.stops c.in-Complete.kind c.in-Complete.size c.in-Complete.ensures in
    IfOk-weaker c.straight.result _ _ (λ fed g. g ∙ ap (λ (s : Stream). s.bad) (sym e)) c.straight.ensures.bad

pub returns-in_ok-push-in-Complete-clause-held : goal.returns-in_ok-push-in-Complete-clause-held
returns-in_ok-push-in-Complete-clause-held c =
    let e = whole_step c.args.held.now.items c.args.piece.now c.fill.new.held.items c.deref.result.now c.in_ok-used.used c.in_ok-used.ensures.ok c.deref.ensures.value c.in_ok-used.ensures.stops c.in-Complete.kind c.in-Complete.size c.in-Complete.ensures in
    on_ok_weaker c.straight.result (λ g. g ∙ ap (λ (s : Stream). left s.bad s.rest) (sym e)) c.straight.ensures.held
