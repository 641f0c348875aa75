use Rattle.std.proofs.Common.{◌++◌, ◌∙◌, ℕ, List, take, ap, arith}
use Rattle.srec_rec.proofs.Lines.{head, begun, advanced, finished}
use Rattle.rec_text.proofs.Smalls.{small_of}
use Rattle.srec_rec.proofs.Round.{round_small}
use Rattle.srec_rec.proofs.Text.{whole_text}
use Rattle.srec_rec.proofs.writing.write.Goals as goal

pub loop-at-init : goal.loop-at-init
loop-at-init c = begun c.args.spans.now c.push_line.new.text (c.in_ok-push_line.ensures ∙ ap (λ t. t ++ head) c.new-text.ensures)

pub loop-at-preserved : goal.loop-at-preserved
loop-at-preserved c =
    let p = c.in-Some.ensures in
    let bs : List ℕ = take c.cut_front-n.result c.cut_front-n.new.line in
    advanced c.args.spans.now c.loop-at.here c.loop-at.text c.push_data.new.text c.in-Some.at c.cut_front-n.result bs c.loop-at.invariant p.0 p.3 c.cut_front-n.ensures.holds c.cut_front-n.ensures.cut (small_of (take c.cut_front-n.result c.cut_front-n.new.line) c.in_ok-push_data.ensures.small) c.cut_front-n.ensures.within c.cut_front-n.ensures.size
    c.in_ok-push_data.ensures.pushed

pub returns : goal.returns
returns c =
    let w = finished c.args.spans.now c.loop-at.here c.loop-at.text c.push_line-2.new.text c.loop-at.invariant c.in_default.ensures c.in_ok-push_line-2.ensures in
    let back = round_small c.args.spans.now c.push_line-2.new.text w.0 w.1 in
    record { written = w.0; read_back = back; whole = whole_text c.push_line-2.new.text c.args.spans.now back }
