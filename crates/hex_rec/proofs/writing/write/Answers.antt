use Rattle.std.proofs.Common.{◌%◌, ◌/◌, ◌++◌, ◌∷◌, [], ◌∙◌, ℕ, List, length, take, nat_eq, ap, arith, append_assoc}
use Rattle.std.specs.Prelude.{if◌then◌else◌}
use Rattle.hex_rec.specs.Writing.{line_of, base_line}
use Rattle.hex_rec.proofs.Cuts.{begun, advanced, finished}
use Rattle.rec_text.proofs.Smalls.{small_of}
use Rattle.hex_rec.proofs.Round.{round_small}
use Rattle.hex_rec.proofs.Whole.{whole_text}
use Rattle.hex_rec.proofs.writing.write.Goals as goal

pub loop-at-init : goal.loop-at-init
loop-at-init c = begun c.args.spans.now c.new-text.result c.new-text.ensures

pub loop-at-preserved : goal.loop-at-preserved
loop-at-preserved c =
    let p = c.in-Some.ensures in
    let at : ℕ = c.in-Some.at in
    let bs : List ℕ = take c.cut_front-n.result c.cut_front-n.new.line in
    let base : List ℕ = if nat_eq (at / 65536) c.loop-at.upper then [] else base_line (at / 65536) in
    advanced c.args.spans.now c.loop-at.here c.loop-at.upper c.loop-at.text c.push_data.new.text at c.cut_front-n.result bs c.loop-at.invariant p.0 p.3 c.cut_front-n.ensures.holds c.cut_front-n.ensures.cut (small_of (take c.cut_front-n.result c.cut_front-n.new.line) c.in_ok-push_data.ensures.small) c.cut_front-n.ensures.within c.cut_front-n.ensures.size
    (c.in_ok-push_data.ensures.pushed
    ∙ ap (λ t. t ++ line_of (length bs ∷ at % 65536 / 256 ∷ at % 256 ∷ 0 ∷ bs)) c.in_ok-push_base.ensures
    ∙ append_assoc c.loop-at.text base (line_of (length bs ∷ at % 65536 / 256 ∷ at % 256 ∷ 0 ∷ bs)))

pub returns : goal.returns
returns c =
    let w = finished c.args.spans.now c.loop-at.here c.loop-at.upper c.loop-at.text c.push_line.new.text c.loop-at.invariant c.in_default.ensures c.in_ok-push_line.ensures in
    let back = round_small c.args.spans.now c.push_line.new.text w.0 w.1 in
    record { written = w.0; read_back = back; whole = whole_text c.push_line.new.text c.args.spans.now back }
