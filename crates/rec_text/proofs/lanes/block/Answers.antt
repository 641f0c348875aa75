use Rattle.std.proofs.Common.{◌≡◌, ◌≤◌, ℕ, List, ◌+◌, ◌-◌, ◌*◌, ◌%◌, take, drop, get_or, length, length-take, length-drop, sym, ap, ◌∙◌, subst, arith}
use Rattle.std.proofs.lemmas.List.FromFn.{length-map-range_with_len}
use Rattle.rec_text.specs.Lanes.{coupled, Spell}
use Rattle.rec_text.proofs.Wide.{spells, put_front}
use Rattle.rec_text.proofs.lanes.block.Goals as goal

pub returns : goal.returns
returns c =
    let w : List ℕ = c.values_from-v.result in
    let bytes : List ℕ = c.paired-bytes.result in
    let out : List ℕ = c.args.out.now in
    let digits : List ℕ = c.args.digits.now in
    let k : ℕ = c.args.k in
    let long : length out ≡ 260 = c.told-out in
    let mid : List ℕ = take (260 - k) (drop k out) in
    let size : length (coupled w) ≡ 16 = length-map-range_with_len (λ j. (get_or w (2 * j) 0 * 16 % 256 + get_or w (2 * j + 1) 0) % 256) 0 16 in
    let same : bytes ≡ coupled w = c.paired-bytes.ensures in
    let whole : length bytes ≡ 16 = ap length same ∙ size in
    let room : 16 ≤ length mid = omega (arith, length-take (260 - k) (drop k out), length-drop k out) in
    record {
      bytes = bytes;
      size = whole;
      spell = subst (Spell digits (2 * k)) (sym same) (spells digits (2 * k) w (λ j. (c.type_inv.digits j).fits) c.requires.digits c.values_from-v.ensures (c.are_small.ensures c.if-not-are_small.false));
      put = put_front k out mid _ bytes (omega arith) whole room;
      summed = c.sum_lanes.ensures.value;
      small = c.sum_lanes.ensures.small;
    }
