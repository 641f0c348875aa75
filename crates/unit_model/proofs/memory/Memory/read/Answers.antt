use Rattle.std.proofs.Common.{◌≡◌, ◌∙◌, ◌+◌, ◌-◌, ◌++◌, ap, sym, arith, length, List, ℕ}
use Rattle.std.proofs.lemmas.List.{append_assoc}
use Rattle.flash_base.specs.ByteMaps.{has_each, bytes_of}
use Rattle.unit_model.proofs.Parts.{has_split, bytes_split}
use Rattle.unit_model.proofs.memory.Memory.read.Goals as goal

pub loop-left-preserved : goal.loop-left-preserved
loop-left-preserved c =
    let part = c.in-Some.ensures in
    let k : ℕ = length c.in-Some.part.now in
    let m = c.args.self.now in
    let back : c.args.at + (c.loop-left.next - c.args.at) ≡ c.loop-left.next = omega arith in
    let joined : bytes_of c.args.at (c.loop-left.next - c.args.at) m ++ c.in-Some.part.now ≡ bytes_of c.args.at (c.loop-left.next + k - c.args.at) m =
    ap (λ (xs : List ℕ). bytes_of c.args.at (c.loop-left.next - c.args.at) m ++ xs) (part.bytes ∙ ap (λ (a : ℕ). bytes_of a k m) (sym back))
    ∙ sym (bytes_split (c.loop-left.next - c.args.at) k c.args.at m)
    ∙ ap (λ (n : ℕ). bytes_of c.args.at n m) (omega arith) in
    record {
      from = omega arith;
      ends = omega arith;
      there = has_split k (c.loop-left.left - k) c.loop-left.next m part.has ∙ ap (λ (n : ℕ). has_each c.loop-left.next n m) (omega arith) ∙ c.loop-left.invariant.there;
      said = c.in_ok-extend_from_slice.ensures.items
          ∙ ap (λ (xs : List ℕ). xs ++ c.in-Some.part.now) c.loop-left.invariant.said
          ∙ append_assoc c.args.out.now.items (bytes_of c.args.at (c.loop-left.next - c.args.at) m) c.in-Some.part.now
          ∙ ap (λ (xs : List ℕ). c.args.out.now.items ++ xs) joined;
    }
