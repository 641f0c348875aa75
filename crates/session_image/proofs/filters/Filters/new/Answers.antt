use Rattle.std.proofs.Common.{◌∙◌, ℕ, List, ap, sym, subst}
use Rattle.std.specs.List.{All}
use Rattle.std.proofs.lemmas.List.Sorted.{All-permutation}
use Rattle.ecu_mem.specs.Bounds.{IsRange}
use Rattle.session_image.specs.Content.{is_in_one}
use Rattle.session_image.proofs.Retained.{each_is, other_order}
use Rattle.session_image.proofs.filters.Filters.new.Goals as goal

pub parted-requires-clause-within : goal.parted-requires-clause-within
parted-requires-clause-within c =
    subst (All IsRange) (sym c.as_slice.ensures.value) (All-permutation IsRange c.args.said.now c.in_ok-sorted.sorted.items c.in_ok-sorted.ensures.same (each_is IsRange c.args.said.now c.requires))

pub invariant_of-result : goal.invariant_of-result
invariant_of-result c = record {
  ascend = c.in_ok-apart.ensures.ascend;
  same = λ a. c.in_ok-apart.ensures.same a ∙ ap (λ (l : List (ℕ × ℕ)). is_in_one l a) c.as_slice.ensures.value ∙ other_order c.args.said.now c.in_ok-sorted.sorted.items c.in_ok-sorted.ensures.same a;
}
