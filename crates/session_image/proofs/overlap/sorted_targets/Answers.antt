use Rattle.std.proofs.Common.{◌≡◌, ◌∙◌, ◌++◌, [], ℕ, List, drop, arith, rules, sym, ap, subst}
use Rattle.std.proofs.lemmas.List.{append-nil, drop_all}
use Rattle.std.proofs.lemmas.List.Sorted.{IsNonDecreasingBy-from_sort_by_key}
use Rattle.std.specs.List.Sorted.{IsPermutation}
use Rattle.session_image.specs.Targets.{ranges_of}
use Rattle.session_image.proofs.Ordered.{ascend}
use Rattle.session_image.proofs.overlap.sorted_targets.Goals as goal

pub returns-clause-ascend : goal.returns-clause-ascend
returns-clause-ascend c =
    let ps = c.args.pieces.now in
    let made = c.loop-piece.targets.items in
    let ts = c.sort_by_key.new.self.items in
    let end : drop c.loop-piece.piece-index ps ≡ [] = drop_all c.loop-piece.piece-index ps (omega arith) in
    let all : made ≡ ranges_of ps = sym (append-nil made) ∙ ap (λ l. made ++ ranges_of l) (sym end) ∙ c.loop-piece.invariant.are in
    ascend ps ts c.requires (subst (λ (l : List (ℕ × ℕ)). IsPermutation l ts) all c.sort_by_key.ensures.permutation)
    (IsNonDecreasingBy-from_sort_by_key (λ (t : ℕ × ℕ). t.0) ts c.in_ok-sort_by_key.ensures.sorted (λ a r q k. search rules))
