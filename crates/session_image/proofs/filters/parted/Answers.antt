use Rattle.std.proofs.Common.{◌≡◌, ◌≤◌, ◌<◌, ◌+◌, ◌-◌, ◌∙◌, ◌++◌, ◌∷◌, [], ℕ, List, true, max, get_or, length, take, arith, sym, ap, subst}
use Rattle.std.proofs.lemmas.List.{take_more}
use Rattle.flash_base.specs.Lists.{Each}
use Rattle.span_store.specs.ByteMap.{top}
use Rattle.session_image.specs.Content.{is_in_one}
use Rattle.session_image.specs.Filtering.{Apart}
use Rattle.session_image.proofs.Retained.{apart_more, ended_more, in_done, in_next, part_new, part_old}
use Rattle.session_image.proofs.Sizes.{each_pushed}
use Rattle.session_image.proofs.filters.parted.Goals.{then-from-stop+in_ok-push, else-from-stop}
use Rattle.session_image.proofs.filters.parted.Goals as goal

pub loop-range-preserved : goal.loop-range-preserved
loop-range-preserved c =
    let i = c.loop-range.invariant in
    let xs : List (ℕ × ℕ) = c.args.ranges.now in
    let n : ℕ = c.loop-range.range-index in
    let lt : c.loop-range.range-index < length c.args.ranges.now = c.loop-range-test.true in
    let r : ℕ × ℕ = get_or c.args.ranges.now c.loop-range.range-index (0, 0) in
    let done : List (ℕ × ℕ) = take c.loop-range.range-index c.args.ranges.now in
    let parts : List (ℕ × ℕ) = c.loop-range.parted.items in
    let more : take (n + 1) xs ≡ done ++ (r ∷ []) = take_more xs n (0, 0) lt in
    let from : ℕ = c.max-from.result in
    let is : c.max-from.result ≡ max r.0 c.loop-range.reached = c.max-from.ensures in
    let some : 1 ≤ r.1 = (c.requires.within n (0, 0) lt).0 in
    let fits : r.0 + r.1 ≤ top = (c.requires.within n (0, 0) lt).1 in
    let here : n ≤ n = omega arith in
    elim c.if-from-stop.branch [
      | then-from-stop+in_ok-push w ↦
          let new : c.max-from.result < r.0 + r.1 = w.if-from-stop.true in
          let reached : c.if-from-stop.reached ≡ r.0 + r.1 = w.reached-is in
          let size : ℕ = r.0 + r.1 - from in
          let items : c.if-from-stop.parted.items ≡ parts ++ ((from, size) ∷ []) = ap (λ v. v.items) w.parted-is ∙ w.in_ok-push.ensures.items in
          let below : Each (λ (x : ℕ × ℕ). x.0 + x.1 ≤ from) parts = ended_more c.loop-range.reached from parts (omega arith) i.ended in
          record {
            ascend = subst (Apart 0) (sym items) (apart_more 0 parts from size i.ascend (omega arith) below (omega arith) (omega arith));
            ended = each_pushed (λ (x : ℕ × ℕ). x.0 + x.1 ≤ c.if-from-stop.reached) parts c.if-from-stop.parted.items (from, size) items
                (ended_more from c.if-from-stop.reached parts (omega arith) below) (omega arith);
            within = omega arith;
            same = λ a.
                ap (λ (l : List (ℕ × ℕ)). is_in_one l a) items
                ∙ part_new parts done r from size i.same (omega arith) (omega arith) (λ q l u. i.reached n q here lt l (omega arith)) a
                ∙ ap (λ (l : List (ℕ × ℕ)). is_in_one l a) (sym more);
            reached = λ j a le l first u.
                let up : r.0 ≤ (get_or xs j (0, 0)).0 = c.requires.ascend n j (0, 0) (omega arith) l in
                subst (λ (t : List (ℕ × ℕ)). is_in_one t a ≡ true) (sym more) (in_next done r a (omega arith) (omega arith));
          }
      | else-from-stop w ↦
          let old : r.0 + r.1 ≤ c.max-from.result = w.if-from-stop.false in
          let reached : c.if-from-stop.reached ≡ c.loop-range.reached = w.reached-is in
          let items : c.if-from-stop.parted.items ≡ parts = ap (λ v. v.items) w.parted-is in
          record {
            ascend = subst (Apart 0) (sym items) i.ascend;
            ended = subst (Each (λ (x : ℕ × ℕ). x.0 + x.1 ≤ c.if-from-stop.reached)) (sym items) (ended_more c.loop-range.reached c.if-from-stop.reached parts (omega arith) i.ended);
            within = omega arith;
            same = λ a.
                ap (λ (l : List (ℕ × ℕ)). is_in_one l a) items
                ∙ part_old parts done r i.same (λ q l u. i.reached n q here lt l (omega arith)) a
                ∙ ap (λ (l : List (ℕ × ℕ)). is_in_one l a) (sym more);
            reached = λ j a le l first u. subst (λ (t : List (ℕ × ℕ)). is_in_one t a ≡ true) (sym more) (in_done done r a (i.reached j a (omega arith) l first (omega arith)));
          }
    ]
