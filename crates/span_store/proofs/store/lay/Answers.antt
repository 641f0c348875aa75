use Rattle.std.proofs.Common.{◌≡◌, ◌-◌, ◌≤◌, ◌∙◌, inl, inr, arith, ℕ, ap, take, drop, Result, Ok, Err, OnOk}
use Rattle.std.proofs.lemmas.Bool.{cases_lt}
use Rattle.span_store.specs.ByteMap.{ByteMap, over}
use Rattle.span_store.specs.Extents.{map_of}
use Rattle.span_store.proofs.Settled.{all_there, settled}
use Rattle.span_store.proofs.store.lay.Goals as goal

pub returns-then-stop-first-clause-ok : goal.returns-then-stop-first-clause-ok
returns-then-stop-first-clause-ok c =
    all_there (map_of c.args.store.now.entries) c.args.at c.args.bytes.now c.requires.free (λ a l u. c.free_from-first.ensures.covers a l (omega arith))

pub returns-then-last-first-clause-ok : goal.returns-then-last-first-clause-ok
returns-then-last-first-clause-ok c =
    all_there (map_of c.args.store.now.entries) c.args.at c.args.bytes.now c.requires.free (λ a l u.
    elim (cases_lt a c.free_from-first.result) [
      | inl b ↦ c.free_from-first.ensures.covers a l b
      | inr b ↦ c.free_to-last.ensures.covers a (omega arith) u
    ])

on_ok : {A E : Type 0} (r : Result A E) (P Q : Type 0) → (P → Q) → OnOk r P → OnOk r Q
on_ok (Ok x) P Q h p = h p
on_ok (Err e) P Q h p = p

pub returns-clause-ok : goal.returns-clause-ok
returns-clause-ok c =
    let m : ByteMap = map_of c.args.store.now.entries in
    let first : ℕ = c.free_from-first.result in
    let last : ℕ = c.free_to-last.result in
    let from : c.args.at ≤ first = c.free_from-first.ensures.from in
    let order : first ≤ last = c.free_to-last.ensures.behind first (omega arith) c.free_from-first.ensures.cut in
    let n : last - c.args.at - (first - c.args.at) ≡ last - first = omega arith in
    on_ok c.add.result _ _
    (λ e. e
    ∙ ap (λ k. over m first (take k (drop (first - c.args.at) c.args.bytes.now))) n
    ∙ settled m c.args.at first last c.args.bytes.now from order c.free_to-last.ensures.within c.requires.free c.free_from-first.ensures.covers c.free_to-last.ensures.covers) c.add.ensures.ok
