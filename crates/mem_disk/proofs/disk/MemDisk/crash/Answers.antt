use Rattle.std.proofs.Common.{◌≡◌, ℕ, ◌<◌, true, List, length, take, sym, ◌∙◌, ap, subst, arith, add-one}
use Rattle.std.proofs.lemmas.List.{take_all}
use Rattle.mem_disk.specs.Replay.{is_within, start, replay}
use Rattle.mem_disk.specs.declared.record.Done.{Done}
use Rattle.mem_disk.proofs.Crashes.{ShowsUpTo, shows_more, within_at, image_at}
use Rattle.mem_disk.proofs.disk.MemDisk.crash.Goals as goal
use Rattle.mem_disk.proofs.disk.MemDisk.crash.Goals.{then-call-recorded, else-call-recorded}

pub behind-requires : goal.behind-requires
behind-requires c =
    let lt : c.loop-i.i < length c.args.self.now.calls.items = elim c.if-call-recorded.branch [
      | then-call-recorded w ↦ omega (arith, c.loop-i-test.true, w.last-is, w.if-call-recorded.true, c.len-recorded.ensures)
      | else-call-recorded w ↦ omega (arith, c.loop-i-test.true, w.last-is, c.len-recorded.ensures)
    ] in
    subst (λ (xs : List ℕ). is_within (length xs) c.index.result.now ≡ true) (sym c.loop-i.invariant.bytes)
    (subst (λ (d : Done). is_within (length (replay (start c.args.self.now.first.items) (take c.loop-i.i c.args.self.now.calls.items)).bytes) d ≡ true) (sym c.index.ensures)
    (within_at (start c.args.self.now.first.items) c.args.self.now.calls.items c.loop-i.i c.index.result.now lt c.args.self.now.within))

pub loop-i-preserved : goal.loop-i-preserved
loop-i-preserved c =
    let lt : c.loop-i.i < length c.args.self.now.calls.items = elim c.if-call-recorded.branch [
      | then-call-recorded w ↦ omega (arith, c.loop-i-test.true, w.last-is, w.if-call-recorded.true, c.len-recorded.ensures)
      | else-call-recorded w ↦ omega (arith, c.loop-i-test.true, w.last-is, c.len-recorded.ensures)
    ] in
    subst (λ (k : ℕ). ShowsUpTo c.args.pick c.args.self.now.first.items c.args.self.now.calls.items k c.in_ok-picture.picture) (sym (add-one c.loop-i.i))
    (shows_more c.args.pick c.args.self.now.first.items c.args.self.now.calls.items c.loop-i.i c.index.result.now c.loop-i.picture c.in_ok-picture.picture lt c.index.ensures c.loop-i.invariant c.in_ok-picture.ensures)

pub returns-clause-image : goal.returns-clause-image
returns-clause-image c =
    let calls = c.args.self.now.calls.items in
    let same : take c.loop-i.i calls ≡ take c.args.call calls = elim c.if-call-recorded.branch [
      | then-call-recorded w ↦ let at : c.loop-i.i ≡ c.args.call = omega (arith, c.loop-i-test.false, c.loop-i.auto.i-end, w.last-is) in ap (λ (k : ℕ). take k calls) at
      | else-call-recorded w ↦ take_all c.loop-i.i calls (omega (arith, c.loop-i-test.false, w.last-is, c.len-recorded.ensures)) ∙ sym (take_all c.args.call calls (omega (arith, w.if-call-recorded.false, c.len-recorded.ensures)))
    ] in
    image_at c.args.pick c.args.self.now.first.items calls c.loop-i.i c.args.call c.loop-i.picture c.from_vec.result c.args.self.now.within c.loop-i.invariant same c.from_vec.ensures
