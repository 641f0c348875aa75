use Rattle.shop_model.specs.History.{disk_now}
use Rattle.journal_steps.proofs.Laters.{disk_later, disk_then}
use Rattle.journal_steps.proofs.Orders.{made_ok, made_then}
use Rattle.journal_steps.proofs.Moments.{starts, goes_on}
use Rattle.std.proofs.Common.{◌+◌, ℕ, [], ◌∷◌, subst}
use Rattle.disk_model.specs.Disk.{Wrote}
use Rattle.shop_model.specs.History.{WriteAt, Sync}
use Rattle.journal_steps.specs.Later.{MadeCalls}
use Rattle.journal_model.specs.Records.{gate_at}
use Rattle.journal_steps.proofs.Calls.{missed_or_nothing, wrote_there}
use Rattle.flash_journal.specs.Layouts.{layout_form}
use Rattle.journal_steps.specs.Append.{AddsSome}
use Rattle.journal_steps.proofs.GroupSteps as steps
use Rattle.flash_journal.proofs.writing.append_run.Goals as goal

pub returns-in_err-write_at-clause-any_moment : goal.returns-in_err-write_at-clause-any_moment
returns-in_err-write_at-clause-any_moment g c = λ told P R at m can.
    let history = g.S.Shop.history in
    let h0 = history c.args.shop.now in
    let d0 = disk_now h0 in
    let k = c.args.slot in
    let F = layout_form c.args.layout.now in
    let Q = AddsSome P R at m in
    let go0 = starts Q h0 (steps.group_start P F R d0 k at m c.args.bodies.now c.args.gates.now can) in
    let h1 = history c.write_at.new.self in
    let images1 = steps.bodies_written P F R d0 k at m c.args.bodies.now c.args.gates.now can (disk_now h1) (missed_or_nothing _ _ _ _ _ (wrote_there _ _ _ _ _ c.write_at.result c.body_at-body_at.ensures.place (c.write_at.ensures.disk told))) in
    let go1 = goes_on Q h0 h0 h1 c.write_at.result go0 (g.met.S.Shop.bounded c.args.shop.now) c.write_at.ensures.call images1 in
    go1

pub returns-in_err-sync-clause-any_moment : goal.returns-in_err-sync-clause-any_moment
returns-in_err-sync-clause-any_moment g c = λ told P R at m can.
    let history = g.S.Shop.history in
    let h0 = history c.args.shop.now in
    let d0 = disk_now h0 in
    let k = c.args.slot in
    let F = layout_form c.args.layout.now in
    let Q = AddsSome P R at m in
    let go0 = starts Q h0 (steps.group_start P F R d0 k at m c.args.bodies.now c.args.gates.now can) in
    let h1 = history c.write_at.new.self in
    let images1 = steps.bodies_written P F R d0 k at m c.args.bodies.now c.args.gates.now can (disk_now h1) (missed_or_nothing _ _ _ _ _ (wrote_there _ _ _ _ _ c.write_at.result c.body_at-body_at.ensures.place (c.write_at.ensures.disk told))) in
    let go1 = goes_on Q h0 h0 h1 c.write_at.result go0 (g.met.S.Shop.bounded c.args.shop.now) c.write_at.ensures.call images1 in
    let h2 = history c.sync.new.self in
    goes_on Q h0 h1 h2 c.sync.result go1 (g.met.S.Shop.bounded c.write_at.new.self) c.sync.ensures.call (steps.adds_again P R at m (disk_now h1) (disk_now h2) (c.in_err-sync.ensures.disk told).err images1)

pub returns-in_err-write_at-2-clause-any_moment : goal.returns-in_err-write_at-2-clause-any_moment
returns-in_err-write_at-2-clause-any_moment g c = λ told P R at m can.
    let history = g.S.Shop.history in
    let h0 = history c.args.shop.now in
    let d0 = disk_now h0 in
    let k = c.args.slot in
    let F = layout_form c.args.layout.now in
    let Q = AddsSome P R at m in
    let go0 = starts Q h0 (steps.group_start P F R d0 k at m c.args.bodies.now c.args.gates.now can) in
    let h1 = history c.write_at.new.self in
    let images1 = steps.bodies_written P F R d0 k at m c.args.bodies.now c.args.gates.now can (disk_now h1) (missed_or_nothing _ _ _ _ _ (wrote_there _ _ _ _ _ c.write_at.result c.body_at-body_at.ensures.place (c.write_at.ensures.disk told))) in
    let go1 = goes_on Q h0 h0 h1 c.write_at.result go0 (g.met.S.Shop.bounded c.args.shop.now) c.write_at.ensures.call images1 in
    let h2 = history c.sync.new.self in
    let wrote = subst (λ (n : ℕ). Wrote n c.args.bodies.now (disk_now (history c.args.shop.now)) (disk_now (history c.write_at.new.self))) c.body_at-body_at.ensures.place (c.in_ok-write_at.ensures.disk told).ok in
    let synced = (c.in_ok-sync.ensures.disk told).ok in
    let go2 = goes_on Q h0 h1 h2 c.sync.result go1 (g.met.S.Shop.bounded c.write_at.new.self) c.sync.ensures.call (steps.bodies_synced P F R d0 k at m c.args.bodies.now c.args.gates.now can (disk_now h1) (disk_now h2) wrote synced) in
    let h3 = history c.write_at-2.new.self in
    let images3 = steps.gates_written P F R d0 k at m c.args.bodies.now c.args.gates.now can (disk_now h1) (disk_now h2) wrote synced (disk_now h3) (missed_or_nothing _ _ _ _ _ (wrote_there _ _ _ _ _ c.write_at-2.result c.gate_at-gate_at.ensures.place (c.write_at-2.ensures.disk told))) in
    let go3 = goes_on Q h0 h2 h3 c.write_at-2.result go2 (g.met.S.Shop.bounded c.sync.new.self) c.write_at-2.ensures.call images3 in
    go3

pub returns-in_err-sync-2-clause-any_moment : goal.returns-in_err-sync-2-clause-any_moment
returns-in_err-sync-2-clause-any_moment g c = λ told P R at m can.
    let history = g.S.Shop.history in
    let h0 = history c.args.shop.now in
    let d0 = disk_now h0 in
    let k = c.args.slot in
    let F = layout_form c.args.layout.now in
    let Q = AddsSome P R at m in
    let go0 = starts Q h0 (steps.group_start P F R d0 k at m c.args.bodies.now c.args.gates.now can) in
    let h1 = history c.write_at.new.self in
    let images1 = steps.bodies_written P F R d0 k at m c.args.bodies.now c.args.gates.now can (disk_now h1) (missed_or_nothing _ _ _ _ _ (wrote_there _ _ _ _ _ c.write_at.result c.body_at-body_at.ensures.place (c.write_at.ensures.disk told))) in
    let go1 = goes_on Q h0 h0 h1 c.write_at.result go0 (g.met.S.Shop.bounded c.args.shop.now) c.write_at.ensures.call images1 in
    let h2 = history c.sync.new.self in
    let wrote = subst (λ (n : ℕ). Wrote n c.args.bodies.now (disk_now (history c.args.shop.now)) (disk_now (history c.write_at.new.self))) c.body_at-body_at.ensures.place (c.in_ok-write_at.ensures.disk told).ok in
    let synced = (c.in_ok-sync.ensures.disk told).ok in
    let go2 = goes_on Q h0 h1 h2 c.sync.result go1 (g.met.S.Shop.bounded c.write_at.new.self) c.sync.ensures.call (steps.bodies_synced P F R d0 k at m c.args.bodies.now c.args.gates.now can (disk_now h1) (disk_now h2) wrote synced) in
    let h3 = history c.write_at-2.new.self in
    let images3 = steps.gates_written P F R d0 k at m c.args.bodies.now c.args.gates.now can (disk_now h1) (disk_now h2) wrote synced (disk_now h3) (missed_or_nothing _ _ _ _ _ (wrote_there _ _ _ _ _ c.write_at-2.result c.gate_at-gate_at.ensures.place (c.write_at-2.ensures.disk told))) in
    let go3 = goes_on Q h0 h2 h3 c.write_at-2.result go2 (g.met.S.Shop.bounded c.sync.new.self) c.write_at-2.ensures.call images3 in
    let h4 = history c.sync-2.new.self in
    goes_on Q h0 h3 h4 c.sync-2.result go3 (g.met.S.Shop.bounded c.write_at-2.new.self) c.sync-2.ensures.call (steps.adds_again P R at m (disk_now h3) (disk_now h4) (c.in_err-sync-2.ensures.disk told).err images3)

pub returns-clause-any_moment : goal.returns-clause-any_moment
returns-clause-any_moment g c = λ told P R at m can.
    let history = g.S.Shop.history in
    let h0 = history c.args.shop.now in
    let d0 = disk_now h0 in
    let k = c.args.slot in
    let F = layout_form c.args.layout.now in
    let Q = AddsSome P R at m in
    let go0 = starts Q h0 (steps.group_start P F R d0 k at m c.args.bodies.now c.args.gates.now can) in
    let h1 = history c.write_at.new.self in
    let images1 = steps.bodies_written P F R d0 k at m c.args.bodies.now c.args.gates.now can (disk_now h1) (missed_or_nothing _ _ _ _ _ (wrote_there _ _ _ _ _ c.write_at.result c.body_at-body_at.ensures.place (c.write_at.ensures.disk told))) in
    let go1 = goes_on Q h0 h0 h1 c.write_at.result go0 (g.met.S.Shop.bounded c.args.shop.now) c.write_at.ensures.call images1 in
    let h2 = history c.sync.new.self in
    let wrote = subst (λ (n : ℕ). Wrote n c.args.bodies.now (disk_now (history c.args.shop.now)) (disk_now (history c.write_at.new.self))) c.body_at-body_at.ensures.place (c.in_ok-write_at.ensures.disk told).ok in
    let synced = (c.in_ok-sync.ensures.disk told).ok in
    let go2 = goes_on Q h0 h1 h2 c.sync.result go1 (g.met.S.Shop.bounded c.write_at.new.self) c.sync.ensures.call (steps.bodies_synced P F R d0 k at m c.args.bodies.now c.args.gates.now can (disk_now h1) (disk_now h2) wrote synced) in
    let h3 = history c.write_at-2.new.self in
    let images3 = steps.gates_written P F R d0 k at m c.args.bodies.now c.args.gates.now can (disk_now h1) (disk_now h2) wrote synced (disk_now h3) (missed_or_nothing _ _ _ _ _ (wrote_there _ _ _ _ _ c.write_at-2.result c.gate_at-gate_at.ensures.place (c.write_at-2.ensures.disk told))) in
    let go3 = goes_on Q h0 h2 h3 c.write_at-2.result go2 (g.met.S.Shop.bounded c.sync.new.self) c.write_at-2.ensures.call images3 in
    let h4 = history c.sync-2.new.self in
    goes_on Q h0 h3 h4 c.sync-2.result go3 (g.met.S.Shop.bounded c.write_at-2.new.self) c.sync-2.ensures.call (steps.gates_synced P F R d0 k at m c.args.bodies.now c.args.gates.now can (disk_now h1) (disk_now h2) wrote synced (disk_now h3) (disk_now h4) (subst (λ (n : ℕ). Wrote n c.args.gates.now (disk_now (history c.sync.new.self)) (disk_now (history c.write_at-2.new.self))) c.gate_at-gate_at.ensures.place (c.in_ok-write_at-2.ensures.disk told).ok) (c.in_ok-sync-2.ensures.disk told).ok)

pub returns-clause-added : goal.returns-clause-added
returns-clause-added g c = λ told P R at m can.
    let history = g.S.Shop.history in
    let d0 = disk_now (history c.args.shop.now) in
    let k = c.args.slot in
    let F = layout_form c.args.layout.now in
    let h1 = history c.write_at.new.self in
    let h2 = history c.sync.new.self in
    let h3 = history c.write_at-2.new.self in
    let h4 = history c.sync-2.new.self in
    let wrote = subst (λ (n : ℕ). Wrote n c.args.bodies.now (disk_now (history c.args.shop.now)) (disk_now (history c.write_at.new.self))) c.body_at-body_at.ensures.place (c.in_ok-write_at.ensures.disk told).ok in
    let synced = (c.in_ok-sync.ensures.disk told).ok in
    steps.group_added P F R d0 k at m c.args.bodies.now c.args.gates.now can (disk_now h1) (disk_now h2) wrote synced (disk_now h3) (disk_now h4) (subst (λ (n : ℕ). Wrote n c.args.gates.now (disk_now (history c.sync.new.self)) (disk_now (history c.write_at-2.new.self))) c.gate_at-gate_at.ensures.place (c.in_ok-write_at-2.ensures.disk told).ok) (c.in_ok-sync-2.ensures.disk told).ok

pub returns-in_err-write_at-2-clause-later : goal.returns-in_err-write_at-2-clause-later
returns-in_err-write_at-2-clause-later g c = disk_then _ _ _ (disk_then _ _ _ (disk_later _ _ _ c.write_at.result (g.met.S.Shop.bounded c.args.shop.now) c.write_at.ensures.call) (disk_later _ _ _ c.sync.result (g.met.S.Shop.bounded c.write_at.new.self) c.sync.ensures.call)) (disk_later _ _ _ c.write_at-2.result (g.met.S.Shop.bounded c.sync.new.self) c.write_at-2.ensures.call)

pub returns-in_err-sync-2-clause-later : goal.returns-in_err-sync-2-clause-later
returns-in_err-sync-2-clause-later g c = disk_then _ _ _ (disk_then _ _ _ (disk_then _ _ _ (disk_later _ _ _ c.write_at.result (g.met.S.Shop.bounded c.args.shop.now) c.write_at.ensures.call) (disk_later _ _ _ c.sync.result (g.met.S.Shop.bounded c.write_at.new.self) c.sync.ensures.call)) (disk_later _ _ _ c.write_at-2.result (g.met.S.Shop.bounded c.sync.new.self) c.write_at-2.ensures.call)) (disk_later _ _ _ c.sync-2.result (g.met.S.Shop.bounded c.write_at-2.new.self) c.sync-2.ensures.call)

pub returns-clause-later : goal.returns-clause-later
returns-clause-later g c = disk_then _ _ _ (disk_then _ _ _ (disk_then _ _ _ (disk_later _ _ _ c.write_at.result (g.met.S.Shop.bounded c.args.shop.now) c.write_at.ensures.call) (disk_later _ _ _ c.sync.result (g.met.S.Shop.bounded c.write_at.new.self) c.sync.ensures.call)) (disk_later _ _ _ c.write_at-2.result (g.met.S.Shop.bounded c.sync.new.self) c.write_at-2.ensures.call)) (disk_later _ _ _ c.sync-2.result (g.met.S.Shop.bounded c.write_at-2.new.self) c.sync-2.ensures.call)

pub returns-clause-calls : goal.returns-clause-calls
returns-clause-calls g c =
    let history = g.S.Shop.history in
    let h0 = history c.args.shop.now in
    let h1 = history c.write_at.new.self in
    let h2 = history c.sync.new.self in
    let h3 = history c.write_at-2.new.self in
    let h4 = history c.sync-2.new.self in
    let first = made_ok h0 h1 c.write_at.result _ (c.in_ok-write_at.was) (g.met.S.Shop.bounded c.args.shop.now) c.write_at.ensures.call in
    let second = made_ok h1 h2 c.sync.result _ (c.in_ok-sync.was) (g.met.S.Shop.bounded c.write_at.new.self) c.sync.ensures.call in
    let third = made_ok h2 h3 c.write_at-2.result _ (c.in_ok-write_at-2.was) (g.met.S.Shop.bounded c.sync.new.self) c.write_at-2.ensures.call in
    let fourth = made_ok h3 h4 c.sync-2.result _ (c.in_ok-sync-2.was) (g.met.S.Shop.bounded c.write_at-2.new.self) c.sync-2.ensures.call in
    let k = c.args.slot in
    let F = layout_form c.args.layout.now in
    let bodies = c.args.bodies.now in
    let gates = c.args.gates.now in
    let made : MadeCalls h0 h4 (WriteAt c.body_at-body_at.result bodies ∷ Sync ∷ WriteAt c.gate_at-gate_at.result gates ∷ Sync ∷ []) = made_then h0 h3 h4 _ _ (made_then h0 h2 h3 _ _ (made_then h0 h1 h2 _ _ first second c.sync.ensures.call.passes.calls_past) third c.write_at-2.ensures.call.passes.calls_past) fourth c.sync-2.ensures.call.passes.calls_past in
    subst (λ (n : ℕ). MadeCalls h0 h4 (WriteAt n bodies ∷ Sync ∷ WriteAt (gate_at F k) gates ∷ Sync ∷ [])) c.body_at-body_at.ensures.place
    (subst (λ (n : ℕ). MadeCalls h0 h4 (WriteAt c.body_at-body_at.result bodies ∷ Sync ∷ WriteAt n gates ∷ Sync ∷ [])) c.gate_at-gate_at.ensures.place made)
