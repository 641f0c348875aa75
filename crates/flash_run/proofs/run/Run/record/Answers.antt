use Rattle.std.proofs.Common.{◌≡◌, ℕ, ◌+◌, ◌-◌, ◌<◌, ◌≤◌, ◌∷◌, drop, take, sym, ap, subst, ◌∙◌}
use Rattle.bay_core.specs.Core.{core_after}
use Rattle.bay_core.specs.declared.event.Event.{Event}
use Rattle.flash_run.proofs.Looping.{IsNoting, rest_more, note_next, noted_next, one_less}
use Rattle.flash_run.specs.Group.{recorded_as}
use Rattle.flash_run.specs.Run.{core_of_run, left_in, may_take, with_event}
use Rattle.flash_run.proofs.run.Run.record.Goals as goal

pub note-requires-clause-allowed : goal.note-requires-clause-allowed
note-requires-clause-allowed c =
    let lt : c.loop-i.i < c.args.count = c.loop-i-test.true in
    let more : drop c.loop-i.i (take c.args.count c.args.group.now) ≡ c.at.result.now ∷ drop (c.loop-i.i + 1) (take c.args.count c.args.group.now) = rest_more c.args.group.now c.args.count c.loop-i.i c.at.result.now c.at.ensures lt in
    let noting : IsNoting recorded_as c.args.self.now c.loop-i.self (take c.args.count c.args.group.now) (drop c.loop-i.i (take c.args.count c.args.group.now)) (c.args.count - (c.loop-i.i + 1) + 1) =
    subst (λ (k : ℕ). IsNoting recorded_as c.args.self.now c.loop-i.self (take c.args.count c.args.group.now) (drop c.loop-i.i (take c.args.count c.args.group.now)) k) (one_less c.loop-i.i c.args.count lt) c.loop-i.invariant in
    ap (λ (e : Event). may_take c.loop-i.self e) c.recorded_as.ensures ∙ (note_next recorded_as c.args.self.now c.loop-i.self (take c.args.count c.args.group.now) (drop c.loop-i.i (take c.args.count c.args.group.now)) (drop (c.loop-i.i + 1) (take c.args.count c.args.group.now)) (c.args.count - (c.loop-i.i + 1)) c.at.result.now more noting).0

pub note-requires-clause-room : goal.note-requires-clause-room
note-requires-clause-room c =
    let lt : c.loop-i.i < c.args.count = c.loop-i-test.true in
    let more : drop c.loop-i.i (take c.args.count c.args.group.now) ≡ c.at.result.now ∷ drop (c.loop-i.i + 1) (take c.args.count c.args.group.now) = rest_more c.args.group.now c.args.count c.loop-i.i c.at.result.now c.at.ensures lt in
    let noting : IsNoting recorded_as c.args.self.now c.loop-i.self (take c.args.count c.args.group.now) (drop c.loop-i.i (take c.args.count c.args.group.now)) (c.args.count - (c.loop-i.i + 1) + 1) =
    subst (λ (k : ℕ). IsNoting recorded_as c.args.self.now c.loop-i.self (take c.args.count c.args.group.now) (drop c.loop-i.i (take c.args.count c.args.group.now)) k) (one_less c.loop-i.i c.args.count lt) c.loop-i.invariant in
    subst (λ (e : Event). left_in c.loop-i.self.plan (core_after c.loop-i.self.rules c.loop-i.self.plan e (core_of_run c.loop-i.self)) + 1 ≤ c.loop-i.self.room) (sym c.recorded_as.ensures) (note_next recorded_as c.args.self.now c.loop-i.self (take c.args.count c.args.group.now) (drop c.loop-i.i (take c.args.count c.args.group.now)) (drop (c.loop-i.i + 1) (take c.args.count c.args.group.now)) (c.args.count - (c.loop-i.i + 1)) c.at.result.now more noting).1

pub loop-i-preserved : goal.loop-i-preserved
loop-i-preserved c =
    let lt : c.loop-i.i < c.args.count = c.loop-i-test.true in
    let more : drop c.loop-i.i (take c.args.count c.args.group.now) ≡ c.at.result.now ∷ drop (c.loop-i.i + 1) (take c.args.count c.args.group.now) = rest_more c.args.group.now c.args.count c.loop-i.i c.at.result.now c.at.ensures lt in
    let noting : IsNoting recorded_as c.args.self.now c.loop-i.self (take c.args.count c.args.group.now) (drop c.loop-i.i (take c.args.count c.args.group.now)) (c.args.count - (c.loop-i.i + 1) + 1) =
    subst (λ (k : ℕ). IsNoting recorded_as c.args.self.now c.loop-i.self (take c.args.count c.args.group.now) (drop c.loop-i.i (take c.args.count c.args.group.now)) k) (one_less c.loop-i.i c.args.count lt) c.loop-i.invariant in
    noted_next recorded_as c.args.self.now c.loop-i.self c.note.new.self (take c.args.count c.args.group.now) (drop c.loop-i.i (take c.args.count c.args.group.now)) (drop (c.loop-i.i + 1) (take c.args.count c.args.group.now)) (c.args.count - (c.loop-i.i + 1)) c.at.result.now more (c.note.ensures ∙ ap (λ (e : Event). with_event e c.loop-i.self) c.recorded_as.ensures) noting
