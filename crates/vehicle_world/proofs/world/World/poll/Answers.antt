use Rattle.std.proofs.Common.{◌≡◌, ℕ, List, [], length}
use Rattle.std.specs.Prelude.{Result, IfOk, OnOk, Ok, Err}
use Rattle.unit_model.specs.declared.reply.Got.{Got}
use Rattle.unit_model.specs.declared.reply.Got.TheVariants.{Quiet}
use Rattle.vehicle_world.specs.States.{State, vehicle_in}
use Rattle.vehicle_world.specs.Worlds.{PolledTo, state_of, ticks_on}
use Rattle.vehicle_world.proofs.Passing.{no_due, quiet_to}
use Rattle.vehicle_world.proofs.Shaped.{passed}
use Rattle.vehicle_world.proofs.world.World.poll.Goals as goal

quiet : {E : Type 0} (room : ℕ) (out : List ℕ) (r : Result Got E) (s new : State) → s.gate.gateway.ready ≡ [] → IfOk r (λ got. got ≡ Quiet) → OnOk r (new ≡ ticks_on s) → IfOk r (PolledTo room out (vehicle_in s) (vehicle_in new))
quiet room out (Ok got) s new none is ok = quiet_to room out got s new none is ok
quiet room out (Err e) s new none is ok = tt

pub returns-clause-ok : goal.returns-clause-ok
returns-clause-ok c =
    let s = state_of c.args.self.now in
    quiet (length c.args.out.now) c.pass.new.out c.pass.result s (state_of c.pass.new.self) (no_due s.gate.gateway.ready c.has_due.result c.has_due.ensures c.if-has_due.false) c.pass.ensures.is c.pass.ensures.ok

pub returns-clause-shapes : goal.returns-clause-shapes
returns-clause-shapes c = passed c.pass.result (state_of c.args.self.now) (state_of c.pass.new.self) c.pass.ensures.ok c.pass.ensures.err
