use Rattle.std.proofs.Common.{◌≡◌, ◌++◌, drop, map}
use Rattle.unit_model.specs.Feed.{released}
use Rattle.vehicle_world.specs.States.{answer_of, reply_of}
use Rattle.vehicle_world.proofs.keeping.release.Given as goal

abbrev pub invariant-loop-one : goal.invariant-loop-one
invariant-loop-one l = map reply_of l.initial.out.items ++ released l.hearing.tick l.hearing.unit l.hearing.sid (map answer_of l.held)
    ≡ map reply_of l.out.items ++ released l.hearing.tick l.hearing.unit l.hearing.sid (map answer_of (drop l.one-index l.held))
