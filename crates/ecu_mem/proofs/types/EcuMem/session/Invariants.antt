use Rattle.std.proofs.Common.{◌≡◌, drop, bytes_eq}
use Rattle.std.specs.List.{position_from}
use Rattle.ecu_mem.specs.declared.types.Session.{Session}
use Rattle.ecu_mem.proofs.types.EcuMem.session.Given as goal

abbrev pub invariant-loop-i : goal.invariant-loop-i
invariant-loop-i l = position_from (λ (s : Session). bytes_eq s.id l.id) 0 l.session-items ≡ position_from (λ (s : Session). bytes_eq s.id l.id) l.i (drop l.i l.session-items)
