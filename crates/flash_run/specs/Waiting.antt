-- What a conversation waits for.
use Rattle.std.specs.Prelude.{ℕ, Option, Some, None, if◌then◌else◌}
use Rattle.flash_run.specs.Run.{RunState, core_of_run}
use Rattle.run_model.specs.Talk.{Talk}

-- where an answer is awaited, how many responses pending have come
abbrev pub waiting_of : Talk → Option ℕ
waiting_of t = if t.awaiting then Some t.pendings else None

abbrev pub waiting_in : RunState → ℕ → Option ℕ
waiting_in r u = waiting_of ((core_of_run r).slots u).talk
