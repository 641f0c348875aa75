-- A request that is heard, as it was read.
use Rattle.std.specs.Prelude.{◌≡◌, ℕ, Bool, true, not, ◌==◌, List, [], ◌∷◌, if◌then◌else◌}
use Rattle.uds_codec.specs.Request.{request_of, sid_of}
use Rattle.unit_sim.specs.declared.outcome.Heard.{Heard}
use Rattle.unit_sim.specs.Asking.{asked_of}

pub record IsHeard (heard : Heard) : Type 0 where
  pub asked : asked_of heard.asked.now ≡ request_of heard.bytes.now
  pub sid : heard.sid ≡ sid_of heard.bytes.now

-- no negative answer of this service
abbrev pub is_no_refusal : ℕ → List ℕ → Bool
is_no_refusal sid (x ∷ s ∷ nrc ∷ []) = if x == 127 then not (s == sid) else true
is_no_refusal sid body = true
