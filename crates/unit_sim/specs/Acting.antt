-- Which trouble of a list acts on a request, and which remain behind it.
use Rattle.std.specs.Prelude.{ℕ, ◌-◌, Bool, ◌&&◌, ◌==◌, nat_lt, List, [], ◌∷◌, map, filter, Option, None, Some, if◌then◌else◌}
use Rattle.unit_model.specs.declared.spec.Act.{Act}
use Rattle.unit_model.specs.declared.spec.Act.TheVariants.{Refuse, Odd, Fail, Mute, Delay, Busy, Pending}
use Rattle.unit_model.specs.declared.spec.TroubleSpec.{TroubleSpec}

-- the next request of its service is the one that it stands for
abbrev pub is_next : ℕ → TroubleSpec → Bool
is_next sid t = t.sid == sid && t.nth == 1

-- the first of the list that stands for a request with this service byte
abbrev pub acting : ℕ → List TroubleSpec → Option Act
acting sid [] = None
acting sid (t ∷ ts) = if is_next sid t then Some t.act else acting sid ts

-- one that is over stands for no request more
abbrev pub over : TroubleSpec → TroubleSpec
over t = record t { nth = 0 }

-- behind a request that it stood for, whether it acted or another of the list did: of several busy answers the rest begins with
-- the next request
abbrev pub behind_turn : TroubleSpec → Act → TroubleSpec
behind_turn t (Busy times) = if nat_lt 1 times then record t { act = Busy (times - 1) } else over t
behind_turn t (Refuse nrc) = over t
behind_turn t (Odd bytes) = over t
behind_turn t (Fail status) = over t
behind_turn t Mute = over t
behind_turn t (Delay ticks) = over t
behind_turn t (Pending ticks until) = over t

-- behind a request with this service byte; one that still waits has its number lowered
abbrev pub lowered : ℕ → TroubleSpec → TroubleSpec
lowered sid t =
    if t.sid == sid then (if nat_lt 1 t.nth then record t { nth = t.nth - 1 } else behind_turn t t.act) else t

abbrev pub remains : TroubleSpec → Bool
remains t = nat_lt 0 t.nth

-- the list behind a request with this service byte: each counts it
abbrev pub counted : ℕ → List TroubleSpec → List TroubleSpec
counted sid ts = filter remains (map (lowered sid) ts)
