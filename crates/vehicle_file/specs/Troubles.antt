-- The troubles of a unit and of a gateway.
use Rattle.std.specs.Prelude.{ℕ, suc, ◌-◌, ◌||◌, nat_le, Bool, true, false, List, [], codes, bytes_eq, is_some, Option, Some, None, Ok, if◌then◌else◌}
use Rattle.serde_json.specs.Data.{Data, Items, no_items, item}
use Rattle.serde_json.specs.Find.{get, as_array, as_str}
use Rattle.unit_model.specs.Troubles.{MOST_TICKS, MOST_TIMES}
use Rattle.unit_model.specs.declared.spec.Act.{Act}
use Rattle.unit_model.specs.declared.spec.Act.TheVariants as act
use Rattle.unit_model.specs.declared.spec.TroubleSpec.{TroubleSpec}
use Rattle.unit_model.specs.declared.spec.Until.{Until}
use Rattle.unit_model.specs.declared.spec.Until.TheVariants.{Times, Heard}
use Rattle.gateway_sim.specs.Troubles.{MOST_TROUBLES, LAST_TICK}
use Rattle.gateway_sim.specs.declared.spec.GatewayTrouble.{GatewayTrouble}
use Rattle.gateway_sim.specs.declared.spec.GatewayTrouble.TheVariants as gate
use Rattle.vehicle_file.specs.declared.gateway.GateDeed.{GateDeed}
use Rattle.vehicle_file.specs.declared.gateway.GateDeed.TheVariants as at_gate
use Rattle.vehicle_file.specs.declared.trouble.Deed.{Deed}
use Rattle.vehicle_file.specs.declared.trouble.Deed.TheVariants.{Refuse, Odd, Fail, Mute, Delay, Busy, Pending}
use Rattle.vehicle_file.specs.Fields.{Reading, LAST_NTH, ◌>>=◌, ◌>=>◌, an_object, bytes_to, entries_from, four, list_of, list_with, needed, object_of, of_form, refused, refused_at, two, whole}

-- ------ of a unit
abbrev pub deed_in : List ℕ → Option Deed
deed_in t =
    if bytes_eq t (codes "refuse") then Some Refuse
    else if bytes_eq t (codes "odd") then Some Odd
    else if bytes_eq t (codes "fail") then Some Fail
    else if bytes_eq t (codes "mute") then Some Mute
    else if bytes_eq t (codes "delay") then Some Delay
    else if bytes_eq t (codes "busy") then Some Busy
    else if bytes_eq t (codes "pending") then Some Pending
    else None

abbrev pub deed : Data → Reading Deed
deed d = of_form (as_str d >=> deed_in)

abbrev pub is_until_member : List ℕ → Bool
is_until_member name = bytes_eq name (codes "unit") || bytes_eq name (codes "sid")

abbrev pub until_members : Data → Reading Until
until_members o =
    needed (codes "unit") four o >>= λ unit. needed (codes "sid") two o >>= λ sid. Ok (Heard unit sid)

abbrev pub until : Data → Reading Until
until d = object_of is_until_member until_members d

abbrev pub times : Data → Reading ℕ
times d = whole 1 MOST_TIMES d

abbrev pub has : List ℕ → Data → Bool
has name d = is_some (get name d)

-- `times`, or, where that is not there, `until`
abbrev pub waits : Data → Reading Until
waits d =
    if has (codes "times") d then (needed (codes "times") times d >>= λ n. Ok (Times n))
    else if has (codes "until") d then needed (codes "until") until d
    else refused_at (codes "times")

abbrev pub pending : Data → Reading Act
pending d = needed (codes "ticks") (whole 1 MOST_TICKS) d >>= λ ticks. waits d
    >>= λ until. Ok (act.Pending ticks until)

-- what is done, by the members that it has
abbrev pub act_of : Deed → Data → Reading Act
act_of Refuse d = needed (codes "nrc") two d >>= λ nrc. Ok (act.Refuse nrc)
act_of Odd d = needed (codes "hex") (bytes_to 4096) d >>= λ bytes. Ok (act.Odd bytes)
act_of Fail d = needed (codes "status") two d >>= λ status. Ok (act.Fail status)
act_of Mute d = Ok act.Mute
act_of Delay d = needed (codes "ticks") (whole 0 MOST_TICKS) d >>= λ ticks. Ok (act.Delay ticks)
act_of Busy d = needed (codes "times") times d >>= λ n. Ok (act.Busy n)
act_of Pending d = pending d

-- the member beside `sid`, `nth` and `do`; `times` of a pending is there
abbrev pub is_waiting : Bool → List ℕ → Bool
is_waiting true name = bytes_eq name (codes "ticks") || bytes_eq name (codes "times")
is_waiting false name = bytes_eq name (codes "ticks") || bytes_eq name (codes "until")

abbrev pub is_further : Deed → Bool → List ℕ → Bool
is_further Refuse counts name = bytes_eq name (codes "nrc")
is_further Odd counts name = bytes_eq name (codes "hex")
is_further Fail counts name = bytes_eq name (codes "status")
is_further Mute counts name = false
is_further Delay counts name = bytes_eq name (codes "ticks")
is_further Busy counts name = bytes_eq name (codes "times")
is_further Pending counts name = is_waiting counts name

abbrev pub is_trouble_member : Deed → Bool → List ℕ → Bool
is_trouble_member doing counts name = bytes_eq name (codes "sid") || bytes_eq name (codes "nth") || bytes_eq name (codes "do") || is_further doing counts name

abbrev pub act_in : Deed → Data → Reading Act
act_in doing d = object_of (is_trouble_member doing (has (codes "times") d)) (act_of doing) d

abbrev pub trouble_of : ℕ → ℕ → Deed → Data → Reading TroubleSpec
trouble_of sid nth doing d = act_in doing d >>= λ done. Ok (record { sid = sid; nth = nth; act = done })

abbrev pub trouble_members : Data → Reading TroubleSpec
trouble_members o =
    needed (codes "sid") two o >>= λ sid.
    needed (codes "nth") (whole 1 LAST_NTH) o >>= λ nth.
    needed (codes "do") deed o >>= λ doing.
    trouble_of sid nth doing o

abbrev pub trouble : Data → Reading TroubleSpec
trouble d = an_object trouble_members d

abbrev pub troubles : Data → Reading (List TroubleSpec)
troubles d = list_of trouble d

-- ------ of a gateway: its form is known by `do`
abbrev pub gate_deed_in : List ℕ → Option GateDeed
gate_deed_in t =
    if bytes_eq t (codes "deny") then Some at_gate.Deny
    else if bytes_eq t (codes "silent") then Some at_gate.Silent
    else if bytes_eq t (codes "nack") then Some at_gate.Nack
    else if bytes_eq t (codes "alive") then Some at_gate.Alive
    else None

abbrev pub gate_deed : Data → Reading GateDeed
gate_deed d = of_form (as_str d >=> gate_deed_in)

abbrev pub deny : Data → Reading GatewayTrouble
deny d = needed (codes "nth") (whole 1 LAST_NTH) d >>= λ nth. needed (codes "code") two d
    >>= λ code. Ok (gate.Deny nth code)

abbrev pub silent : Data → Reading GatewayTrouble
silent d = needed (codes "nth") (whole 1 LAST_NTH) d >>= λ nth. Ok (gate.Silent nth)

abbrev pub nack : Data → Reading GatewayTrouble
nack d =
    needed (codes "unit") four d >>= λ unit.
    needed (codes "nth") (whole 1 LAST_NTH) d >>= λ nth.
    needed (codes "code") two d >>= λ code.
    Ok (gate.Nack unit nth code)

abbrev pub alive : Data → Reading GatewayTrouble
alive d = needed (codes "tick") (whole 0 (LAST_TICK - 1)) d >>= λ tick. Ok (gate.Alive tick)

abbrev pub gate_members : GateDeed → Data → Reading GatewayTrouble
gate_members at_gate.Deny d = deny d
gate_members at_gate.Silent d = silent d
gate_members at_gate.Nack d = nack d
gate_members at_gate.Alive d = alive d

abbrev pub is_gate_member : GateDeed → List ℕ → Bool
is_gate_member at_gate.Deny name = bytes_eq name (codes "nth") || bytes_eq name (codes "do") || bytes_eq name (codes "code")
is_gate_member at_gate.Silent name = bytes_eq name (codes "nth") || bytes_eq name (codes "do")
is_gate_member at_gate.Nack name = bytes_eq name (codes "unit") || bytes_eq name (codes "nth") || bytes_eq name (codes "do") || bytes_eq name (codes "code")
is_gate_member at_gate.Alive name = bytes_eq name (codes "tick") || bytes_eq name (codes "do")

abbrev pub gate_trouble_members : Data → Reading GatewayTrouble
gate_trouble_members o = needed (codes "do") gate_deed o >>= λ doing. object_of (is_gate_member doing) (gate_members doing) o

abbrev pub gate_trouble : Data → Reading GatewayTrouble
gate_trouble d = an_object gate_trouble_members d

abbrev pub item_count : Items → ℕ
item_count no_items = 0
item_count (item d ds) = suc (item_count ds)

-- at most 1,000 of them
abbrev pub few_troubles : Items → Reading (List GatewayTrouble)
few_troubles ds = if nat_le (item_count ds) MOST_TROUBLES then entries_from gate_trouble [] 0 ds else refused

abbrev pub gate_troubles : Data → Reading (List GatewayTrouble)
gate_troubles d = list_with few_troubles (as_array d)
