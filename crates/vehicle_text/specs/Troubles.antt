-- How the troubles of a unit and of a gateway are written.
use Rattle.std.specs.Prelude.{ℕ, List, [], ◌∷◌, codes, Option, Some}
use Rattle.serde_json.specs.Data.{Data, string}
use Rattle.unit_model.specs.declared.spec.Act.{Act}
use Rattle.unit_model.specs.declared.spec.Act.TheVariants.{Refuse, Odd, Fail, Mute, Delay, Busy, Pending}
use Rattle.unit_model.specs.declared.spec.TroubleSpec.{TroubleSpec}
use Rattle.unit_model.specs.declared.spec.Until.{Until}
use Rattle.unit_model.specs.declared.spec.Until.TheVariants.{Times, Heard}
use Rattle.gateway_sim.specs.declared.spec.GatewayTrouble.{GatewayTrouble}
use Rattle.gateway_sim.specs.declared.spec.GatewayTrouble.TheVariants.{Deny, Silent, Nack, Alive}
use Rattle.vehicle_text.specs.Forms.{bytes_data, four_data, two_data, whole_data}
use Rattle.vehicle_text.specs.Objects.{Fields, object_in}

abbrev pub words : List ℕ → Option Data
words text = Some (string text)

-- ------ of a unit
abbrev pub heard_fields : ℕ → ℕ → Fields
heard_fields unit sid = (codes "unit", Some (four_data unit)) ∷ (codes "sid", Some (two_data sid)) ∷ []

abbrev pub pair_fields : ℕ × ℕ → Fields
pair_fields p = heard_fields p.0 p.1

abbrev pub until_fields : Until → Fields
until_fields (Times times) = (codes "times", Some (whole_data times)) ∷ []
until_fields (Heard unit sid) = (codes "until", Some (object_in (heard_fields unit sid))) ∷ []

abbrev pub act_fields : Act → Fields
act_fields (Refuse nrc) = (codes "do", words (codes "refuse")) ∷ (codes "nrc", Some (two_data nrc)) ∷ []
act_fields (Odd bytes) = (codes "do", words (codes "odd")) ∷ (codes "hex", Some (bytes_data bytes)) ∷ []
act_fields (Fail status) = (codes "do", words (codes "fail")) ∷ (codes "status", Some (two_data status)) ∷ []
act_fields Mute = (codes "do", words (codes "mute")) ∷ []
act_fields (Delay ticks) = (codes "do", words (codes "delay")) ∷ (codes "ticks", Some (whole_data ticks)) ∷ []
act_fields (Busy times) = (codes "do", words (codes "busy")) ∷ (codes "times", Some (whole_data times)) ∷ []
act_fields (Pending ticks until) =
    (codes "do", words (codes "pending")) ∷ (codes "ticks", Some (whole_data ticks)) ∷ until_fields until

abbrev pub trouble_fields : TroubleSpec → Fields
trouble_fields t =
    (codes "sid", Some (two_data t.sid)) ∷ (codes "nth", Some (whole_data t.nth)) ∷ act_fields t.act

abbrev pub trouble_data : TroubleSpec → Data
trouble_data t = object_in (trouble_fields t)

-- ------ of a gateway
abbrev pub gate_fields : GatewayTrouble → Fields
gate_fields (Deny nth code) =
    (codes "nth", Some (whole_data nth)) ∷ (codes "do", words (codes "deny"))
    ∷ (codes "code", Some (two_data code)) ∷ []
gate_fields (Silent nth) = (codes "nth", Some (whole_data nth)) ∷ (codes "do", words (codes "silent")) ∷ []
gate_fields (Nack unit nth code) =
    (codes "unit", Some (four_data unit)) ∷ (codes "nth", Some (whole_data nth))
    ∷ (codes "do", words (codes "nack")) ∷ (codes "code", Some (two_data code)) ∷ []
gate_fields (Alive tick) = (codes "tick", Some (whole_data tick)) ∷ (codes "do", words (codes "alive")) ∷ []

abbrev pub gate_data : GatewayTrouble → Data
gate_data t = object_in (gate_fields t)
