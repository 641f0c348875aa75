-- The troubles that a unit may be made with.
use Rattle.std.specs.Prelude.{ℕ, Bool, true, ◌&&◌, nat_le, List, [], ◌∷◌, length}
use Rattle.unit_model.specs.declared.spec.Act.{Act}
use Rattle.unit_model.specs.declared.spec.Act.TheVariants.{Refuse, Odd, Fail, Mute, Delay, Busy, Pending}
use Rattle.unit_model.specs.declared.spec.Until.{Until}
use Rattle.unit_model.specs.declared.spec.Until.TheVariants.{Times, Heard}
use Rattle.unit_model.specs.declared.spec.TroubleSpec.{TroubleSpec}
use Rattle.unit_model.specs.Rules.{is_size}

abbrev pub MOST_TICKS : ℕ
MOST_TICKS = 1000000

abbrev pub MOST_TIMES : ℕ
MOST_TIMES = 1000

abbrev pub is_until : Until → Bool
is_until (Times times) = is_size MOST_TIMES times
is_until (Heard unit sid) = true

abbrev pub is_act : Act → Bool
is_act (Refuse nrc) = true
is_act (Odd bytes) = is_size 4096 (length bytes)
is_act (Fail status) = true
is_act Mute = true
is_act (Delay ticks) = nat_le ticks MOST_TICKS
is_act (Busy times) = is_size MOST_TIMES times
is_act (Pending ticks until) = is_size MOST_TICKS ticks && is_until until

abbrev pub is_trouble : TroubleSpec → Bool
is_trouble t = nat_le 1 t.nth && is_act t.act

abbrev pub all_troubles : List TroubleSpec → Bool
all_troubles [] = true
all_troubles (t ∷ ts) = is_trouble t && all_troubles ts
