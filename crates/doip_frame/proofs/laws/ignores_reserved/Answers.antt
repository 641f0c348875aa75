use Rattle.std.proofs.Common.{refl}
use Rattle.doip_frame.proofs.laws.ignores_reserved.Goals as goal

pub returns : goal.returns
returns c = record { activate = λ s1 s0 kind a b c d w x y z oem. refl; activated = λ t1 t0 e1 e0 code a b c d w x y z oem. refl }
