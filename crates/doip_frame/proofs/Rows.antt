-- The definitions on known frames.
use Rattle.std.proofs.Common.{◌≡◌, [], ◌∷◌, Some, None, refl}
use Rattle.doip_frame.specs.declared.frame.Bad.TheVariants.{Pattern, Length, TooLarge}
use Rattle.doip_frame.specs.declared.frame.Frame.TheVariants.{Activated, AliveAsk}
use Rattle.doip_frame.specs.Frame.{Partial, Wrong, cut_frame, stream_of, activate_bytes, activated_bytes, alive_say_bytes}

-- an activation asked by 0x0E80
asked : activate_bytes 3712 ≡ 3 ∷ 252 ∷ 0 ∷ 5 ∷ 0 ∷ 0 ∷ 0 ∷ 7 ∷ 14 ∷ 128 ∷ 0 ∷ 0 ∷ 0 ∷ 0 ∷ 0 ∷ []
asked = refl

granted : activated_bytes 3712 16384 16 ≡ 3 ∷ 252 ∷ 0 ∷ 6 ∷ 0 ∷ 0 ∷ 0 ∷ 9 ∷ 14 ∷ 128 ∷ 64 ∷ 0 ∷ 16 ∷ 0 ∷ 0 ∷ 0 ∷ 0 ∷ []
granted = refl

granted_read : stream_of (3 ∷ 252 ∷ 0 ∷ 6 ∷ 0 ∷ 0 ∷ 0 ∷ 9 ∷ 14 ∷ 128 ∷ 64 ∷ 0 ∷ 16 ∷ 0 ∷ 0 ∷ 0 ∷ 0 ∷ []) ≡ record { frames = Activated 3712 16384 16 None ∷ []; rest = []; bad = None }
granted_read = refl

one_short : cut_frame (3 ∷ 252 ∷ 0 ∷ 6 ∷ 0 ∷ 0 ∷ 0 ∷ 9 ∷ 14 ∷ 128 ∷ 64 ∷ 0 ∷ 16 ∷ 0 ∷ 0 ∷ 0 ∷ []) ≡ Partial
one_short = refl

garbled : cut_frame (3 ∷ 253 ∷ []) ≡ Wrong Pattern
garbled = refl

one_and_garbled : stream_of (3 ∷ 252 ∷ 0 ∷ 7 ∷ 0 ∷ 0 ∷ 0 ∷ 0 ∷ 3 ∷ 253 ∷ []) ≡ record { frames = AliveAsk ∷ []; rest = 3 ∷ 253 ∷ []; bad = Some Pattern }
one_and_garbled = refl

-- 65,601 bytes, in a kind that has one
too_large : cut_frame (3 ∷ 252 ∷ 0 ∷ 0 ∷ 0 ∷ 1 ∷ 0 ∷ 65 ∷ []) ≡ Wrong (TooLarge 65601)
too_large = refl

no_such_length : cut_frame (3 ∷ 252 ∷ 0 ∷ 0 ∷ 0 ∷ 0 ∷ 0 ∷ 2 ∷ []) ≡ Wrong (Length 0)
no_such_length = refl

alive : alive_say_bytes 3712 ≡ 3 ∷ 252 ∷ 0 ∷ 8 ∷ 0 ∷ 0 ∷ 0 ∷ 2 ∷ 14 ∷ 128 ∷ []
alive = refl
