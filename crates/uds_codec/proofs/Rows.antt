-- The definitions on known requests and answers.
use Rattle.std.proofs.Common.{◌≡◌, true, false, [], ◌∷◌, Some, None, refl}
use Rattle.flash_base.specs.declared.unit.KeyRule.TheVariants.{Xor}
use Rattle.uds_codec.specs.declared.request.Request.TheVariants.{Session, Seed, Key, ReadId, Routine, Download, Upload, Transfer, Pull, Exit, Reset, Setting, Messages}
use Rattle.uds_codec.specs.Answer.{judge, Pending, Busy, Refusal, Accepted, BadStatus, Malformed}
use Rattle.uds_codec.specs.Key.{key_of}
use Rattle.uds_codec.specs.Request.{spelled, request_of}

-- a whole programming of three bytes at 0x1000
to_programming : spelled (Session 2) ≡ 16 ∷ 2 ∷ []
to_programming = refl

erase : spelled (Routine 65280 (68 ∷ 0 ∷ 0 ∷ 16 ∷ 0 ∷ 0 ∷ 0 ∷ 0 ∷ 3 ∷ [])) ≡ 49 ∷ 1 ∷ 255 ∷ 0 ∷ 68 ∷ 0 ∷ 0 ∷ 16 ∷ 0 ∷ 0 ∷ 0 ∷ 0 ∷ 3 ∷ []
erase = refl

download : spelled (Download (record { size = 4; at = 4 }) 4096 3) ≡ 52 ∷ 0 ∷ 68 ∷ 0 ∷ 0 ∷ 16 ∷ 0 ∷ 0 ∷ 0 ∷ 0 ∷ 3 ∷ []
download = refl

block : spelled (Transfer 1 (97 ∷ 98 ∷ 99 ∷ [])) ≡ 54 ∷ 1 ∷ 97 ∷ 98 ∷ 99 ∷ []
block = refl

end : spelled Exit ≡ 55 ∷ []
end = refl

check : spelled (Routine 514 []) ≡ 49 ∷ 1 ∷ 2 ∷ 2 ∷ []
check = refl

dependencies : spelled (Routine 65281 []) ≡ 49 ∷ 1 ∷ 255 ∷ 1 ∷ []
dependencies = refl

reset : spelled Reset ≡ 17 ∷ 1 ∷ []
reset = refl

-- and read again
download_read : request_of (52 ∷ 0 ∷ 68 ∷ 0 ∷ 0 ∷ 16 ∷ 0 ∷ 0 ∷ 0 ∷ 0 ∷ 3 ∷ []) ≡ Some (Download (record { size = 4; at = 4 }) 4096 3)
download_read = refl

erase_read : request_of (49 ∷ 1 ∷ 255 ∷ 0 ∷ 68 ∷ 0 ∷ 0 ∷ 16 ∷ 0 ∷ 0 ∷ 0 ∷ 0 ∷ 3 ∷ []) ≡ Some (Routine 65280 (68 ∷ 0 ∷ 0 ∷ 16 ∷ 0 ∷ 0 ∷ 0 ∷ 0 ∷ 3 ∷ []))
erase_read = refl

-- widths 2 and 3
narrow : spelled (Download (record { size = 2; at = 3 }) 65536 16) ≡ 52 ∷ 0 ∷ 35 ∷ 1 ∷ 0 ∷ 0 ∷ 0 ∷ 16 ∷ []
narrow = refl

narrow_read : request_of (52 ∷ 0 ∷ 35 ∷ 1 ∷ 0 ∷ 0 ∷ 0 ∷ 16 ∷ []) ≡ Some (Download (record { size = 2; at = 3 }) 65536 16)
narrow_read = refl

-- a size of 3 bytes of 4, at an address of 5
wide : spelled (Download (record { size = 4; at = 5 }) 4294967296 3) ≡ 52 ∷ 0 ∷ 69 ∷ 1 ∷ 0 ∷ 0 ∷ 0 ∷ 0 ∷ 0 ∷ 0 ∷ 0 ∷ 3 ∷ []
wide = refl

wide_read : request_of (52 ∷ 0 ∷ 69 ∷ 1 ∷ 0 ∷ 0 ∷ 0 ∷ 0 ∷ 0 ∷ 0 ∷ 0 ∷ 3 ∷ []) ≡ Some (Download (record { size = 4; at = 5 }) 4294967296 3)
wide_read = refl

-- an upload, and a block that is asked for
upload : spelled (Upload (record { size = 2; at = 3 }) 65536 16) ≡ 53 ∷ 0 ∷ 35 ∷ 1 ∷ 0 ∷ 0 ∷ 0 ∷ 16 ∷ []
upload = refl

upload_read : request_of (53 ∷ 0 ∷ 35 ∷ 1 ∷ 0 ∷ 0 ∷ 0 ∷ 16 ∷ []) ≡ Some (Upload (record { size = 2; at = 3 }) 65536 16)
upload_read = refl

block_asked : request_of (54 ∷ 1 ∷ []) ≡ Some (Pull 1)
block_asked = refl

-- trouble codes and normal messages, off and on
codes_off : request_of (133 ∷ 2 ∷ []) ≡ Some (Setting true)
codes_off = refl

codes_on : spelled (Setting false) ≡ 133 ∷ 1 ∷ []
codes_on = refl

messages_off : request_of (40 ∷ 3 ∷ 1 ∷ []) ≡ Some (Messages true)
messages_off = refl

messages_on : spelled (Messages false) ≡ 40 ∷ 0 ∷ 1 ∷ []
messages_on = refl

cut_off : request_of (52 ∷ 0 ∷ 35 ∷ 1 ∷ 0 ∷ []) ≡ None
cut_off = refl

more : request_of (16 ∷ 2 ∷ 0 ∷ []) ≡ None
more = refl

no_reset : request_of (17 ∷ 2 ∷ []) ≡ None
no_reset = refl

-- keys
seed_asked : spelled (Seed 1) ≡ 39 ∷ 1 ∷ []
seed_asked = refl

key_sent : spelled (Key 1 (key_of (Xor 1 (255 ∷ [])) (18 ∷ 52 ∷ []))) ≡ 39 ∷ 2 ∷ 237 ∷ 203 ∷ []
key_sent = refl

identifier : spelled (ReadId 61845) ≡ 34 ∷ 241 ∷ 149 ∷ []
identifier = refl

-- answers
block_number : judge (52 ∷ 0 ∷ 68 ∷ []) (127 ∷ 52 ∷ 51 ∷ []) ≡ Refusal 51
block_number = refl

pending : judge (16 ∷ 2 ∷ []) (127 ∷ 16 ∷ 120 ∷ []) ≡ Pending
pending = refl

busy : judge (54 ∷ 1 ∷ 97 ∷ []) (127 ∷ 54 ∷ 33 ∷ []) ≡ Busy
busy = refl

accepted : judge (52 ∷ 0 ∷ 35 ∷ 1 ∷ 0 ∷ 0 ∷ 0 ∷ 16 ∷ []) (116 ∷ 32 ∷ 15 ∷ 255 ∷ []) ≡ Accepted (15 ∷ 255 ∷ [])
accepted = refl

too_small : judge (52 ∷ 0 ∷ 35 ∷ 1 ∷ 0 ∷ 0 ∷ 0 ∷ 16 ∷ []) (116 ∷ 32 ∷ 0 ∷ 2 ∷ []) ≡ Malformed
too_small = refl

not_equal : judge (49 ∷ 1 ∷ 2 ∷ 2 ∷ []) (113 ∷ 1 ∷ 2 ∷ 2 ∷ 1 ∷ []) ≡ BadStatus 1
not_equal = refl

seed_said : judge (39 ∷ 1 ∷ []) (103 ∷ 1 ∷ 18 ∷ 52 ∷ []) ≡ Accepted (18 ∷ 52 ∷ [])
seed_said = refl

-- a block number of an upload; a block; and the settings
upload_said : judge (53 ∷ 0 ∷ 35 ∷ 1 ∷ 0 ∷ 0 ∷ 0 ∷ 16 ∷ []) (117 ∷ 32 ∷ 15 ∷ 255 ∷ 7 ∷ []) ≡ Accepted (15 ∷ 255 ∷ [])
upload_said = refl

block_said : judge (54 ∷ 1 ∷ []) (118 ∷ 1 ∷ 97 ∷ 98 ∷ []) ≡ Accepted (97 ∷ 98 ∷ [])
block_said = refl

codes_said : judge (133 ∷ 2 ∷ []) (197 ∷ 2 ∷ []) ≡ Accepted []
codes_said = refl

codes_other : judge (133 ∷ 2 ∷ []) (197 ∷ 1 ∷ []) ≡ Malformed
codes_other = refl

messages_said : judge (40 ∷ 3 ∷ 1 ∷ []) (104 ∷ 3 ∷ []) ≡ Accepted []
messages_said = refl
