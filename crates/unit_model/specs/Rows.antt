-- Steps and feeds worked out by hand, byte by byte (ISO 14229-1; ISO 13400-2:2019): the unit 1001 with three bytes of FF at 1000, a
-- block number of 4 and the check routine 0202; the unit 1002 beside it; the tester 0E80 and the gateway 4000.
use Rattle.std.specs.Prelude.{◌≡◌, ℕ, true, false, List, [], ◌∷◌, ◌++◌, Some, None}
use Rattle.flash_base.specs.declared.unit.KeyRule.TheVariants.{Free}
use Rattle.unit_model.specs.Feed.{Feeds}
use Rattle.unit_model.specs.Running.{calm}
use Rattle.unit_model.specs.Step.{spoil_in}
use Rattle.unit_model.specs.Unit.{ControlUnit, obedient, heard_one}
use Rattle.unit_model.specs.Vehicle.{Gateway, Vehicle}
use Rattle.uds_codec.specs.Request.{request_of}

-- the answers to requests one after another, and the unit behind them
abbrev pub answers_of : ControlUnit → List (List ℕ) → List (List ℕ)
answers_of u [] = []
answers_of u (r ∷ rs) = (obedient u r).1 ∷ answers_of (obedient u r).0 rs

abbrev pub unit_behind : ControlUnit → List (List ℕ) → ControlUnit
unit_behind u [] = u
unit_behind u (r ∷ rs) = unit_behind (obedient u r).0 rs

abbrev pub a_unit : ℕ → ControlUnit
a_unit address = record {
  address = address;
  session = 1;
  unlocked = false;
  seed = 1 ∷ [];
  last_seed = None;
  memory = (4096, 255) ∷ (4097, 255) ∷ (4098, 255) ∷ [];
  transfer = None;
  checked = [];
  passed = false;
  heard = 0;
  dtc_off = false;
  messages_off = false;
  woken = 0;
  idents = [];
  key = Free;
  block = 4;
  check = 514;
  counts = calm;
}

abbrev pub u : ControlUnit
u = a_unit 4097

-- 44 00 00 10 00 00 00 00 03: three bytes from 1000
abbrev pub range : List ℕ
range = 68 ∷ 0 ∷ 0 ∷ 16 ∷ 0 ∷ 0 ∷ 0 ∷ 0 ∷ 3 ∷ []

-- the SHA-256 of 61 62 63 (FIPS 180-4, appendix)
abbrev pub digest : List ℕ
digest =
    186 ∷ 120 ∷ 22 ∷ 191 ∷ 143 ∷ 1 ∷ 207 ∷ 234 ∷ 65 ∷ 65 ∷ 64 ∷ 222 ∷ 93 ∷ 174 ∷ 34 ∷ 35 ∷ 176 ∷ 3 ∷ 97 ∷ 163
    ∷ 150 ∷ 23 ∷ 122 ∷ 156 ∷ 180 ∷ 16 ∷ 255 ∷ 97 ∷ 242 ∷ 0 ∷ 21 ∷ 173 ∷ []

abbrev pub erase : List ℕ
erase = 49 ∷ 1 ∷ 255 ∷ 0 ∷ range

-- 10 02, the erase, 34 00 with the range, 36 01 61 62 twice, 36 03 63, 36 02 63, 37
abbrev pub down : List (List ℕ)
down =
    (16 ∷ 2 ∷ []) ∷ erase ∷ (52 ∷ 0 ∷ range) ∷ (54 ∷ 1 ∷ 97 ∷ 98 ∷ []) ∷ (54 ∷ 1 ∷ 97 ∷ 98 ∷ [])
    ∷ (54 ∷ 3 ∷ 99 ∷ []) ∷ (54 ∷ 2 ∷ 99 ∷ []) ∷ (55 ∷ []) ∷ []

-- the check with the digest, 31 01 FF 01
abbrev pub checks : List (List ℕ)
checks = (49 ∷ 1 ∷ 2 ∷ 2 ∷ (range ++ digest)) ∷ (49 ∷ 1 ∷ 255 ∷ 1 ∷ []) ∷ []

-- 35 00 with the range, 36 01 twice, 36 01 61, 37, 36 02, 36 03, 37
abbrev pub up : List (List ℕ)
up = (53 ∷ 0 ∷ range) ∷ (54 ∷ 1 ∷ []) ∷ (54 ∷ 1 ∷ []) ∷ (54 ∷ 1 ∷ 97 ∷ []) ∷ (55 ∷ []) ∷ (54 ∷ 2 ∷ [])
    ∷ (54 ∷ 3 ∷ []) ∷ (55 ∷ []) ∷ []

-- 85 02 and 28 03 01 in session 01, 10 03, these again, 85 01, 10 01
abbrev pub hush : List (List ℕ)
hush =
    (133 ∷ 2 ∷ []) ∷ (40 ∷ 3 ∷ 1 ∷ []) ∷ (16 ∷ 3 ∷ []) ∷ (133 ∷ 2 ∷ []) ∷ (40 ∷ 3 ∷ 1 ∷ []) ∷ (133 ∷ 1 ∷ [])
    ∷ (16 ∷ 1 ∷ []) ∷ []

-- a transfer down at the counter FF, with two bytes left
abbrev pub at_ff : ControlUnit
at_ff = record u {
  session = 2;
  transfer = Some
      (record { up = false; at = 4097; rest = 2; counter = 255; last = Some 1 });
}

pub record AreStepsWorked : Type 0 where
  pub down_answers : answers_of u down
      ≡ (80 ∷ 2 ∷ 0 ∷ 50 ∷ 1 ∷ 244 ∷ []) ∷ (113 ∷ 1 ∷ 255 ∷ 0 ∷ 0 ∷ []) ∷ (116 ∷ 16 ∷ 4 ∷ []) ∷ (118 ∷ 1 ∷ [])
      ∷ (118 ∷ 1 ∷ []) ∷ (127 ∷ 54 ∷ 115 ∷ []) ∷ (118 ∷ 2 ∷ []) ∷ (119 ∷ []) ∷ []
  pub down_memory : (unit_behind u down).memory ≡ (4096, 97) ∷ (4097, 98) ∷ (4098, 99) ∷ []
  pub check_answers : answers_of (unit_behind u down) checks
      ≡ (113 ∷ 1 ∷ 2 ∷ 2 ∷ 0 ∷ []) ∷ (113 ∷ 1 ∷ 255 ∷ 1 ∷ 0 ∷ []) ∷ []
  pub checked : (unit_behind u (down ++ checks)).checked ≡ (4096, 3) ∷ []
  pub passed : (unit_behind u (down ++ checks)).passed ≡ true
  -- without a range that was checked the whole check finds nothing
  pub unchecked : answers_of (unit_behind u down)
      ((49 ∷ 1 ∷ 255 ∷ 1 ∷ []) ∷ []) ≡ (113 ∷ 1 ∷ 255 ∷ 1 ∷ 1 ∷ []) ∷ []
  -- an upload leaves what was checked; the last block comes again; data go down alone; behind the last byte there is no block
  pub up_answers : answers_of (unit_behind u (down ++ checks)) up
      ≡ (117 ∷ 16 ∷ 4 ∷ []) ∷ (118 ∷ 1 ∷ 97 ∷ 98 ∷ []) ∷ (118 ∷ 1 ∷ 97 ∷ 98 ∷ []) ∷ (127 ∷ 54 ∷ 19 ∷ [])
      ∷ (127 ∷ 55 ∷ 36 ∷ []) ∷ (118 ∷ 2 ∷ 99 ∷ []) ∷ (127 ∷ 54 ∷ 36 ∷ []) ∷ (119 ∷ []) ∷ []
  pub up_checked : (unit_behind u (down ++ (checks ++ up))).checked ≡ (4096, 3) ∷ []
  -- an erase takes it out again
  pub erased : (unit_behind u (down ++ (checks ++ (erase ∷ [])))).checked ≡ []
  pub erased_memory : (unit_behind u (down ++ (erase ∷ []))).memory
      ≡ (4096, 255) ∷ (4097, 255) ∷ (4098, 255) ∷ []
  -- the counter goes from FF to 00
  pub counter : answers_of at_ff ((54 ∷ 255 ∷ 97 ∷ []) ∷ (54 ∷ 0 ∷ 98 ∷ []) ∷ [])
      ≡ (118 ∷ 255 ∷ []) ∷ (118 ∷ 0 ∷ []) ∷ []
  -- outside programming 7F; outside the regions 31; a size of 0 has no form
  pub early : answers_of u (erase ∷ []) ≡ (127 ∷ 49 ∷ 127 ∷ []) ∷ []
  pub outside : answers_of u ((16 ∷ 2 ∷ []) ∷ (53 ∷ 0 ∷ 17 ∷ 0 ∷ 1 ∷ [])
      ∷ (49 ∷ 1 ∷ 255 ∷ 0 ∷ 17 ∷ 0 ∷ 0 ∷ []) ∷ [])
      ≡ (80 ∷ 2 ∷ 0 ∷ 50 ∷ 1 ∷ 244 ∷ []) ∷ (127 ∷ 53 ∷ 49 ∷ []) ∷ (127 ∷ 49 ∷ 19 ∷ []) ∷ []
  -- setting and messages: off in the extended session alone, and on again twice, once by request and once by the default session
  pub hushed : answers_of u hush
      ≡ (127 ∷ 133 ∷ 127 ∷ []) ∷ (127 ∷ 40 ∷ 127 ∷ []) ∷ (80 ∷ 3 ∷ 0 ∷ 50 ∷ 1 ∷ 244 ∷ []) ∷ (197 ∷ 2 ∷ [])
      ∷ (104 ∷ 3 ∷ []) ∷ (197 ∷ 1 ∷ []) ∷ (80 ∷ 1 ∷ 0 ∷ 50 ∷ 1 ∷ 244 ∷ []) ∷ []
  pub woken : (unit_behind u hush).woken ≡ 2
  pub on_again : (unit_behind u hush).messages_off ≡ false
  -- a departure may spoil the range of an erase in any state, and none of an option that is not in form
  pub spoils : spoil_in u (request_of erase) ≡ Some (record { at = 4096; size = 3; erase = true })
  pub spoils_none : spoil_in u (request_of (49 ∷ 1 ∷ 255 ∷ 0 ∷ 17 ∷ 0 ∷ 0 ∷ [])) ≡ None

-- ------ feeds
abbrev pub a_gateway : Gateway
a_gateway = record {
  entity = 16384;
  active = Some 3712;
  deaf = false;
  unfinished = [];
  ready = [];
  later = [];
  held = [];
  carried = [];
  tick = 7;
  alive = [];
  denied = λ code. 0;
  silent = 0;
}

abbrev pub v : Vehicle
v = record { gateway = a_gateway; units = a_unit 4097 ∷ a_unit 4098 ∷ [] }

-- 03 FC 80 01 00 00 00 06 0E 80 AA AA 10 03: the tester asks the unit AAAA for the extended session
abbrev pub asks : List ℕ → List ℕ
asks unit = 3 ∷ 252 ∷ 128 ∷ 1 ∷ 0 ∷ 0 ∷ 0 ∷ 6 ∷ 14 ∷ 128 ∷ (unit ++ (16 ∷ 3 ∷ []))

-- 03 FC 80 02 00 00 00 05 AA AA 0E 80 00
abbrev pub acks : List ℕ → List ℕ
acks unit = 3 ∷ 252 ∷ 128 ∷ 2 ∷ 0 ∷ 0 ∷ 0 ∷ 5 ∷ (unit ++ (14 ∷ 128 ∷ 0 ∷ []))

-- 03 FC 80 03 00 00 00 05 AA AA 0E 80 CC
abbrev pub nacks : List ℕ → ℕ → List ℕ
nacks unit code = 3 ∷ 252 ∷ 128 ∷ 3 ∷ 0 ∷ 0 ∷ 0 ∷ 5 ∷ (unit ++ (14 ∷ 128 ∷ code ∷ []))

-- 03 FC 80 01 00 00 00 0A AA AA 0E 80 50 03 00 32 01 F4
abbrev pub answers : List ℕ → List ℕ
answers unit = 3 ∷ 252 ∷ 128 ∷ 1 ∷ 0 ∷ 0 ∷ 0 ∷ 10 ∷ (unit ++ (14 ∷ 128 ∷ 80 ∷ 3 ∷ 0 ∷ 50 ∷ 1 ∷ 244 ∷ []))

abbrev pub asked : ℕ → ControlUnit
asked address = heard_one (record (a_unit address) { session = 3 })

-- the vehicle with these bytes due
abbrev pub with_due : List ℕ → Vehicle → Vehicle
with_due bytes w = record w { gateway = record w.gateway { ready = bytes } }

pub record AreFeedsWorked : Type 0 where
  -- a unit that is not there is code 03, and before an activation it is 02
  pub missing : Feeds (asks (16 ∷ 3 ∷ [])) v (with_due (nacks (16 ∷ 3 ∷ []) 3) v)
  pub early : Feeds (asks (16 ∷ 1 ∷ [])) (record v { gateway = record a_gateway { active = None } })
      (with_due (nacks (16 ∷ 1 ∷ []) 2) (record v { gateway = record a_gateway { active = None } }))
  -- 1001 holds its answer until 1002 hears the service 10, which comes in the same feed: both acknowledgements, the answer that was
  -- held, and the answer of 1002
  pub released : Feeds (asks (16 ∷ 1 ∷ []) ++ asks (16 ∷ 2 ∷ [])) v
      (with_due (acks (16 ∷ 1 ∷ []) ++
      (acks (16 ∷ 2 ∷ []) ++ (answers (16 ∷ 1 ∷ []) ++ answers (16 ∷ 2 ∷ []))))
      (record v { units = asked 4097 ∷ asked 4098 ∷ [] }))
