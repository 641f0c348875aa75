-- Connections worked out by hand, byte by byte (ISO 13400-2:2019, section 9): tester 0E80, gateway 4000, a unit with the
-- address 1001.
use Rattle.std.specs.Prelude.{◌≡◌, ℕ, zero, suc, true, false, nat_le, List, [], ◌∷◌, ◌++◌, take, if◌then◌else◌, Some, None}
use Rattle.flash_plan.specs.declared.outcome.Outcome.TheVariants.{LinkLost, LinkRefused}
use Rattle.flash_plan.specs.declared.unit.LinkRules.{LinkRules}
use Rattle.flash_plan.specs.declared.unit.UnitPlan.{UnitPlan}
use Rattle.run_model.specs.Link as phase
use Rattle.run_model.specs.Ways.{Reply, Nacked}
use Rattle.bay_core.specs.declared.event.Heard.TheVariants.{Kept, Quiet, Piece}
use Rattle.bay_core.specs.declared.event.Tend.TheVariants.{Dialed, Asked, Said, Polled}
use Rattle.bay_core.specs.declared.event.Event.{Event}
use Rattle.bay_core.specs.declared.event.Event.TheVariants.{Sent, Collected, Tended}
use Rattle.link_law.specs.Happened.{count_after}
use Rattle.link_law.specs.Looked.{unit_messages}
use Rattle.link_law.specs.Follows.{phase_of, is_loss, is_owed, since_dial, taken}
use Rattle.link_law.specs.Stopped.{first_cause}

-- 03 FC 00 06 00 00 00 09 0E 80 40 00 10 00 00 00 00: the activation is accepted
abbrev pub accepting : List ℕ
accepting = 3 ∷ 252 ∷ 0 ∷ 6 ∷ 0 ∷ 0 ∷ 0 ∷ 9 ∷ 14 ∷ 128 ∷ 64 ∷ 0 ∷ 16 ∷ 0 ∷ 0 ∷ 0 ∷ 0 ∷ []

-- the same with the code 01: it is denied
abbrev pub denies : List ℕ
denies = 3 ∷ 252 ∷ 0 ∷ 6 ∷ 0 ∷ 0 ∷ 0 ∷ 9 ∷ 14 ∷ 128 ∷ 64 ∷ 0 ∷ 1 ∷ 0 ∷ 0 ∷ 0 ∷ 0 ∷ []

-- 03 FC 00 07 00 00 00 00: an alive check
abbrev pub checks : List ℕ
checks = 3 ∷ 252 ∷ 0 ∷ 7 ∷ 0 ∷ 0 ∷ 0 ∷ 0 ∷ []

-- 03 FC 80 01 00 00 00 07 10 01 0E 80 7F 36 78: the unit 1001 says response pending
abbrev pub pends : List ℕ
pends = 3 ∷ 252 ∷ 128 ∷ 1 ∷ 0 ∷ 0 ∷ 0 ∷ 7 ∷ 16 ∷ 1 ∷ 14 ∷ 128 ∷ 127 ∷ 54 ∷ 120 ∷ []

-- 03 FC 80 01 00 00 00 06 10 01 0E 80 76 01: and that the block came
abbrev pub answers : List ℕ
answers = 3 ∷ 252 ∷ 128 ∷ 1 ∷ 0 ∷ 0 ∷ 0 ∷ 6 ∷ 16 ∷ 1 ∷ 14 ∷ 128 ∷ 118 ∷ 1 ∷ []

-- 03 FC 80 03 00 00 00 05 10 01 0E 80 03: the gateway knows no such unit
abbrev pub misses : List ℕ
misses = 3 ∷ 252 ∷ 128 ∷ 3 ∷ 0 ∷ 0 ∷ 0 ∷ 5 ∷ 16 ∷ 1 ∷ 14 ∷ 128 ∷ 3 ∷ []

-- each byte alone
abbrev pub polled : List ℕ → List Event
polled [] = []
polled (b ∷ bs) = Tended (Polled (Piece (b ∷ []))) ∷ polled bs

abbrev pub asks : List Event
asks = Tended (Dialed false) ∷ Tended (Asked false) ∷ []

-- the first piece after the activation request
abbrev pub hears : List ℕ → List Event
hears bytes = asks ++ (Tended (Polled (Piece bytes)) ∷ [])

-- so many quiet polls
abbrev pub quiets : ℕ → List Event
quiets zero = []
quiets (suc n) = Tended (Polled Quiet) ∷ quiets n

-- it accepted, and these came to collecting steps of the first unit
abbrev pub collects : List Event → List Event
collects es = hears accepting ++ es

abbrev pub IsLostAtOnce : List ℕ → Type 0
IsLostAtOnce bytes = (phase_of (hears bytes) ≡ phase.Down) × (count_after is_loss [] (hears bytes) ≡ 1)

pub record AreWorked : Type 0 where
  pub begins : phase_of [] ≡ phase.Down
  pub dialed : phase_of (Tended (Dialed false) ∷ []) ≡ phase.Dialed
  pub undialed : phase_of (Tended (Dialed true) ∷ []) ≡ phase.Down
  pub again : phase_of (hears accepting ++ (Sent 0 0 true ∷ Tended (Dialed false) ∷ [])) ≡ phase.Dialed
  pub sixteen : phase_of (asks ++ polled (take 16 accepting)) ≡ phase.Asked
  pub seventeen : phase_of (asks ++ polled accepting) ≡ phase.Up
  pub denied : phase_of (hears denies) ≡ phase.Refused 1
  -- the first answer counts
  pub first : phase_of (hears (accepting ++ denies)) ≡ phase.Up
  -- the 1,000th quiet poll is the last
  pub patience : (n : ℕ) → phase_of (asks ++ quiets n) ≡ (if nat_le 1000 n then phase.Down else phase.Asked)
  -- nothing behind a denial is looked at, no bytes that are no frame either
  pub behind : phase_of (hears (denies ++ (3 ∷ 253 ∷ []))) ≡ phase.Refused 1
  pub unread : unit_messages 3712 4097 (denies ++ answers) ≡ []
  -- 03 FD, a message without data, a length of 65,601, and a refused header
  pub pattern : IsLostAtOnce (3 ∷ 253 ∷ [])
  pub short : IsLostAtOnce (3 ∷ 252 ∷ 128 ∷ 1 ∷ 0 ∷ 0 ∷ 0 ∷ 4 ∷ 16 ∷ 1 ∷ 14 ∷ 128 ∷ [])
  pub long : IsLostAtOnce (3 ∷ 252 ∷ 0 ∷ 5 ∷ 0 ∷ 1 ∷ 0 ∷ 65 ∷ [])
  pub refused : IsLostAtOnce (3 ∷ 252 ∷ 0 ∷ 0 ∷ 0 ∷ 0 ∷ 0 ∷ 1 ∷ 0 ∷ [])
  -- an alive check is owed an answer until one is said
  pub owed : is_owed (since_dial (collects (Collected 0 (Piece checks) ∷ []))) ≡ true
  pub said : is_owed (since_dial (collects (Collected 0 (Piece checks) ∷ Tended (Said false) ∷ []))) ≡ false
  pub twice : is_owed (since_dial (collects
      (Collected 0 (Piece checks) ∷ Tended (Said false) ∷ Collected 0 (Piece checks) ∷ []))) ≡ true
  -- messages for the tester 0E80 of the unit 1001, none for another tester or of another unit
  pub words : unit_messages 3712 4097 (accepting ++ (pends ++ (checks ++ (answers ++ misses)))) ≡ Reply
      (127 ∷ 54 ∷ 120 ∷ []) ∷ Reply (118 ∷ 1 ∷ []) ∷ Nacked 3 ∷ []
  pub tester : unit_messages 3713 4097 (accepting ++ pends) ≡ []
  pub unit : unit_messages 3712 4098 (accepting ++ pends) ≡ []
  -- two come at once: the first is taken with its piece, the second was kept
  pub taken_now : (u : UnitPlan) → u.address ≡ 4097
      → taken 3712 (u ∷ []) 4097 (since_dial (collects (Collected 0 (Piece (pends ++ answers)) ∷ []))) ≡ 1
  pub taken_later : (u : UnitPlan) → u.address ≡ 4097
      → taken 3712 (u ∷ []) 4097 (since_dial (collects
      (Collected 0 (Piece (pends ++ answers)) ∷ Collected 0 Kept ∷ []))) ≡ 2
  -- a loss stops a run that may make no connection anew; with one more it takes two; a denial stops it
  pub lost_once : (rules : LinkRules) → rules.relinks ≡ 0
      → first_cause rules [] (hears (3 ∷ 253 ∷ [])) ≡ Some (LinkLost 1)
  pub lost_again : (rules : LinkRules) → rules.relinks ≡ 1
      → first_cause rules [] (hears (3 ∷ 253 ∷ []) ++ hears accepting) ≡ None
  pub lost_twice : (rules : LinkRules) → rules.relinks ≡ 1
      → first_cause rules [] (hears (3 ∷ 253 ∷ []) ++ hears (3 ∷ 253 ∷ [])) ≡ Some (LinkLost 2)
  pub stopped : (rules : LinkRules) → rules.relinks ≡ 0
      → first_cause rules [] (hears denies) ≡ Some (LinkRefused 1)
