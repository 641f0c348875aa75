-- What it takes to reach the end of a script.
use Rattle.std.specs.Prelude.{◌≡◌, ℕ, ◌+◌, ◌-◌, ◌≤◌, min, Bool, true, MatchBool, List, [], ◌∷◌, ◌++◌, length, take, drop, Option, Some, None}
use Rattle.sha2.specs.Sha256.{sha256}
use Rattle.flash_base.specs.Numbers.{big_endian, number_of}
use Rattle.flash_plan.specs.Plan.{IsAcceptedUnit}
use Rattle.flash_plan.specs.declared.unit.Segment.{Segment}
use Rattle.flash_plan.specs.declared.unit.UnitPlan.{UnitPlan}
use Rattle.flash_plan.specs.declared.unit.Wanted.{Wanted}
use Rattle.run_model.specs.Script.{Place, AtBegin, AtProgram, AtDone, bytes_at, has_value, place_after, past_mark, place_of, idents_from}
use Rattle.uds_codec.specs.Answer.{Verdict, Pending, Busy, Refusal, Accepted, BadStatus, Malformed, judge}
use Rattle.uds_codec.specs.Key.{key_of, level_of, all_zero}
use Rattle.uds_codec.specs.Request.{range_bytes}
use Rattle.unit_model.specs.Unit.{next_counter}

-- a request, and what stood behind the beginning of the positive answer to it
pub record Exchange : Type 0 where
  pub request : List ℕ
  pub said : List ℕ

abbrev pub with_good : Verdict → List ℕ → List Exchange → List Exchange
with_good Pending request more = more
with_good Busy request more = more
with_good (Refusal nrc) request more = more
with_good (Accepted rest) request more = record { request = request; said = rest } ∷ more
with_good (BadStatus status) request more = more
with_good Malformed request more = more

-- the requests that were answered positively, one after another, from a place on
abbrev pub answered : UnitPlan → (ℕ → Bool) → (ℕ → Bool) → Place → List (List ℕ) → List Exchange
answered u skipped marks place [] = []
answered u skipped marks place (a ∷ more) =
    with_good (judge (bytes_at u place) a) (bytes_at u place)
    (answered u skipped marks (past_mark skipped marks (place_after u skipped place a)) more)

-- The blocks of a transfer (ISO 14229-1, service 0x36): the request of each has as many bytes as the limit, that of the last one
-- as many as are left, and its counter is the one behind that of the block before it. Together they are these bytes.
abbrev pub AreBlocks : ℕ → ℕ → List ℕ → List Exchange → Type 0
AreBlocks limit counter bytes [] = bytes ≡ []
AreBlocks limit counter bytes (e ∷ es) =
    (1 ≤ length bytes) × (e.request ≡ 54 ∷ counter ∷ take (limit - 2) bytes)
    × AreBlocks limit (next_counter counter) (drop (limit - 2) bytes) es

abbrev pub range_at : UnitPlan → Segment → List ℕ
range_at u s = range_bytes u.width s.at (length s.body)

abbrev pub check_of : UnitPlan → Segment → List ℕ
check_of u s = 49 ∷ 1 ∷ (big_endian 2 u.check ++ (range_at u s ++ sha256 s.body))

-- Erase, download, blocks, exit, and the check with the digest of the bytes. The limit of the blocks is the number that the unit
-- answered to the download, or 65,535 if that is less.
pub record IsSegmentPart (u : UnitPlan) (s : Segment) (part : List Exchange) : Type 0 where
  pub erase : Exchange
  pub download : Exchange
  pub blocks : List Exchange
  pub exit : Exchange
  pub check : Exchange
  pub all : part ≡ erase ∷ download ∷ (blocks ++ (exit ∷ check ∷ []))
  pub erases : erase.request ≡ 49 ∷ 1 ∷ 255 ∷ 0 ∷ range_at u s
  pub downloads : download.request ≡ 52 ∷ 0 ∷ range_at u s
  pub sends : AreBlocks (min (number_of download.said) 65535) 1 s.body blocks
  pub exits : exit.request ≡ 55 ∷ []
  pub checks : check.request ≡ check_of u s

-- nothing for a segment that is left out
abbrev pub IsSegmentOrNone : UnitPlan → Bool → Segment → List Exchange → Type 0
IsSegmentOrNone u out s part = MatchBool out (part ≡ []) (IsSegmentPart u s part)

-- the check of all, and the reset
pub record IsLastPart (es : List Exchange) : Type 0 where
  pub whole : Exchange
  pub reset : Exchange
  pub all : es ≡ whole ∷ reset ∷ []
  pub checks : whole.request ≡ 49 ∷ 1 ∷ 255 ∷ 1 ∷ []
  pub resets : reset.request ≡ 17 ∷ 1 ∷ []

-- segment by segment, from number n on, and then the last part
abbrev pub AreSegmentParts : UnitPlan → (ℕ → Bool) → ℕ → List Segment → List Exchange → Type 0
AreSegmentParts u skipped n [] es = IsLastPart es
AreSegmentParts u skipped n (s ∷ ss) es =
    (part : List Exchange) × (more : List Exchange) × (es ≡ part ++ more)
    × IsSegmentOrNone u (skipped n) s part × AreSegmentParts u skipped (n + 1) ss more

-- the key of this seed was sent, and nothing else
pub record IsKeySent (u : UnitPlan) (level : ℕ) (seed : List ℕ) (es : List Exchange) : Type 0 where
  pub sent : Exchange
  pub all : es ≡ sent ∷ []
  pub sends : sent.request ≡ 39 ∷ (level + 1) ∷ key_of u.key seed

-- the seed was asked for, and its key sent unless each byte of it was zero
pub record IsUnlocked (u : UnitPlan) (level : ℕ) (es : List Exchange) : Type 0 where
  pub asked : Exchange
  pub more : List Exchange
  pub all : es ≡ asked ∷ more
  pub asks : asked.request ≡ 39 ∷ level ∷ []
  pub key : MatchBool (all_zero asked.said) (more ≡ []) (IsKeySent u level asked.said more)

-- nothing without a key rule
abbrev pub AreKeys : UnitPlan → Option ℕ → List Exchange → Type 0
AreKeys u None es = es ≡ []
AreKeys u (Some level) es = IsUnlocked u level es

pub record IsWholeScript (u : UnitPlan) (skipped : ℕ → Bool) (es : List Exchange) : Type 0 where
  pub opening : Exchange
  pub keys : List Exchange
  pub parts : List Exchange
  pub all : es ≡ opening ∷ (keys ++ parts)
  pub opens : opening.request ≡ 16 ∷ 2 ∷ []
  pub unlocks : AreKeys u (level_of u.key) keys
  pub segments : AreSegmentParts u skipped 0 u.segments parts

-- each identifier was asked for, and its value is an expected one
abbrev pub AreIdents : List Wanted → List Exchange → Type 0
AreIdents [] es = es ≡ []
AreIdents (w ∷ ws) es =
    (e : Exchange) × (more : List Exchange) × (es ≡ e ∷ more) × (e.request ≡ 34 ∷ big_endian 2 w.did)
    × (has_value w.values e.said ≡ true) × AreIdents ws more

-- An attempt behind Begun reaches its end only after each request of the whole script, but for the segments left out, was answered
-- positively, in order.
-- One before Begun reaches Begin only after each identifier was answered with an expected value, in order.
pub record EndsMeanAll : Type 0 where
  pub done : (u : UnitPlan) (skipped marks : ℕ → Bool) (answers : List (List ℕ)) → IsAcceptedUnit u
      → place_of u skipped marks AtProgram answers ≡ AtDone
      → IsWholeScript u skipped (answered u skipped marks AtProgram answers)
  pub begin : (u : UnitPlan) (skipped marks : ℕ → Bool) (answers : List (List ℕ))
      → place_of u skipped marks (idents_from u.idents) answers ≡ AtBegin
      → AreIdents u.idents (answered u skipped marks (idents_from u.idents) answers)
