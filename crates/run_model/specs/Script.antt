-- The script of a unit: the request at each place, and the place after each answer and each mark. Segments go by their numbers
-- in the task, from 0.
use Rattle.std.specs.Prelude.{ℕ, ◌-◌, min, Bool, true, false, ◌||◌, List, [], ◌∷◌, ◌++◌, length, take, drop, Option, Some, None, if◌then◌else◌}
use Rattle.sha2.specs.Sha256.{sha256}
use Rattle.flash_base.specs.Lists.{same_bytes}
use Rattle.flash_base.specs.Numbers.{number_of}
use Rattle.flash_base.specs.declared.unit.KeyRule.{KeyRule}
use Rattle.flash_base.specs.declared.unit.KeyRule.TheVariants.{Free, Xor, Digest}
use Rattle.flash_plan.specs.declared.outcome.Outcome.{Outcome}
use Rattle.flash_plan.specs.declared.outcome.Outcome.TheVariants.{IdentMismatch, Refused, BadAnswer, CheckFailed}
use Rattle.flash_plan.specs.declared.unit.Segment.{Segment}
use Rattle.flash_plan.specs.declared.unit.UnitPlan.{UnitPlan}
use Rattle.flash_plan.specs.declared.unit.Wanted.{Wanted}
use Rattle.uds_codec.specs.declared.request.Request.{Request}
use Rattle.uds_codec.specs.declared.request.Request.TheVariants.{Session, Reset, ReadId, Seed, Key, Routine, Download, Transfer, Exit}
use Rattle.uds_codec.specs.Request.{spelled, range_bytes, sid_of}
use Rattle.uds_codec.specs.Answer.{Verdict, Pending, Busy, Refusal, Accepted, BadStatus, Malformed, judge}
use Rattle.uds_codec.specs.Key.{key_of, all_zero}
use Rattle.unit_model.specs.Unit.{next_counter}

-- the segments before the one in hand, which were finished or left out; that one; and those behind it
pub record Cursor : Type 0 where
  pub done : List Segment
  pub now : Segment
  pub left : List Segment

-- the bytes of the segment that were accepted, and the rest of them; a block has at most limit - 2 bytes
pub record Blocks : Type 0 where
  pub sent : List ℕ
  pub rest : List ℕ
  pub counter : ℕ
  pub limit : ℕ

-- where a unit's conversation stands
pub data Place : Type 0 where
  AtIdent : Wanted → List Wanted → Place
  AtBegin : Place
  AtProgram : Place
  AtSeed : ℕ → Place
  AtKey : ℕ → List ℕ → Place
  AtErase : Cursor → Place
  AtDownload : Cursor → Place
  AtBlock : Cursor → Blocks → Place
  AtExit : Cursor → Place
  AtCheck : Cursor → Place
  AtMark : Cursor → Place
  AtFinish : Place
  AtReset : Place
  AtDone : Place
  AtEnd : Outcome → Place

abbrev pub idents_from : List Wanted → Place
idents_from [] = AtBegin
idents_from (w ∷ ws) = AtIdent w ws

-- the first segment that is not left out; behind the last one the whole is checked
abbrev pub segments_from : (ℕ → Bool) → List Segment → List Segment → Place
segments_from skipped done [] = AtFinish
segments_from skipped done (s ∷ ss) =
    if skipped (length done) then segments_from skipped (done ++ (s ∷ [])) ss
    else AtErase (record { done = done; now = s; left = ss })

-- the first place of an attempt
abbrev pub start_place : UnitPlan → Bool → Place
start_place u begun = if begun then AtProgram else idents_from u.idents

abbrev pub after_program : UnitPlan → (ℕ → Bool) → KeyRule → Place
after_program u skipped Free = segments_from skipped [] u.segments
after_program u skipped (Xor level mask) = AtSeed level
after_program u skipped (Digest level size secret) = AtSeed level

abbrev pub block_of : Blocks → List ℕ
block_of b = take (b.limit - 2) b.rest

abbrev pub range_record : UnitPlan → Segment → List ℕ
range_record u s = range_bytes u.width s.at (length s.body)

-- the request at a place
abbrev pub request_at : UnitPlan → Place → Option Request
request_at u (AtIdent w ws) = Some (ReadId w.did)
request_at u AtBegin = None
request_at u AtProgram = Some (Session 2)
request_at u (AtSeed level) = Some (Seed level)
request_at u (AtKey level seed) = Some (Key level (key_of u.key seed))
request_at u (AtErase c) = Some (Routine 65280 (range_record u c.now))
request_at u (AtDownload c) = Some (Download u.width c.now.at (length c.now.body))
request_at u (AtBlock c b) = Some (Transfer b.counter (block_of b))
request_at u (AtExit c) = Some Exit
request_at u (AtCheck c) = Some (Routine u.check (range_record u c.now ++ sha256 c.now.body))
request_at u (AtMark c) = None
request_at u AtFinish = Some (Routine 65281 [])
request_at u AtReset = Some Reset
request_at u AtDone = None
request_at u (AtEnd outcome) = None

abbrev pub spelled_in : Option Request → List ℕ
spelled_in None = []
spelled_in (Some r) = spelled r

abbrev pub bytes_at : UnitPlan → Place → List ℕ
bytes_at u place = spelled_in (request_at u place)

abbrev pub has_value : List (List ℕ) → List ℕ → Bool
has_value [] value = false
has_value (v ∷ vs) value = same_bytes v value || has_value vs value

abbrev pub is_empty : List ℕ → Bool
is_empty [] = true
is_empty (x ∷ xs) = false

abbrev pub more_blocks : Cursor → Blocks → Place
more_blocks c b = if is_empty b.rest then AtExit c else AtBlock c b

abbrev pub after_block : Blocks → Blocks
after_block b = record {
  sent = b.sent ++ block_of b;
  rest = drop (b.limit - 2) b.rest;
  counter = next_counter b.counter;
  limit = b.limit;
}

-- the place after a positive answer; rest is what stands behind its beginning
abbrev pub place_next : UnitPlan → (ℕ → Bool) → Place → List ℕ → Place
place_next u skipped (AtIdent w ws) rest =
    if has_value w.values rest then idents_from ws else AtEnd (IdentMismatch w.did)
place_next u skipped AtBegin rest = AtBegin
place_next u skipped AtProgram rest = after_program u skipped u.key
place_next u skipped (AtSeed level) rest =
    if all_zero rest then segments_from skipped [] u.segments else AtKey level rest
place_next u skipped (AtKey level seed) rest = segments_from skipped [] u.segments
place_next u skipped (AtErase c) rest = AtDownload c
place_next u skipped (AtDownload c) rest =
    more_blocks c (record { sent = []; rest = c.now.body; counter = 1; limit = min (number_of rest) 65535 })
place_next u skipped (AtBlock c b) rest = more_blocks c (after_block b)
place_next u skipped (AtExit c) rest = AtCheck c
place_next u skipped (AtCheck c) rest = AtMark c
place_next u skipped (AtMark c) rest = AtMark c
place_next u skipped AtFinish rest = AtReset
place_next u skipped AtReset rest = AtDone
place_next u skipped AtDone rest = AtDone
place_next u skipped (AtEnd outcome) rest = AtEnd outcome

-- the place after the mark of the segment in hand
abbrev pub place_marked : (ℕ → Bool) → Place → Place
place_marked skipped (AtMark c) = segments_from skipped (c.done ++ (c.now ∷ [])) c.left
place_marked skipped place = place

-- the routine that is started at a place, and the number of its segment; FF01 has the number of segments
abbrev pub routine_at : UnitPlan → Place → ℕ × ℕ
routine_at u (AtErase c) = (65280, length c.done)
routine_at u (AtCheck c) = (u.check, length c.done)
routine_at u place = (65281, length u.segments)

-- the place after an answer; a response pending or a busy answer changes none
abbrev pub place_judged : UnitPlan → (ℕ → Bool) → Place → Verdict → Place
place_judged u skipped place Pending = place
place_judged u skipped place Busy = place
place_judged u skipped place (Refusal nrc) = AtEnd (Refused (sid_of (bytes_at u place)) nrc)
place_judged u skipped place (Accepted rest) = place_next u skipped place rest
place_judged u skipped place (BadStatus status) =
    AtEnd (CheckFailed (routine_at u place).0 (routine_at u place).1 status)
place_judged u skipped place Malformed = AtEnd (BadAnswer (sid_of (bytes_at u place)))

abbrev pub place_after : UnitPlan → (ℕ → Bool) → Place → List ℕ → Place
place_after u skipped place body = place_judged u skipped place (judge (bytes_at u place) body)

-- past a mark that is recorded now
abbrev pub past_mark : (ℕ → Bool) → (ℕ → Bool) → Place → Place
past_mark skipped marks (AtMark c) =
    if marks (length c.done) then place_marked skipped (AtMark c) else AtMark c
past_mark skipped marks place = place

abbrev pub place_of : UnitPlan → (ℕ → Bool) → (ℕ → Bool) → Place → List (List ℕ) → Place
place_of u skipped marks place [] = place
place_of u skipped marks place (a ∷ more) =
    place_of u skipped marks (past_mark skipped marks (place_after u skipped place a)) more

-- what a unit does next
pub data Ask : Type 0 where
  Begin : Ask
  Mark : ℕ → Ask
  Send : List ℕ → Ask
  Done : Ask
  Over : Outcome → Ask

abbrev pub ask_at : UnitPlan → Place → Ask
ask_at u AtBegin = Begin
ask_at u (AtMark c) = Mark (length c.done)
ask_at u AtDone = Done
ask_at u (AtEnd outcome) = Over outcome
ask_at u place = Send (bytes_at u place)

-- The script: what comes next, by whether Begun is recorded, by the segments recorded marked when the attempt began, which are
-- left out, by those recorded marked now, and by the final answers of this attempt.
abbrev pub script : UnitPlan → Bool → (ℕ → Bool) → (ℕ → Bool) → List (List ℕ) → Ask
script u begun skipped marks answers = ask_at u (place_of u skipped marks (start_place u begun) answers)
