-- A conversation with the marks below 256 goes as one with all of them: a unit has at most 256 segments.
use Rattle.std.proofs.Common.{◌≡◌, inl, inr, ℕ, ◌+◌, ◌<◌, ◌≤◌, true, false, List, [], ◌∷◌, ◌++◌, length, Some, None, refl, sym, ◌∙◌, ap, subst, arith, length-append}
use Rattle.std.specs.Prelude.{Bool, Option, ◌&&◌, ◌||◌, ◌==◌, nat_lt, nat_le, if◌then◌else◌}
use Rattle.std.proofs.lemmas.Bool.{cases_Bool, cases_lt, false≢true, lt-ltb, le-ltb, ne_eqb, eq-eqb, eqb-true}
use Rattle.std.proofs.Math.Bool.{and-false}
use Rattle.flash_base.specs.declared.unit.KeyRule.{KeyRule}
use Rattle.flash_base.specs.declared.unit.KeyRule.TheVariants.{Free, Xor, Digest}
use Rattle.barrier_board.specs.Board.{has_entry}
use Rattle.flash_plan.specs.Outcomes.{same_entry}
use Rattle.flash_plan.specs.declared.outcome.Entry.{Entry}
use Rattle.flash_plan.specs.declared.outcome.Entry.TheVariants as entry
use Rattle.flash_plan.specs.declared.unit.Segment.{Segment}
use Rattle.flash_plan.specs.declared.unit.UnitPlan.{UnitPlan}
use Rattle.flash_plan.specs.Plan.{IsAcceptedUnit}
use Rattle.run_model.specs.Entries.{with_mark, marks_of}
use Rattle.bay_core.specs.Legal.{is_mark}
use Rattle.run_model.specs.Places.{IsPlace, needs_request}
use Rattle.run_model.specs.Script.{Place, AtIdent, AtBegin, AtProgram, AtSeed, AtKey, AtErase, AtDownload, AtBlock, AtExit, AtCheck, AtMark, AtFinish, AtReset, AtDone, AtEnd, segments_from, after_program, place_next, place_marked, place_judged, bytes_at, ask_at}
use Rattle.run_model.specs.Talk.{Talk, end_talk, sid_at, keeps_on_loss, talk_start, talk_lost, talk_marked, talk_judged, talk_final, talk_hears, talk_takes, talk_quiet}
use Rattle.run_model.specs.Ways.{UnitMessage, Reply, Nacked}
use Rattle.flash_plan.specs.declared.outcome.Outcome.TheVariants.{PendingLimit, BusyLimit, NoAnswer}
use Rattle.uds_codec.specs.Answer.{Verdict, Pending, Busy, Refusal, Accepted, BadStatus, Malformed, judge}
use Rattle.uds_codec.specs.Key.{all_zero}
use Rattle.unit_session.proofs.Keeps.{stage_good}
use Rattle.unit_session.specs.Session.{place_at, talk_of, IsOf, asked, ask_of}
use Rattle.unit_session.specs.declared.session.Ask.TheVariants as ask
use Rattle.unit_session.specs.declared.session.UnitSession.{UnitSession}
use Rattle.bay_replay.specs.Units.{low_marks, kept_talk}

-- ------ one mark
low_here : (marks : ℕ → Bool) (s : ℕ) → s < 256 → low_marks marks s ≡ marks s
low_here marks s lt = let e : nat_lt s 256 ≡ true = lt-ltb s 256 lt in rw e refl

low_or : (a b c : Bool) → (c ≡ false → a ≡ false) → (a || (c && b)) ≡ (c && (a || b))
low_or a b true out = refl
low_or a b false out = ap (λ (x : Bool). x || false) (out refl)

-- one more of those below 256
pub low_more : (s : ℕ) (marks : ℕ → Bool) → s < 256 → (k : ℕ) → with_mark s (low_marks marks) k ≡ low_marks (with_mark s marks) k
low_more s marks lt k = low_or (k == s) (marks k) (nat_lt k 256) (λ out. elim (cases_lt k 256) [
  | inl less ↦ absurd (false≢true (sym out ∙ lt-ltb k 256 less))
  | inr more ↦ ne_eqb k s (λ is. absurd (omega (arith, more, lt, is)))
])

-- ------ places
segments_low : (marks : ℕ → Bool) (done ss : List Segment) → length done + length ss ≤ 256 → segments_from (low_marks marks) done ss ≡ segments_from marks done ss
segments_low marks done [] few = refl
segments_low marks done (s ∷ ss) few =
    let here : low_marks marks (length done) ≡ marks (length done) = low_here marks (length done) (omega (arith, few)) in
    let later : segments_from (low_marks marks) (done ++ (s ∷ [])) ss ≡ segments_from marks (done ++ (s ∷ [])) ss =
    segments_low marks (done ++ (s ∷ [])) ss (omega (arith, few, length-append done (s ∷ []))) in
    λ i. if here i then later i else AtErase (record { done = done; now = s; left = ss })

first_low : (plan : UnitPlan) (marks : ℕ → Bool) → IsAcceptedUnit plan → segments_from (low_marks marks) [] plan.segments ≡ segments_from marks [] plan.segments
first_low plan marks ok = segments_low marks [] plan.segments (omega (arith, ok.few))

program_low : (plan : UnitPlan) (marks : ℕ → Bool) (rule : KeyRule) → IsAcceptedUnit plan → after_program plan (low_marks marks) rule ≡ after_program plan marks rule
program_low plan marks Free ok = first_low plan marks ok
program_low plan marks (Xor level mask) ok = refl
program_low plan marks (Digest level size secret) ok = refl

next_low : (plan : UnitPlan) (marks : ℕ → Bool) (place : Place) (rest : List ℕ) → IsAcceptedUnit plan → place_next plan (low_marks marks) place rest ≡ place_next plan marks place rest
next_low plan marks (AtIdent w ws) rest ok = refl
next_low plan marks AtBegin rest ok = refl
next_low plan marks AtProgram rest ok = program_low plan marks plan.key ok
next_low plan marks (AtSeed level) rest ok = ap (λ (p : Place). if all_zero rest then p else AtKey level rest) (first_low plan marks ok)
next_low plan marks (AtKey level seed) rest ok = first_low plan marks ok
next_low plan marks (AtErase c) rest ok = refl
next_low plan marks (AtDownload c) rest ok = refl
next_low plan marks (AtBlock c b) rest ok = refl
next_low plan marks (AtExit c) rest ok = refl
next_low plan marks (AtCheck c) rest ok = refl
next_low plan marks (AtMark c) rest ok = refl
next_low plan marks AtFinish rest ok = refl
next_low plan marks AtReset rest ok = refl
next_low plan marks AtDone rest ok = refl
next_low plan marks (AtEnd outcome) rest ok = refl

judged_low : (plan : UnitPlan) (marks : ℕ → Bool) (place : Place) (verdict : Verdict) → IsAcceptedUnit plan → place_judged plan (low_marks marks) place verdict ≡ place_judged plan marks place verdict
judged_low plan marks place Pending ok = refl
judged_low plan marks place Busy ok = refl
judged_low plan marks place (Refusal nrc) ok = refl
judged_low plan marks place (Accepted rest) ok = next_low plan marks place rest ok
judged_low plan marks place (BadStatus status) ok = refl
judged_low plan marks place Malformed ok = refl

-- ------ conversations
chosen : (b : Bool) (x y : Talk) → (if b then kept_talk x else kept_talk y) ≡ kept_talk (if b then x else y)
chosen true x y = refl
chosen false x y = refl

final_low : (plan : UnitPlan) (verdict : Verdict) (t : Talk) → IsAcceptedUnit plan → talk_final plan verdict (kept_talk t) ≡ kept_talk (talk_final plan verdict t)
final_low plan verdict t ok = ap (λ (p : Place). record t { place = p; marks = low_marks t.marks; number = t.number + 1; awaiting = false; pendings = 0; busies = 0 }) (judged_low plan t.marks t.place verdict ok)

judges_low : (plan : UnitPlan) (tick : ℕ) (verdict : Verdict) (t : Talk) → IsAcceptedUnit plan → talk_judged plan tick verdict (kept_talk t) ≡ kept_talk (talk_judged plan tick verdict t)
judges_low plan tick Pending t ok = chosen (t.pendings == 200) (end_talk (PendingLimit (sid_at plan t)) t) (record t { since = tick; pendings = t.pendings + 1 })
judges_low plan tick Busy t ok = chosen (t.busies == 20) (end_talk (BusyLimit (sid_at plan t)) t) (record t { awaiting = false; pendings = 0; busies = t.busies + 1 })
judges_low plan tick (Refusal nrc) t ok = final_low plan (Refusal nrc) t ok
judges_low plan tick (Accepted rest) t ok = final_low plan (Accepted rest) t ok
judges_low plan tick (BadStatus status) t ok = final_low plan (BadStatus status) t ok
judges_low plan tick Malformed t ok = final_low plan Malformed t ok

pub hears_low : (plan : UnitPlan) (tick : ℕ) (word : UnitMessage) (t : Talk) → IsAcceptedUnit plan → talk_hears plan tick word (kept_talk t) ≡ kept_talk (talk_hears plan tick word t)
hears_low plan tick (Reply body) t ok = judges_low plan tick (judge (bytes_at plan t.place) body) t ok
hears_low plan tick (Nacked code) t ok = refl

pub takes_low : (plan : UnitPlan) (tick : ℕ) (word : Option UnitMessage) (t : Talk) → IsAcceptedUnit plan → talk_takes plan tick word (kept_talk t) ≡ kept_talk (talk_takes plan tick word t)
takes_low plan tick None t ok = refl
takes_low plan tick (Some word) t ok = hears_low plan tick word t ok

pub quiet_low : (plan : UnitPlan) (tick : ℕ) (t : Talk) → talk_quiet plan tick (kept_talk t) ≡ kept_talk (talk_quiet plan tick t)
quiet_low plan tick t = chosen (nat_le (t.since + 1000) tick) (end_talk (NoAnswer (sid_at plan t)) t) t

pub lost_low : (plan : UnitPlan) (begun : Bool) (t : Talk) → talk_lost plan begun (kept_talk t) ≡ kept_talk (talk_lost plan begun t)
lost_low plan begun t = chosen (keeps_on_loss t.place) t (talk_start plan begun t.marks)

-- the place behind a mark of the segment in hand
marked_low : (plan : UnitPlan) (marks : ℕ → Bool) (place : Place) → IsAcceptedUnit plan → IsPlace plan place → place_marked (low_marks marks) place ≡ place_marked marks place
marked_low plan marks (AtMark c) ok is =
    segments_low marks (c.done ++ (c.now ∷ [])) c.left (omega (arith, ok.few, length-append c.done (c.now ∷ []), length-append c.done (c.now ∷ c.left), ap (λ (ss : List Segment). length ss) is))
marked_low plan marks place ok is = refl

pub marks_low : (plan : UnitPlan) (s : ℕ) (t : Talk) → IsAcceptedUnit plan → IsPlace plan t.place → s < 256 → talk_marked s (kept_talk t) ≡ kept_talk (talk_marked s t)
marks_low plan s t ok is lt =
    let more : (with_mark s (low_marks t.marks)) ≡ low_marks (with_mark s t.marks) = λ i k. low_more s t.marks lt k i in
    (λ i. record t { place = place_marked (more i) t.place; marks = more i })
    ∙ ap (λ (p : Place). record t { place = p; marks = low_marks (with_mark s t.marks) }) (marked_low plan (with_mark s t.marks) t.place ok is)

-- ------ a unit that stands at a mark
mark_number : (plan : UnitPlan) (s : ℕ) (place : Place) → IsAcceptedUnit plan → IsPlace plan place → is_mark s place ≡ true → s < 256
mark_number plan s (AtMark c) ok is at = omega (arith, ok.few, eqb-true (length c.done) s at, length-append c.done (c.now ∷ c.left), ap (λ (ss : List Segment). length ss) is)
mark_number plan s place ok is at = absurd (false≢true at)

asks_so : (plan : UnitPlan) (s : ℕ) (place : Place) (awaiting : Bool) → is_mark s place ≡ true → (awaiting ≡ true → needs_request place ≡ true) → asked awaiting (ask_at plan place) ≡ ask.Mark s
asks_so plan s (AtMark c) true at waits = absurd (false≢true (waits refl))
asks_so plan s (AtMark c) false at waits = ap ask.Mark (eqb-true (length c.done) s at)
asks_so plan s place awaiting at waits = absurd (false≢true at)

module _ (plan : UnitPlan) (said : UnitSession) (t : Talk) (s : ℕ) (of : IsOf plan said) (is : talk_of plan said ≡ kept_talk t) (at : is_mark s t.place ≡ true) where
  pub asks_mark : ask_of plan (talk_of plan said) ≡ ask.Mark s
  asks_mark = asks_so plan s (place_at plan said.stage) said.awaiting (ap (λ (x : Talk). is_mark s x.place) is ∙ at) of.awaits

  pub marks_session : IsAcceptedUnit plan → talk_marked s (talk_of plan said) ≡ kept_talk (talk_marked s t)
  marks_session ok =
      let place : IsPlace plan t.place = subst (λ (x : Talk). IsPlace plan x.place) is (stage_good plan said.stage ok of.stage).place_is in
      ap (talk_marked s) is ∙ marks_low plan s t ok place (mark_number plan s t.place ok place at)

-- ------ what leaves the marks
pub quiet_marks : (plan : UnitPlan) (tick : ℕ) (t : Talk) (n : ℕ) → (talk_quiet plan tick t).marks n ≡ t.marks n
quiet_marks plan tick t n = elim (cases_Bool (nat_le (t.since + 1000) tick)) [ inl e ↦ rw e refl | inr e ↦ rw e refl ]

judged_marks : (plan : UnitPlan) (tick : ℕ) (verdict : Verdict) (t : Talk) (n : ℕ) → (talk_judged plan tick verdict t).marks n ≡ t.marks n
judged_marks plan tick Pending t n = elim (cases_Bool (t.pendings == 200)) [ inl e ↦ rw e refl | inr e ↦ rw e refl ]
judged_marks plan tick Busy t n = elim (cases_Bool (t.busies == 20)) [ inl e ↦ rw e refl | inr e ↦ rw e refl ]
judged_marks plan tick (Refusal nrc) t n = refl
judged_marks plan tick (Accepted rest) t n = refl
judged_marks plan tick (BadStatus status) t n = refl
judged_marks plan tick Malformed t n = refl

pub takes_marks : (plan : UnitPlan) (tick : ℕ) (word : Option UnitMessage) (t : Talk) (n : ℕ) → (talk_takes plan tick word t).marks n ≡ t.marks n
takes_marks plan tick None t n = refl
takes_marks plan tick (Some (Reply body)) t n = judged_marks plan tick (judge (bytes_at plan t.place) body) t n
takes_marks plan tick (Some (Nacked code)) t n = refl

-- ------ marks that were found
-- an entry more, which is no mark of the unit
pub other_found : (rest : List Entry) (e : Entry) (u : ℕ) (marks : ℕ → Bool) → ((k : ℕ) → same_entry (entry.Marked u k) e ≡ false) → (k : ℕ)
    → (marks k || low_marks (marks_of (has_entry (e ∷ rest)) u) k) ≡ (marks k || low_marks (marks_of (has_entry rest) u) k)
other_found rest e u marks other k = ap (λ (b : Bool). marks k || (nat_lt k 256 && (b || has_entry rest (entry.Marked u k)))) (other k)

or_moved : (m here low rest : Bool) → (here ≡ true → low ≡ true) → (m || (low && (here || rest))) ≡ ((here || m) || (low && rest))
or_moved true true low rest is = refl
or_moved true false low rest is = refl
or_moved false true low rest is = ap (λ (b : Bool). b && true) (is refl)
or_moved false false low rest is = refl

-- one that is
pub mark_found : (rest : List Entry) (u s : ℕ) (marks more : ℕ → Bool) → (s < 256 → more ≡ with_mark s marks) → (256 ≤ s → more ≡ marks) → (k : ℕ)
    → (marks k || low_marks (marks_of (has_entry (entry.Marked u s ∷ rest)) u) k) ≡ (more k || low_marks (marks_of (has_entry rest) u) k)
mark_found rest u s marks more one beyond k = elim (cases_lt s 256) [
  | inl lt ↦
      ap (λ (b : Bool). marks k || (nat_lt k 256 && ((b && k == s) || has_entry rest (entry.Marked u k)))) (eq-eqb u u refl)
      ∙ or_moved (marks k) (k == s) (nat_lt k 256) (has_entry rest (entry.Marked u k)) (λ is. lt-ltb k 256 (omega (arith, lt, eqb-true k s is)))
      ∙ ap (λ (f : ℕ → Bool). f k || (nat_lt k 256 && has_entry rest (entry.Marked u k))) (sym (one lt))
  | inr le ↦ elim (cases_lt k 256) [
    | inl less ↦
        let ne : (k == s) ≡ false = ne_eqb k s (λ is. absurd (omega (arith, less, le, is))) in
        ap (λ (b : Bool). marks k || (nat_lt k 256 && (b || has_entry rest (entry.Marked u k)))) (ap (λ (b : Bool). (u == u) && b) ne ∙ and-false (u == u))
        ∙ ap (λ (f : ℕ → Bool). f k || (nat_lt k 256 && has_entry rest (entry.Marked u k))) (sym (beyond le))
    | inr more_than ↦
        let high : nat_lt k 256 ≡ false = le-ltb k 256 more_than in
        ap (λ (b : Bool). marks k || (b && has_entry (entry.Marked u s ∷ rest) (entry.Marked u k))) high ∙ ap (λ (f : ℕ → Bool). f k || false) (sym (beyond le))
        ∙ ap (λ (b : Bool). more k || (b && has_entry rest (entry.Marked u k))) (sym high)
  ]
]
