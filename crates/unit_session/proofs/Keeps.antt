-- What a session keeps, and how an answer is heard.
use Rattle.std.proofs.Common.{◌≡◌, inl, inr, ℕ, zero, suc, ◌+◌, ◌-◌, ◌*◌, ◌<◌, ◌≤◌, true, false, List, [], ◌∷◌, ◌++◌, length, take, drop, refl, sym, ◌∙◌, ap, subst, arith, length-drop, add-one, drop-cons, slice_get}
use Rattle.std.specs.Prelude.{Bool, Option, Some, None, ◌==◌, ◌||◌, min}
use Rattle.std.proofs.lemmas.Bool.{cases_Bool, false≢true, ne_eqb}
use Rattle.std.proofs.lemmas.List.{take-append-drop}
use Rattle.flash_base.specs.Numbers.{number_of}
use Rattle.flash_base.specs.Lists.{Each}
use Rattle.flash_base.specs.declared.unit.KeyRule.{KeyRule}
use Rattle.flash_base.specs.declared.unit.KeyRule.TheVariants.{Free, Xor, Digest}
use Rattle.flash_plan.specs.Plan.{IsAcceptedUnit, IsWanted, size_of, segment_of, no_segment}
use Rattle.flash_plan.specs.declared.outcome.Outcome.{Outcome}
use Rattle.flash_plan.specs.declared.outcome.Outcome.TheVariants.{Refused, BadAnswer, CheckFailed}
use Rattle.flash_plan.specs.declared.unit.Segment.{Segment}
use Rattle.flash_plan.specs.declared.unit.UnitPlan.{UnitPlan}
use Rattle.flash_plan.specs.declared.unit.Wanted.{Wanted}
use Rattle.run_model.proofs.Along.{IsGoodPlace, says, idents_good, good_form, seed_rest, number_rest}
use Rattle.run_model.specs.Entries.{with_mark}
use Rattle.run_model.specs.Places.{needs_request}
use Rattle.run_model.specs.Script as script
use Rattle.run_model.specs.Script.{Cursor, Blocks, Place, AtIdent, AtBegin, AtProgram, AtSeed, AtKey, AtErase, AtDownload, AtBlock, AtExit, AtCheck, AtMark, AtFinish, AtReset, AtDone, AtEnd, request_at, bytes_at, place_judged, place_next, place_marked, routine_at, idents_from, segments_from, after_program, start_place, more_blocks, after_block, is_empty, has_value, ask_at}
use Rattle.run_model.specs.Talk.{Talk}
use Rattle.uds_codec.specs.Answer.{Verdict, Pending, Busy, Refusal, Accepted, BadStatus, Malformed, judge}
use Rattle.uds_codec.specs.Awaited.{IsJudged, awaited_by}
use Rattle.uds_codec.specs.Key.{all_zero}
use Rattle.uds_codec.specs.Request.{sid_of}
use Rattle.uds_codec.specs.declared.judging.Awaited.{Awaited}
use Rattle.uds_codec.specs.declared.judging.Awaited.TheVariants as awaited
use Rattle.uds_codec.specs.declared.request.Request.{Request}
use Rattle.uds_codec.specs.declared.request.Request.TheVariants.{ReadId}
use Rattle.unit_session.specs.Left.{left_for, requests_left}
use Rattle.unit_session.specs.Onward.{IsAwaitedAt, HasRecord, sid_at, erase_next}
use Rattle.unit_session.specs.Session.{place_at, IsStage, KnowsNext, cursor_at, open_from, asked, IsFewer}
use Rattle.unit_session.specs.declared.session.Ask.TheVariants as ask
use Rattle.unit_session.specs.declared.stage.Stage.{Stage}
use Rattle.unit_session.specs.declared.stage.Stage.TheVariants.{Ident, Program, Seed, Key, Erase, Download, Block, Exit, Check, Mark, Finish, Reset, Done, Ended}
use Rattle.unit_session.proofs.Leads.{ident_place, take_here, done_count, leaves_open, open_stage, open_same}

-- ------ each stage is a place of the script
each_drop : {T : Type 0} (P : T → Type 0) (xs : List T) (n : ℕ) → Each P xs → Each P (drop n xs)
each_drop P xs zero all = all
each_drop P [] (suc n) all = all
each_drop P (x ∷ xs) (suc n) all = each_drop P xs n all.1

cursor_is : (u : UnitPlan) (n : ℕ) → n < length u.segments → take n u.segments ++ (segment_of u n ∷ drop (n + 1) u.segments) ≡ u.segments
cursor_is u n lt =
    let e : drop n u.segments ≡ segment_of u n ∷ drop (suc n) u.segments = drop-cons u.segments n no_segment lt in
    ap (λ (xs : List Segment). take n u.segments ++ xs) (sym (e ∙ ap (λ (k : ℕ). segment_of u n ∷ drop k u.segments) (sym (add-one n)))) ∙ take-append-drop n u.segments

pub stage_good : (u : UnitPlan) (stage : Stage) → IsAcceptedUnit u → IsStage u stage → IsGoodPlace u (place_at u stage)
stage_good u (Ident n) ok is = idents_good u (drop n u.idents) (each_drop IsWanted u.idents n ok.idents)
stage_good u Program ok is = record { place_is = tt; asked = tt }
stage_good u Seed ok is = record { place_is = tt; asked = is }
stage_good u (Key seed) ok is = record { place_is = tt; asked = (is.keyed, is.some, is.few) }
stage_good u (Erase n) ok is = record { place_is = cursor_is u n is; asked = tt }
stage_good u (Download n) ok is = record { place_is = cursor_is u n is; asked = tt }
stage_good u (Block n sent counter limit) ok is = record {
  place_is = (
    cursor_is u n is.segment,
    record {
      body = take-append-drop sent (segment_of u n).body;
      some = omega (arith, length-drop sent (segment_of u n).body, is.within);
      limit = is.low;
    },
  );
  asked = is.high;
}
stage_good u (Exit n) ok is = record { place_is = cursor_is u n is; asked = tt }
stage_good u (Check n) ok is = record { place_is = cursor_is u n is; asked = tt }
stage_good u (Mark n next) ok is = record { place_is = cursor_is u n is; asked = tt }
stage_good u Finish ok is = record { place_is = tt; asked = tt }
stage_good u Reset ok is = record { place_is = tt; asked = tt }
stage_good u Done ok is = record { place_is = tt; asked = tt }
stage_good u (Ended outcome) ok is = record { place_is = tt; asked = tt }

-- ------ the service of a request
pub sid_is : (u : UnitPlan) (stage : Stage) → needs_request (place_at u stage) ≡ true → sid_of (bytes_at u (place_at u stage)) ≡ sid_at stage
sid_is u (Ident n) needs = of (drop n u.idents) needs
  where
    of : (ws : List Wanted) → needs_request (idents_from ws) ≡ true → sid_of (bytes_at u (idents_from ws)) ≡ 34
    of [] n = absurd (false≢true n)
    of (w ∷ ws) n = refl
sid_is u Program needs = refl
sid_is u Seed needs = refl
sid_is u (Key seed) needs = refl
sid_is u (Erase n) needs = refl
sid_is u (Download n) needs = refl
sid_is u (Block n sent counter limit) needs = refl
sid_is u (Exit n) needs = refl
sid_is u (Check n) needs = refl
sid_is u (Mark n next) needs = absurd (false≢true needs)
sid_is u Finish needs = refl
sid_is u Reset needs = refl
sid_is u Done needs = absurd (false≢true needs)
sid_is u (Ended outcome) needs = absurd (false≢true needs)

-- ------ how an answer is heard
some_request : (u : UnitPlan) (place : Place) → needs_request place ≡ true → (r : Request) × (request_at u place ≡ Some r)
some_request u (AtIdent w ws) needs = (_, refl)
some_request u AtBegin needs = absurd (false≢true needs)
some_request u AtProgram needs = (_, refl)
some_request u (AtSeed level) needs = (_, refl)
some_request u (AtKey level seed) needs = (_, refl)
some_request u (AtErase c) needs = (_, refl)
some_request u (AtDownload c) needs = (_, refl)
some_request u (AtBlock c b) needs = (_, refl)
some_request u (AtExit c) needs = (_, refl)
some_request u (AtCheck c) needs = (_, refl)
some_request u (AtMark c) needs = absurd (false≢true needs)
some_request u AtFinish needs = (_, refl)
some_request u AtReset needs = (_, refl)
some_request u AtDone needs = absurd (false≢true needs)
some_request u (AtEnd outcome) needs = absurd (false≢true needs)

pub ident_awaited : (u : UnitPlan) (n : ℕ) (w : Wanted) → slice_get u.idents n ≡ Some w → IsAwaitedAt u (Ident n) (awaited.ReadId w.did)
ident_awaited u n w is r e =
    let whole : Some (ReadId w.did) ≡ Some r = ap (request_at u) (sym (ident_place u n w is)) ∙ e in
    let same : ReadId w.did ≡ r = cc in
    sym (ap awaited_by same)

-- what was judged of an answer by what is awaited is the verdict on it
pub heard_by : (u : UnitPlan) (stage : Stage) (reply : List ℕ) (a : Awaited) (v : Verdict) → IsAcceptedUnit u → IsStage u stage → needs_request (place_at u stage) ≡ true → IsAwaitedAt u stage a → IsJudged a reply v
    → judge (bytes_at u (place_at u stage)) reply ≡ v
heard_by u stage reply a v ok is needs at judged =
    let good = stage_good u stage ok is in
    let r = some_request u (place_at u stage) needs in
    judged (bytes_at u (place_at u stage)) r.0 ((says u (place_at u stage) ok good.place_is good.asked needs).reads ∙ r.1) (at r.0 r.1)

-- a positive answer is in the form of its request
pub has_record : (u : UnitPlan) (stage : Stage) (reply rest : List ℕ) → IsAcceptedUnit u → IsStage u stage → needs_request (place_at u stage) ≡ true → judge (bytes_at u (place_at u stage)) reply ≡ Accepted rest → HasRecord stage rest
has_record u (Ident n) reply rest ok is needs good = tt
has_record u Program reply rest ok is needs good = tt
has_record u Seed reply rest ok is needs good =
    let at = stage_good u Seed ok is in
    let f = good_form u ok reply rest (bytes_at u (place_at u Seed)) reply _ (says u (place_at u Seed) ok at.place_is at.asked needs).reads good in
    seed_rest u ok reply rest _ f.0 f.1
has_record u (Key seed) reply rest ok is needs good = tt
has_record u (Erase n) reply rest ok is needs good = tt
has_record u (Download n) reply rest ok is needs good =
    let at = stage_good u (Download n) ok is in
    let f = good_form u ok reply rest (bytes_at u (place_at u (Download n))) reply _ (says u (place_at u (Download n)) ok at.place_is at.asked needs).reads good in
    number_rest u ok reply rest f.0 f.1
has_record u (Block n sent counter limit) reply rest ok is needs good = tt
has_record u (Exit n) reply rest ok is needs good = tt
has_record u (Check n) reply rest ok is needs good = tt
has_record u (Mark n next) reply rest ok is needs good = tt
has_record u Finish reply rest ok is needs good = tt
has_record u Reset reply rest ok is needs good = tt
has_record u Done reply rest ok is needs good = tt
has_record u (Ended outcome) reply rest ok is needs good = tt

-- neither a response pending nor a busy answer
abbrev pub IsFinalForm : Verdict → Type 0
IsFinalForm Pending = ⊥
IsFinalForm Busy = ⊥
IsFinalForm (Refusal nrc) = Unit {0}
IsFinalForm (Accepted rest) = Unit {0}
IsFinalForm (BadStatus status) = Unit {0}
IsFinalForm Malformed = Unit {0}

-- ------ fewer requests are left behind each
left_segments : (u : UnitPlan) (marks : ℕ → Bool) (done ss : List Segment) → requests_left u (segments_from marks done ss) ≤ left_for ss
left_segments u marks done [] = omega arith
left_segments u marks done (s ∷ ss) = let again = left_segments u marks (done ++ (s ∷ [])) ss in elim (cases_Bool (marks (length done))) [
  | inl e ↦ rw e (omega (arith, again))
  | inr e ↦ rw e (omega arith)
]

-- nor are there more behind a mark
pub left_marked : (u : UnitPlan) (marks : ℕ → Bool) (c : Cursor) → requests_left u (place_marked marks (AtMark c)) ≤ requests_left u (AtMark c)
left_marked u marks c = left_segments u marks (c.done ++ (c.now ∷ [])) c.left

left_idents : (u : UnitPlan) (ws : List Wanted) → requests_left u (idents_from ws) ≤ length ws + 3 + left_for u.segments
left_idents u [] = omega arith
left_idents u (w ∷ ws) = omega arith

left_blocks : (u : UnitPlan) (c : Cursor) (b : Blocks) → requests_left u (more_blocks c b) ≤ length b.rest + 2 + left_for c.left
left_blocks u c b = elim (cases_Bool (is_empty b.rest)) [ inl e ↦ rw e (omega arith) | inr e ↦ rw e (omega arith) ]

left_opened : (u : UnitPlan) (marks : ℕ → Bool) (rule : KeyRule) → requests_left u (after_program u marks rule) ≤ 2 + left_for u.segments
left_opened u marks Free = omega (arith, left_segments u marks [] u.segments)
left_opened u marks (Xor level mask) = omega arith
left_opened u marks (Digest level size secret) = omega arith

left_next : (u : UnitPlan) (marks : ℕ → Bool) (place : Place) (rest : List ℕ) → IsGoodPlace u place → needs_request place ≡ true → IsFewer u (place_next u marks place rest) place
left_next u marks (AtIdent w ws) rest good needs = elim (cases_Bool (has_value w.values rest)) [ inl e ↦ rw e (omega (arith, left_idents u ws)) | inr e ↦ rw e (omega arith) ]
left_next u marks AtBegin rest good needs = absurd (false≢true needs)
left_next u marks AtProgram rest good needs = omega (arith, left_opened u marks u.key)
left_next u marks (AtSeed level) rest good needs = elim (cases_Bool (all_zero rest)) [ inl e ↦ rw e (omega (arith, left_segments u marks [] u.segments)) | inr e ↦ rw e (omega arith) ]
left_next u marks (AtKey level seed) rest good needs = omega (arith, left_segments u marks [] u.segments)
left_next u marks (AtErase c) rest good needs = omega arith
left_next u marks (AtDownload c) rest good needs = omega (arith, left_blocks u c (record { sent = []; rest = c.now.body; counter = 1; limit = min (number_of rest) 65535 }))
left_next u marks (AtBlock c b) rest good needs = omega (arith, left_blocks u c (after_block b), length-drop (b.limit - 2) b.rest, good.place_is.1.some, good.place_is.1.limit)
left_next u marks (AtExit c) rest good needs = omega arith
left_next u marks (AtCheck c) rest good needs = omega arith
left_next u marks (AtMark c) rest good needs = absurd (false≢true needs)
left_next u marks AtFinish rest good needs = omega arith
left_next u marks AtReset rest good needs = omega arith
left_next u marks AtDone rest good needs = absurd (false≢true needs)
left_next u marks (AtEnd outcome) rest good needs = absurd (false≢true needs)

left_some : (u : UnitPlan) (place : Place) → needs_request place ≡ true → 1 ≤ requests_left u place
left_some u (AtIdent w ws) needs = omega arith
left_some u AtBegin needs = absurd (false≢true needs)
left_some u AtProgram needs = omega arith
left_some u (AtSeed level) needs = omega arith
left_some u (AtKey level seed) needs = omega arith
left_some u (AtErase c) needs = omega arith
left_some u (AtDownload c) needs = omega arith
left_some u (AtBlock c b) needs = omega arith
left_some u (AtExit c) needs = omega arith
left_some u (AtCheck c) needs = omega arith
left_some u (AtMark c) needs = absurd (false≢true needs)
left_some u AtFinish needs = omega arith
left_some u AtReset needs = omega arith
left_some u AtDone needs = absurd (false≢true needs)
left_some u (AtEnd outcome) needs = absurd (false≢true needs)

pub left_ended : (u : UnitPlan) (place : Place) (outcome : Outcome) → needs_request place ≡ true → IsFewer u (AtEnd outcome) place
left_ended u place outcome needs = omega (arith, left_some u place needs)

pub left_judged : (u : UnitPlan) (marks : ℕ → Bool) (place : Place) (v : Verdict) → IsGoodPlace u place → needs_request place ≡ true → IsFinalForm v → IsFewer u (place_judged u marks place v) place
left_judged u marks place Pending good needs final = absurd final
left_judged u marks place Busy good needs final = absurd final
left_judged u marks place (Refusal nrc) good needs final = left_ended u place (Refused (sid_of (bytes_at u place)) nrc) needs
left_judged u marks place (Accepted rest) good needs final = left_next u marks place rest good needs
left_judged u marks place (BadStatus status) good needs final = left_ended u place (CheckFailed (routine_at u place).0 (routine_at u place).1 status) needs
left_judged u marks place Malformed good needs final = left_ended u place (BadAnswer (sid_of (bytes_at u place))) needs

left_size : (ss : List Segment) → left_for ss ≤ size_of ss + 4 * length ss + 2
left_size [] = omega arith
left_size (s ∷ ss) = omega (arith, left_size ss)

pub start_few : (u : UnitPlan) (begun : Bool) → IsAcceptedUnit u → requests_left u (start_place u begun) ≤ 4294967295
start_few u true ok = omega (arith, left_size u.segments, ok.few, ok.bytes)
start_few u false ok = omega (arith, left_idents u u.idents, left_size u.segments, ok.few, ok.bytes, ok.few_idents)

pub start_of : (u : UnitPlan) (begun : Bool) → IsAcceptedUnit u → 0 + requests_left u (start_place u begun) ≤ 4294967295
start_of u begun ok = omega (arith, start_few u begun ok)

-- ------ what is next
pub waits : (b : Bool) (a : script.Ask) → asked b a ≡ ask.Wait → b ≡ true
waits true a is = refl
waits false script.Begin is = cc
waits false (script.Mark n) is = cc
waits false (script.Send bytes) is = cc
waits false script.Done is = cc
waits false (script.Over outcome) is = cc

pub sends : (u : UnitPlan) (b : Bool) (place : Place) → asked b (ask_at u place) ≡ ask.Send → needs_request place ≡ true
sends u true place is = cc
sends u false (AtIdent w ws) is = refl
sends u false AtBegin is = cc
sends u false AtProgram is = refl
sends u false (AtSeed level) is = refl
sends u false (AtKey level seed) is = refl
sends u false (AtErase c) is = refl
sends u false (AtDownload c) is = refl
sends u false (AtBlock c b) is = refl
sends u false (AtExit c) is = refl
sends u false (AtCheck c) is = refl
sends u false (AtMark c) is = cc
sends u false AtFinish is = refl
sends u false AtReset is = refl
sends u false AtDone is = cc
sends u false (AtEnd outcome) is = cc

pub ident_sends : (u : UnitPlan) (n : ℕ) → n < length u.idents → asked false (ask_at u (place_at u (Ident n))) ≡ ask.Send
ident_sends u n lt = of (drop n u.idents) (omega (arith, length-drop n u.idents, lt))
  where
    of : (ws : List Wanted) → 1 ≤ length ws → asked false (ask_at u (idents_from ws)) ≡ ask.Send
    of [] some = absurd (omega (arith, some))
    of (w ∷ ws) some = refl

-- ------ behind a mark
pub mark_asked : (u : UnitPlan) (b : Bool) (n k : ℕ) (next : Option ℕ) → n < length u.segments → asked b (ask_at u (place_at u (Mark n next))) ≡ ask.Mark k → n ≡ k
mark_asked u true n k next lt is = cc
mark_asked u false n k next lt is = let e : length (take n u.segments) ≡ k = cc in sym (done_count u (λ s. false) n (omega (arith, lt))) ∙ e

module _ (u : UnitPlan) (marks : ℕ → Bool) (n : ℕ) (next : Option ℕ) (lt : n < length u.segments) (known : next ≡ open_from u marks (n + 1)) where
  later_same : (k : ℕ) → n + 1 ≤ k → with_mark n marks k ≡ marks k
  later_same k le = let other : (k == n) ≡ false = ne_eqb k n (λ e. omega (arith, e, le)) in ap (λ (b : Bool). b || marks k) other

  pub marked_place : place_at u (erase_next next) ≡ place_marked (with_mark n marks) (AtMark (cursor_at u n))
  marked_place =
      ap (λ (o : Option ℕ). place_at u (erase_next o)) (known ∙ sym (open_same u (with_mark n marks) marks (n + 1) later_same))
      ∙ sym (leaves_open u (with_mark n marks) (n + 1) (omega (arith, lt)))
      ∙ ap (λ (xs : List Segment). segments_from (with_mark n marks) xs (drop (n + 1) u.segments)) (sym (take_here u marks n lt))

  pub marked_stage : IsStage u (erase_next next)
  marked_stage = subst (λ (o : Option ℕ). IsStage u (erase_next o)) (sym known) (open_stage u marks (n + 1) (omega (arith, lt)))

  pub marked_left : requests_left u (place_at u (erase_next next)) ≤ requests_left u (place_at u (Mark n next))
  marked_left = subst (λ (p : Place). requests_left u p ≤ requests_left u (place_at u (Mark n next))) (sym marked_place) (left_marked u (with_mark n marks) (cursor_at u n))

pub erase_knows : (u : UnitPlan) (marks : ℕ → Bool) (next : Option ℕ) → KnowsNext u marks (erase_next next)
erase_knows u marks None = tt
erase_knows u marks (Some n) = tt

pub same_talk : (t : Talk) (p q : Place) (a b : ℕ → Bool) → p ≡ q → a ≡ b → record t { place = p; marks = a } ≡ record t { place = q; marks = b }
same_talk t p q a b e f = (λ i. record t { place = e i; marks = f i })
