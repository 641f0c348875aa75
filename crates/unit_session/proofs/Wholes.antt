-- The end of a script is reached through the whole of it.
use Rattle.std.proofs.Common.{◌≡◌, inl, inr, ℕ, ◌+◌, ◌-◌, true, false, List, [], ◌∷◌, ◌++◌, length, drop, Some, refl, sym, ◌∙◌, ap, subst, length-append}
use Rattle.std.specs.Prelude.{Bool, Option, ◌==◌, min}
use Rattle.std.proofs.lemmas.Bool.{cases_Bool, false≢true, both_ways}
use Rattle.flash_base.specs.Numbers.{number_of}
use Rattle.flash_base.specs.declared.unit.KeyRule.{KeyRule}
use Rattle.flash_base.specs.declared.unit.KeyRule.TheVariants.{Free, Xor, Digest}
use Rattle.flash_plan.specs.Plan.{IsAcceptedUnit}
use Rattle.flash_plan.specs.declared.outcome.Outcome.{Outcome}
use Rattle.flash_plan.specs.declared.outcome.Outcome.TheVariants.{Refused, BadAnswer, CheckFailed, IdentMismatch}
use Rattle.flash_plan.specs.declared.unit.Segment.{Segment}
use Rattle.flash_plan.specs.declared.unit.UnitPlan.{UnitPlan}
use Rattle.flash_plan.specs.declared.unit.Wanted.{Wanted}
use Rattle.run_model.proofs.Along.{IsGoodPlace, goes, start_good, marked_good, never_good}
use Rattle.run_model.specs.Places.{needs_request}
use Rattle.run_model.specs.Script.{Cursor, Blocks, Place, AtIdent, AtBegin, AtProgram, AtSeed, AtKey, AtErase, AtDownload, AtBlock, AtExit, AtCheck, AtMark, AtFinish, AtReset, AtDone, AtEnd, bytes_at, place_judged, place_next, past_mark, place_of, routine_at, idents_from, segments_from, after_program, more_blocks, after_block, is_empty, has_value}
use Rattle.uds_codec.specs.Answer.{Verdict, Pending, Busy, Refusal, Accepted, BadStatus, Malformed, judge}
use Rattle.uds_codec.specs.Key.{level_of, all_zero}
use Rattle.uds_codec.specs.Request.{sid_of}
use Rattle.unit_model.specs.Step.{is_good}
use Rattle.unit_model.specs.Unit.{next_counter}
use Rattle.unit_session.specs.Whole.{Exchange, answered, with_good, AreBlocks, IsSegmentPart, IsLastPart, AreSegmentParts, IsKeySent, IsUnlocked, AreKeys, IsWholeScript, AreIdents, EndsMeanAll, range_at, check_of}

-- ------ where no request is due no answer is positive
nothing_never : (a : List ℕ) → is_good (judge [] a) ≡ false
nothing_never [] = refl
nothing_never (x ∷ rest) = elim (cases_Bool (x == 127)) [
  | inl e ↦ rw e (never_good 0 rest)
  | inr e ↦ rw e (elim (cases_Bool (x == 64)) [ inl f ↦ rw f refl | inr f ↦ rw f refl ])
]

abbrev is_end_place : Place → Bool
is_end_place (AtEnd outcome) = true
is_end_place place = false

-- what ended stays so
ended_stays : (u : UnitPlan) (skipped marks : ℕ → Bool) (o : Outcome) (answers : List (List ℕ)) (p : Place) → place_of u skipped marks (AtEnd o) answers ≡ p → is_end_place p ≡ false → ⊥
ended_stays u skipped marks o [] p is open_place = false≢true (sym (ap is_end_place is ∙ open_place))
ended_stays u skipped marks o (a ∷ more) p is open_place = by (λ q e. ended_stays u skipped marks q more p e open_place) (judge (bytes_at u (AtEnd o)) a) is
  where
    by : ((q : Outcome) → place_of u skipped marks (AtEnd q) more ≡ p → ⊥) → (v : Verdict) → place_of u skipped marks (past_mark skipped marks (place_judged u skipped (AtEnd o) v)) more ≡ p → ⊥
    by ih Pending e = ih o e
    by ih Busy e = ih o e
    by ih (Refusal nrc) e = ih (Refused 0 nrc) e
    by ih (Accepted rest) e = ih o e
    by ih (BadStatus status) e = ih (CheckFailed 65281 (length u.segments) status) e
    by ih Malformed e = ih (BadAnswer 0) e

empty_is : (xs : List ℕ) → is_empty xs ≡ true → xs ≡ []
empty_is [] e = refl
empty_is (x ∷ xs) e = absurd (false≢true e)

-- from the blocks of a segment on
record Sends (u : UnitPlan) (skipped : ℕ → Bool) (c : Cursor) (limit counter : ℕ) (bytes : List ℕ) (es : List Exchange) : Type 0 where
  blocks : List Exchange
  exit : Exchange
  check : Exchange
  more : List Exchange
  all : es ≡ (blocks ++ (exit ∷ check ∷ [])) ++ more
  sends : AreBlocks limit counter bytes blocks
  exits : exit.request ≡ 55 ∷ []
  checks : check.request ≡ check_of u c.now
  behind : AreSegmentParts u skipped (length c.done + 1) c.left more

-- from the request of the seed, or of the key, on
record Unlocks (u : UnitPlan) (skipped : ℕ → Bool) (level : ℕ) (es : List Exchange) : Type 0 where
  keys : List Exchange
  parts : List Exchange
  all : es ≡ keys ++ parts
  unlocked : IsUnlocked u level keys
  segments : AreSegmentParts u skipped 0 u.segments parts

module _ (u : UnitPlan) (skipped marks : ℕ → Bool) where
  -- behind the segment in hand
  abbrev Rest : Cursor → List Exchange → Type 0
  Rest c more = AreSegmentParts u skipped (length c.done + 1) c.left more

  -- what is left at a place before the end
  abbrev Remains : Place → List Exchange → Type 0
  Remains (AtIdent w ws) es = Unit {0}
  Remains AtBegin es = Unit {0}
  Remains AtProgram es = IsWholeScript u skipped es
  Remains (AtSeed level) es = Unlocks u skipped level es
  Remains (AtKey level seed) es = (keys : List Exchange) × (parts : List Exchange) × (es ≡ keys ++ parts) × IsKeySent u level seed keys × AreSegmentParts u skipped 0 u.segments parts
  Remains (AtErase c) es = (part : List Exchange) × (more : List Exchange) × (es ≡ part ++ more) × IsSegmentPart u c.now part × Rest c more
  Remains (AtDownload c) es = (download : Exchange) × (rest : List Exchange) × (es ≡ download ∷ rest) × (download.request ≡ 52 ∷ 0 ∷ range_at u c.now)
      × Sends u skipped c (min (number_of download.said) 65535) 1 c.now.body rest
  Remains (AtBlock c b) es = Sends u skipped c b.limit b.counter b.rest es
  Remains (AtExit c) es = (exit : Exchange) × (check : Exchange) × (more : List Exchange) × (es ≡ exit ∷ check ∷ more) × (exit.request ≡ 55 ∷ []) × (check.request ≡ check_of u c.now) × Rest c more
  Remains (AtCheck c) es = (check : Exchange) × (more : List Exchange) × (es ≡ check ∷ more) × (check.request ≡ check_of u c.now) × Rest c more
  Remains (AtMark c) es = Rest c es
  Remains AtFinish es = IsLastPart es
  Remains AtReset es = (reset : Exchange) × (es ≡ reset ∷ []) × (reset.request ≡ 17 ∷ 1 ∷ [])
  Remains AtDone es = es ≡ []
  Remains (AtEnd outcome) es = Unit {0}

  one_longer : (done : List Segment) (s : Segment) → length (done ++ (s ∷ [])) ≡ length done + 1
  one_longer done s = length-append done (s ∷ [])

  -- a segment that is left out has no request
  from_segments : (done ss : List Segment) (rs : List Exchange) → Remains (segments_from skipped done ss) rs → AreSegmentParts u skipped (length done) ss rs
  from_segments done [] rs is = is
  from_segments done (s ∷ ss) rs is = elim (cases_Bool (skipped (length done))) [
    | inl e ↦
        (let behind : AreSegmentParts u skipped (length done + 1) ss rs =
        subst (λ (n : ℕ). AreSegmentParts u skipped n ss rs) (one_longer done s) (from_segments (done ++ (s ∷ [])) ss rs (rw e at is)) in
        rw e ([], rs, refl, refl, behind))
    | inr e ↦ (let here : Remains (AtErase (record { done = done; now = s; left = ss })) rs = rw e at is in rw e here)
  ]

  -- a mark has no request
  from_marked : (p : Place) (rs : List Exchange) → Remains (past_mark skipped marks p) rs → Remains p rs
  from_marked (AtMark c) rs is = elim (cases_Bool (marks (length c.done))) [
    | inl e ↦
        (let after : Remains (segments_from skipped (c.done ++ (c.now ∷ [])) c.left) rs = rw e at is in
        subst (λ (n : ℕ). AreSegmentParts u skipped n c.left rs) (one_longer c.done c.now) (from_segments (c.done ++ (c.now ∷ [])) c.left rs after))
    | inr e ↦ (let here : Rest c rs = rw e at is in here)
  ]
  from_marked (AtIdent w ws) rs is = is
  from_marked AtBegin rs is = is
  from_marked AtProgram rs is = is
  from_marked (AtSeed level) rs is = is
  from_marked (AtKey level seed) rs is = is
  from_marked (AtErase c) rs is = is
  from_marked (AtDownload c) rs is = is
  from_marked (AtBlock c b) rs is = is
  from_marked (AtExit c) rs is = is
  from_marked (AtCheck c) rs is = is
  from_marked AtFinish rs is = is
  from_marked AtReset rs is = is
  from_marked AtDone rs is = is
  from_marked (AtEnd outcome) rs is = is

  good_marked : (p : Place) → IsGoodPlace u p → IsGoodPlace u (past_mark skipped marks p)
  good_marked (AtMark c) good = elim (cases_Bool (marks (length c.done))) [ inl e ↦ rw e (marked_good u skipped c good.place_is) | inr e ↦ rw e good ]
  good_marked (AtIdent w ws) good = good
  good_marked AtBegin good = good
  good_marked AtProgram good = good
  good_marked (AtSeed level) good = good
  good_marked (AtKey level seed) good = good
  good_marked (AtErase c) good = good
  good_marked (AtDownload c) good = good
  good_marked (AtBlock c b) good = good
  good_marked (AtExit c) good = good
  good_marked (AtCheck c) good = good
  good_marked AtFinish good = good
  good_marked AtReset good = good
  good_marked AtDone good = good
  good_marked (AtEnd outcome) good = good

  abbrev exchange : Place → List ℕ → Exchange
  exchange p rest = record { request = bytes_at u p; said = rest }

  locked : (level : ℕ) (rest : List ℕ) (rs : List Exchange) → level_of u.key ≡ Some level → Remains (AtSeed level) rs → IsWholeScript u skipped (exchange AtProgram rest ∷ rs)
  locked level rest rs key is = record {
    opening = exchange AtProgram rest;
    keys = is.keys;
    parts = is.parts;
    all = ap (λ (xs : List Exchange). exchange AtProgram rest ∷ xs) is.all;
    opens = refl;
    unlocks = subst (λ (o : Option ℕ). AreKeys u o is.keys) (sym key) is.unlocked;
    segments = is.segments;
  }

  opened : (rule : KeyRule) (rest : List ℕ) (rs : List Exchange) → u.key ≡ rule → Remains (after_program u skipped rule) rs → IsWholeScript u skipped (exchange AtProgram rest ∷ rs)
  opened Free rest rs key is = record {
    opening = exchange AtProgram rest;
    keys = [];
    parts = rs;
    all = refl;
    opens = refl;
    unlocks = subst (λ (r : KeyRule). AreKeys u (level_of r) []) (sym key) refl;
    segments = from_segments [] u.segments rs is;
  }
  opened (Xor level mask) rest rs key is = locked level rest rs (ap level_of key) is
  opened (Digest level size secret) rest rs key is = locked level rest rs (ap level_of key) is

  keyed : (level : ℕ) (rest : List ℕ) (rs : List Exchange) → all_zero rest ≡ false → Remains (AtKey level rest) rs → Unlocks u skipped level (exchange (AtSeed level) rest ∷ rs)
  keyed level rest rs some (keys, parts, eq, sent, segments) = record {
    keys = exchange (AtSeed level) rest ∷ keys;
    parts = parts;
    all = ap (λ (xs : List Exchange). exchange (AtSeed level) rest ∷ xs) eq;
    unlocked = record { asked = exchange (AtSeed level) rest; more = keys; all = refl; asks = refl; key = rw some sent };
    segments = segments;
  }

  seeded : (level : ℕ) (rest : List ℕ) (rs : List Exchange) → Remains (place_next u skipped (AtSeed level) rest) rs → Unlocks u skipped level (exchange (AtSeed level) rest ∷ rs)
  seeded level rest rs is = elim (cases_Bool (all_zero rest)) [
    | inl e ↦ record {
      keys = exchange (AtSeed level) rest ∷ [];
      parts = rs;
      all = refl;
      unlocked = record { asked = exchange (AtSeed level) rest; more = []; all = refl; asks = refl; key = rw e refl };
      segments = from_segments [] u.segments rs (rw e at is);
    }
    | inr e ↦ keyed level rest rs e (rw e at is)
  ]

  more_remains : (c : Cursor) (b : Blocks) (rs : List Exchange) → Remains (more_blocks c b) rs → Remains (AtBlock c b) rs
  more_remains c b rs is = elim (cases_Bool (is_empty b.rest)) [
    | inl e ↦
        (let (exit, check, more, eq, exits, checks, behind) : Remains (AtExit c) rs = rw e at is in
        record { blocks = []; exit = exit; check = check; more = more; all = eq; sends = empty_is b.rest e; exits = exits; checks = checks; behind = behind })
    | inr e ↦ rw e at is
  ]

  step : (p : Place) (rest : List ℕ) (rs : List Exchange) → IsGoodPlace u p → needs_request p ≡ true → Remains (place_next u skipped p rest) rs → Remains p (exchange p rest ∷ rs)
  step (AtIdent w ws) rest rs good needs is = tt
  step AtBegin rest rs good needs is = tt
  step AtProgram rest rs good needs is = opened u.key rest rs refl is
  step (AtSeed level) rest rs good needs is = seeded level rest rs is
  step (AtKey level seed) rest rs good needs is =
      (exchange (AtKey level seed) rest ∷ [], rs, refl, record { sent = exchange (AtKey level seed) rest; all = refl; sends = refl }, from_segments [] u.segments rs is)
  step (AtErase c) rest rs good needs is =
      let (download, tail, eq, downloads, sends) = is in (
        exchange (AtErase c) rest ∷ download ∷ (sends.blocks ++ (sends.exit ∷ sends.check ∷ [])),
        sends.more,
        ap (λ (xs : List Exchange). exchange (AtErase c) rest ∷ xs) (eq ∙ ap (λ (xs : List Exchange). download ∷ xs) sends.all),
        record {
          erase = exchange (AtErase c) rest;
          download = download;
          blocks = sends.blocks;
          exit = sends.exit;
          check = sends.check;
          all = refl;
          erases = refl;
          downloads = downloads;
          sends = sends.sends;
          exits = sends.exits;
          checks = sends.checks;
        },
        sends.behind,
      )
  step (AtDownload c) rest rs good needs is =
      (exchange (AtDownload c) rest, rs, refl, refl, more_remains c (record { sent = []; rest = c.now.body; counter = 1; limit = min (number_of rest) 65535 }) rs is)
  step (AtBlock c b) rest rs good needs is =
      let next : Sends u skipped c b.limit (next_counter b.counter) (drop (b.limit - 2) b.rest) rs = more_remains c (after_block b) rs is in
      record {
        blocks = exchange (AtBlock c b) rest ∷ next.blocks;
        exit = next.exit;
        check = next.check;
        more = next.more;
        all = ap (λ (xs : List Exchange). exchange (AtBlock c b) rest ∷ xs) next.all;
        sends = (good.place_is.1.some, refl, next.sends);
        exits = next.exits;
        checks = next.checks;
        behind = next.behind;
      }
  step (AtExit c) rest rs good needs is = let (check, more, eq, checks, behind) = is in (exchange (AtExit c) rest, check, more, ap (λ (xs : List Exchange). exchange (AtExit c) rest ∷ xs) eq, refl, checks, behind)
  step (AtCheck c) rest rs good needs is = (exchange (AtCheck c) rest, rs, refl, refl, is)
  step (AtMark c) rest rs good needs is = absurd (false≢true needs)
  step AtFinish rest rs good needs is =
      let (reset, eq, resets) = is in record { whole = exchange AtFinish rest; reset = reset; all = ap (λ (xs : List Exchange). exchange AtFinish rest ∷ xs) eq; checks = refl; resets = resets }
  step AtReset rest rs good needs is = (exchange AtReset rest, ap (λ (xs : List Exchange). exchange AtReset rest ∷ xs) is, refl)
  step AtDone rest rs good needs is = absurd (false≢true needs)
  step (AtEnd outcome) rest rs good needs is = tt

  -- where a positive answer came a request was due
  was_due : (p : Place) (a rest : List ℕ) → judge (bytes_at u p) a ≡ Accepted rest → needs_request p ≡ true
  was_due (AtIdent w ws) a rest is = refl
  was_due AtBegin a rest is = absurd (both_ways _ (nothing_never a) (ap is_good is))
  was_due AtProgram a rest is = refl
  was_due (AtSeed level) a rest is = refl
  was_due (AtKey level seed) a rest is = refl
  was_due (AtErase c) a rest is = refl
  was_due (AtDownload c) a rest is = refl
  was_due (AtBlock c b) a rest is = refl
  was_due (AtExit c) a rest is = refl
  was_due (AtCheck c) a rest is = refl
  was_due (AtMark c) a rest is = absurd (both_ways _ (nothing_never a) (ap is_good is))
  was_due AtFinish a rest is = refl
  was_due AtReset a rest is = refl
  was_due AtDone a rest is = absurd (both_ways _ (nothing_never a) (ap is_good is))
  was_due (AtEnd outcome) a rest is = absurd (both_ways _ (nothing_never a) (ap is_good is))

  along : (ok : IsAcceptedUnit u) (answers : List (List ℕ)) (p : Place) → IsGoodPlace u p → place_of u skipped marks p answers ≡ AtDone → Remains p (answered u skipped marks p answers)
  along ok [] p good is = subst (λ (q : Place). Remains q []) (sym is) refl
  along ok (a ∷ more) p good is = by (λ q g e. along ok more q g e) (judge (bytes_at u p) a) refl is
    where
      by : ((q : Place) → IsGoodPlace u q → place_of u skipped marks q more ≡ AtDone → Remains q (answered u skipped marks q more)) → (v : Verdict) → judge (bytes_at u p) a ≡ v
          → place_of u skipped marks (past_mark skipped marks (place_judged u skipped p v)) more ≡ AtDone
          → Remains p (with_good v (bytes_at u p) (answered u skipped marks (past_mark skipped marks (place_judged u skipped p v)) more))
      by ih Pending v e = from_marked p _ (ih (past_mark skipped marks p) (good_marked p good) e)
      by ih Busy v e = from_marked p _ (ih (past_mark skipped marks p) (good_marked p good) e)
      by ih (Refusal nrc) v e = absurd (ended_stays u skipped marks (Refused (sid_of (bytes_at u p)) nrc) more AtDone e refl)
      by ih (Accepted rest) v e =
          let needs = was_due p a rest v in
          let next : Place = place_next u skipped p rest in
          let good_next = goes u ok a rest skipped p good needs v in
          step p rest _ good needs (from_marked next _ (ih (past_mark skipped marks next) (good_marked next good_next) e))
      by ih (BadStatus status) v e = absurd (ended_stays u skipped marks (CheckFailed (routine_at u p).0 (routine_at u p).1 status) more AtDone e refl)
      by ih Malformed v e = absurd (ended_stays u skipped marks (BadAnswer (sid_of (bytes_at u p))) more AtDone e refl)

  -- no identifier stands at a mark
  unmarked : (ws : List Wanted) → past_mark skipped marks (idents_from ws) ≡ idents_from ws
  unmarked [] = refl
  unmarked (w ∷ ws) = refl

  named : (answers : List (List ℕ)) (ws : List Wanted) → place_of u skipped marks (idents_from ws) answers ≡ AtBegin → AreIdents ws (answered u skipped marks (idents_from ws) answers)
  named [] [] is = refl
  named [] (w ∷ ws) is = absurd (let no : ⊥ = cc in no)
  named (a ∷ more) [] is = by (λ e. named more [] e) (judge [] a) refl is
    where
      by : (place_of u skipped marks AtBegin more ≡ AtBegin → answered u skipped marks AtBegin more ≡ []) → (v : Verdict) → judge [] a ≡ v
          → place_of u skipped marks (past_mark skipped marks (place_judged u skipped AtBegin v)) more ≡ AtBegin
          → with_good v [] (answered u skipped marks (past_mark skipped marks (place_judged u skipped AtBegin v)) more) ≡ []
      by ih Pending v e = ih e
      by ih Busy v e = ih e
      by ih (Refusal nrc) v e = absurd (ended_stays u skipped marks (Refused 0 nrc) more AtBegin e refl)
      by ih (Accepted rest) v e = absurd (both_ways _ (nothing_never a) (ap is_good v))
      by ih (BadStatus status) v e = absurd (ended_stays u skipped marks (CheckFailed 65281 (length u.segments) status) more AtBegin e refl)
      by ih Malformed v e = absurd (ended_stays u skipped marks (BadAnswer 0) more AtBegin e refl)
  named (a ∷ more) (w ∷ ws) is = by (λ vs e. named more vs e) (judge (bytes_at u (AtIdent w ws)) a) is
    where
      by : ((vs : List Wanted) → place_of u skipped marks (idents_from vs) more ≡ AtBegin → AreIdents vs (answered u skipped marks (idents_from vs) more)) → (v : Verdict)
          → place_of u skipped marks (past_mark skipped marks (place_judged u skipped (AtIdent w ws) v)) more ≡ AtBegin
          → AreIdents (w ∷ ws) (with_good v (bytes_at u (AtIdent w ws)) (answered u skipped marks (past_mark skipped marks (place_judged u skipped (AtIdent w ws) v)) more))
      by ih Pending e = ih (w ∷ ws) e
      by ih Busy e = ih (w ∷ ws) e
      by ih (Refusal nrc) e = absurd (ended_stays u skipped marks (Refused 34 nrc) more AtBegin e refl)
      by ih (Accepted rest) e = elim (cases_Bool (has_value w.values rest)) [
        | inl has ↦
            (let stays : place_of u skipped marks (past_mark skipped marks (idents_from ws)) more ≡ AtBegin = rw has at e in
            let again : place_of u skipped marks (idents_from ws) more ≡ AtBegin = ap (λ (p : Place). place_of u skipped marks p more) (sym (unmarked ws)) ∙ stays in
            let later : AreIdents ws (answered u skipped marks (past_mark skipped marks (idents_from ws)) more) =
            subst (λ (p : Place). AreIdents ws (answered u skipped marks p more)) (sym (unmarked ws)) (ih ws again) in
            rw has (exchange (AtIdent w ws) rest, answered u skipped marks (past_mark skipped marks (idents_from ws)) more, refl, refl, has, later))
        | inr has ↦ absurd (ended_stays u skipped marks (IdentMismatch w.did) more AtBegin (rw has at e) refl)
      ]
      by ih (BadStatus status) e = absurd (ended_stays u skipped marks (CheckFailed 65281 (length u.segments) status) more AtBegin e refl)
      by ih Malformed e = absurd (ended_stays u skipped marks (BadAnswer 34) more AtBegin e refl)

pub ends_mean_all : EndsMeanAll
ends_mean_all = record {
  done = λ u skipped marks answers ok is. along u skipped marks ok answers AtProgram (start_good u true ok) is;
  begin = λ u skipped marks answers is. named u skipped marks answers u.idents is;
}
