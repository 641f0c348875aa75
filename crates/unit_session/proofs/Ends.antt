-- What ends a conversation has its cause.
use Rattle.std.proofs.Common.{◌≡◌, ◌⊎◌, inl, inr, ℕ, ◌+◌, ◌/◌, ◌≤◌, true, false, List, [], ◌∷◌, ◌++◌, length, take, Some, None, refl, sym, ◌∙◌, ap, subst}
use Rattle.std.specs.Prelude.{Bool, Option, ◌==◌, ◌&&◌, nat_le, min, if◌then◌else◌}
use Rattle.std.proofs.lemmas.Bool.{cases_Bool, false≢true, eqb-true, leb-true}
use Rattle.flash_base.specs.Numbers.{number2, number_of}
use Rattle.flash_base.specs.declared.unit.KeyRule.{KeyRule}
use Rattle.flash_base.specs.declared.unit.KeyRule.TheVariants.{Free, Xor, Digest}
use Rattle.flash_plan.specs.declared.outcome.Outcome.{Outcome}
use Rattle.flash_plan.specs.declared.outcome.Outcome.TheVariants.{NoMemory, IdentMismatch, Refused, BadAnswer, CheckFailed, NoAnswer, PendingLimit, BusyLimit}
use Rattle.flash_plan.specs.declared.unit.Segment.{Segment}
use Rattle.flash_plan.specs.declared.unit.UnitPlan.{UnitPlan}
use Rattle.flash_plan.specs.declared.unit.Wanted.{Wanted}
use Rattle.run_model.specs.Places.{is_ended}
use Rattle.run_model.specs.Script.{Cursor, Blocks, Place, AtIdent, AtBegin, AtProgram, AtSeed, AtKey, AtErase, AtDownload, AtBlock, AtExit, AtCheck, AtMark, AtFinish, AtReset, AtDone, AtEnd, bytes_at, place_next, idents_from, segments_from, after_program, more_blocks, after_block, is_empty, has_value, routine_at}
use Rattle.run_model.specs.Talk.{Talk, talk_judged, sid_at}
use Rattle.uds_codec.specs.Answer.{Verdict, Pending, Busy, Refusal, Accepted, BadStatus, Malformed, judge, negative, negative_of, after_one, seed_form, status_form, routine_form, id_form, block_form, form_of, form_in}
use Rattle.uds_codec.specs.Key.{all_zero}
use Rattle.uds_codec.specs.Request.{request_of, sid_of, setting_code, messages_code}
use Rattle.uds_codec.specs.declared.request.Request.{Request}
use Rattle.uds_codec.specs.declared.request.Request.TheVariants.{Session, Reset, ReadId, Seed, Key, Routine, Download, Upload, Transfer, Pull, Exit, Setting, Messages}
use Rattle.unit_session.specs.Ends.{AnswerEnds, EndsAreCaused}

-- ------ what an answer may be judged as
abbrev IsForm : Verdict → Type 0
IsForm Pending = ⊥
IsForm Busy = ⊥
IsForm (Refusal nrc) = ⊥
IsForm (Accepted rest) = Unit {0}
IsForm (BadStatus status) = Unit {0}
IsForm Malformed = Unit {0}

form_if : (c : Bool) (a b : Verdict) → IsForm a → IsForm b → IsForm (if c then a else b)
form_if true a b x y = x
form_if false a b x y = y

form_after : (rest : List ℕ) (a : ℕ) (f : List ℕ → Verdict) → ((xs : List ℕ) → IsForm (f xs)) → IsForm (after_one rest a f)
form_after [] a f each = tt
form_after (x ∷ xs) a f each = form_if (x == a) (f xs) Malformed (each xs) tt

form_status : (xs : List ℕ) → IsForm (status_form xs)
form_status [] = tt
form_status (status ∷ more) = form_if (status == 0) (Accepted more) (BadStatus status) tt tt

form_routine : (id : ℕ) (xs : List ℕ) → IsForm (routine_form id xs)
form_routine id [] = tt
form_routine id (a ∷ []) = tt
form_routine id (a ∷ b ∷ []) = tt
form_routine id (a ∷ hi ∷ lo ∷ rest) = form_if (a == 1 && number2 hi lo == id) (status_form rest) Malformed (form_status rest) tt

form_id : (id : ℕ) (xs : List ℕ) → IsForm (id_form id xs)
form_id id [] = tt
form_id id (a ∷ []) = tt
form_id id (hi ∷ lo ∷ rest) = form_if (number2 hi lo == id) (Accepted rest) Malformed tt tt

form_block : (xs : List ℕ) → IsForm (block_form xs)
form_block [] = tt
form_block (n ∷ rest) = form_if (nat_le 1 (n / 16) && nat_le (n / 16) 8 && nat_le (n / 16) (length rest) && nat_le 3 (number_of (take (n / 16) rest))) (Accepted (take (n / 16) rest)) Malformed tt tt

form_is : (r : Request) (rest : List ℕ) → IsForm (form_of r rest)
form_is (Session kind) rest = form_after rest kind Accepted (λ xs. tt)
form_is Reset rest = form_after rest 1 Accepted (λ xs. tt)
form_is (ReadId did) rest = form_id did rest
form_is (Seed level) rest = form_after rest level seed_form (λ xs. form_if (nat_le 1 (length xs) && nat_le (length xs) 32) (Accepted xs) Malformed tt tt)
form_is (Key level key) rest = form_after rest (level + 1) Accepted (λ xs. tt)
form_is (Routine id option) rest = form_routine id rest
form_is (Download width at size) rest = form_block rest
form_is (Upload width at size) rest = form_block rest
form_is (Transfer counter body) rest = form_after rest counter Accepted (λ xs. tt)
form_is (Pull counter) rest = form_after rest counter Accepted (λ xs. tt)
form_is Exit rest = tt
form_is (Setting off) rest = form_after rest (setting_code off) Accepted (λ xs. tt)
form_is (Messages off) rest = form_after rest (messages_code off) Accepted (λ xs. tt)

form_some : (o : Option Request) (rest : List ℕ) → IsForm (form_in o rest)
form_some None rest = tt
form_some (Some r) rest = form_is r rest

-- a negative answer with its code, or an answer by its form
abbrev JudgedAs : List ℕ → List ℕ → Verdict → Type 0
JudgedAs request reply v = ((nrc : ℕ) × (reply ≡ 127 ∷ sid_of request ∷ nrc ∷ []) × (v ≡ negative nrc)) ⊎ IsForm v

negative_as : (request : List ℕ) (x : ℕ) (rest : List ℕ) → x ≡ 127 → JudgedAs request (x ∷ rest) (negative_of (sid_of request) rest)
negative_as request x [] is = inr tt
negative_as request x (s ∷ []) is = inr tt
negative_as request x (s ∷ nrc ∷ []) is = elim (cases_Bool (s == sid_of request)) [
  | inl e ↦ (let same : s ≡ sid_of request = eqb-true s (sid_of request) e in rw e (inl (nrc, (λ i. is i ∷ same i ∷ nrc ∷ []), refl)))
  | inr e ↦ rw e (inr tt)
]
negative_as request x (s ∷ nrc ∷ y ∷ ys) is = inr tt

judged_as : (request reply : List ℕ) → JudgedAs request reply (judge request reply)
judged_as request [] = inr tt
judged_as request (x ∷ rest) = elim (cases_Bool (x == 127)) [
  | inl e ↦ rw e (negative_as request x rest (eqb-true x 127 e))
  | inr e ↦ rw e (inr (form_if (x == sid_of request + 64) (form_in (request_of request) rest) Malformed (form_some (request_of request) rest) tt))
]

-- ------ no positive answer ends, but that of an identifier
abbrev end_of : Place → Outcome
end_of (AtEnd outcome) = outcome
end_of place = NoMemory

ended_not : {X : Type 0} (p : Place) (o : Outcome) → is_ended p ≡ false → p ≡ AtEnd o → X
ended_not p o open_place is = absurd (false≢true (sym open_place ∙ ap is_ended is))

idents_open : (ws : List Wanted) → is_ended (idents_from ws) ≡ false
idents_open [] = refl
idents_open (w ∷ ws) = refl

segments_open : (marks : ℕ → Bool) (done ss : List Segment) → is_ended (segments_from marks done ss) ≡ false
segments_open marks done [] = refl
segments_open marks done (s ∷ ss) = elim (cases_Bool (marks (length done))) [ inl e ↦ rw e (segments_open marks (done ++ (s ∷ [])) ss) | inr e ↦ rw e refl ]

opened_open : (u : UnitPlan) (marks : ℕ → Bool) (rule : KeyRule) → is_ended (after_program u marks rule) ≡ false
opened_open u marks Free = segments_open marks [] u.segments
opened_open u marks (Xor level mask) = refl
opened_open u marks (Digest level size secret) = refl

blocks_open : (c : Cursor) (b : Blocks) → is_ended (more_blocks c b) ≡ false
blocks_open c b = elim (cases_Bool (is_empty b.rest)) [ inl e ↦ rw e refl | inr e ↦ rw e refl ]

seed_open : (u : UnitPlan) (marks : ℕ → Bool) (level : ℕ) (rest : List ℕ) → is_ended (place_next u marks (AtSeed level) rest) ≡ false
seed_open u marks level rest = elim (cases_Bool (all_zero rest)) [ inl e ↦ rw e (segments_open marks [] u.segments) | inr e ↦ rw e refl ]

module _ (u : UnitPlan) (marks : ℕ → Bool) (body rest : List ℕ) (o : Outcome) where
  good_ends : (p : Place) (t : Talk) → t.place ≡ p → judge (bytes_at u t.place) body ≡ Accepted rest → is_ended p ≡ false → place_next u marks p rest ≡ AtEnd o → AnswerEnds u t body o
  good_ends (AtIdent w ws) t at good open_place is = elim (cases_Bool (has_value w.values rest)) [
    | inl e ↦ ended_not (idents_from ws) o (idents_open ws) (rw e at is)
    | inr e ↦
        (let other : IdentMismatch w.did ≡ o = ap end_of (rw e at is) in
        subst (AnswerEnds u t body) other (record { wanted = w; more = ws; value = rest; place = at; did_is = refl; good = good; other = e }))
  ]
  good_ends AtBegin t at good open_place is = ended_not AtBegin o refl is
  good_ends AtProgram t at good open_place is = ended_not (after_program u marks u.key) o (opened_open u marks u.key) is
  good_ends (AtSeed level) t at good open_place is = ended_not (place_next u marks (AtSeed level) rest) o (seed_open u marks level rest) is
  good_ends (AtKey level seed) t at good open_place is = ended_not (segments_from marks [] u.segments) o (segments_open marks [] u.segments) is
  good_ends (AtErase c) t at good open_place is = ended_not (AtDownload c) o refl is
  good_ends (AtDownload c) t at good open_place is =
      ended_not (place_next u marks (AtDownload c) rest) o (blocks_open c (record { sent = []; rest = c.now.body; counter = 1; limit = min (number_of rest) 65535 })) is
  good_ends (AtBlock c b) t at good open_place is = ended_not (more_blocks c (after_block b)) o (blocks_open c (after_block b)) is
  good_ends (AtExit c) t at good open_place is = ended_not (AtCheck c) o refl is
  good_ends (AtCheck c) t at good open_place is = ended_not (AtMark c) o refl is
  good_ends (AtMark c) t at good open_place is = ended_not (AtMark c) o refl is
  good_ends AtFinish t at good open_place is = ended_not AtReset o refl is
  good_ends AtReset t at good open_place is = ended_not AtDone o refl is
  good_ends AtDone t at good open_place is = ended_not AtDone o refl is
  good_ends (AtEnd outcome) t at good open_place is = absurd (false≢true (sym open_place))

module _ (u : UnitPlan) (tick : ℕ) (body : List ℕ) (t : Talk) (o : Outcome) (open_place : is_ended t.place ≡ false) where
  later_ends : body ≡ 127 ∷ sid_at u t ∷ 120 ∷ [] → (talk_judged u tick Pending t).place ≡ AtEnd o → AnswerEnds u t body o
  later_ends is e = elim (cases_Bool (t.pendings == 200)) [
    | inl full ↦ (let other : PendingLimit (sid_at u t) ≡ o = ap end_of (rw full at e) in subst (AnswerEnds u t body) other (is, refl, eqb-true t.pendings 200 full))
    | inr room ↦ ended_not t.place o open_place (rw room at e)
  ]

  again_ends : body ≡ 127 ∷ sid_at u t ∷ 33 ∷ [] → (talk_judged u tick Busy t).place ≡ AtEnd o → AnswerEnds u t body o
  again_ends is e = elim (cases_Bool (t.busies == 20)) [
    | inl full ↦ (let other : BusyLimit (sid_at u t) ≡ o = ap end_of (rw full at e) in subst (AnswerEnds u t body) other (is, refl, eqb-true t.busies 20 full))
    | inr room ↦ ended_not t.place o open_place (rw room at e)
  ]

  negative_ends : (nrc : ℕ) → body ≡ 127 ∷ sid_at u t ∷ nrc ∷ [] → (talk_judged u tick (negative nrc) t).place ≡ AtEnd o → AnswerEnds u t body o
  negative_ends nrc is e = elim (cases_Bool (nrc == 120)) [
    | inl a ↦ later_ends (is ∙ ap (λ (k : ℕ). 127 ∷ sid_at u t ∷ k ∷ []) (eqb-true nrc 120 a)) (rw a at e)
    | inr a ↦
        (let e2 : (talk_judged u tick (if nrc == 33 then Busy else Refusal nrc) t).place ≡ AtEnd o = rw a at e in
        elim (cases_Bool (nrc == 33)) [
          | inl b ↦ again_ends (is ∙ ap (λ (k : ℕ). 127 ∷ sid_at u t ∷ k ∷ []) (eqb-true nrc 33 b)) (rw b at e2)
          | inr b ↦ (let other : Refused (sid_at u t) nrc ≡ o = ap end_of (rw b at e2) in subst (AnswerEnds u t body) other (is, refl))
        ])
  ]

  form_ends : (v : Verdict) → IsForm v → judge (bytes_at u t.place) body ≡ v → (talk_judged u tick v t).place ≡ AtEnd o → AnswerEnds u t body o
  form_ends Pending form v e = absurd form
  form_ends Busy form v e = absurd form
  form_ends (Refusal nrc) form v e = absurd form
  form_ends (Accepted rest) form v e = good_ends u t.marks body rest o t.place t refl v open_place e
  form_ends (BadStatus status) form v e =
      let other : CheckFailed (routine_at u t.place).0 (routine_at u t.place).1 status ≡ o = ap end_of e in
      subst (AnswerEnds u t body) other (v, refl, refl)
  form_ends Malformed form v e =
      let other : BadAnswer (sid_at u t) ≡ o = ap end_of e in
      subst (AnswerEnds u t body) other (v, refl)

  answer_ends : JudgedAs (bytes_at u t.place) body (judge (bytes_at u t.place) body) → (talk_judged u tick (judge (bytes_at u t.place) body) t).place ≡ AtEnd o → AnswerEnds u t body o
  answer_ends (inl (nrc, is, v)) e = negative_ends nrc is (subst (λ (w : Verdict). (talk_judged u tick w t).place ≡ AtEnd o) v e)
  answer_ends (inr form) e = form_ends (judge (bytes_at u t.place) body) form refl e

  quiet_ends : (if nat_le (t.since + 1000) tick then AtEnd (NoAnswer (sid_at u t)) else t.place) ≡ AtEnd o → (o ≡ NoAnswer (sid_at u t)) × (t.since + 1000 ≤ tick)
  quiet_ends e = elim (cases_Bool (nat_le (t.since + 1000) tick)) [
    | inl late ↦ (let other : NoAnswer (sid_at u t) ≡ o = ap end_of (rw late at e) in (sym other, leb-true (t.since + 1000) tick late))
    | inr early ↦ ended_not t.place o open_place (rw early at e)
  ]

quiet_place : (u : UnitPlan) (c : Bool) (t : Talk) (o : Outcome) → (if c then record t { place = AtEnd o; awaiting = false } else t).place ≡ (if c then AtEnd o else t.place)
quiet_place u true t o = refl
quiet_place u false t o = refl

pub ends_are_caused : EndsAreCaused
ends_are_caused = record {
  answer = λ u tick body t o open_place e. answer_ends u tick body t o open_place (judged_as (bytes_at u t.place) body) e;
  refusal = λ u tick code t o e. sym (ap end_of e);
  silence = λ u tick t o open_place e. quiet_ends u tick [] t o open_place (sym (quiet_place u (nat_le (t.since + 1000) tick) t (NoAnswer (sid_at u t))) ∙ e);
}
