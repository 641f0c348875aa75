-- What an answer's bytes are, by its verdict, and the verdict of such bytes.
use Rattle.std.proofs.Common.{◌≡◌, ℕ, ◌+◌, ◌/◌, ◌≤◌, true, false, List, [], ◌∷◌, ◌++◌, length, take, drop, Some, None, refl, sym, ◌∙◌, ap, subst, inl, inr, arith, length-append}
use Rattle.std.specs.Prelude.{Bool, nat_le, ◌==◌, ◌&&◌, Option, if◌then◌else◌}
use Rattle.std.proofs.lemmas.Bool.{cases_Bool, le-leb}
use Rattle.std.proofs.lemmas.Bool.Decides.{nat_tests}
use Rattle.std.proofs.lemmas.List.{take-append-drop, length-take-le, take_at}
use Rattle.flash_base.specs.Numbers.{number2, number_of}
use Rattle.uds_codec.specs.declared.request.Request.{Request}
use Rattle.uds_codec.specs.declared.request.Request.TheVariants.{Session, Seed, Key, ReadId, Routine, Download, Upload, Transfer, Pull, Exit, Reset, Setting, Messages}
use Rattle.uds_codec.specs.Answer.{Verdict, Pending, Busy, Refusal, Accepted, BadStatus, Malformed, judge, negative, negative_of, after_one, seed_form, status_form, routine_form, id_form, block_form, form_of, form_in}
use Rattle.uds_codec.specs.Form.{HasLength}
use Rattle.uds_codec.specs.Laws.{Spells}
use Rattle.uds_codec.specs.Request.{sid_of, request_of, setting_code, messages_code}
use Rattle.uds_codec.proofs.Decodes.{neq-eqb}
use Rattle.uds_codec.proofs.Found.{and_true, le_of, eq_of}
use Rattle.answer_law.specs.Answering.{Answers, AnswersLoad, EndsWith, Refuses}

same : (a b : ℕ) → a ≡ b → (a == b) ≡ true
same a b e = grind (arith, nat_tests)

-- ------ verdicts apart
abbrev IsSaid : Verdict → Type 0
IsSaid Pending = Unit {0}
IsSaid Busy = Unit {0}
IsSaid (Refusal nrc) = Unit {0}
IsSaid (Accepted more) = Unit {0}
IsSaid (BadStatus status) = Unit {0}
IsSaid Malformed = ⊥

-- of a positive answer
abbrev IsYes : Verdict → Type 0
IsYes Pending = ⊥
IsYes Busy = ⊥
IsYes (Refusal nrc) = ⊥
IsYes (Accepted more) = Unit {0}
IsYes (BadStatus status) = Unit {0}
IsYes Malformed = ⊥

-- of a negative answer
abbrev IsNo : Verdict → Type 0
IsNo Pending = Unit {0}
IsNo Busy = Unit {0}
IsNo (Refusal nrc) = Unit {0}
IsNo (Accepted more) = ⊥
IsNo (BadStatus status) = ⊥
IsNo Malformed = ⊥

yes_said : (v : Verdict) → IsYes v → IsSaid v
yes_said Pending y = tt
yes_said Busy y = tt
yes_said (Refusal nrc) y = tt
yes_said (Accepted more) y = tt
yes_said (BadStatus status) y = tt
yes_said Malformed y = y

no_said : (v : Verdict) → IsNo v → IsSaid v
no_said Pending n = tt
no_said Busy n = tt
no_said (Refusal nrc) n = tt
no_said (Accepted more) n = tt
no_said (BadStatus status) n = tt
no_said Malformed n = n

choose : (P : Verdict → Type 0) (b : Bool) (x y : Verdict) → P x → P y → P (if b then x else y)
choose P true x y p q = p
choose P false x y p q = q

kept : (b : Bool) (x v : Verdict) → IsSaid v → (if b then x else Malformed) ≡ v → (b ≡ true) × (x ≡ v)
kept true x v said e = (refl, e)
kept false x v said e = absurd (subst IsSaid (sym e) said)

good_is : (xs ys : List ℕ) → Accepted xs ≡ Accepted ys → xs ≡ ys
good_is xs ys e = cc

abbrev NotYes : Verdict → Type 0
NotYes v = IsYes v → ⊥

abbrev NotNo : Verdict → Type 0
NotNo v = IsNo v → ⊥

negative_not_yes : (nrc : ℕ) → NotYes (negative nrc)
negative_not_yes nrc = choose NotYes (nrc == 120) Pending (if nrc == 33 then Busy else Refusal nrc) (λ y. y) (choose NotYes (nrc == 33) Busy (Refusal nrc) (λ y. y) (λ y. y))

refused_not_yes : (sid : ℕ) (rest : List ℕ) → NotYes (negative_of sid rest)
refused_not_yes sid [] = λ y. y
refused_not_yes sid (a ∷ []) = λ y. y
refused_not_yes sid (a ∷ b ∷ []) = choose NotYes (a == sid) (negative b) Malformed (negative_not_yes b) (λ y. y)
refused_not_yes sid (a ∷ b ∷ c ∷ more) = λ y. y

-- ------ positive answers
abbrev service_of : Request → ℕ
service_of (Session kind) = 16
service_of Reset = 17
service_of (ReadId did) = 34
service_of (Seed level) = 39
service_of (Key level key) = 39
service_of (Routine id option) = 49
service_of (Download width at size) = 52
service_of (Upload width at size) = 53
service_of (Transfer counter body) = 54
service_of (Pull counter) = 54
service_of Exit = 55
service_of (Setting off) = 133
service_of (Messages off) = 40

sid_is : (r : Request) (request : List ℕ) → Spells r request → sid_of request ≡ service_of r
sid_is (Session kind) request s = ap sid_of s.0
sid_is Reset request s = ap sid_of s
sid_is (ReadId did) request s = ap sid_of s.2
sid_is (Seed level) request s = ap sid_of s.0
sid_is (Key level key) request s = ap sid_of s.0
sid_is (Routine id option) request s = ap sid_of s.2
sid_is (Download width at size) request s = ap sid_of s.2
sid_is (Upload width at size) request s = ap sid_of s.2
sid_is (Transfer counter body) request s = ap sid_of s.0
sid_is (Pull counter) request s = ap sid_of s
sid_is Exit request s = ap sid_of s
sid_is (Setting true) request s = ap sid_of s
sid_is (Setting false) request s = ap sid_of s
sid_is (Messages true) request s = ap sid_of s
sid_is (Messages false) request s = ap sid_of s

record OfForm (r : Request) (bytes : List ℕ) (v : Verdict) : Type 0 where
  pub rest : List ℕ
  pub is : bytes ≡ (service_of r + 64) ∷ rest
  pub form : form_of r rest ≡ v

of_form : (r : Request) (request bytes : List ℕ) (v : Verdict) → IsYes v → Spells r request → request_of request ≡ Some r → judge request bytes ≡ v → OfForm r bytes v
of_form r request [] v said_yes s q e = absurd (subst IsYes (sym e) said_yes)
of_form r request (x ∷ rest) v said_yes s q e = elim (cases_Bool (x == 127)) [
  | inl t ↦
      let n : negative_of (sid_of request) rest ≡ v = rw t at e in
      absurd (refused_not_yes (sid_of request) rest (subst IsYes (sym n) said_yes))
  | inr f ↦
      let k : (if x == sid_of request + 64 then form_in (request_of request) rest else Malformed) ≡ v = rw f at e in
      let (t, is) = kept (x == sid_of request + 64) (form_in (request_of request) rest) v (yes_said v said_yes) k in
      record {
        rest = rest;
        is = ap (λ (n : ℕ). n ∷ rest) (eq_of x (sid_of request + 64) t) ∙ ap (λ (n : ℕ). (n + 64) ∷ rest) (sid_is r request s);
        form = ap (λ (o : Option Request). form_in o rest) (sym q) ∙ is;
      }
]

plain : (rest : List ℕ) (a : ℕ) (more : List ℕ) → after_one rest a Accepted ≡ Accepted more → rest ≡ a ∷ more
plain [] a more e = cc
plain (x ∷ xs) a more e =
    let (t, is) = kept (x == a) (Accepted xs) (Accepted more) tt e in
    ap (λ (n : ℕ). n ∷ xs) (eq_of x a t) ∙ ap (λ (l : List ℕ). a ∷ l) (good_is xs more is)

seeded : (rest : List ℕ) (a : ℕ) (more : List ℕ) → after_one rest a seed_form ≡ Accepted more → (rest ≡ a ∷ more) × HasLength 1 32 more
seeded [] a more e = cc
seeded (x ∷ xs) a more e =
    let (t, is) = kept (x == a) (seed_form xs) (Accepted more) tt e in
    let (u, same_seed) = kept (nat_le 1 (length xs) && nat_le (length xs) 32) (Accepted xs) (Accepted more) tt is in
    let (low, high) = and_true (nat_le 1 (length xs)) (nat_le (length xs) 32) u in
    let all : xs ≡ more = good_is xs more same_seed in
    (ap (λ (n : ℕ). n ∷ xs) (eq_of x a t) ∙ ap (λ (l : List ℕ). a ∷ l) all, subst (HasLength 1 32) all (record { least = le_of 1 (length xs) low; most = le_of (length xs) 32 high }))

identified : (rest : List ℕ) (id : ℕ) (more : List ℕ) → id_form id rest ≡ Accepted more → (hi : ℕ) × (lo : ℕ) × (rest ≡ hi ∷ lo ∷ more) × (id ≡ number2 hi lo)
identified [] id more e = cc
identified (a ∷ []) id more e = cc
identified (hi ∷ lo ∷ xs) id more e =
    let (t, is) = kept (number2 hi lo == id) (Accepted xs) (Accepted more) tt e in
    (hi, lo, ap (λ (l : List ℕ). hi ∷ lo ∷ l) (good_is xs more is), sym (eq_of (number2 hi lo) id t))

record Ran (rest : List ℕ) (id : ℕ) (v : Verdict) : Type 0 where
  pub hi : ℕ
  pub lo : ℕ
  pub status : ℕ
  pub more : List ℕ
  pub is : rest ≡ 1 ∷ hi ∷ lo ∷ status ∷ more
  pub pair : id ≡ number2 hi lo
  pub said : (if status == 0 then Accepted more else BadStatus status) ≡ v

ran : (rest : List ℕ) (id : ℕ) (v : Verdict) → IsYes v → routine_form id rest ≡ v → Ran rest id v
ran [] id v said_yes e = absurd (subst IsYes (sym e) said_yes)
ran (a ∷ []) id v said_yes e = absurd (subst IsYes (sym e) said_yes)
ran (a ∷ hi ∷ []) id v said_yes e = absurd (subst IsYes (sym e) said_yes)
ran (a ∷ hi ∷ lo ∷ []) id v said_yes e =
    let (t, is) = kept (a == 1 && number2 hi lo == id) Malformed v (yes_said v said_yes) e in
    absurd (subst IsYes (sym is) said_yes)
ran (a ∷ hi ∷ lo ∷ status ∷ more) id v said_yes e =
    let (t, is) = kept (a == 1 && number2 hi lo == id) (status_form (status ∷ more)) v (yes_said v said_yes) e in
    let (one, pair) = and_true (a == 1) (number2 hi lo == id) t in
    record {
      hi = hi;
      lo = lo;
      status = status;
      more = more;
      is = ap (λ (n : ℕ). n ∷ hi ∷ lo ∷ status ∷ more) (eq_of a 1 one);
      pair = sym (eq_of (number2 hi lo) id pair);
      said = is;
    }

zero_status : (status : ℕ) (xs more : List ℕ) → (if status == 0 then Accepted xs else BadStatus status) ≡ Accepted more → (status ≡ 0) × (xs ≡ more)
zero_status status xs more e = elim (cases_Bool (status == 0)) [
  | inl t ↦ let g : Accepted xs ≡ Accepted more = rw t at e in (eq_of status 0 t, good_is xs more g)
  | inr f ↦ let b : BadStatus status ≡ Accepted more = rw f at e in cc
]

other_status : (status said : ℕ) (xs : List ℕ) → (if status == 0 then Accepted xs else BadStatus status) ≡ BadStatus said → (status ≡ said) × (1 ≤ said)
other_status status said xs e = elim (cases_Bool (status == 0)) [
  | inl t ↦ let g : Accepted xs ≡ BadStatus said = rw t at e in cc
  | inr f ↦
      let b : BadStatus status ≡ BadStatus said = rw f at e in
      let is : status ≡ said = cc in
      let some : 1 ≤ status = grind (arith, nat_tests, f) in
      (is, omega (arith, some, is))
]

record Numbered (rest more : List ℕ) : Type 0 where
  pub digits : ℕ
  pub behind : List ℕ
  pub is : rest ≡ digits ∷ (more ++ behind)
  pub said : digits / 16 ≡ length more
  pub some : 1 ≤ length more
  pub few : length more ≤ 8
  pub least : 3 ≤ number_of more

numbered : (rest more : List ℕ) → block_form rest ≡ Accepted more → Numbered rest more
numbered [] more e = cc
numbered (digits ∷ xs) more e =
    let n : ℕ = digits / 16 in
    let (t, is) = kept (nat_le 1 n && nat_le n 8 && nat_le n (length xs) && nat_le 3 (number_of (take n xs))) (Accepted (take n xs)) (Accepted more) tt e in
    let (t3, least) = and_true (nat_le 1 n && nat_le n 8 && nat_le n (length xs)) (nat_le 3 (number_of (take n xs))) t in
    let (t2, within) = and_true (nat_le 1 n && nat_le n 8) (nat_le n (length xs)) t3 in
    let (low, high) = and_true (nat_le 1 n) (nat_le n 8) t2 in
    let all : take n xs ≡ more = good_is (take n xs) more is in
    let size : length (take n xs) ≡ n = length-take-le n xs (le_of n (length xs) within) in
    let long : n ≡ length more = sym size ∙ ap length all in
    let some : 1 ≤ n = le_of 1 n low in
    let few : n ≤ 8 = le_of n 8 high in
    record {
      digits = digits;
      behind = drop n xs;
      is = ap (λ (l : List ℕ). digits ∷ l) (sym (take-append-drop n xs)) ∙ ap (λ (l : List ℕ). digits ∷ (l ++ drop n xs)) all;
      said = long;
      some = omega (arith, some, long);
      few = omega (arith, few, long);
      least = subst (λ (l : List ℕ). 3 ≤ number_of l) all (le_of 3 (number_of (take n xs)) least);
    }

numbered_load : (first : ℕ) (bytes rest more : List ℕ) → bytes ≡ first ∷ rest → block_form rest ≡ Accepted more → AnswersLoad first bytes more
numbered_load first bytes rest more is form =
    let n = numbered rest more form in
    (n.digits, n.behind, is ∙ ap (λ (l : List ℕ). first ∷ l) n.is, record { said = n.said; some = n.some; few = n.few; least = n.least })

pub good : (r : Request) (request bytes more : List ℕ) → Spells r request → request_of request ≡ Some r → judge request bytes ≡ Accepted more → Answers r bytes more
good (Session kind) request bytes more s q e =
    let p = of_form (Session kind) request bytes (Accepted more) tt s q e in
    p.is ∙ ap (λ (l : List ℕ). 80 ∷ l) (plain p.rest kind more p.form)
good Reset request bytes more s q e =
    let p = of_form Reset request bytes (Accepted more) tt s q e in
    p.is ∙ ap (λ (l : List ℕ). 81 ∷ l) (plain p.rest 1 more p.form)
good (ReadId did) request bytes more s q e =
    let p = of_form (ReadId did) request bytes (Accepted more) tt s q e in
    let i = identified p.rest did more p.form in
    (i.0, i.1, p.is ∙ ap (λ (l : List ℕ). 98 ∷ l) i.2, i.3)
good (Seed level) request bytes more s q e =
    let p = of_form (Seed level) request bytes (Accepted more) tt s q e in
    let i = seeded p.rest level more p.form in
    (p.is ∙ ap (λ (l : List ℕ). 103 ∷ l) i.0, i.1)
good (Key level key) request bytes more s q e =
    let p = of_form (Key level key) request bytes (Accepted more) tt s q e in
    p.is ∙ ap (λ (l : List ℕ). 103 ∷ l) (plain p.rest (level + 1) more p.form)
good (Routine id option) request bytes more s q e =
    let p = of_form (Routine id option) request bytes (Accepted more) tt s q e in
    let w = ran p.rest id (Accepted more) tt p.form in
    let z = zero_status w.status w.more more w.said in (
      w.hi,
      w.lo,
      p.is ∙ ap (λ (l : List ℕ). 113 ∷ l) w.is ∙ ap (λ (n : ℕ). 113 ∷ 1 ∷ w.hi ∷ w.lo ∷ n ∷ w.more) z.0 ∙ ap (λ (l : List ℕ). 113 ∷ 1 ∷ w.hi ∷ w.lo ∷ 0 ∷ l) z.1,
      w.pair,
    )
good (Download width at size) request bytes more s q e =
    let p = of_form (Download width at size) request bytes (Accepted more) tt s q e in
    numbered_load 116 bytes p.rest more p.is p.form
good (Upload width at size) request bytes more s q e =
    let p = of_form (Upload width at size) request bytes (Accepted more) tt s q e in
    numbered_load 117 bytes p.rest more p.is p.form
good (Transfer counter body) request bytes more s q e =
    let p = of_form (Transfer counter body) request bytes (Accepted more) tt s q e in
    p.is ∙ ap (λ (l : List ℕ). 118 ∷ l) (plain p.rest counter more p.form)
good (Pull counter) request bytes more s q e =
    let p = of_form (Pull counter) request bytes (Accepted more) tt s q e in
    p.is ∙ ap (λ (l : List ℕ). 118 ∷ l) (plain p.rest counter more p.form)
good Exit request bytes more s q e =
    let p = of_form Exit request bytes (Accepted more) tt s q e in
    p.is ∙ ap (λ (l : List ℕ). 119 ∷ l) (good_is p.rest more p.form)
good (Setting true) request bytes more s q e =
    let p = of_form (Setting true) request bytes (Accepted more) tt s q e in
    p.is ∙ ap (λ (l : List ℕ). 197 ∷ l) (plain p.rest 2 more p.form)
good (Setting false) request bytes more s q e =
    let p = of_form (Setting false) request bytes (Accepted more) tt s q e in
    p.is ∙ ap (λ (l : List ℕ). 197 ∷ l) (plain p.rest 1 more p.form)
good (Messages true) request bytes more s q e =
    let p = of_form (Messages true) request bytes (Accepted more) tt s q e in
    p.is ∙ ap (λ (l : List ℕ). 104 ∷ l) (plain p.rest 3 more p.form)
good (Messages false) request bytes more s q e =
    let p = of_form (Messages false) request bytes (Accepted more) tt s q e in
    p.is ∙ ap (λ (l : List ℕ). 104 ∷ l) (plain p.rest 0 more p.form)

judged : (n : ℕ) (r : Request) (request rest : List ℕ) → (n + 64 == 127) ≡ false → sid_of request ≡ n → request_of request ≡ Some r → judge request ((n + 64) ∷ rest) ≡ form_of r rest
judged n r request rest f s q =
    let t : (n + 64 == sid_of request + 64) ≡ true = same (n + 64) (sid_of request + 64) (omega (arith, s)) in
    rw (f, t, q) refl

routine_said : (id hi lo status : ℕ) (more : List ℕ) → id ≡ number2 hi lo → routine_form id (1 ∷ hi ∷ lo ∷ status ∷ more) ≡ (if status == 0 then Accepted more else BadStatus status)
routine_said id hi lo status more pair =
    let t : (number2 hi lo == id) ≡ true = same (number2 hi lo) id (sym pair) in
    rw t refl

load_answers : (n : ℕ) (r : Request) (request bytes more : List ℕ) → (n + 64 == 127) ≡ false → sid_of request ≡ n → request_of request ≡ Some r → ((rest : List ℕ) → form_of r rest ≡ block_form rest)
    → AnswersLoad (n + 64) bytes more → judge request bytes ≡ Accepted more
load_answers n r request bytes more f s q form_is a =
    let b = a.3 in
    let said : a.0 / 16 ≡ length more = b.said in
    let low = le-leb 1 (length more) b.some in
    let high = le-leb (length more) 8 b.few in
    let within = le-leb (length more) (length (more ++ a.1)) (omega (arith, length-append more a.1)) in
    let front : take (length more) (more ++ a.1) ≡ more = take_at more a.1 (length more) refl in
    let least = le-leb 3 (number_of more) b.least in
    let form : block_form (a.0 ∷ (more ++ a.1)) ≡ Accepted more = rw (said, front, low, high, within, least) refl in
    ap (judge request) a.2 ∙ judged n r request (a.0 ∷ (more ++ a.1)) f s q ∙ form_is (a.0 ∷ (more ++ a.1)) ∙ form

pub answers : (r : Request) (request bytes more : List ℕ) → Spells r request → request_of request ≡ Some r → Answers r bytes more → judge request bytes ≡ Accepted more
answers (Session kind) request bytes more s q a =
    let t = same kind kind refl in
    let form : after_one (kind ∷ more) kind Accepted ≡ Accepted more = rw t refl in
    ap (judge request) a ∙ judged 16 (Session kind) request (kind ∷ more) refl (sid_is (Session kind) request s) q ∙ form
answers Reset request bytes more s q a = ap (judge request) a ∙ judged 17 Reset request (1 ∷ more) refl (sid_is Reset request s) q
answers (ReadId did) request bytes more s q a =
    let t : (number2 a.0 a.1 == did) ≡ true = same (number2 a.0 a.1) did (sym a.3) in
    let form : id_form did (a.0 ∷ a.1 ∷ more) ≡ Accepted more = rw t refl in
    ap (judge request) a.2 ∙ judged 34 (ReadId did) request (a.0 ∷ a.1 ∷ more) refl (sid_is (ReadId did) request s) q ∙ form
answers (Seed level) request bytes more s q a =
    let t = same level level refl in
    let low = le-leb 1 (length more) a.1.least in
    let high = le-leb (length more) 32 a.1.most in
    let form : after_one (level ∷ more) level seed_form ≡ Accepted more = rw (t, low, high) refl in
    ap (judge request) a.0 ∙ judged 39 (Seed level) request (level ∷ more) refl (sid_is (Seed level) request s) q ∙ form
answers (Key level key) request bytes more s q a =
    let t = same (level + 1) (level + 1) refl in
    let form : after_one ((level + 1) ∷ more) (level + 1) Accepted ≡ Accepted more = rw t refl in
    ap (judge request) a ∙ judged 39 (Key level key) request ((level + 1) ∷ more) refl (sid_is (Key level key) request s) q ∙ form
answers (Routine id option) request bytes more s q a =
    ap (judge request) a.2
    ∙ judged 49 (Routine id option) request (1 ∷ a.0 ∷ a.1 ∷ 0 ∷ more) refl (sid_is (Routine id option) request s) q
    ∙ routine_said id a.0 a.1 0 more a.3
answers (Download width at size) request bytes more s q a =
    load_answers 52 (Download width at size) request bytes more refl (sid_is (Download width at size) request s) q (λ rest. refl) a
answers (Upload width at size) request bytes more s q a =
    load_answers 53 (Upload width at size) request bytes more refl (sid_is (Upload width at size) request s) q (λ rest. refl) a
answers (Transfer counter body) request bytes more s q a =
    let t = same counter counter refl in
    let form : after_one (counter ∷ more) counter Accepted ≡ Accepted more = rw t refl in
    ap (judge request) a ∙ judged 54 (Transfer counter body) request (counter ∷ more) refl (sid_is (Transfer counter body) request s) q ∙ form
answers (Pull counter) request bytes more s q a =
    let t = same counter counter refl in
    let form : after_one (counter ∷ more) counter Accepted ≡ Accepted more = rw t refl in
    ap (judge request) a ∙ judged 54 (Pull counter) request (counter ∷ more) refl (sid_is (Pull counter) request s) q ∙ form
answers (Setting true) request bytes more s q a = ap (judge request) a ∙ judged 133 (Setting true) request (2 ∷ more) refl (sid_is (Setting true) request s) q
answers (Setting false) request bytes more s q a = ap (judge request) a ∙ judged 133 (Setting false) request (1 ∷ more) refl (sid_is (Setting false) request s) q
answers (Messages true) request bytes more s q a = ap (judge request) a ∙ judged 40 (Messages true) request (3 ∷ more) refl (sid_is (Messages true) request s) q
answers (Messages false) request bytes more s q a = ap (judge request) a ∙ judged 40 (Messages false) request (0 ∷ more) refl (sid_is (Messages false) request s) q
answers Exit request bytes more s q a = ap (judge request) a ∙ judged 55 Exit request more refl (sid_is Exit request s) q

-- ------ a status
after_status : (rest : List ℕ) (a status : ℕ) (f : List ℕ → Verdict) → ((ys : List ℕ) → f ys ≡ BadStatus status → ⊥) → after_one rest a f ≡ BadStatus status → ⊥
after_status [] a status f none e = cc
after_status (x ∷ xs) a status f none e = none xs (kept (x == a) (f xs) (BadStatus status) tt e).1

good_status : (status : ℕ) (ys : List ℕ) → Accepted ys ≡ BadStatus status → ⊥
good_status status ys e = cc

seed_status : (status : ℕ) (ys : List ℕ) → seed_form ys ≡ BadStatus status → ⊥
seed_status status ys e = good_status status ys (kept (nat_le 1 (length ys) && nat_le (length ys) 32) (Accepted ys) (BadStatus status) tt e).1

id_status : (id status : ℕ) (rest : List ℕ) → id_form id rest ≡ BadStatus status → ⊥
id_status id status [] e = cc
id_status id status (a ∷ []) e = cc
id_status id status (hi ∷ lo ∷ xs) e = good_status status xs (kept (number2 hi lo == id) (Accepted xs) (BadStatus status) tt e).1

block_status : (status : ℕ) (rest : List ℕ) → block_form rest ≡ BadStatus status → ⊥
block_status status [] e = cc
block_status status (digits ∷ xs) e =
    let n : ℕ = digits / 16 in
    good_status status (take n xs) (kept (nat_le 1 n && nat_le n 8 && nat_le n (length xs) && nat_le 3 (number_of (take n xs))) (Accepted (take n xs)) (BadStatus status) tt e).1

pub status : (r : Request) (request bytes : List ℕ) (said : ℕ) → Spells r request → request_of request ≡ Some r → judge request bytes ≡ BadStatus said → EndsWith r bytes said
status (Session kind) request bytes said s q e =
    let p = of_form (Session kind) request bytes (BadStatus said) tt s q e in
    after_status p.rest kind said Accepted (good_status said) p.form
status Reset request bytes said s q e =
    let p = of_form Reset request bytes (BadStatus said) tt s q e in
    after_status p.rest 1 said Accepted (good_status said) p.form
status (ReadId did) request bytes said s q e =
    let p = of_form (ReadId did) request bytes (BadStatus said) tt s q e in
    id_status did said p.rest p.form
status (Seed level) request bytes said s q e =
    let p = of_form (Seed level) request bytes (BadStatus said) tt s q e in
    after_status p.rest level said seed_form (seed_status said) p.form
status (Key level key) request bytes said s q e =
    let p = of_form (Key level key) request bytes (BadStatus said) tt s q e in
    after_status p.rest (level + 1) said Accepted (good_status said) p.form
status (Routine id option) request bytes said s q e =
    let p = of_form (Routine id option) request bytes (BadStatus said) tt s q e in
    let w = ran p.rest id (BadStatus said) tt p.form in
    let z = other_status w.status said w.more w.said in (
      w.hi,
      w.lo,
      w.more,
      p.is ∙ ap (λ (l : List ℕ). 113 ∷ l) w.is ∙ ap (λ (n : ℕ). 113 ∷ 1 ∷ w.hi ∷ w.lo ∷ n ∷ w.more) z.0,
      w.pair,
      z.1,
    )
status (Download width at size) request bytes said s q e =
    let p = of_form (Download width at size) request bytes (BadStatus said) tt s q e in
    block_status said p.rest p.form
status (Upload width at size) request bytes said s q e =
    let p = of_form (Upload width at size) request bytes (BadStatus said) tt s q e in
    block_status said p.rest p.form
status (Transfer counter body) request bytes said s q e =
    let p = of_form (Transfer counter body) request bytes (BadStatus said) tt s q e in
    after_status p.rest counter said Accepted (good_status said) p.form
status (Pull counter) request bytes said s q e =
    let p = of_form (Pull counter) request bytes (BadStatus said) tt s q e in
    after_status p.rest counter said Accepted (good_status said) p.form
status (Setting off) request bytes said s q e =
    let p = of_form (Setting off) request bytes (BadStatus said) tt s q e in
    after_status p.rest (setting_code off) said Accepted (good_status said) p.form
status (Messages off) request bytes said s q e =
    let p = of_form (Messages off) request bytes (BadStatus said) tt s q e in
    after_status p.rest (messages_code off) said Accepted (good_status said) p.form
status Exit request bytes said s q e =
    let p = of_form Exit request bytes (BadStatus said) tt s q e in
    good_status said p.rest p.form

pub ends : (r : Request) (request bytes : List ℕ) (said : ℕ) → Spells r request → request_of request ≡ Some r → EndsWith r bytes said → judge request bytes ≡ BadStatus said
ends (Session kind) request bytes said s q a = absurd a
ends Reset request bytes said s q a = absurd a
ends (ReadId did) request bytes said s q a = absurd a
ends (Seed level) request bytes said s q a = absurd a
ends (Key level key) request bytes said s q a = absurd a
ends (Routine id option) request bytes said s q a =
    let some : 1 ≤ said = a.5 in
    let zero_not = neq-eqb said 0 (λ e. omega (arith, some, e)) in
    let form : (if said == 0 then Accepted a.2 else BadStatus said) ≡ BadStatus said = rw zero_not refl in
    ap (judge request) a.3
    ∙ judged 49 (Routine id option) request (1 ∷ a.0 ∷ a.1 ∷ said ∷ a.2) refl (sid_is (Routine id option) request s) q
    ∙ routine_said id a.0 a.1 said a.2 a.4
    ∙ form
ends (Download width at size) request bytes said s q a = absurd a
ends (Upload width at size) request bytes said s q a = absurd a
ends (Transfer counter body) request bytes said s q a = absurd a
ends (Pull counter) request bytes said s q a = absurd a
ends Exit request bytes said s q a = absurd a
ends (Setting off) request bytes said s q a = absurd a
ends (Messages off) request bytes said s q a = absurd a

-- ------ negative answers
after_not_no : (rest : List ℕ) (a : ℕ) (f : List ℕ → Verdict) → ((ys : List ℕ) → NotNo (f ys)) → NotNo (after_one rest a f)
after_not_no [] a f none = λ n. n
after_not_no (x ∷ xs) a f none = choose NotNo (x == a) (f xs) Malformed (none xs) (λ n. n)

seed_not_no : (ys : List ℕ) → NotNo (seed_form ys)
seed_not_no ys = choose NotNo (nat_le 1 (length ys) && nat_le (length ys) 32) (Accepted ys) Malformed (λ n. n) (λ n. n)

id_not_no : (id : ℕ) (rest : List ℕ) → NotNo (id_form id rest)
id_not_no id [] = λ n. n
id_not_no id (a ∷ []) = λ n. n
id_not_no id (hi ∷ lo ∷ xs) = choose NotNo (number2 hi lo == id) (Accepted xs) Malformed (λ n. n) (λ n. n)

status_not_no : (rest : List ℕ) → NotNo (status_form rest)
status_not_no [] = λ n. n
status_not_no (status ∷ more) = choose NotNo (status == 0) (Accepted more) (BadStatus status) (λ n. n) (λ n. n)

routine_not_no : (id : ℕ) (rest : List ℕ) → NotNo (routine_form id rest)
routine_not_no id [] = λ n. n
routine_not_no id (a ∷ []) = λ n. n
routine_not_no id (a ∷ hi ∷ []) = λ n. n
routine_not_no id (a ∷ hi ∷ lo ∷ rest) = choose NotNo (a == 1 && number2 hi lo == id) (status_form rest) Malformed (status_not_no rest) (λ n. n)

block_not_no : (rest : List ℕ) → NotNo (block_form rest)
block_not_no [] = λ n. n
block_not_no (digits ∷ xs) =
    choose NotNo (nat_le 1 (digits / 16) && nat_le (digits / 16) 8 && nat_le (digits / 16) (length xs) && nat_le 3 (number_of (take (digits / 16) xs)))
    (Accepted (take (digits / 16) xs)) Malformed (λ n. n) (λ n. n)

form_not_no : (r : Request) (rest : List ℕ) → NotNo (form_of r rest)
form_not_no (Session kind) rest = after_not_no rest kind Accepted (λ ys n. n)
form_not_no Reset rest = after_not_no rest 1 Accepted (λ ys n. n)
form_not_no (ReadId did) rest = id_not_no did rest
form_not_no (Seed level) rest = after_not_no rest level seed_form seed_not_no
form_not_no (Key level key) rest = after_not_no rest (level + 1) Accepted (λ ys n. n)
form_not_no (Routine id option) rest = routine_not_no id rest
form_not_no (Download width at size) rest = block_not_no rest
form_not_no (Upload width at size) rest = block_not_no rest
form_not_no (Transfer counter body) rest = after_not_no rest counter Accepted (λ ys n. n)
form_not_no (Pull counter) rest = after_not_no rest counter Accepted (λ ys n. n)
form_not_no Exit rest = λ n. n
form_not_no (Setting off) rest = after_not_no rest (setting_code off) Accepted (λ ys n. n)
form_not_no (Messages off) rest = after_not_no rest (messages_code off) Accepted (λ ys n. n)

read_not_no : (o : Option Request) (rest : List ℕ) → NotNo (form_in o rest)
read_not_no None rest = λ n. n
read_not_no (Some r) rest = form_not_no r rest

record Negative (request bytes : List ℕ) (v : Verdict) : Type 0 where
  pub nrc : ℕ
  pub is : Refuses request bytes nrc
  pub said : negative nrc ≡ v

refusing : (request rest : List ℕ) (v : Verdict) → IsNo v → negative_of (sid_of request) rest ≡ v → Negative request (127 ∷ rest) v
refusing request [] v said_no e = absurd (subst IsNo (sym e) said_no)
refusing request (a ∷ []) v said_no e = absurd (subst IsNo (sym e) said_no)
refusing request (a ∷ b ∷ []) v said_no e =
    let (t, is) = kept (a == sid_of request) (negative b) v (no_said v said_no) e in
    record { nrc = b; is = ap (λ (n : ℕ). 127 ∷ n ∷ b ∷ []) (eq_of a (sid_of request) t); said = is }
refusing request (a ∷ b ∷ c ∷ more) v said_no e = absurd (subst IsNo (sym e) said_no)

negative_is : (request bytes : List ℕ) (v : Verdict) → IsNo v → judge request bytes ≡ v → Negative request bytes v
negative_is request [] v said_no e = absurd (subst IsNo (sym e) said_no)
negative_is request (x ∷ rest) v said_no e = elim (cases_Bool (x == 127)) [
  | inl t ↦
      let n : negative_of (sid_of request) rest ≡ v = rw t at e in
      subst (λ (m : ℕ). Negative request (m ∷ rest) v) (sym (eq_of x 127 t)) (refusing request rest v said_no n)
  | inr f ↦
      let k : (if x == sid_of request + 64 then form_in (request_of request) rest else Malformed) ≡ v = rw f at e in
      absurd (choose NotNo (x == sid_of request + 64) (form_in (request_of request) rest) Malformed (read_not_no (request_of request) rest) (λ n. n) (subst IsNo (sym k) said_no))
]

is_later : (nrc : ℕ) → negative nrc ≡ Pending → nrc ≡ 120
is_later nrc e = elim (cases_Bool (nrc == 120)) [
  | inl t ↦ eq_of nrc 120 t
  | inr f ↦
      let k : (if nrc == 33 then Busy else Refusal nrc) ≡ Pending = rw f at e in
      absurd (choose (λ v. v ≡ Pending → ⊥) (nrc == 33) Busy (Refusal nrc) (λ h. cc) (λ h. cc) k)
]

is_again : (nrc : ℕ) → negative nrc ≡ Busy → nrc ≡ 33
is_again nrc e = elim (cases_Bool (nrc == 120)) [
  | inl t ↦ let k : Pending ≡ Busy = rw t at e in cc
  | inr f ↦
      let k : (if nrc == 33 then Busy else Refusal nrc) ≡ Busy = rw f at e in
      elim (cases_Bool (nrc == 33)) [
        | inl t ↦ eq_of nrc 33 t
        | inr g ↦ let h : Refusal nrc ≡ Busy = rw g at k in cc
      ]
]

is_refusal : (nrc code : ℕ) → negative nrc ≡ Refusal code → nrc ≡ code
is_refusal nrc code e = elim (cases_Bool (nrc == 120)) [
  | inl t ↦ let k : Pending ≡ Refusal code = rw t at e in cc
  | inr f ↦
      let k : (if nrc == 33 then Busy else Refusal nrc) ≡ Refusal code = rw f at e in
      elim (cases_Bool (nrc == 33)) [
        | inl t ↦ let h : Busy ≡ Refusal code = rw t at k in cc
        | inr g ↦ let h : Refusal nrc ≡ Refusal code = rw g at k in cc
      ]
]

pub later : (request bytes : List ℕ) → judge request bytes ≡ Pending → Refuses request bytes 120
later request bytes e =
    let n = negative_is request bytes Pending tt e in
    n.is ∙ ap (λ (m : ℕ). 127 ∷ sid_of request ∷ m ∷ []) (is_later n.nrc n.said)

pub again : (request bytes : List ℕ) → judge request bytes ≡ Busy → Refuses request bytes 33
again request bytes e =
    let n = negative_is request bytes Busy tt e in
    n.is ∙ ap (λ (m : ℕ). 127 ∷ sid_of request ∷ m ∷ []) (is_again n.nrc n.said)

pub refusal : (request bytes : List ℕ) (code : ℕ) → judge request bytes ≡ Refusal code → Refuses request bytes code
refusal request bytes code e =
    let n = negative_is request bytes (Refusal code) tt e in
    n.is ∙ ap (λ (m : ℕ). 127 ∷ sid_of request ∷ m ∷ []) (is_refusal n.nrc code n.said)

said_by : (request : List ℕ) (code : ℕ) → judge request (127 ∷ sid_of request ∷ code ∷ []) ≡ negative code
said_by request code = let t = same (sid_of request) (sid_of request) refl in rw t refl

pub waits : (request bytes : List ℕ) → Refuses request bytes 120 → judge request bytes ≡ Pending
waits request bytes h = ap (judge request) h ∙ said_by request 120

pub busy : (request bytes : List ℕ) → Refuses request bytes 33 → judge request bytes ≡ Busy
busy request bytes h = ap (judge request) h ∙ said_by request 33

pub refused : (request bytes : List ℕ) (code : ℕ) → (code ≡ 120 → ⊥) → (code ≡ 33 → ⊥) → Refuses request bytes code → judge request bytes ≡ Refusal code
refused request bytes code not_later not_again h =
    let l = neq-eqb code 120 not_later in
    let b = neq-eqb code 33 not_again in
    let form : negative code ≡ Refusal code = rw (l, b) refl in
    ap (judge request) h ∙ said_by request code ∙ form
