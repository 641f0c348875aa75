-- A text is refused exactly by the first line that is wrong.
use Rattle.std.proofs.Common.{suc, ◌≡◌, ℕ, ◌+◌, ◌-◌, ◌%◌, ◌<◌, ◌≤◌, ◌⊎◌, ◌&&◌, List, [], ◌∷◌, ◌++◌, length, sum, true, false, cond, eqb, Option, Some, None, Result, Ok, Err, refl, sym, ap, ◌∙◌, subst, inl, inr, arith, append-nil, append_assoc, length-append}
use Rattle.std.specs.Prelude.{◌≢◌, nat_le, nat_eq}
use Rattle.std.proofs.lemmas.Bool.{cases_lt, cases_Bool, eqb-true, eq-eqb, ne_eqb, leb-true, le-leb, lt-leb, false≢true}
use Rattle.std.proofs.lemmas.Option.{none-some, same_Some}
use Rattle.std.specs.Cmp.{nat_cmp_total}
use Rattle.std.specs.FinMap.{get, empty, same_map, nat_cmp-IsAntisymmetric}
use Rattle.span_store.specs.ByteMap.{ByteMap, over, clash}
use Rattle.span_store.specs.Lowest.{IsLowest}
use Rattle.span_store.specs.declared.clash.Clash.{Clash}
use Rattle.rec_text.specs.Digits.{bytes_of}
use Rattle.rec_text.specs.Lines.{lines}
use Rattle.rec_text.specs.Putting.{◌>>=◌, putting, put_unless}
use Rattle.rec_text.specs.declared.fault.RecFault.{RecFault}
use Rattle.rec_text.specs.declared.fault.RecFault.TheVariants.{BadLine, BadSum, BadCount, AfterEnd, Conflict, NoEnd, NoMemory}
use Rattle.rec_text.proofs.Adds.{some_below, same_options}
use Rattle.rec_text.proofs.Conflicts.{Differ, clash_lowest, clash_free, one_lowest}
use Rattle.srec_rec.specs.Record.{is_record, width, number_at, size_of, checked, record_of}
use Rattle.srec_rec.specs.Reading.{with_map, data_of, applied, step, read_from, reading_of}
use Rattle.srec_rec.specs.SrecText.{IsRecord, Counts, IsGood, AreRecords, AreEmpty}
use Rattle.srec_rec.specs.Refusals.{Stands, AreRight, HasForm, Differs, IsWrong, IsRefused}
use Rattle.srec_rec.specs.declared.reading.State.{State}
use Rattle.srec_rec.proofs.Whole.{snoc, chosen, bind_ok, record_ok, record_is, one_count, Holding, hold_skip, hold_data, data_size, data_at, did, count_part, data_part, end_part}
use Rattle.srec_rec.proofs.Text.{no_data, hold_empty, nothing_given, Behind, follow, all_good, stepped}

-- ------ a refusal of one line
err_same : {A : Type 0} (d e : RecFault) → ◌≡◌ {A = Result A RecFault} (Err d) (Err e) → d ≡ e
err_same d e h = cc

bind_err : {A B : Type 0} (r : Result A RecFault) (f : A → Result B RecFault) (e : RecFault) → (r >>= f) ≡ Err e → (r ≡ Err e) ⊎ ((x : A) × (r ≡ Ok x) × (f x ≡ Err e))
bind_err (Ok x) f e h = inr (x, refl, h)
bind_err (Err d) f e h = let same : d ≡ e = cc in inl (ap Err same)

-- the bytes have no form, or a wrong sum
checked_err : (n kind : ℕ) (o : Option (List ℕ)) (e : RecFault) → checked n kind o ≡ Err e
    → ((e ≡ BadLine n) × ((bs : List ℕ) → o ≡ Some bs → is_record kind bs ≡ true → ⊥)) ⊎ ((e ≡ BadSum n) × ((bs : List ℕ) × (o ≡ Some bs) × (is_record kind bs ≡ true) × (sum bs % 256 ≢ 255)))
checked_err n kind None e h = let same : BadLine n ≡ e = cc in inl (sym same, λ bs o f. none-some bs o)
checked_err n kind (Some bs) e h =
    elim (chosen (is_record kind bs) (cond (eqb (sum bs % 256) 255) (Ok (kind, bs)) (Err (BadSum n))) (Err (BadLine n)) (Err e) h) [
      | inl shape ↦
          elim (chosen (eqb (sum bs % 256) 255) (Ok (kind, bs)) (Err (BadSum n)) (Err e) shape.1) [
            | inl right ↦ let b = right.1 in cc
            | inr bad ↦ let b = bad.1 in let same : BadSum n ≡ e = cc in inr (sym same, (bs, refl, shape.0, λ s. false≢true (sym bad.0 ∙ eq-eqb (sum bs % 256) 255 s)))
          ]
      | inr bad ↦ let b = bad.1 in let same : BadLine n ≡ e = cc in inl (sym same, λ cs o f. false≢true (sym bad.0 ∙ ap (is_record kind) (same_Some {A = List ℕ} bs cs o) ∙ f))
    ]

abbrev Formless : List ℕ → Type 0
Formless line = (kind : ℕ) (bytes : List ℕ) → HasForm line kind bytes → ⊥

abbrev WrongSum : List ℕ → Type 0
WrongSum line = (kind : ℕ) × (bytes : List ℕ) × HasForm line kind bytes × (sum bytes % 256 ≢ 255)

no_nil : (c : ℕ) (cs : List ℕ) → c ∷ cs ≢ []
no_nil c cs e = let l : suc (length cs) ≡ 0 = ap length e in omega arith

abbrev second : List ℕ → ℕ
second [] = 0
second (x ∷ []) = 0
second (x ∷ y ∷ xs) = y

abbrev first : List ℕ → ℕ
first [] = 0
first (x ∷ xs) = x

abbrev rest : List ℕ → List ℕ
rest [] = []
rest (x ∷ []) = []
rest (x ∷ y ∷ xs) = xs

both_tests : (c k : ℕ) → (nat_eq c 83 && nat_le 48 k) ≡ true → (c ≡ 83) × (48 ≤ k)
both_tests c k h =
    elim (cases_Bool (nat_eq c 83)) [
      | inl y ↦ (eqb-true c 83 y, leb-true 48 k (rw y at h))
      | inr n ↦ absurd (false≢true (rw n at h))
    ]

record_err : (n : ℕ) (line : List ℕ) (e : RecFault) → record_of n line ≡ Err e → ((e ≡ BadLine n) × Formless line) ⊎ ((e ≡ BadSum n) × WrongSum line)
record_err n [] e h = let same : BadLine n ≡ e = cc in inl (sym same, λ kind bytes f. let l : 0 ≡ suc (suc (length f.digits)) = ap length f.begins in omega arith)
record_err n (c ∷ []) e h = let same : BadLine n ≡ e = cc in inl (sym same, λ kind bytes f. let l : 1 ≡ suc (suc (length f.digits)) = ap length f.begins in omega arith)
record_err n (c ∷ k ∷ digits) e h =
    elim (chosen (nat_eq c 83 && nat_le 48 k) (checked n (k - 48) (bytes_of digits)) (Err (BadLine n)) (Err e) h) [
      | inl is ↦
          let test : (c ≡ 83) × (48 ≤ k) = both_tests c k is.0 in
          let digit : k ≡ 48 + (k - 48) = (let g = test.1 in omega arith) in
          elim (checked_err n (k - 48) (bytes_of digits) e is.1) [
            | inl bad ↦ inl (
              bad.0,
              λ kind bytes f.
                  let kinds : k - 48 ≡ kind = (let s : k ≡ 48 + kind = ap second f.begins in omega arith) in
                  bad.1 bytes (ap bytes_of (ap rest f.begins) ∙ f.spelled) (ap (λ q. is_record q bytes) kinds ∙ f.form),
            )
            | inr bad ↦
                let (same, (bs, o, f, s)) = bad in
                inr (same, (k - 48, bs, record { digits = digits; begins = ap (λ x. x ∷ k ∷ digits) test.0 ∙ ap (λ x. 83 ∷ x ∷ digits) digit; spelled = o; form = f }, s))
          ]
      | inr bad ↦
          let b = bad.1 in
          let same : BadLine n ≡ e = cc in
          inl (
            sym same,
            λ kind bytes f.
                let letter : c ≡ 83 = ap first f.begins in
                let digit : k ≡ 48 + kind = ap second f.begins in
                let test : (nat_eq c 83 && nat_le 48 k) ≡ true = rw (eq-eqb c 83 letter, le-leb 48 k (omega arith)) refl in
                false≢true (sym bad.0 ∙ test),
          )
    ]

-- ------ a refusal of one record
with_map_err : (s : State) (r : Result ByteMap RecFault) (e : RecFault) → with_map s r ≡ Err e → r ≡ Err e
with_map_err s (Ok m) e h = cc
with_map_err s (Err d) e h = let same : d ≡ e = cc in ap Err same

put_err : (c : Option Clash) (m : ByteMap) (e : RecFault) → put_unless c m ≡ Err e → (x : Clash) × (c ≡ Some x) × (e ≡ Conflict x.at)
put_err None m e h = cc
put_err (Some x) m e h = let same : Conflict x.at ≡ e = cc in (x, refl, sym same)

-- the bytes of a data record differ where it differs
data_differs : (line : List ℕ) (kind : ℕ) (bytes : List ℕ) (m : ByteMap) (a : ℕ) → IsRecord line kind bytes → Differ m (number_at (width kind) bytes) (data_of (width kind) bytes) a → Differs m kind bytes a
data_differs line kind bytes m a r d =
    let (k, b, old, at, i, o, n) = d in
    let size = data_size line kind bytes r in
    let lt = some_below (data_of (width kind) bytes) k b i in
    let l : k < size_of (width kind) bytes = omega arith in
    (k, b, old, l, at, sym (data_at (width kind) bytes k l) ∙ i, o, n)

differs_data : (kind : ℕ) (bytes : List ℕ) (m : ByteMap) (a : ℕ) → Differs m kind bytes a → Differ m (number_at (width kind) bytes) (data_of (width kind) bytes) a
differs_data kind bytes m a d =
    let (k, b, old, l, at, i, o, n) = d in
    (k, b, old, at, data_at (width kind) bytes k l ∙ i, o, n)

lowest_data : (line : List ℕ) (kind : ℕ) (bytes : List ℕ) (m : ByteMap) (a : ℕ) → IsRecord line kind bytes → IsLowest (Differ m (number_at (width kind) bytes) (data_of (width kind) bytes)) (Some a) → IsLowest (Differs m kind bytes) (Some a)
lowest_data line kind bytes m a r h = (data_differs line kind bytes m a r h.0, λ b l d. h.1 b l (differs_data kind bytes m b d))

stands : (done : List (List ℕ)) (count : ℕ) (m : ByteMap) → AreRecords done → Holding done count m → Stands done m
stands done count m good h = record { records = good; given = h.given; all = h.all }

applied_err : (done : List (List ℕ)) (line : List ℕ) (kind : ℕ) (bytes : List ℕ) (s : State) (e : RecFault) → AreRecords done → Holding done s.count s.spans → IsRecord line kind bytes
    → applied s (kind, bytes) ≡ Err e → IsWrong e done line
applied_err done line kind bytes s e good h r is =
    elim (cases_Bool (eqb kind 0)) [
      | inl header ↦ let x = rw header at is in cc
      | inr some ↦
          let ne : kind ≡ 0 → ⊥ = λ k. false≢true (sym some ∙ eq-eqb kind 0 k) in
          let lo : 0 < kind = elim (cases_lt 0 kind) [ inl l ↦ l | inr l ↦ absurd (ne (omega arith)) ] in
          elim (cases_lt 3 kind) [
            | inr three ↦
                let put = with_map_err s (putting s.spans (number_at (width kind) bytes) (data_of (width kind) bytes)) e (sym (data_part s kind bytes some (le-leb kind 3 three)) ∙ is) in
                let (c, some_clash, same) = put_err (clash s.spans (number_at (width kind) bytes) (data_of (width kind) bytes)) (over s.spans (number_at (width kind) bytes) (data_of (width kind) bytes)) e put in
                subst (λ d. IsWrong d done line) (sym same)
                (s.spans, stands done s.count s.spans good h, (kind, bytes, r, lo, three, lowest_data line kind bytes s.spans c.at r (clash_lowest s.spans (number_at (width kind) bytes) (data_of (width kind) bytes) c some_clash)))
            | inl over_three ↦ elim (cases_lt 6 kind) [
              | inr six ↦
                  let says = sym (count_part s kind bytes some (lt-leb kind 3 over_three) (le-leb kind 6 six)) ∙ is in
                  elim (chosen (eqb (number_at (width kind) bytes) s.count) (Ok s) (Err (BadCount (number_at (width kind) bytes) s.count)) (Err e) says) [
                    | inl right ↦ let b = right.1 in cc
                    | inr bad ↦
                        let b = bad.1 in
                        let same : BadCount (number_at (width kind) bytes) s.count ≡ e = cc in
                        subst (λ d. IsWrong d done line) same
                        ((s.spans, stands done s.count s.spans good h), (kind, bytes, r, over_three, six, refl, h.counted, λ q. false≢true (sym bad.0 ∙ eq-eqb (number_at (width kind) bytes) s.count q)))
                  ]
              | inl over_six ↦ let x = sym (end_part s kind bytes some (lt-leb kind 3 over_three) (lt-leb kind 6 over_six)) ∙ is in cc
            ]
          ]
    ]

-- ------ along the lines
abbrev Refused : List (List ℕ) → List (List ℕ) → RecFault → Type 0
Refused done ls e =
    ((e ≡ NoEnd) × AreRight (done ++ ls))
    ⊎ ((front : List (List ℕ)) × (line : List ℕ) × (back : List (List ℕ)) × (ls ≡ front ++ line ∷ back) × IsWrong e (done ++ front) line)

one_later : (done : List (List ℕ)) (line : List ℕ) (more : List (List ℕ)) (e : RecFault) → Refused (done ++ (line ∷ [])) more e → Refused done (line ∷ more) e
one_later done line more e (inl none) = inl (none.0, subst AreRight (append_assoc done (line ∷ []) more) none.1)
one_later done line more e (inr wrong) =
    let (front, l, back, parts, is) = wrong in
    inr (line ∷ front, l, back, ap (λ t. line ∷ t) parts, subst (λ t. IsWrong e t l) (append_assoc done (line ∷ []) front) is)

here : (done : List (List ℕ)) (line : List ℕ) (more : List (List ℕ)) (e : RecFault) → IsWrong e done line → Refused done (line ∷ more) e
here done line more e is = inr ([], line, more, refl, subst (λ t. IsWrong e t line) (sym (append-nil done)) is)

length-push : (done : List (List ℕ)) (line : List ℕ) (n : ℕ) → n ≡ length done → n + 1 ≡ length (done ++ (line ∷ []))
length-push done line n e = let s : length (done ++ (line ∷ [])) ≡ length done + 1 = length-append done (line ∷ []) in omega arith

-- one record more that is right
good_push : (done : List (List ℕ)) (line : List ℕ) → AreRecords done → IsGood done line → AreRecords (done ++ (line ∷ []))
good_push done line good is = λ front l back e. elim (snoc done line front l back e) [
  | inl last ↦ subst (λ t. IsGood front t) (sym last.1) (subst (λ t. IsGood t line) last.0 is)
  | inr early ↦ good front l early.0 early.1
]

-- what an end leaves for the lines behind it
abbrev Ended : List (List ℕ) → List ℕ → List (List ℕ) → Type 0
Ended early last empty = AreRight early × ((kind : ℕ) × (bytes : List ℕ) × IsRecord last kind bytes × (6 < kind)) × AreEmpty empty

empty_push : (es : List (List ℕ)) → AreEmpty es → AreEmpty (es ++ ([] ∷ []))
empty_push [] h = (refl, tt)
empty_push (x ∷ es) h = (h.0, empty_push es h.1)

after_end : (early : List (List ℕ)) (last : List ℕ) (empty : List (List ℕ)) (t : State) (n : ℕ) (ls : List (List ℕ)) (e : RecFault) → t.ended ≡ true → Ended early last empty
    → n ≡ length (early ++ last ∷ empty) → read_from t n ls ≡ Err e → Refused (early ++ last ∷ empty) ls e
after_end early last empty t n [] e f h k is = let x = rw f at is in cc
after_end early last empty t n ([] ∷ more) e f h k is =
    let longer : (early ++ last ∷ empty) ++ ([] ∷ []) ≡ early ++ last ∷ (empty ++ ([] ∷ [])) = append_assoc early (last ∷ empty) ([] ∷ []) in
    one_later (early ++ last ∷ empty) [] more e
    (subst (λ d. Refused d more e) (sym longer)
    (after_end early last (empty ++ ([] ∷ [])) t (n + 1) more e f (h.0, h.1, empty_push empty h.2) (length-push (early ++ last ∷ empty) [] n k ∙ ap length longer) is))
after_end early last empty t n ((c ∷ cs) ∷ more) e f h k is =
    elim (bind_err (step t (n + 1) (c ∷ cs)) (λ u. read_from u (n + 1) more) e is) [
      | inl one ↦
          let says = sym (ap (λ b. cond b (Err (AfterEnd (n + 1))) (record_of (n + 1) (c ∷ cs) >>= applied t)) f) ∙ one in
          let same : AfterEnd (n + 1) ≡ e = err_same {A = State} (AfterEnd (n + 1)) e says in
          let place : n + 1 ≡ length (early ++ last ∷ empty) + 1 = omega arith in
          here (early ++ last ∷ empty) (c ∷ cs) more e (subst (λ d. IsWrong d (early ++ last ∷ empty) (c ∷ cs)) same (place, no_nil c cs, (early, last, empty, refl, h.0, h.1, h.2)))
      | inr two ↦
          let says = sym (ap (λ b. cond b (Err (AfterEnd (n + 1))) (record_of (n + 1) (c ∷ cs) >>= applied t)) f) ∙ two.1 in
          cc
    ]

-- a refusal has its cause
refused : (done : List (List ℕ)) (s : State) (n : ℕ) (ls : List (List ℕ)) (e : RecFault) → s.ended ≡ false → Holding done s.count s.spans → AreRecords done → n ≡ length done
    → read_from s n ls ≡ Err e → Refused done ls e
refused done s n [] e f h good k is =
    let same : NoEnd ≡ e = err_same {A = ByteMap} NoEnd e (rw f at is) in
    inl (sym same, (s.spans, subst (λ d. Stands d s.spans) (sym (append-nil done)) (stands done s.count s.spans good h)))
refused done s n ([] ∷ more) e f h good k is =
    one_later done [] more e (refused (done ++ ([] ∷ [])) s (n + 1) more e f (hold_empty done s.count s.spans h) (good_push done [] good (inl refl)) (length-push done [] n k) is)
refused done s n ((c ∷ cs) ∷ more) e f h good k is =
    let place : n + 1 ≡ length done + 1 = omega arith in
    let right : AreRight done = (s.spans, stands done s.count s.spans good h) in
    let not_ended = ap (λ b. cond b (Err (AfterEnd (n + 1))) (record_of (n + 1) (c ∷ cs) >>= applied s)) f in
    elim (bind_err (step s (n + 1) (c ∷ cs)) (λ u. read_from u (n + 1) more) e is) [
      | inl one ↦
          elim (bind_err (record_of (n + 1) (c ∷ cs)) (applied s) e (sym not_ended ∙ one)) [
            | inl bad ↦
                elim (record_err (n + 1) (c ∷ cs) e bad) [
                  | inl formless ↦ here done (c ∷ cs) more e (subst (λ d. IsWrong d done (c ∷ cs)) (sym formless.0) (place, right, no_nil c cs, formless.1))
                  | inr sums ↦ here done (c ∷ cs) more e (subst (λ d. IsWrong d done (c ∷ cs)) (sym sums.0) (place, right, sums.1))
                ]
            | inr got ↦ here done (c ∷ cs) more e (applied_err done (c ∷ cs) got.0.0 got.0.1 s e good h (record_ok (n + 1) (c ∷ cs) got.0 got.1) got.2)
          ]
      | inr two ↦
          let (t, a, b) = two in
          let (got, ok, d) = bind_ok (record_of (n + 1) (c ∷ cs)) (applied s) t (sym not_ended ∙ a) in
          let r = record_ok (n + 1) (c ∷ cs) got ok in
          elim (did s t got.0 got.1 d) [
            | inl data_line ↦
                let (lo, hi, new, put, same) = data_line in
                let is_good : IsGood done (c ∷ cs) = inr (got.0, got.1, r, omega arith, λ l. absurd (omega arith)) in
                let held = subst (λ (u : State). Holding (done ++ ((c ∷ cs) ∷ [])) u.count u.spans) (sym same) (hold_data done (c ∷ cs) got.0 got.1 s.count s.spans new h r lo hi put) in
                one_later done (c ∷ cs) more e
                (refused (done ++ ((c ∷ cs) ∷ [])) t (n + 1) more e (ap (λ (u : State). u.ended) same ∙ f) held (good_push done (c ∷ cs) good is_good) (length-push done (c ∷ cs) n k) b)
            | inr others ↦ elim others [
              | inl stays ↦
                  let (hi, which, says, same) = stays in
                  let is_good : IsGood done (c ∷ cs) = inr (got.0, got.1, r, hi, λ l. subst (Counts done) (sym (says l)) h.counted) in
                  let held = subst (λ (u : State). Holding (done ++ ((c ∷ cs) ∷ [])) u.count u.spans) (sym same) (hold_skip done (c ∷ cs) s.count s.spans h (no_data (c ∷ cs) got.0 got.1 r which)) in
                  one_later done (c ∷ cs) more e
                  (refused (done ++ ((c ∷ cs) ∷ [])) t (n + 1) more e (ap (λ (u : State). u.ended) same ∙ f) held (good_push done (c ∷ cs) good is_good) (length-push done (c ∷ cs) n k) b)
              | inr last ↦
                  let (six, same) = last in
                  one_later done (c ∷ cs) more e
                  (after_end done (c ∷ cs) [] t (n + 1) more e (ap (λ (u : State). u.ended) same) (right, (got.0, got.1, r, six), tt) (length-push done (c ∷ cs) n k) b)
            ]
          ]
    ]

no_lines : AreRecords []
no_lines front line back e =
    let n : length {A = List ℕ} [] ≡ length (front ++ (line ∷ back)) = ap length e in
    let s : length (front ++ (line ∷ back)) ≡ length front + length (line ∷ back) = length-append front (line ∷ back) in
    absurd (omega arith)

pub refused_text : (text : List ℕ) (e : RecFault) → reading_of text ≡ Err e → IsRefused text e
refused_text text e is = refused [] _ 0 (lines text) e refl nothing_given no_lines refl is

-- ------ what is wrong is refused
form_of : (line : List ℕ) (kind : ℕ) (bytes : List ℕ) → IsRecord line kind bytes → HasForm line kind bytes
form_of line kind bytes r = record { digits = r.digits; begins = r.begins; spelled = r.spelled; form = r.form }

same_form : (line : List ℕ) (kind other : ℕ) (bytes more : List ℕ) → HasForm line kind bytes → HasForm line other more → bytes ≡ more
same_form line kind other bytes more r s =
    let d : r.digits ≡ s.digits = ap rest (sym r.begins ∙ s.begins) in
    same_Some {A = List ℕ} bytes more (sym r.spelled ∙ ap bytes_of d ∙ s.spelled)

formless_result : (n : ℕ) (line : List ℕ) (r : Result (ℕ × List ℕ) RecFault) → record_of n line ≡ r → Formless line → r ≡ Err (BadLine n)
formless_result n line (Ok got) is none = absurd (none got.0 got.1 (form_of line got.0 got.1 (record_ok n line got is)))
formless_result n line (Err d) is none =
    elim (record_err n line d is) [
      | inl bad ↦ ap Err bad.0
      | inr bad ↦ let (kind, bytes, f, s) = bad.1 in absurd (none kind bytes f)
    ]

sum_result : (n : ℕ) (line : List ℕ) (r : Result (ℕ × List ℕ) RecFault) → record_of n line ≡ r → WrongSum line → r ≡ Err (BadSum n)
sum_result n line (Ok got) is wrong =
    let (kind, bytes, f, s) = wrong in
    let r = record_ok n line got is in
    absurd (s (ap (λ l. sum l % 256) (same_form line kind got.0 bytes got.1 f (form_of line got.0 got.1 r)) ∙ r.checked))
sum_result n line (Err d) is wrong =
    elim (record_err n line d is) [
      | inl bad ↦ let (kind, bytes, f, s) = wrong in absurd (bad.1 kind bytes f)
      | inr bad ↦ ap Err bad.0
    ]

some_line : (line : List ℕ) (kind : ℕ) (bytes : List ℕ) → HasForm line kind bytes → line ≢ []
some_line line kind bytes f e = let l : suc (suc (length f.digits)) ≡ 0 = ap length (sym f.begins ∙ e) in omega arith

by_line : (t : State) (k : ℕ) (line : List ℕ) (back : List (List ℕ)) (e : RecFault) → t.ended ≡ false → (line ≢ []) → (record_of (k + 1) line >>= applied t) ≡ Err e → read_from t k (line ∷ back) ≡ Err e
by_line t k [] back e f some is = absurd (some refl)
by_line t k (c ∷ cs) back e f some is =
    ap (λ b. cond b (Err (AfterEnd (k + 1))) (record_of (k + 1) (c ∷ cs) >>= applied t) >>= λ u. read_from u (k + 1) back) f ∙ ap (λ q. q >>= λ u. read_from u (k + 1) back) is

by_record : (t : State) (k : ℕ) (line : List ℕ) (kind : ℕ) (bytes : List ℕ) (back : List (List ℕ)) (e : RecFault) → t.ended ≡ false → IsRecord line kind bytes → applied t (kind, bytes) ≡ Err e
    → read_from t k (line ∷ back) ≡ Err e
by_record t k line kind bytes back e f r is =
    by_line t k line back e f (some_line line kind bytes (form_of line kind bytes r)) (ap (λ q. q >>= applied t) (record_is (k + 1) line kind bytes r) ∙ is)

abbrev begun : State
begun = record { count = 0; ended = false; spans = empty }

-- reading comes to what stands behind lines that are right
come : (front more : List (List ℕ)) (m : ByteMap) → Stands front m → Behind [] front more begun 0
come front more m st = follow [] front more begun 0 m refl nothing_given (all_good [] front st.records) st.all

same_spans : (front : List (List ℕ)) (count : ℕ) (m new : ByteMap) → Holding front count new → Stands front m → new ≡ m
same_spans front count m new h st =
    same_map nat_cmp_total nat_cmp-IsAntisymmetric _ _ (λ q. same_options (get new q) (get m q) (λ b e. st.all q b (h.given q b e)) (λ b e. h.all q b (st.given q b e)))

put_result : (line : List ℕ) (kind : ℕ) (bytes : List ℕ) (m : ByteMap) (a : ℕ) (o : Option Clash) → clash m (number_at (width kind) bytes) (data_of (width kind) bytes) ≡ o → IsRecord line kind bytes
    → IsLowest (Differs m kind bytes) (Some a) → put_unless o (over m (number_at (width kind) bytes) (data_of (width kind) bytes)) ≡ Err (Conflict a)
put_result line kind bytes m a None is r low = absurd (clash_free m (number_at (width kind) bytes) (data_of (width kind) bytes) a is (differs_data kind bytes m a low.0))
put_result line kind bytes m a (Some c) is r low =
    ap (λ x. Err (Conflict x))
    (one_lowest (Differs m kind bytes) c.at a (lowest_data line kind bytes m c.at r (clash_lowest m (number_at (width kind) bytes) (data_of (width kind) bytes) c is)) low)

-- past an end
end_passed : (s : State) (n : ℕ) (last : List ℕ) (kind : ℕ) (bytes : List ℕ) (more : List (List ℕ)) → s.ended ≡ false → IsRecord last kind bytes → 6 < kind
    → read_from s n (last ∷ more) ≡ read_from (record s { ended = true }) (n + 1) more
end_passed s n last kind bytes more f r six =
    ap (λ q. q >>= λ u. read_from u (n + 1) more)
    (stepped s (record s { ended = true }) (n + 1) last kind bytes f r (end_part s kind bytes (ne_eqb kind 0 (λ e. omega arith)) (lt-leb kind 3 (omega arith)) (lt-leb kind 6 six)))

blanks_passed : (t : State) (n : ℕ) (blanks more : List (List ℕ)) → AreEmpty blanks → read_from t n (blanks ++ more) ≡ read_from t (n + length blanks) more
blanks_passed t n [] more h = let z : n ≡ n + 0 = omega arith in ap (λ k. read_from t k more) z
blanks_passed t n (x ∷ blanks) more h =
    let z : n + 1 + length blanks ≡ n + length (x ∷ blanks) = omega arith in
    ap (λ l. read_from t n (l ∷ (blanks ++ more))) h.0 ∙ blanks_passed t (n + 1) blanks more h.1 ∙ ap (λ k. read_from t k more) z

too_late : (t : State) (n : ℕ) (line : List ℕ) (back : List (List ℕ)) → t.ended ≡ true → (line ≢ []) → read_from t n (line ∷ back) ≡ Err (AfterEnd (n + 1))
too_late t n [] back f some = absurd (some refl)
too_late t n (c ∷ cs) back f some = ap (λ b. cond b (Err (AfterEnd (n + 1))) (record_of (n + 1) (c ∷ cs) >>= applied t) >>= λ u. read_from u (n + 1) back) f

wrong : (e : RecFault) (front : List (List ℕ)) (line : List ℕ) (back : List (List ℕ)) → IsWrong e front line → read_from begun 0 (front ++ line ∷ back) ≡ Err e
wrong (BadLine n) front line back w =
    let (place, right, some, none) = w in
    let go = come front (line ∷ back) right.0 right.1 in
    let number : go.1 + 1 ≡ n = (let k = go.5 in omega arith) in
    go.4 ∙ by_line go.0 go.1 line back (BadLine n) go.2 some (ap (λ q. q >>= applied go.0) (formless_result (go.1 + 1) line (record_of (go.1 + 1) line) refl none) ∙ ap (λ k. Err (BadLine k)) number)
wrong (BadSum n) front line back w =
    let (place, right, sums) = w in
    let (kind, bytes, f, s) = sums in
    let go = come front (line ∷ back) right.0 right.1 in
    let number : go.1 + 1 ≡ n = (let k = go.5 in omega arith) in
    go.4
    ∙ by_line go.0 go.1 line back (BadSum n) go.2 (some_line line kind bytes f)
    (ap (λ q. q >>= applied go.0) (sum_result (go.1 + 1) line (record_of (go.1 + 1) line) refl sums) ∙ ap (λ k. Err (BadSum k)) number)
wrong (BadCount said seen) front line back w =
    let (right, (kind, bytes, r, over_three, six, says, counts, ne)) = w in
    let go = come front (line ∷ back) right.0 right.1 in
    let count : go.0.count ≡ seen = one_count front go.0.count seen go.3.counted counts in
    let other : number_at (width kind) bytes ≡ go.0.count → ⊥ = λ q. ne (says ∙ q ∙ count) in
    go.4
    ∙ by_record go.0 go.1 line kind bytes back (BadCount said seen) go.2 r
    (count_part go.0 kind bytes (ne_eqb kind 0 (λ q. omega arith)) (lt-leb kind 3 over_three) (le-leb kind 6 six)
    ∙ ap (λ b. cond b (Ok go.0) (Err (BadCount (number_at (width kind) bytes) go.0.count))) (ne_eqb (number_at (width kind) bytes) go.0.count other)
    ∙ ap (λ x. Err (BadCount x go.0.count)) (sym says)
    ∙ ap (λ x. Err (BadCount said x)) count)
wrong (AfterEnd n) front line back w =
    let (place, some, (early, last, blanks, parts, right, (kind, bytes, r, six), nothing)) = w in
    let go = come early (last ∷ (blanks ++ line ∷ back)) right.0 right.1 in
    let t : State = record go.0 { ended = true } in
    let size : length front ≡ length early + length (last ∷ blanks) = ap length parts ∙ length-append early (last ∷ blanks) in
    let number : go.1 + 1 + length blanks + 1 ≡ n = (let k = go.5 in omega arith) in
    ap (λ l. read_from begun 0 (l ++ line ∷ back)) parts
    ∙ ap (read_from begun 0) (append_assoc early (last ∷ blanks) (line ∷ back))
    ∙ go.4
    ∙ end_passed go.0 go.1 last kind bytes (blanks ++ line ∷ back) go.2 r six
    ∙ blanks_passed t (go.1 + 1) blanks (line ∷ back) nothing
    ∙ too_late t (go.1 + 1 + length blanks) line back refl some
    ∙ ap (λ k. Err (AfterEnd k)) number
wrong (Conflict a) front line back w =
    let (m, st, (kind, bytes, r, lo, three, low)) = w in
    let go = come front (line ∷ back) m st in
    let same : go.0.spans ≡ m = same_spans front go.0.count m go.0.spans go.3 st in
    let low' = subst (λ q. IsLowest (Differs q kind bytes) (Some a)) (sym same) low in
    go.4
    ∙ by_record go.0 go.1 line kind bytes back (Conflict a) go.2 r
    (data_part go.0 kind bytes (ne_eqb kind 0 (λ q. omega arith)) (le-leb kind 3 three)
    ∙ ap (with_map go.0) (put_result line kind bytes go.0.spans a (clash go.0.spans (number_at (width kind) bytes) (data_of (width kind) bytes)) refl r low'))
wrong NoEnd front line back w = absurd w
wrong NoMemory front line back w = absurd w

pub refuses_text : (text : List ℕ) (e : RecFault) → IsRefused text e → reading_of text ≡ Err e
refuses_text text e (inl none) =
    let go = come (lines text) [] none.1.0 none.1.1 in
    ap (read_from begun 0) (sym (append-nil (lines text))) ∙ go.4 ∙ ap (λ b. cond b (Ok go.0.spans) (Err NoEnd)) go.2 ∙ ap Err (sym none.0)
refuses_text text e (inr is) =
    let (front, line, back, parts, w) = is in
    ap (read_from begun 0) parts ∙ wrong e front line back w
