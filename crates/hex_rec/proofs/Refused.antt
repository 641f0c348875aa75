-- A text is refused exactly by the first line that is wrong.
use Rattle.std.proofs.Common.{suc, ◌≡◌, ℕ, ◌+◌, ◌*◌, ◌%◌, ◌<◌, ◌⊎◌, List, [], ◌∷◌, ◌++◌, length, get_or, sum, true, false, cond, eqb, Option, Some, None, Result, Ok, Err, refl, sym, ap, ◌∙◌, subst, inl, inr, arith, append-nil, append_assoc, length-append}
use Rattle.std.specs.Prelude.{◌≢◌}
use Rattle.std.proofs.lemmas.Bool.{cases_Bool, eqb-true, eq-eqb, ne_eqb, false≢true}
use Rattle.std.proofs.lemmas.Option.{none-some, same_Some}
use Rattle.std.specs.Cmp.{nat_cmp_total}
use Rattle.std.specs.FinMap.{get, empty, same_map, nat_cmp-IsAntisymmetric}
use Rattle.span_store.specs.ByteMap.{ByteMap}
use Rattle.span_store.specs.Lowest.{IsLowest}
use Rattle.rec_text.specs.Digits.{bytes_of}
use Rattle.rec_text.specs.Lines.{lines}
use Rattle.rec_text.specs.Putting.{◌>>=◌}
use Rattle.rec_text.specs.declared.fault.RecFault.{RecFault}
use Rattle.rec_text.specs.declared.fault.RecFault.TheVariants.{BadLine, BadSum, BadCount, AfterEnd, Conflict, NoEnd, NoMemory}
use Rattle.rec_text.proofs.Adds.{same_options}
use Rattle.rec_text.proofs.Conflicts.{one_lowest}
use Rattle.hex_rec.specs.Record.{is_record, checked, record_of}
use Rattle.hex_rec.specs.Reading.{put_line, with_map, applied, step, read_from, reading_of}
use Rattle.hex_rec.specs.HexText.{IsRecord, kind_of, value_of, AreRecords, AreEmpty, address}
use Rattle.hex_rec.specs.Refusals.{Stands, AreRight, HasForm, Differs, IsWrong, IsRefused}
use Rattle.hex_rec.specs.declared.base.Base.{Base}
use Rattle.hex_rec.specs.declared.base.Base.TheVariants.{Linear, Segment}
use Rattle.hex_rec.specs.declared.reading.State.{State}
use Rattle.hex_rec.proofs.Shapes.{chosen, bind_ok, record_ok, applied_ended}
use Rattle.hex_rec.proofs.Bases.{record_is, one_base}
use Rattle.hex_rec.proofs.Whole.{Holding, small, data_size, data_at, hold_empty, hold_record, offset_of, data_of, nothing_given}
use Rattle.hex_rec.proofs.Back.{Behind, follow, stepped}
use Rattle.hex_rec.proofs.Meets.{Meets, bind_err, line_err, line_free}

-- ------ a refusal of one line
err_same : {A : Type 0} (d e : RecFault) → ◌≡◌ {A = Result A RecFault} (Err d) (Err e) → d ≡ e
err_same d e h = cc

-- the bytes have no form, or a wrong sum
checked_err : (n : ℕ) (o : Option (List ℕ)) (e : RecFault) → checked n o ≡ Err e
    → ((e ≡ BadLine n) × ((bs : List ℕ) → o ≡ Some bs → is_record bs ≡ true → ⊥)) ⊎ ((e ≡ BadSum n) × ((bs : List ℕ) × (o ≡ Some bs) × (is_record bs ≡ true) × (sum bs % 256 ≢ 0)))
checked_err n None e h = let same : BadLine n ≡ e = cc in inl (sym same, λ bs o f. none-some bs o)
checked_err n (Some bs) e h =
    elim (chosen (is_record bs) (cond (eqb (sum bs % 256) 0) (Ok bs) (Err (BadSum n))) (Err (BadLine n)) (Err e) h) [
      | inl shape ↦
          elim (chosen (eqb (sum bs % 256) 0) (Ok bs) (Err (BadSum n)) (Err e) shape.1) [
            | inl right ↦ let b = right.1 in cc
            | inr bad ↦ let b = bad.1 in let same : BadSum n ≡ e = cc in inr (sym same, (bs, refl, shape.0, λ s. false≢true (sym bad.0 ∙ eq-eqb (sum bs % 256) 0 s)))
          ]
      | inr bad ↦ let b = bad.1 in let same : BadLine n ≡ e = cc in inl (sym same, λ cs o f. false≢true (sym bad.0 ∙ ap is_record (same_Some {A = List ℕ} bs cs o) ∙ f))
    ]

abbrev Formless : List ℕ → Type 0
Formless line = (bytes : List ℕ) → HasForm line bytes → ⊥

abbrev WrongSum : List ℕ → Type 0
WrongSum line = (bytes : List ℕ) × HasForm line bytes × (sum bytes % 256 ≢ 0)

no_nil : (c : ℕ) (cs : List ℕ) → c ∷ cs ≢ []
no_nil c cs e = let l : suc (length cs) ≡ 0 = ap length e in omega arith

abbrev first : List ℕ → ℕ
first [] = 0
first (x ∷ xs) = x

abbrev rest : List ℕ → List ℕ
rest [] = []
rest (x ∷ xs) = xs

record_err : (n : ℕ) (line : List ℕ) (e : RecFault) → record_of n line ≡ Err e → ((e ≡ BadLine n) × Formless line) ⊎ ((e ≡ BadSum n) × WrongSum line)
record_err n [] e h = let same : BadLine n ≡ e = cc in inl (sym same, λ bytes f. let l : 0 ≡ suc (length f.digits) = ap length f.colon in omega arith)
record_err n (c ∷ digits) e h =
    elim (chosen (eqb c 58) (checked n (bytes_of digits)) (Err (BadLine n)) (Err e) h) [
      | inl is ↦
          elim (checked_err n (bytes_of digits) e is.1) [
            | inl bad ↦ inl (bad.0, λ bytes f. bad.1 bytes (ap bytes_of (ap rest f.colon) ∙ f.spelled) f.form)
            | inr bad ↦
                let (same, (bs, o, f, s)) = bad in
                inr (same, (bs, record { digits = digits; colon = ap (λ x. x ∷ digits) (eqb-true c 58 is.0); spelled = o; form = f }, s))
          ]
      | inr bad ↦
          let b = bad.1 in
          let same : BadLine n ≡ e = cc in
          inl (sym same, λ bytes f. false≢true (sym bad.0 ∙ eq-eqb c 58 (ap first f.colon)))
    ]

-- ------ a refusal of one record
with_map_err : (s : State) (r : Result ByteMap RecFault) (e : RecFault) → with_map s r ≡ Err e → r ≡ Err e
with_map_err s (Ok m) e h = cc
with_map_err s (Err d) e h = let same : d ≡ e = cc in ap Err same

-- the bytes of a data line differ where it differs
meets_differs : (line bytes : List ℕ) (base : Base) (m : ByteMap) (a : ℕ) → IsRecord line bytes → Meets m (address base (offset_of bytes)) (data_of bytes) a → Differs m base bytes a
meets_differs line bytes base m a r d =
    let (k, b, old, l, at, i, o, n) = d in
    let size = data_size line bytes r in
    let lt : k < get_or bytes 0 0 = omega arith in
    (k, b, old, lt, at, sym (data_at bytes k lt) ∙ i, o, n)

differs_meets : (line bytes : List ℕ) (base : Base) (m : ByteMap) (a : ℕ) → IsRecord line bytes → Differs m base bytes a → Meets m (address base (offset_of bytes)) (data_of bytes) a
differs_meets line bytes base m a r d =
    let (k, b, old, l, at, i, o, n) = d in
    let size = data_size line bytes r in
    let lt : k < length (data_of bytes) = omega arith in
    (k, b, old, lt, at, data_at bytes k l ∙ i, o, n)

lowest_data : (line bytes : List ℕ) (base : Base) (m : ByteMap) (a : ℕ) → IsRecord line bytes → IsLowest (Meets m (address base (offset_of bytes)) (data_of bytes)) (Some a) → IsLowest (Differs m base bytes) (Some a)
lowest_data line bytes base m a r h = (meets_differs line bytes base m a r h.0, λ b l d. h.1 b l (differs_meets line bytes base m b r d))

stands : (done : List (List ℕ)) (base : Base) (m : ByteMap) → AreRecords done → Holding done base m → Stands done m
stands done base m good h = record { records = good; given = h.given; all = h.all }

other_kind : (k : ℕ) (s : State) (x y : Base) (a : Result State RecFault) (e : RecFault) → (k ≡ 0 → ⊥)
    → ◌≡◌ {A = Result State RecFault} (cond (eqb k 0) a (cond (eqb k 1) (Ok (record s { ended = true })) (cond (eqb k 2) (Ok (record s { base = x })) (cond (eqb k 4) (Ok (record s { base = y })) (Ok s))))) (Err e) → ⊥
other_kind k s x y a e ne h =
    let z : eqb k 0 ≡ false = ne_eqb k 0 ne in
    elim (cases_Bool (eqb k 1)) [
      | inl one ↦ let q = rw (z, one) at h in cc
      | inr one ↦ elim (cases_Bool (eqb k 2)) [
        | inl two ↦ let q = rw (z, one, two) at h in cc
        | inr two ↦ elim (cases_Bool (eqb k 4)) [
          | inl four ↦ let q = rw (z, one, two, four) at h in cc
          | inr four ↦ let q = rw (z, one, two, four) at h in cc
        ]
      ]
    ]

data_part : (s : State) (bytes : List ℕ) → kind_of bytes ≡ 0 → applied s bytes ≡ with_map s (put_line s.spans s.base (offset_of bytes) (data_of bytes))
data_part s bytes k = rw (eq-eqb (kind_of bytes) 0 k) refl

applied_err : (done : List (List ℕ)) (line bytes : List ℕ) (s : State) (e : RecFault) → AreRecords done → Holding done s.base s.spans → IsRecord line bytes → applied s bytes ≡ Err e → IsWrong e done line
applied_err done line bytes s e good h r is =
    elim (cases_Bool (eqb (kind_of bytes) 0)) [
      | inr other ↦
          absurd (other_kind (kind_of bytes) s (Segment (value_of bytes * 16)) (Linear (value_of bytes * 65536)) (with_map s (put_line s.spans s.base (offset_of bytes) (data_of bytes))) e
          (λ k. false≢true (sym other ∙ eq-eqb (kind_of bytes) 0 k)) is)
      | inl data_line ↦
          let kind : kind_of bytes ≡ 0 = eqb-true (kind_of bytes) 0 data_line in
          let b0 = small line bytes 0 r in
          let b1 = small line bytes 1 r in
          let b2 = small line bytes 2 r in
          let size = data_size line bytes r in
          let put = with_map_err s (put_line s.spans s.base (offset_of bytes) (data_of bytes)) e (sym (data_part s bytes kind) ∙ is) in
          let (a, same, low) = line_err s.spans s.base (offset_of bytes) (data_of bytes) e h.bounded (omega arith) (omega arith) put in
          subst (λ d. IsWrong d done line) (sym same)
          (s.spans, stands done s.base s.spans good h, (bytes, s.base, r, kind, h.based, lowest_data line bytes s.base s.spans a r low))
    ]

-- ------ along the lines
abbrev Refused : List (List ℕ) → List (List ℕ) → RecFault → Type 0
Refused done ls e =
    ((e ≡ NoEnd) × AreRight (done ++ ls))
    ⊎ ((front : List (List ℕ)) × (line : List ℕ) × (back : List (List ℕ)) × (ls ≡ front ++ line ∷ back) × IsWrong e (done ++ front) line)

one_later : (done : List (List ℕ)) (line : List ℕ) (more : List (List ℕ)) (e : RecFault) → Refused (done ++ (line ∷ [])) more e → Refused done (line ∷ more) e
one_later done line more e (inl none) = inl (none.0, subst AreRight (append_assoc done (line ∷ []) more) none.1)
one_later done line more e (inr wrong) =
    let (front, l, back, parts, is) = wrong in
    inr (line ∷ front, l, back, ap (λ t. line ∷ t) parts, subst (λ t. IsWrong e t l) (append_assoc done (line ∷ []) front) is)

here : (done : List (List ℕ)) (line : List ℕ) (more : List (List ℕ)) (e : RecFault) → IsWrong e done line → Refused done (line ∷ more) e
here done line more e is = inr ([], line, more, refl, subst (λ t. IsWrong e t line) (sym (append-nil done)) is)

length-push : (done : List (List ℕ)) (line : List ℕ) (n : ℕ) → n ≡ length done → n + 1 ≡ length (done ++ (line ∷ []))
length-push done line n e = let s : length (done ++ (line ∷ [])) ≡ length done + 1 = length-append done (line ∷ []) in omega arith

-- one record more that is right
abbrev IsGood : List ℕ → Type 0
IsGood line = (line ≡ []) ⊎ ((bytes : List ℕ) × IsRecord line bytes × (kind_of bytes ≢ 1))

good_push : (done : List (List ℕ)) (line : List ℕ) → AreRecords done → IsGood line → AreRecords (done ++ (line ∷ []))
good_push [] line good is = (is, tt)
good_push (x ∷ done) line good is = (good.0, good_push done line good.1 is)

-- what an end leaves for the lines behind it
abbrev Ended : List (List ℕ) → List ℕ → List (List ℕ) → Type 0
Ended early last empty = AreRight early × ((bytes : List ℕ) × IsRecord last bytes × (kind_of bytes ≡ 1)) × AreEmpty empty

empty_push : (es : List (List ℕ)) → AreEmpty es → AreEmpty (es ++ ([] ∷ []))
empty_push [] h = (refl, tt)
empty_push (x ∷ es) h = (h.0, empty_push es h.1)

after_end : (early : List (List ℕ)) (last : List ℕ) (empty : List (List ℕ)) (t : State) (n : ℕ) (ls : List (List ℕ)) (e : RecFault) → t.ended ≡ true → Ended early last empty
    → n ≡ length (early ++ last ∷ empty) → read_from t n ls ≡ Err e → Refused (early ++ last ∷ empty) ls e
after_end early last empty t n [] e f h k is = let x = rw f at is in cc
after_end early last empty t n ([] ∷ more) e f h k is =
    let longer : (early ++ last ∷ empty) ++ ([] ∷ []) ≡ early ++ last ∷ (empty ++ ([] ∷ [])) = append_assoc early (last ∷ empty) ([] ∷ []) in
    one_later (early ++ last ∷ empty) [] more e
    (subst (λ d. Refused d more e) (sym longer)
    (after_end early last (empty ++ ([] ∷ [])) t (n + 1) more e f (h.0, h.1, empty_push empty h.2) (length-push (early ++ last ∷ empty) [] n k ∙ ap length longer) is))
after_end early last empty t n ((c ∷ cs) ∷ more) e f h k is =
    elim (bind_err (step t (n + 1) (c ∷ cs)) (λ u. read_from u (n + 1) more) e is) [
      | inl one ↦
          let says = sym (ap (λ b. cond b (Err (AfterEnd (n + 1))) (record_of (n + 1) (c ∷ cs) >>= applied t)) f) ∙ one in
          let same : AfterEnd (n + 1) ≡ e = err_same {A = State} (AfterEnd (n + 1)) e says in
          let place : n + 1 ≡ length (early ++ last ∷ empty) + 1 = omega arith in
          here (early ++ last ∷ empty) (c ∷ cs) more e (subst (λ d. IsWrong d (early ++ last ∷ empty) (c ∷ cs)) same (place, no_nil c cs, (early, last, empty, refl, h.0, h.1, h.2)))
      | inr two ↦
          let says = sym (ap (λ b. cond b (Err (AfterEnd (n + 1))) (record_of (n + 1) (c ∷ cs) >>= applied t)) f) ∙ two.1 in
          cc
    ]

-- a refusal has its cause
refused : (done : List (List ℕ)) (s : State) (n : ℕ) (ls : List (List ℕ)) (e : RecFault) → s.ended ≡ false → Holding done s.base s.spans → AreRecords done → n ≡ length done
    → read_from s n ls ≡ Err e → Refused done ls e
refused done s n [] e f h good k is =
    let same : NoEnd ≡ e = err_same {A = ByteMap} NoEnd e (rw f at is) in
    inl (sym same, (s.spans, subst (λ d. Stands d s.spans) (sym (append-nil done)) (stands done s.base s.spans good h)))
refused done s n ([] ∷ more) e f h good k is =
    one_later done [] more e (refused (done ++ ([] ∷ [])) s (n + 1) more e f (hold_empty done s.base s.spans h) (good_push done [] good (inl refl)) (length-push done [] n k) is)
refused done s n ((c ∷ cs) ∷ more) e f h good k is =
    let place : n + 1 ≡ length done + 1 = omega arith in
    let right : AreRight done = (s.spans, stands done s.base s.spans good h) in
    let not_ended = ap (λ b. cond b (Err (AfterEnd (n + 1))) (record_of (n + 1) (c ∷ cs) >>= applied s)) f in
    elim (bind_err (step s (n + 1) (c ∷ cs)) (λ u. read_from u (n + 1) more) e is) [
      | inl one ↦
          elim (bind_err (record_of (n + 1) (c ∷ cs)) (applied s) e (sym not_ended ∙ one)) [
            | inl bad ↦
                elim (record_err (n + 1) (c ∷ cs) e bad) [
                  | inl formless ↦ here done (c ∷ cs) more e (subst (λ d. IsWrong d done (c ∷ cs)) (sym formless.0) (place, right, no_nil c cs, formless.1))
                  | inr sums ↦ here done (c ∷ cs) more e (subst (λ d. IsWrong d done (c ∷ cs)) (sym sums.0) (place, right, sums.1))
                ]
            | inr got ↦ here done (c ∷ cs) more e (applied_err done (c ∷ cs) got.0 s e good h (record_ok (n + 1) (c ∷ cs) got.0 got.1) got.2)
          ]
      | inr two ↦
          let (t, a, b) = two in
          let (bytes, ok, d) = bind_ok (record_of (n + 1) (c ∷ cs)) (applied s) t (sym not_ended ∙ a) in
          let r = record_ok (n + 1) (c ∷ cs) bytes ok in
          one_later done (c ∷ cs) more e
          (elim (applied_ended s t bytes d) [
            | inl last ↦ after_end done (c ∷ cs) [] t (n + 1) more e last.1 (right, (bytes, r, last.0), tt) (length-push done (c ∷ cs) n k) b
            | inr other ↦
                refused (done ++ ((c ∷ cs) ∷ [])) t (n + 1) more e (other.1 ∙ f) (hold_record done (c ∷ cs) bytes s t h r d) (good_push done (c ∷ cs) good (inr (bytes, r, other.0))) (length-push done (c ∷ cs) n k) b
          ])
    ]

pub refused_text : (text : List ℕ) (e : RecFault) → reading_of text ≡ Err e → IsRefused text e
refused_text text e is = refused [] _ 0 (lines text) e refl nothing_given tt refl is

-- ------ what is wrong is refused
form_of : (line bytes : List ℕ) → IsRecord line bytes → HasForm line bytes
form_of line bytes r = record { digits = r.digits; colon = r.colon; spelled = r.spelled; form = r.form }

same_form : (line bytes more : List ℕ) → HasForm line bytes → HasForm line more → bytes ≡ more
same_form line bytes more r s =
    let d : r.digits ≡ s.digits = ap rest (sym r.colon ∙ s.colon) in
    same_Some {A = List ℕ} bytes more (sym r.spelled ∙ ap bytes_of d ∙ s.spelled)

formless_result : (n : ℕ) (line : List ℕ) (r : Result (List ℕ) RecFault) → record_of n line ≡ r → Formless line → r ≡ Err (BadLine n)
formless_result n line (Ok got) is none = absurd (none got (form_of line got (record_ok n line got is)))
formless_result n line (Err d) is none =
    elim (record_err n line d is) [
      | inl bad ↦ ap Err bad.0
      | inr bad ↦ let (bytes, f, s) = bad.1 in absurd (none bytes f)
    ]

sum_result : (n : ℕ) (line : List ℕ) (r : Result (List ℕ) RecFault) → record_of n line ≡ r → WrongSum line → r ≡ Err (BadSum n)
sum_result n line (Ok got) is wrong =
    let (bytes, f, s) = wrong in
    let r = record_ok n line got is in
    absurd (s (ap (λ l. sum l % 256) (same_form line bytes got f (form_of line got r)) ∙ r.checked))
sum_result n line (Err d) is wrong =
    elim (record_err n line d is) [
      | inl bad ↦ let (bytes, f, s) = wrong in absurd (bad.1 bytes f)
      | inr bad ↦ ap Err bad.0
    ]

some_line : (line bytes : List ℕ) → HasForm line bytes → line ≢ []
some_line line bytes f e = let l : suc (length f.digits) ≡ 0 = ap length (sym f.colon ∙ e) in omega arith

by_line : (t : State) (k : ℕ) (line : List ℕ) (back : List (List ℕ)) (e : RecFault) → t.ended ≡ false → (line ≢ []) → (record_of (k + 1) line >>= applied t) ≡ Err e → read_from t k (line ∷ back) ≡ Err e
by_line t k [] back e f some is = absurd (some refl)
by_line t k (c ∷ cs) back e f some is =
    ap (λ b. cond b (Err (AfterEnd (k + 1))) (record_of (k + 1) (c ∷ cs) >>= applied t) >>= λ u. read_from u (k + 1) back) f ∙ ap (λ q. q >>= λ u. read_from u (k + 1) back) is

abbrev begun : State
begun = record { base = Linear 0; ended = false; spans = empty }

-- reading comes to what stands behind lines that are right
come : (front more : List (List ℕ)) (m : ByteMap) → Stands front m → Behind [] front more begun 0
come front more m st = follow [] front more begun 0 m refl nothing_given st.records st.all

same_spans : (front : List (List ℕ)) (base : Base) (m new : ByteMap) → Holding front base new → Stands front m → new ≡ m
same_spans front base m new h st =
    same_map nat_cmp_total nat_cmp-IsAntisymmetric _ _ (λ q. same_options (get new q) (get m q) (λ b e. st.all q b (h.given q b e)) (λ b e. h.all q b (st.given q b e)))

line_result : (front : List (List ℕ)) (line bytes : List ℕ) (m : ByteMap) (base : Base) (a : ℕ) (r : Result ByteMap RecFault) → put_line m base (offset_of bytes) (data_of bytes) ≡ r → Holding front base m → IsRecord line bytes
    → IsLowest (Differs m base bytes) (Some a) → r ≡ Err (Conflict a)
line_result front line bytes m base a (Ok new) is h r low =
    let b0 = small line bytes 0 r in
    let b1 = small line bytes 1 r in
    let b2 = small line bytes 2 r in
    let size = data_size line bytes r in
    absurd (line_free m new base (offset_of bytes) (data_of bytes) a h.bounded (omega arith) (omega arith) is (differs_meets line bytes base m a r low.0))
line_result front line bytes m base a (Err e) is h r low =
    let b0 = small line bytes 0 r in
    let b1 = small line bytes 1 r in
    let b2 = small line bytes 2 r in
    let size = data_size line bytes r in
    let (c, same, lowest) = line_err m base (offset_of bytes) (data_of bytes) e h.bounded (omega arith) (omega arith) is in
    ap Err same ∙ ap (λ x. Err (Conflict x)) (one_lowest (Differs m base bytes) c a (lowest_data line bytes base m c r lowest) low)

-- past an end
end_passed : (s : State) (n : ℕ) (last bytes : List ℕ) (more : List (List ℕ)) → s.ended ≡ false → IsRecord last bytes → kind_of bytes ≡ 1
    → read_from s n (last ∷ more) ≡ read_from (record s { ended = true }) (n + 1) more
end_passed s n last bytes more f r k =
    let done : applied s bytes ≡ Ok (record s { ended = true }) = rw (ne_eqb (kind_of bytes) 0 (λ e. omega arith), eq-eqb (kind_of bytes) 1 k) refl in
    ap (λ q. q >>= λ u. read_from u (n + 1) more) (stepped s (record s { ended = true }) (n + 1) last bytes f r done)

blanks_passed : (t : State) (n : ℕ) (blanks more : List (List ℕ)) → AreEmpty blanks → read_from t n (blanks ++ more) ≡ read_from t (n + length blanks) more
blanks_passed t n [] more h = let z : n ≡ n + 0 = omega arith in ap (λ k. read_from t k more) z
blanks_passed t n (x ∷ blanks) more h =
    let z : n + 1 + length blanks ≡ n + length (x ∷ blanks) = omega arith in
    ap (λ l. read_from t n (l ∷ (blanks ++ more))) h.0 ∙ blanks_passed t (n + 1) blanks more h.1 ∙ ap (λ k. read_from t k more) z

too_late : (t : State) (n : ℕ) (line : List ℕ) (back : List (List ℕ)) → t.ended ≡ true → (line ≢ []) → read_from t n (line ∷ back) ≡ Err (AfterEnd (n + 1))
too_late t n [] back f some = absurd (some refl)
too_late t n (c ∷ cs) back f some = ap (λ b. cond b (Err (AfterEnd (n + 1))) (record_of (n + 1) (c ∷ cs) >>= applied t) >>= λ u. read_from u (n + 1) back) f

wrong : (e : RecFault) (front : List (List ℕ)) (line : List ℕ) (back : List (List ℕ)) → IsWrong e front line → read_from begun 0 (front ++ line ∷ back) ≡ Err e
wrong (BadLine n) front line back w =
    let (place, right, some, none) = w in
    let go = come front (line ∷ back) right.0 right.1 in
    let number : go.1 + 1 ≡ n = (let k = go.5 in omega arith) in
    go.4 ∙ by_line go.0 go.1 line back (BadLine n) go.2 some (ap (λ q. q >>= applied go.0) (formless_result (go.1 + 1) line (record_of (go.1 + 1) line) refl none) ∙ ap (λ k. Err (BadLine k)) number)
wrong (BadSum n) front line back w =
    let (place, right, sums) = w in
    let (bytes, f, s) = sums in
    let go = come front (line ∷ back) right.0 right.1 in
    let number : go.1 + 1 ≡ n = (let k = go.5 in omega arith) in
    go.4
    ∙ by_line go.0 go.1 line back (BadSum n) go.2 (some_line line bytes f)
    (ap (λ q. q >>= applied go.0) (sum_result (go.1 + 1) line (record_of (go.1 + 1) line) refl sums) ∙ ap (λ k. Err (BadSum k)) number)
wrong (BadCount said seen) front line back w = absurd w
wrong (AfterEnd n) front line back w =
    let (place, some, (early, last, blanks, parts, right, (bytes, r, one), nothing)) = w in
    let go = come early (last ∷ (blanks ++ line ∷ back)) right.0 right.1 in
    let t : State = record go.0 { ended = true } in
    let size : length front ≡ length early + length (last ∷ blanks) = ap length parts ∙ length-append early (last ∷ blanks) in
    let number : go.1 + 1 + length blanks + 1 ≡ n = (let k = go.5 in omega arith) in
    ap (λ l. read_from begun 0 (l ++ line ∷ back)) parts
    ∙ ap (read_from begun 0) (append_assoc early (last ∷ blanks) (line ∷ back))
    ∙ go.4
    ∙ end_passed go.0 go.1 last bytes (blanks ++ line ∷ back) go.2 r one
    ∙ blanks_passed t (go.1 + 1) blanks (line ∷ back) nothing
    ∙ too_late t (go.1 + 1 + length blanks) line back refl some
    ∙ ap (λ k. Err (AfterEnd k)) number
wrong (Conflict a) front line back w =
    let (m, st, (bytes, base, r, kind, based, low)) = w in
    let go = come front (line ∷ back) m st in
    let same : go.0.spans ≡ m = same_spans front go.0.base m go.0.spans go.3 st in
    let same_base : go.0.base ≡ base = one_base front go.0.base base go.3.based based in
    let low' : IsLowest (Differs go.0.spans go.0.base bytes) (Some a) = subst (λ q. IsLowest (Differs q go.0.base bytes) (Some a)) (sym same) (subst (λ q. IsLowest (Differs m q bytes) (Some a)) (sym same_base) low) in
    go.4
    ∙ by_line go.0 go.1 line back (Conflict a) go.2 (some_line line bytes (form_of line bytes r))
    (ap (λ q. q >>= applied go.0) (record_is (go.1 + 1) line bytes r)
    ∙ data_part go.0 bytes kind
    ∙ ap (with_map go.0) (line_result front line bytes go.0.spans go.0.base a (put_line go.0.spans go.0.base (offset_of bytes) (data_of bytes)) refl go.3 r low'))
wrong NoEnd front line back w = absurd w
wrong NoMemory front line back w = absurd w

pub refuses_text : (text : List ℕ) (e : RecFault) → IsRefused text e → reading_of text ≡ Err e
refuses_text text e (inl none) =
    let go = come (lines text) [] none.1.0 none.1.1 in
    ap (read_from begun 0) (sym (append-nil (lines text))) ∙ go.4 ∙ ap (λ b. cond b (Ok go.0.spans) (Err NoEnd)) go.2 ∙ ap Err (sym none.0)
refuses_text text e (inr is) =
    let (front, line, back, parts, w) = is in
    ap (read_from begun 0) parts ∙ wrong e front line back w
