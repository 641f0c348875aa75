-- The shape of a text that is read.
use Rattle.std.proofs.Common.{◌≡◌, ℕ, ◌+◌, ◌⊎◌, List, [], ◌∷◌, ◌++◌, Bool, true, false, cond, eqb, get_or, sum, ◌%◌, Option, Some, None, Result, Ok, Err, refl, sym, ap, ◌∙◌, inl, inr, arith}
use Rattle.std.specs.Prelude.{◌≢◌}
use Rattle.std.proofs.lemmas.Bool.{cases_Bool, eqb-true, eq-eqb}
use Rattle.span_store.specs.ByteMap.{ByteMap}
use Rattle.rec_text.specs.Lines.{lines}
use Rattle.rec_text.specs.Digits.{bytes_of}
use Rattle.rec_text.specs.Putting.{◌>>=◌}
use Rattle.hex_rec.specs.Record.{is_record, checked, record_of}
use Rattle.hex_rec.specs.Reading.{step, applied, with_map, read_from, reading_of}
use Rattle.hex_rec.specs.HexText.{IsRecord, kind_of, AreRecords, AreEmpty, HasShape}
use Rattle.hex_rec.specs.declared.reading.State.{State}
use Rattle.rec_text.specs.declared.fault.RecFault.{RecFault}
use Rattle.rec_text.specs.declared.fault.RecFault.TheVariants.{AfterEnd, BadLine, BadSum}

pub chosen : {A : Type 0} (b : Bool) (x y z : A) → cond b x y ≡ z → ((b ≡ true) × (x ≡ z)) ⊎ ((b ≡ false) × (y ≡ z))
chosen true x y z e = inl (refl, e)
chosen false x y z e = inr (refl, e)

pub bind_ok : {A B : Type 0} (r : Result A RecFault) (f : A → Result B RecFault) (y : B) → (r >>= f) ≡ Ok y → (x : A) × (r ≡ Ok x) × (f x ≡ Ok y)
bind_ok (Ok x) f y e = (x, refl, e)
bind_ok (Err d) f y e = cc

checked_ok : (n : ℕ) (o : Option (List ℕ)) (bytes : List ℕ) → checked n o ≡ Ok bytes → (o ≡ Some bytes) × (is_record bytes ≡ true) × (sum bytes % 256 ≡ 0)
checked_ok n None bytes e = cc
checked_ok n (Some bs) bytes e =
    elim (chosen (is_record bs) (cond (eqb (sum bs % 256) 0) (Ok bs) (Err (BadSum n))) (Err (BadLine n)) (Ok bytes) e) [
      | inl form ↦
          elim (chosen (eqb (sum bs % 256) 0) (Ok bs) (Err (BadSum n)) (Ok bytes) form.1) [
            | inl whole ↦ let same : bs ≡ bytes = let w = whole.1 in cc in (ap Some same, ap is_record (sym same) ∙ form.0, ap (λ l. sum l % 256) (sym same) ∙ eqb-true (sum bs % 256) 0 whole.0)
            | inr bad ↦ let b = bad.1 in cc
          ]
      | inr bad ↦ let b = bad.1 in cc
    ]

pub record_ok : (n : ℕ) (line bytes : List ℕ) → record_of n line ≡ Ok bytes → IsRecord line bytes
record_ok n [] bytes e = cc
record_ok n (c ∷ digits) bytes e =
    elim (chosen (eqb c 58) (checked n (bytes_of digits)) (Err (BadLine n)) (Ok bytes) e) [
      | inl colon ↦
          let (s, f, t) = checked_ok n (bytes_of digits) bytes colon.1 in
          record { digits = digits; colon = ap (λ x. x ∷ digits) (eqb-true c 58 colon.0); spelled = s; form = f; checked = t }
      | inr bad ↦ let b = bad.1 in cc
    ]

with_map_ended : (s t : State) (r : Result ByteMap RecFault) → with_map s r ≡ Ok t → t.ended ≡ s.ended
with_map_ended s t (Ok m) e = cc
with_map_ended s t (Err d) e = cc

same_state : (x t : State) → ◌≡◌ {A = Result State RecFault} (Ok x) (Ok t) → t.ended ≡ x.ended
same_state x t e = let y : x ≡ t = cc in sym (ap (λ (q : State). q.ended) y)

ladder : (k : ℕ) (s t b c : State) (a : Result State RecFault) → ◌≡◌ {A = Result State RecFault} (cond (eqb k 0) a (cond (eqb k 1) (Ok (record s { ended = true })) (cond (eqb k 2) (Ok b) (cond (eqb k 4) (Ok c) (Ok s))))) (Ok t)
    → (a ≡ Ok t → t.ended ≡ s.ended) → b.ended ≡ s.ended → c.ended ≡ s.ended → ((k ≡ 1) × (t.ended ≡ true)) ⊎ ((k ≢ 1) × (t.ended ≡ s.ended))
ladder k s t b c a e ha hb hc =
    elim (cases_Bool (eqb k 0)) [
      | inl z ↦ inr (λ p. let q = eqb-true k 0 z in omega arith, ha (rw z at e))
      | inr z ↦
          elim (cases_Bool (eqb k 1)) [
            | inl o ↦ inl (eqb-true k 1 o, same_state (record s { ended = true }) t (rw (z, o) at e))
            | inr o ↦
                inr (
                  λ p. let q = eq-eqb k 1 p in cc,
                  elim (cases_Bool (eqb k 2)) [
                    | inl w ↦ same_state b t (rw (z, o, w) at e) ∙ hb
                    | inr w ↦
                        elim (cases_Bool (eqb k 4)) [
                          | inl v ↦ same_state c t (rw (z, o, w, v) at e) ∙ hc
                          | inr v ↦ same_state s t (rw (z, o, w, v) at e)
                        ]
                  ],
                )
          ]
    ]

pub applied_ended : (s t : State) (bytes : List ℕ) → applied s bytes ≡ Ok t → ((kind_of bytes ≡ 1) × (t.ended ≡ true)) ⊎ ((kind_of bytes ≢ 1) × (t.ended ≡ s.ended))
applied_ended s t bytes e = ladder (get_or bytes 3 0) s t _ _ _ e (λ h. with_map_ended s t _ h) refl refl

pub nothing_after : (t : State) (n : ℕ) (ls : List (List ℕ)) (m : ByteMap) → t.ended ≡ true → read_from t n ls ≡ Ok m → AreEmpty ls
nothing_after t n [] m f e = tt
nothing_after t n ([] ∷ more) m f e = (refl, nothing_after t (n + 1) more m f e)
nothing_after t n ((c ∷ cs) ∷ more) m f e =
    let (u, a, b) = bind_ok (step t (n + 1) (c ∷ cs)) (λ u. read_from u (n + 1) more) m e in
    elim (chosen t.ended (Err (AfterEnd (n + 1))) (record_of (n + 1) (c ∷ cs) >>= applied t) (Ok u) a) [
      | inl x ↦ let y = x.1 in cc
      | inr x ↦ let y = x.0 in cc
    ]

-- the parts of the lines
abbrev pub Parts : List (List ℕ) → Type 0
Parts ls = (front : List (List ℕ)) × (last : List ℕ) × (back : List (List ℕ)) × (ls ≡ front ++ last ∷ back) × AreRecords front × ((bytes : List ℕ) × IsRecord last bytes × (kind_of bytes ≡ 1)) × AreEmpty back

pub parts : (s : State) (n : ℕ) (ls : List (List ℕ)) (m : ByteMap) → s.ended ≡ false → read_from s n ls ≡ Ok m → Parts ls
parts s n [] m f e = let x = rw f at e in cc
parts s n ([] ∷ more) m f e =
    let (front, last, back, whole, records, ends, nothing) = parts s (n + 1) more m f e in
    ([] ∷ front, last, back, ap (λ l. [] ∷ l) whole, (inl refl, records), ends, nothing)
parts s n ((c ∷ cs) ∷ more) m f e =
    let (t, a, rest) = bind_ok (step s (n + 1) (c ∷ cs)) (λ u. read_from u (n + 1) more) m e in
    elim (chosen s.ended (Err (AfterEnd (n + 1))) (record_of (n + 1) (c ∷ cs) >>= applied s) (Ok t) a) [
      | inl x ↦ let y = x.0 in cc
      | inr x ↦
          let (bytes, r, d) = bind_ok (record_of (n + 1) (c ∷ cs)) (applied s) t x.1 in
          elim (applied_ended s t bytes d) [
            | inl last ↦ ([], c ∷ cs, more, refl, tt, (bytes, record_ok (n + 1) (c ∷ cs) bytes r, last.0), nothing_after t (n + 1) more m last.1 rest)
            | inr other ↦
                let (front, last, back, whole, records, ends, nothing) = parts t (n + 1) more m (other.1 ∙ f) rest in
                ((c ∷ cs) ∷ front, last, back, ap (λ l. (c ∷ cs) ∷ l) whole, (inr (bytes, record_ok (n + 1) (c ∷ cs) bytes r, other.0), records), ends, nothing)
          ]
    ]

pub shape : (text : List ℕ) (m : ByteMap) → reading_of text ≡ Ok m → HasShape text
shape text m e =
    let (front, last, back, whole, records, ends, nothing) = parts _ 0 (lines text) m refl e in
    record { front = front; last = last; back = back; parts = whole; records = records; ends = ends; nothing = nothing }
