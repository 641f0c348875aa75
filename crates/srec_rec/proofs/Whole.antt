-- A text is read exactly where the whole-text relation holds.
use Rattle.std.proofs.Common.{suc, ◌≡◌, ℕ, ◌+◌, ◌-◌, ◌%◌, ◌<◌, ◌≤◌, ◌⊎◌, ◌&&◌, List, [], ◌∷◌, ◌++◌, length, drop, get_or, min, sum, Bool, true, false, cond, eqb, Option, Some, None, Result, Ok, Err, refl, sym, ap, ◌∙◌, subst, inl, inr, arith, append_assoc, length-take, length-drop, length-append}
use Rattle.std.specs.Prelude.{nat_le, nat_eq}
use Rattle.std.proofs.lemmas.Bool.{cases_lt, cases_Bool, eqb-true, eq-eqb, leb-true, le-leb, lt-leb, false≢true}
use Rattle.std.proofs.lemmas.Option.{same_Some}
use Rattle.std.specs.List.{slice_get}
use Rattle.std.specs.FinMap.{get}
use Rattle.span_store.specs.ByteMap.{ByteMap}
use Rattle.span_store.proofs.Pieces.{slice_get-drop}
use Rattle.span_store.proofs.Settled.{slice_get-take}
use Rattle.rec_text.specs.Digits.{bytes_of}
use Rattle.rec_text.specs.Putting.{◌>>=◌, putting}
use Rattle.rec_text.specs.declared.fault.RecFault.{RecFault}
use Rattle.rec_text.specs.declared.fault.RecFault.TheVariants.{BadLine, BadSum, BadCount}
use Rattle.rec_text.proofs.Adds.{putting_adds, some_below}
use Rattle.srec_rec.specs.Record.{is_record, width, number_at, size_of, checked, record_of}
use Rattle.srec_rec.specs.Reading.{with_map, data_of, applied}
use Rattle.srec_rec.specs.SrecText.{IsRecord, IsData, Counts, Gives}
use Rattle.srec_rec.specs.declared.reading.State.{State}
use Rattle.srec_rec.proofs.Records.{form}

pub chosen : {A : Type 0} (b : Bool) (x y z : A) → cond b x y ≡ z → ((b ≡ true) × (x ≡ z)) ⊎ ((b ≡ false) × (y ≡ z))
chosen true x y z e = inl (refl, e)
chosen false x y z e = inr (refl, e)

pub bind_ok : {A B : Type 0} (r : Result A RecFault) (f : A → Result B RecFault) (y : B) → (r >>= f) ≡ Ok y → (x : A) × (r ≡ Ok x) × (f x ≡ Ok y)
bind_ok (Ok x) f y e = (x, refl, e)
bind_ok (Err d) f y e = cc

-- ------ the record of a line
and_both : (a b : Bool) → (a && b) ≡ true → (a ≡ true) × (b ≡ true)
and_both true b h = (refl, h)
and_both false b h = absurd (false≢true h)

pair_same : (kind : ℕ) (bs : List ℕ) (r : ℕ × List ℕ) → ◌≡◌ {A = Result (ℕ × List ℕ) RecFault} (Ok (kind, bs)) (Ok r) → ◌≡◌ {A = ℕ × List ℕ} (kind, bs) r
pair_same kind bs r e = cc

checked_ok : (n kind : ℕ) (o : Option (List ℕ)) (r : ℕ × List ℕ) → checked n kind o ≡ Ok r → (o ≡ Some r.1) × (is_record kind r.1 ≡ true) × (sum r.1 % 256 ≡ 255) × (kind ≡ r.0)
checked_ok n kind None r e = cc
checked_ok n kind (Some bs) r e =
    elim (chosen (is_record kind bs) (cond (eqb (sum bs % 256) 255) (Ok (kind, bs)) (Err (BadSum n))) (Err (BadLine n)) (Ok r) e) [
      | inl shape ↦
          elim (chosen (eqb (sum bs % 256) 255) (Ok (kind, bs)) (Err (BadSum n)) (Ok r) shape.1) [
            | inl whole ↦
                let same : (kind, bs) ≡ r = pair_same kind bs r whole.1 in
                let second : bs ≡ r.1 = ap (λ (p : ℕ × List ℕ). p.1) same in
                (ap Some second, ap (is_record kind) (sym second) ∙ shape.0, ap (λ l. sum l % 256) (sym second) ∙ eqb-true (sum bs % 256) 255 whole.0, ap (λ (p : ℕ × List ℕ). p.0) same)
            | inr bad ↦ let b = bad.1 in cc
          ]
      | inr bad ↦ let b = bad.1 in cc
    ]

pub record_ok : (n : ℕ) (line : List ℕ) (r : ℕ × List ℕ) → record_of n line ≡ Ok r → IsRecord line r.0 r.1
record_ok n [] r e = cc
record_ok n (c ∷ []) r e = cc
record_ok n (c ∷ k ∷ digits) r e =
    elim (chosen (nat_eq c 83 && nat_le 48 k) (checked n (k - 48) (bytes_of digits)) (Err (BadLine n)) (Ok r) e) [
      | inl is ↦
          let both = and_both (nat_eq c 83) (nat_le 48 k) is.0 in
          let (s, f, t, kind) = checked_ok n (k - 48) (bytes_of digits) r is.1 in
          let letter : c ≡ 83 = eqb-true c 83 both.0 in
          let least : 48 ≤ k = leb-true 48 k both.1 in
          let digit : k ≡ 48 + r.0 = omega arith in
          record {
            digits = digits;
            begins = ap (λ x. x ∷ k ∷ digits) letter ∙ ap (λ x. 83 ∷ x ∷ digits) digit;
            spelled = s;
            form = subst (λ q. is_record q r.1 ≡ true) kind f;
            checked = t;
          }
      | inr bad ↦ let b = bad.1 in cc
    ]

pub record_is : (n : ℕ) (line : List ℕ) (kind : ℕ) (bytes : List ℕ) → IsRecord line kind bytes → record_of n line ≡ Ok (kind, bytes)
record_is n line kind bytes r =
    let shape = r.form in
    let least : 48 ≤ 48 + kind = omega arith in
    let same : 48 + kind - 48 ≡ kind = omega arith in
    ap (record_of n) r.begins
    ∙ ap (λ b. cond b (checked n (48 + kind - 48) (bytes_of r.digits)) (Err (BadLine n))) (le-leb 48 (48 + kind) least)
    ∙ ap (λ k. checked n k (bytes_of r.digits)) same
    ∙ ap (checked n kind) r.spelled
    ∙ rw (shape, eq-eqb (sum bytes % 256) 255 r.checked) refl

abbrev second_of : List ℕ → ℕ
second_of xs = get_or xs 1 0

abbrev rest_of : List ℕ → List ℕ
rest_of [] = []
rest_of (x ∷ []) = []
rest_of (x ∷ y ∷ xs) = xs

pub same_kind : (line : List ℕ) (kind other : ℕ) (bytes more : List ℕ) → IsRecord line kind bytes → IsRecord line other more → kind ≡ other
same_kind line kind other bytes more r s = let e : 48 + kind ≡ 48 + other = ap second_of (sym r.begins ∙ s.begins) in omega arith

same_bytes : (line : List ℕ) (kind other : ℕ) (bytes more : List ℕ) → IsRecord line kind bytes → IsRecord line other more → bytes ≡ more
same_bytes line kind other bytes more r s =
    let d : r.digits ≡ s.digits = ap rest_of (sym r.begins ∙ s.begins) in
    same_Some bytes more (sym r.spelled ∙ ap bytes_of d ∙ s.spelled)

pub no_record : (kind : ℕ) (bytes : List ℕ) → IsRecord [] kind bytes → ⊥
no_record kind bytes r = let n : 0 ≡ suc (suc (length r.digits)) = ap length r.begins in omega arith

-- ------ lines behind others
abbrev head_of : List (List ℕ) → List ℕ
head_of [] = []
head_of (x ∷ xs) = x

abbrev tail_of : List (List ℕ) → List (List ℕ)
tail_of [] = []
tail_of (x ∷ xs) = xs

pub snoc : (front : List (List ℕ)) (x : List ℕ) (f : List (List ℕ)) (l : List ℕ) (k : List (List ℕ)) → front ++ (x ∷ []) ≡ f ++ (l ∷ k)
    → ((front ≡ f) × (l ≡ x)) ⊎ ((more : List (List ℕ)) × (front ≡ f ++ (l ∷ more)))
snoc [] x [] l k e = inl (refl, sym (ap head_of e))
snoc [] x (y ∷ f) l k e =
    let n : length (x ∷ []) ≡ length (y ∷ (f ++ (l ∷ k))) = ap length e in
    let s : length (f ++ (l ∷ k)) ≡ length f + length (l ∷ k) = length-append f (l ∷ k) in
    absurd (omega arith)
snoc (z ∷ front) x [] l k e = inr (front, ap (λ y. y ∷ front) (ap head_of e))
snoc (z ∷ front) x (y ∷ f) l k e =
    elim (snoc front x f l k (ap tail_of e)) [
      | inl same ↦ inl (ap (λ t. t ∷ front) (ap head_of e) ∙ ap (λ t. y ∷ t) same.0, same.1)
      | inr early ↦ inr (early.0, ap (λ t. t ∷ front) (ap head_of e) ∙ ap (λ t. y ∷ t) early.1)
    ]

abbrev pub Last : List ℕ → ℕ → ℕ → Type 0
Last line a b =
    (kind : ℕ) × (bytes : List ℕ) × (k : ℕ) × IsRecord line kind bytes × (0 < kind) × (kind ≤ 3) × (k < size_of (width kind) bytes) × (a ≡ number_at (width kind) bytes + k) × (slice_get bytes (width kind + 1 + k) ≡ Some b)

gives_split : (front : List (List ℕ)) (line : List ℕ) (a b : ℕ) → Gives (front ++ (line ∷ [])) a b → Gives front a b ⊎ Last line a b
gives_split front line a b g =
    let (f, l, k, kind, bytes, i, whole, r, lo, hi, lt, at, got) = g in
    elim (snoc front line f l k whole) [
      | inl same ↦ inr (kind, bytes, i, subst (λ t. IsRecord t kind bytes) same.1 r, lo, hi, lt, at, got)
      | inr early ↦ inl (f, l, early.0, kind, bytes, i, early.1, r, lo, hi, lt, at, got)
    ]

pub gives_early : (front : List (List ℕ)) (a b : ℕ) (more : List (List ℕ)) → Gives front a b → Gives (front ++ more) a b
gives_early front a b more g =
    let (f, l, k, kind, bytes, i, whole, r, lo, hi, lt, at, got) = g in
    (f, l, k ++ more, kind, bytes, i, ap (λ t. t ++ more) whole ∙ append_assoc f (l ∷ k) more, r, lo, hi, lt, at, got)

pub gives_last : (front : List (List ℕ)) (line : List ℕ) (a b : ℕ) → Last line a b → Gives (front ++ (line ∷ [])) a b
gives_last front line a b g =
    let (kind, bytes, i, r, lo, hi, lt, at, got) = g in
    (front, line, [], kind, bytes, i, refl, r, lo, hi, lt, at, got)

-- ------ counts
count_data : (front : List (List ℕ)) (line : List ℕ) (n : ℕ) → Counts front n → IsData line → Counts (front ++ (line ∷ [])) (n + 1)
count_data [] line n c d = inl (d, omega arith, (let z : n ≡ 0 = c in omega arith))
count_data (x ∷ front) line n (inl c) d = inl (c.0, omega arith, (let p : n - 1 + 1 ≡ n + 1 - 1 = (let l = c.1 in omega arith) in subst (Counts (front ++ (line ∷ []))) p (count_data front line (n - 1) c.2 d)))
count_data (x ∷ front) line n (inr c) d = inr (c.0, count_data front line n c.1 d)

count_other : (front : List (List ℕ)) (line : List ℕ) (n : ℕ) → Counts front n → (IsData line → ⊥) → Counts (front ++ (line ∷ [])) n
count_other [] line n c d = inr (d, c)
count_other (x ∷ front) line n (inl c) d = inl (c.0, c.1, count_other front line (n - 1) c.2 d)
count_other (x ∷ front) line n (inr c) d = inr (c.0, count_other front line n c.1 d)

pub one_count : (front : List (List ℕ)) (n k : ℕ) → Counts front n → Counts front k → n ≡ k
one_count [] n k c d = c ∙ sym d
one_count (x ∷ front) n k (inl c) (inl d) = let e = one_count front (n - 1) (k - 1) c.2 d.2 in let l = c.1 in let m = d.1 in omega arith
one_count (x ∷ front) n k (inl c) (inr d) = absurd (d.0 c.0)
one_count (x ∷ front) n k (inr c) (inl d) = absurd (c.0 d.0)
one_count (x ∷ front) n k (inr c) (inr d) = one_count front n k c.1 d.1

-- ------ what the lines so far gave
pub record Holding (done : List (List ℕ)) (count : ℕ) (m : ByteMap) : Type 0 where
  pub counted : Counts done count
  pub given : (a b : ℕ) → get m a ≡ Some b → Gives done a b
  pub all : (a b : ℕ) → Gives done a b → get m a ≡ Some b

pub hold_skip : (done : List (List ℕ)) (line : List ℕ) (count : ℕ) (m : ByteMap) → Holding done count m → (IsData line → ⊥) → Holding (done ++ (line ∷ [])) count m
hold_skip done line count m h none = record {
  counted = count_other done line count h.counted none;
  given = λ a b e. gives_early done a b (line ∷ []) (h.given a b e);
  all = λ a b g. elim (gives_split done line a b g) [
    | inl early ↦ h.all a b early
    | inr last ↦ let (kind, bytes, i, r, lo, hi, lt, at, got) = last in absurd (none (kind, bytes, r, lo, hi))
  ];
}

pub data_size : (line : List ℕ) (kind : ℕ) (bytes : List ℕ) → IsRecord line kind bytes → length (data_of (width kind) bytes) ≡ size_of (width kind) bytes
data_size line kind bytes r =
    let f = form kind bytes r.form in
    let n : length bytes ≡ get_or bytes 0 0 + 1 = f.0 in
    let t : length (data_of (width kind) bytes) ≡ min (size_of (width kind) bytes) (length (drop (width kind + 1) bytes)) = length-take (size_of (width kind) bytes) (drop (width kind + 1) bytes) in
    let d : length (drop (width kind + 1) bytes) ≡ length bytes - (width kind + 1) = length-drop (width kind + 1) bytes in
    omega arith

pub data_at : (w : ℕ) (bytes : List ℕ) (k : ℕ) → k < size_of w bytes → slice_get (data_of w bytes) k ≡ slice_get bytes (w + 1 + k)
data_at w bytes k l = slice_get-take (drop (w + 1) bytes) (size_of w bytes) k l ∙ slice_get-drop bytes (w + 1) k

pub hold_data : (done : List (List ℕ)) (line : List ℕ) (kind : ℕ) (bytes : List ℕ) (count : ℕ) (m new : ByteMap) → Holding done count m → IsRecord line kind bytes → 0 < kind → kind ≤ 3
    → putting m (number_at (width kind) bytes) (data_of (width kind) bytes) ≡ Ok new → Holding (done ++ (line ∷ [])) (count + 1) new
hold_data done line kind bytes count m new h r lo hi e =
    let size = data_size line kind bytes r in
    let adds = putting_adds m new (number_at (width kind) bytes) (data_of (width kind) bytes) e in
    record {
      counted = count_data done line count h.counted (kind, bytes, r, lo, hi);
      given = λ a b g. elim (adds.splits a b g) [
        | inl old ↦ gives_early done a b (line ∷ []) (h.given a b old)
        | inr got ↦
            let (k, at, is) = got in
            let lt = some_below (data_of (width kind) bytes) k b is in
            let lt' : k < size_of (width kind) bytes = omega arith in
            gives_last done line a b (kind, bytes, k, r, lo, hi, lt', at, sym (data_at (width kind) bytes k lt') ∙ is)
      ];
      all = λ a b g. elim (gives_split done line a b g) [
        | inl early ↦ adds.keeps a b (h.all a b early)
        | inr last ↦
            let (kind', other, k, r', lo', hi', lt, at, is) = last in
            let ek : kind' ≡ kind = same_kind line kind' kind other bytes r' r in
            let eb : other ≡ bytes = same_bytes line kind' kind other bytes r' r in
            let lt' : k < size_of (width kind) bytes = subst (λ t. k < size_of (width t) bytes) ek (subst (λ t. k < size_of (width kind') t) eb lt) in
            let at' : a ≡ number_at (width kind) bytes + k = subst (λ t. a ≡ number_at (width t) bytes + k) ek (subst (λ t. a ≡ number_at (width kind') t + k) eb at) in
            let is' : slice_get bytes (width kind + 1 + k) ≡ Some b = subst (λ t. slice_get bytes (width t + 1 + k) ≡ Some b) ek (subst (λ t. slice_get t (width kind' + 1 + k) ≡ Some b) eb is) in
            adds.has a b (k, at', data_at (width kind) bytes k lt' ∙ is')
      ];
    }

-- ------ what one record does
with_map_ok : (s t : State) (r : Result ByteMap RecFault) → with_map s r ≡ Ok t → (m : ByteMap) × (r ≡ Ok m) × (t ≡ record s { count = s.count + 1; spans = m })
with_map_ok s t (Ok m) e = (m, refl, (let q : record s { count = s.count + 1; spans = m } ≡ t = cc in sym q))
with_map_ok s t (Err d) e = cc

same_ok : (x t : State) → ◌≡◌ {A = Result State RecFault} (Ok x) (Ok t) → x ≡ t
same_ok x t e = cc

third : {A : Type 0} (x y z : Bool) (a b c d : A) → x ≡ false → y ≡ false → z ≡ true → cond x a (cond y b (cond z c d)) ≡ c
third x y z a b c d p q r = rw (p, q, r) refl

-- a count record
pub count_part : (s : State) (kind : ℕ) (bytes : List ℕ) → eqb kind 0 ≡ false → nat_le kind 3 ≡ false → nat_le kind 6 ≡ true
    → applied s (kind, bytes) ≡ cond (eqb (number_at (width kind) bytes) s.count) (Ok s) (Err (BadCount (number_at (width kind) bytes) s.count))
count_part s kind bytes p q r =
    third (eqb kind 0) (nat_le kind 3) (nat_le kind 6) (Ok s) (with_map s (putting s.spans (number_at (width kind) bytes) (data_of (width kind) bytes)))
    (cond (eqb (number_at (width kind) bytes) s.count) (Ok s) (Err (BadCount (number_at (width kind) bytes) s.count))) (Ok (record s { ended = true })) p q r

second : {A : Type 0} (x y : Bool) (a b c : A) → x ≡ false → y ≡ true → cond x a (cond y b c) ≡ b
second x y a b c p q = rw (p, q) refl

fourth : {A : Type 0} (x y z : Bool) (a b c d : A) → x ≡ false → y ≡ false → z ≡ false → cond x a (cond y b (cond z c d)) ≡ d
fourth x y z a b c d p q r = rw (p, q, r) refl

abbrev count_case : State → ℕ → List ℕ → Result State RecFault
count_case s kind bytes = cond (eqb (number_at (width kind) bytes) s.count) (Ok s) (Err (BadCount (number_at (width kind) bytes) s.count))

abbrev data_case : State → ℕ → List ℕ → Result State RecFault
data_case s kind bytes = with_map s (putting s.spans (number_at (width kind) bytes) (data_of (width kind) bytes))

-- a data record
pub data_part : (s : State) (kind : ℕ) (bytes : List ℕ) → eqb kind 0 ≡ false → nat_le kind 3 ≡ true → applied s (kind, bytes) ≡ with_map s (putting s.spans (number_at (width kind) bytes) (data_of (width kind) bytes))
data_part s kind bytes p q = second (eqb kind 0) (nat_le kind 3) (Ok s) (data_case s kind bytes) (cond (nat_le kind 6) (count_case s kind bytes) (Ok (record s { ended = true }))) p q

-- an end record
pub end_part : (s : State) (kind : ℕ) (bytes : List ℕ) → eqb kind 0 ≡ false → nat_le kind 3 ≡ false → nat_le kind 6 ≡ false → applied s (kind, bytes) ≡ Ok (record s { ended = true })
end_part s kind bytes p q r = fourth (eqb kind 0) (nat_le kind 3) (nat_le kind 6) (Ok s) (data_case s kind bytes) (count_case s kind bytes) (Ok (record s { ended = true })) p q r

-- what a record was, by what it did
abbrev pub Did : State → State → ℕ → List ℕ → Type 0
Did s t kind bytes =
    ((0 < kind) × (kind ≤ 3) × (m : ByteMap) × (putting s.spans (number_at (width kind) bytes) (data_of (width kind) bytes) ≡ Ok m) × (t ≡ record s { count = s.count + 1; spans = m }))
    ⊎ (((kind ≤ 6) × (kind ≡ 0 ⊎ (3 < kind)) × (3 < kind → number_at (width kind) bytes ≡ s.count) × (t ≡ s)) ⊎ ((6 < kind) × (t ≡ record s { ended = true })))

pub did : (s t : State) (kind : ℕ) (bytes : List ℕ) → applied s (kind, bytes) ≡ Ok t → Did s t kind bytes
did s t kind bytes e =
    elim (cases_Bool (eqb kind 0)) [
      | inl is ↦
          let k = eqb-true kind 0 is in
          inr (inl (omega arith, inl k, λ l. absurd (omega arith), sym (same_ok s t (rw is at e))))
      | inr is ↦
          let ne : kind ≡ 0 → ⊥ = λ k. false≢true (sym is ∙ eq-eqb kind 0 k) in
          let lo : 0 < kind = elim (cases_lt 0 kind) [ inl l ↦ l | inr l ↦ absurd (ne (omega arith)) ] in
          elim (cases_lt 3 kind) [
            | inr three ↦
                let w = with_map_ok s t (putting s.spans (number_at (width kind) bytes) (data_of (width kind) bytes)) (sym (data_part s kind bytes is (le-leb kind 3 three)) ∙ e) in
                inl (lo, three, w.0, w.1, w.2)
            | inl over_three ↦ elim (cases_lt 6 kind) [
              | inr six ↦
                  let rest = sym (count_part s kind bytes is (lt-leb kind 3 over_three) (le-leb kind 6 six)) ∙ e in
                  elim (chosen (eqb (number_at (width kind) bytes) s.count) (Ok s) (Err (BadCount (number_at (width kind) bytes) s.count)) (Ok t) rest) [
                    | inl same ↦ inr (inl (six, inr over_three, λ l. eqb-true (number_at (width kind) bytes) s.count same.0, sym (same_ok s t same.1)))
                    | inr bad ↦ let b = bad.1 in cc
                  ]
              | inl over_six ↦ inr (inr (over_six, sym (same_ok (record s { ended = true }) t (sym (end_part s kind bytes is (lt-leb kind 3 over_three) (lt-leb kind 6 over_six)) ∙ e))))
            ]
          ]
    ]
