-- A text that is read has the map that its data lines give.
use Rattle.std.proofs.Common.{zero, suc, ◌≡◌, ℕ, ◌+◌, ◌-◌, ◌*◌, ◌<◌, ◌⊎◌, List, [], ◌∷◌, ◌++◌, length, take, drop, get_or, min, ◌&&◌, Bool, true, false, cond, eqb, Option, Some, None, Result, Ok, Err, refl, sym, ap, ◌∙◌, subst, inl, inr, arith, append-nil, append_assoc, length-take, length-drop, length-append}
use Rattle.std.specs.Prelude.{◌≢◌}
use Rattle.std.proofs.lemmas.Bool.{cases_Bool, eqb-true, eq-eqb, ne_eqb, false≢true}
use Rattle.std.proofs.lemmas.Option.{none-some, same_Some}
use Rattle.std.specs.List.{slice_get}
use Rattle.std.specs.FinMap.{get, empty, get-empty}
use Rattle.std.specs.Ordering.{nat_cmp}
use Rattle.span_store.specs.ByteMap.{ByteMap}
use Rattle.span_store.proofs.Pieces.{slice_get-drop}
use Rattle.span_store.proofs.Settled.{slice_get-take}
use Rattle.rec_text.specs.Digits.{digit_of, byte_of, with_byte, bytes_of}
use Rattle.rec_text.specs.Lines.{lines}
use Rattle.rec_text.specs.Putting.{◌>>=◌}
use Rattle.rec_text.specs.declared.fault.RecFault.{RecFault}
use Rattle.rec_text.specs.declared.fault.RecFault.TheVariants.{AfterEnd}
use Rattle.rec_text.proofs.Spelled.{first_small}
use Rattle.hex_rec.specs.Record.{is_kind, record_of}
use Rattle.hex_rec.specs.Reading.{put_line, with_map, applied, step, read_from, reading_of}
use Rattle.hex_rec.specs.HexText.{IsRecord, kind_of, value_of, AreRecords, AreEmpty, Sets, HasBase, address, Gives, IsHexText}
use Rattle.hex_rec.specs.Base.{IsBase}
use Rattle.hex_rec.specs.declared.base.Base.{Base}
use Rattle.hex_rec.specs.declared.base.Base.TheVariants.{Linear, Segment}
use Rattle.hex_rec.specs.declared.reading.State.{State}
use Rattle.hex_rec.proofs.Shapes.{chosen, bind_ok, record_ok, nothing_after, applied_ended}
use Rattle.hex_rec.proofs.Bases.{same_record, no_record, set_of, sets_or, base_keep, base_next, one_base}
use Rattle.hex_rec.proofs.Adds.{line_adds}

-- ------ the bytes of a line are bytes
with_byte_some : (o : Option ℕ) (r : Option (List ℕ)) (bs : List ℕ) → with_byte o r ≡ Some bs → (b : ℕ) × (t : List ℕ) × (r ≡ Some t) × (b ∷ t ≡ bs)
with_byte_some None r bs e = absurd (none-some bs e)
with_byte_some (Some b) None bs e = absurd (none-some bs e)
with_byte_some (Some b) (Some t) bs e = (b, t, refl, same_Some _ _ e)

all_small : (digits bs : List ℕ) (i : ℕ) → bytes_of digits ≡ Some bs → get_or bs i 0 < 256
all_small digits bs zero e = first_small digits bs e
all_small [] bs (suc i) e = let n : 0 ≡ get_or bs (suc i) 0 = ap (λ l. get_or l (suc i) 0) (same_Some {A = List ℕ} [] bs e) in omega arith
all_small (c ∷ []) bs (suc i) e = absurd (none-some bs e)
all_small (c ∷ d ∷ cs) bs (suc i) e =
    let (b, t, r, same) = with_byte_some (byte_of (digit_of c) (digit_of d)) (bytes_of cs) bs e in
    let n : get_or t i 0 ≡ get_or bs (suc i) 0 = ap (λ l. get_or l (suc i) 0) same in
    let small = all_small cs t i r in
    omega arith

pub small : (line bytes : List ℕ) (i : ℕ) → IsRecord line bytes → get_or bytes i 0 < 256
small line bytes i r = all_small r.digits bytes i r.spelled

and_left : (a b : Bool) → (a && b) ≡ true → a ≡ true
and_left true b h = refl
and_left false b h = absurd (false≢true h)

size_is : (line bytes : List ℕ) → IsRecord line bytes → length bytes ≡ get_or bytes 0 0 + 5
size_is line bytes r = eqb-true (length bytes) (get_or bytes 0 0 + 5) (and_left (eqb (length bytes) (get_or bytes 0 0 + 5)) (is_kind (get_or bytes 3 0) (get_or bytes 0 0)) r.form)

-- ------ lines behind others
abbrev head_of : List (List ℕ) → List ℕ
head_of [] = []
head_of (x ∷ xs) = x

abbrev rest_of : List (List ℕ) → List (List ℕ)
rest_of [] = []
rest_of (x ∷ xs) = xs

snoc : (front : List (List ℕ)) (x : List ℕ) (f : List (List ℕ)) (l : List ℕ) (k : List (List ℕ)) → front ++ (x ∷ []) ≡ f ++ (l ∷ k)
    → ((front ≡ f) × (l ≡ x)) ⊎ ((more : List (List ℕ)) × (front ≡ f ++ (l ∷ more)))
snoc [] x [] l k e = inl (refl, sym (ap head_of e))
snoc [] x (y ∷ f) l k e =
    let n : length (x ∷ []) ≡ length (y ∷ (f ++ (l ∷ k))) = ap length e in
    let s : length (f ++ (l ∷ k)) ≡ length f + length (l ∷ k) = length-append f (l ∷ k) in
    absurd (omega arith)
snoc (z ∷ front) x [] l k e = inr (front, ap (λ y. y ∷ front) (ap head_of e))
snoc (z ∷ front) x (y ∷ f) l k e =
    elim (snoc front x f l k (ap rest_of e)) [
      | inl same ↦ inl (ap (λ t. t ∷ front) (ap head_of e) ∙ ap (λ t. y ∷ t) same.0, same.1)
      | inr early ↦ inr (early.0, ap (λ t. t ∷ front) (ap head_of e) ∙ ap (λ t. y ∷ t) early.1)
    ]

abbrev pub offset_of : List ℕ → ℕ
offset_of bytes = get_or bytes 1 0 * 256 + get_or bytes 2 0

-- what a line gives behind others
abbrev pub Last : List (List ℕ) → List ℕ → ℕ → ℕ → Type 0
Last front line a b =
    (bytes : List ℕ) × (base : Base) × (k : ℕ) × IsRecord line bytes × (kind_of bytes ≡ 0) × HasBase front base × (k < get_or bytes 0 0) × (a ≡ address base (offset_of bytes) k) × (slice_get bytes (4 + k) ≡ Some b)

gives_split : (front : List (List ℕ)) (line : List ℕ) (a b : ℕ) → Gives (front ++ (line ∷ [])) a b → Gives front a b ⊎ Last front line a b
gives_split front line a b g =
    let (f, l, k, bytes, base, i, whole, r, kind, based, lt, at, got) = g in
    elim (snoc front line f l k whole) [
      | inl same ↦ inr (bytes, base, i, subst (λ t. IsRecord t bytes) same.1 r, kind, subst (λ t. HasBase t base) (sym same.0) based, lt, at, got)
      | inr early ↦ inl (f, l, early.0, bytes, base, i, early.1, r, kind, based, lt, at, got)
    ]

gives_early : (front : List (List ℕ)) (line : List ℕ) (a b : ℕ) → Gives front a b → Gives (front ++ (line ∷ [])) a b
gives_early front line a b g =
    let (f, l, k, bytes, base, i, whole, r, kind, based, lt, at, got) = g in
    (f, l, k ++ (line ∷ []), bytes, base, i, ap (λ t. t ++ (line ∷ [])) whole ∙ append_assoc f (l ∷ k) (line ∷ []), r, kind, based, lt, at, got)

pub gives_last : (front : List (List ℕ)) (line : List ℕ) (a b : ℕ) → Last front line a b → Gives (front ++ (line ∷ [])) a b
gives_last front line a b g =
    let (bytes, base, i, r, kind, based, lt, at, got) = g in
    (front, line, [], bytes, base, i, refl, r, kind, based, lt, at, got)

-- ------ what the lines so far gave
pub record Holding (done : List (List ℕ)) (base : Base) (m : ByteMap) : Type 0 where
  pub based : HasBase done base
  pub bounded : IsBase base
  pub given : (a b : ℕ) → get m a ≡ Some b → Gives done a b
  pub all : (a b : ℕ) → Gives done a b → get m a ≡ Some b

hold_skip : (done : List (List ℕ)) (line : List ℕ) (base next : Base) (m : ByteMap) → Holding done base m → ((bytes : List ℕ) → IsRecord line bytes → kind_of bytes ≡ 0 → ⊥)
    → HasBase (done ++ (line ∷ [])) next → IsBase next → Holding (done ++ (line ∷ [])) next m
hold_skip done line base next m h none based bounded = record {
  based = based;
  bounded = bounded;
  given = λ a b e. gives_early done line a b (h.given a b e);
  all = λ a b g. elim (gives_split done line a b g) [
    | inl early ↦ h.all a b early
    | inr last ↦ let (bytes, base', i, r, kind, based', lt, at, got) = last in absurd (none bytes r kind)
  ];
}

abbrev pub data_of : List ℕ → List ℕ
data_of bytes = take (get_or bytes 0 0) (drop 4 bytes)

pub data_size : (line bytes : List ℕ) → IsRecord line bytes → length (data_of bytes) ≡ get_or bytes 0 0
data_size line bytes r =
    let n = size_is line bytes r in
    let t : length (data_of bytes) ≡ min (get_or bytes 0 0) (length (drop 4 bytes)) = length-take (get_or bytes 0 0) (drop 4 bytes) in
    let d : length (drop 4 bytes) ≡ length bytes - 4 = length-drop 4 bytes in
    omega arith

pub data_at : (bytes : List ℕ) (k : ℕ) → k < get_or bytes 0 0 → slice_get (data_of bytes) k ≡ slice_get bytes (4 + k)
data_at bytes k l = slice_get-take (drop 4 bytes) (get_or bytes 0 0) k l ∙ slice_get-drop bytes 4 k

hold_data : (done : List (List ℕ)) (line bytes : List ℕ) (base : Base) (m new : ByteMap) → Holding done base m → IsRecord line bytes → kind_of bytes ≡ 0
    → put_line m base (offset_of bytes) (data_of bytes) ≡ Ok new → Holding (done ++ (line ∷ [])) base new
hold_data done line bytes base m new h r kind e =
    let b0 = small line bytes 0 r in
    let b1 = small line bytes 1 r in
    let b2 = small line bytes 2 r in
    let size = data_size line bytes r in
    let adds = line_adds m new base (offset_of bytes) (data_of bytes) h.bounded (omega arith) (omega arith) e in
    let same : set_of bytes base ≡ base = rw (ne_eqb (kind_of bytes) 2 (λ t. omega arith), ne_eqb (kind_of bytes) 4 (λ t. omega arith)) refl in
    record {
      based = subst (HasBase (done ++ (line ∷ []))) same (base_next done line bytes base h.based r);
      bounded = h.bounded;
      given = λ a b g. elim (adds.splits a b g) [
        | inl old ↦ gives_early done line a b (h.given a b old)
        | inr got ↦
            let (k, lt, at, is) = got in
            let lt' : k < get_or bytes 0 0 = omega arith in
            gives_last done line a b (bytes, base, k, r, kind, h.based, lt', at, sym (data_at bytes k lt') ∙ is)
      ];
      all = λ a b g. elim (gives_split done line a b g) [
        | inl early ↦ adds.keeps a b (h.all a b early)
        | inr last ↦
            let (other, base', k, r', kind', based', lt, at, is) = last in
            let eb : other ≡ bytes = same_record line other bytes r' r in
            let ec : base' ≡ base = one_base done base' base based' h.based in
            let lt' : k < get_or bytes 0 0 = subst (λ t. k < get_or t 0 0) eb lt in
            let at' : a ≡ address base (offset_of bytes) k = subst (λ t. a ≡ address t (offset_of bytes) k) ec (subst (λ t. a ≡ address base' (offset_of t) k) eb at) in
            adds.has a b (k, omega arith, at', data_at bytes k lt' ∙ subst (λ t. slice_get t (4 + k) ≡ Some b) eb is)
      ];
    }

-- ------ what one record does
with_map_ok : (s t : State) (r : Result ByteMap RecFault) → with_map s r ≡ Ok t → (m : ByteMap) × (r ≡ Ok m) × (t ≡ record s { spans = m })
with_map_ok s t (Ok m) e = (m, refl, (let q : record s { spans = m } ≡ t = cc in sym q))
with_map_ok s t (Err d) e = cc

applied_data : (s t : State) (bytes : List ℕ) → kind_of bytes ≡ 0 → applied s bytes ≡ Ok t
    → (m : ByteMap) × (put_line s.spans s.base (offset_of bytes) (data_of bytes) ≡ Ok m) × (t ≡ record s { spans = m })
applied_data s t bytes k e = with_map_ok s t (put_line s.spans s.base (offset_of bytes) (data_of bytes)) (rw (eq-eqb (kind_of bytes) 0 k) at e)

same_ok : (x t : State) → ◌≡◌ {A = Result State RecFault} (Ok x) (Ok t) → x ≡ t
same_ok x t e = cc

other_kinds : (k : ℕ) (s t : State) (x y : Base) (a : Result State RecFault) → (k ≡ 0 → ⊥)
    → ◌≡◌ {A = Result State RecFault} (cond (eqb k 0) a (cond (eqb k 1) (Ok (record s { ended = true })) (cond (eqb k 2) (Ok (record s { base = x })) (cond (eqb k 4) (Ok (record s { base = y })) (Ok s))))) (Ok t)
    → (t.spans ≡ s.spans) × (t.base ≡ cond (eqb k 2) x (cond (eqb k 4) y s.base))
other_kinds k s t x y a ne e =
    let z : eqb k 0 ≡ false = ne_eqb k 0 ne in
    elim (cases_Bool (eqb k 1)) [
      | inl one ↦
          let q = same_ok (record s { ended = true }) t (rw (z, one) at e) in
          let k1 = eqb-true k 1 one in
          (sym (ap (λ (u : State). u.spans) q), sym (ap (λ (u : State). u.base) q) ∙ rw (ne_eqb k 2 (λ p. omega arith), ne_eqb k 4 (λ p. omega arith)) refl)
      | inr one ↦ elim (cases_Bool (eqb k 2)) [
        | inl two ↦ let q = same_ok (record s { base = x }) t (rw (z, one, two) at e) in (sym (ap (λ (u : State). u.spans) q), sym (ap (λ (u : State). u.base) q) ∙ rw two refl)
        | inr two ↦ elim (cases_Bool (eqb k 4)) [
          | inl four ↦ let q = same_ok (record s { base = y }) t (rw (z, one, two, four) at e) in (sym (ap (λ (u : State). u.spans) q), sym (ap (λ (u : State). u.base) q) ∙ rw (two, four) refl)
          | inr four ↦ let q = same_ok s t (rw (z, one, two, four) at e) in (sym (ap (λ (u : State). u.spans) q), sym (ap (λ (u : State). u.base) q) ∙ rw (two, four) refl)
        ]
      ]
    ]

bounded_set : (line bytes : List ℕ) (b : Base) → IsRecord line bytes → Sets bytes b → IsBase b
bounded_set line bytes (Segment base) r s = let x = small line bytes 4 r in let y = small line bytes 5 r in let e = s.1 in omega arith
bounded_set line bytes (Linear base) r s = let x = small line bytes 4 r in let y = small line bytes 5 r in let e = s.1 in omega arith

bounded_next : (line bytes : List ℕ) (b : Base) → IsRecord line bytes → IsBase b → IsBase (set_of bytes b)
bounded_next line bytes b r h =
    elim (sets_or bytes b) [
      | inl sets ↦ bounded_set line bytes (set_of bytes b) r sets
      | inr same ↦ subst IsBase (sym same.0) h
    ]

pub hold_record : (done : List (List ℕ)) (line bytes : List ℕ) (s t : State) → Holding done s.base s.spans → IsRecord line bytes → applied s bytes ≡ Ok t → Holding (done ++ (line ∷ [])) t.base t.spans
hold_record done line bytes s t h r e =
    elim (cases_Bool (eqb (kind_of bytes) 0)) [
      | inl data_line ↦
          let k = eqb-true (kind_of bytes) 0 data_line in
          let (m, put, is) = applied_data s t bytes k e in
          subst (λ (u : State). Holding (done ++ (line ∷ [])) u.base u.spans) (sym is) (hold_data done line bytes s.base s.spans m h r k put)
      | inr other ↦
          let ne : kind_of bytes ≡ 0 → ⊥ = λ k. false≢true (sym other ∙ eq-eqb (kind_of bytes) 0 k) in
          let q = other_kinds (kind_of bytes) s t (Segment (value_of bytes * 16)) (Linear (value_of bytes * 65536)) _ ne e in
          subst (λ b. Holding (done ++ (line ∷ [])) b t.spans) (sym q.1) (subst (Holding (done ++ (line ∷ [])) (set_of bytes s.base)) (sym q.0)
          (hold_skip done line s.base (set_of bytes s.base) s.spans h (λ o ro ko. ne (subst (λ u. kind_of u ≡ 0) (same_record line o bytes ro r) ko)) (base_next done line bytes s.base h.based r) (bounded_next line bytes s.base r h.bounded)))
    ]

pub hold_empty : (done : List (List ℕ)) (base : Base) (m : ByteMap) → Holding done base m → Holding (done ++ ([] ∷ [])) base m
hold_empty done base m h = hold_skip done [] base base m h (λ o r k. no_record o r) (base_keep done [] base h.based (λ o b r s. no_record o r)) h.bounded

-- ------ all lines
rest_same : (t : State) (n : ℕ) (ls : List (List ℕ)) (m : ByteMap) → t.ended ≡ true → read_from t n ls ≡ Ok m → t.spans ≡ m
rest_same t n [] m f e = let x = rw f at e in cc
rest_same t n ([] ∷ more) m f e = rest_same t (n + 1) more m f e
rest_same t n ((c ∷ cs) ∷ more) m f e =
    let (u, a, b) = bind_ok (step t (n + 1) (c ∷ cs)) (λ u. read_from u (n + 1) more) m e in
    elim (chosen t.ended (Err (AfterEnd (n + 1))) (record_of (n + 1) (c ∷ cs) >>= applied t) (Ok u) a) [
      | inl x ↦ let y = x.1 in cc
      | inr x ↦ let y = x.0 in cc
    ]

pub record Found (done ls : List (List ℕ)) (m : ByteMap) : Type 0 where
  pub front : List (List ℕ)
  pub last : List ℕ
  pub back : List (List ℕ)
  pub parts : ls ≡ front ++ last ∷ back
  pub records : AreRecords front
  pub ends : (bytes : List ℕ) × IsRecord last bytes × (kind_of bytes ≡ 1)
  pub nothing : AreEmpty back
  pub given : (a b : ℕ) → get m a ≡ Some b → Gives (done ++ front) a b
  pub all : (a b : ℕ) → Gives (done ++ front) a b → get m a ≡ Some b

one_later : (done : List (List ℕ)) (line : List ℕ) (more : List (List ℕ)) (m : ByteMap) → (line ≡ []) ⊎ ((bytes : List ℕ) × IsRecord line bytes × (kind_of bytes ≢ 1)) → Found (done ++ (line ∷ [])) more m → Found done (line ∷ more) m
one_later done line more m is f =
    let e : (done ++ (line ∷ [])) ++ f.front ≡ done ++ (line ∷ f.front) = append_assoc done (line ∷ []) f.front in
    record {
      front = line ∷ f.front;
      last = f.last;
      back = f.back;
      parts = ap (λ t. line ∷ t) f.parts;
      records = (is, f.records);
      ends = f.ends;
      nothing = f.nothing;
      given = λ a b g. subst (λ t. Gives t a b) e (f.given a b g);
      all = λ a b g. f.all a b (subst (λ t. Gives t a b) (sym e) g);
    }

end_here : (done : List (List ℕ)) (line bytes : List ℕ) (more : List (List ℕ)) (base : Base) (m : ByteMap) → IsRecord line bytes → kind_of bytes ≡ 1 → AreEmpty more → Holding done base m → Found done (line ∷ more) m
end_here done line bytes more base m r k nothing h =
    record {
      front = [];
      last = line;
      back = more;
      parts = refl;
      records = tt;
      ends = (bytes, r, k);
      nothing = nothing;
      given = λ a b g. subst (λ t. Gives t a b) (sym (append-nil done)) (h.given a b g);
      all = λ a b g. h.all a b (subst (λ t. Gives t a b) (append-nil done) g);
    }

pub found : (done : List (List ℕ)) (s : State) (n : ℕ) (ls : List (List ℕ)) (m : ByteMap) → s.ended ≡ false → Holding done s.base s.spans → read_from s n ls ≡ Ok m → Found done ls m
found done s n [] m f h e = let x = rw f at e in cc
found done s n ([] ∷ more) m f h e = one_later done [] more m (inl refl) (found (done ++ ([] ∷ [])) s (n + 1) more m f (hold_empty done s.base s.spans h) e)
found done s n ((c ∷ cs) ∷ more) m f h e =
    let (t, a, rest) = bind_ok (step s (n + 1) (c ∷ cs)) (λ u. read_from u (n + 1) more) m e in
    elim (chosen s.ended (Err (AfterEnd (n + 1))) (record_of (n + 1) (c ∷ cs) >>= applied s) (Ok t) a) [
      | inl x ↦ let y = x.0 in cc
      | inr x ↦
          let (bytes, ok, d) = bind_ok (record_of (n + 1) (c ∷ cs)) (applied s) t x.1 in
          let r = record_ok (n + 1) (c ∷ cs) bytes ok in
          elim (applied_ended s t bytes d) [
            | inl last ↦
                let ne : kind_of bytes ≡ 0 → ⊥ = λ k. (let o = last.0 in omega arith) in
                let q = other_kinds (kind_of bytes) s t (Segment (value_of bytes * 16)) (Linear (value_of bytes * 65536)) _ ne d in
                end_here done (c ∷ cs) bytes more s.base m r last.0 (nothing_after t (n + 1) more m last.1 rest) (subst (Holding done s.base) (sym q.0 ∙ rest_same t (n + 1) more m last.1 rest) h)
            | inr other ↦ one_later done (c ∷ cs) more m (inr (bytes, r, other.0)) (found (done ++ ((c ∷ cs) ∷ [])) t (n + 1) more m (other.1 ∙ f) (hold_record done (c ∷ cs) bytes s t h r d) rest)
          ]
    ]

pub nothing_given : Holding [] (Linear 0) empty
nothing_given = record {
  based = inl (tt, refl);
  bounded = omega arith;
  given = λ a b e. absurd (none-some b (sym (get-empty nat_cmp a) ∙ e));
  all = λ a b g.
      let (f, l, k, bytes, base, i, whole, r, kind, based, lt, at, got) = g in
      let n : length {A = List ℕ} [] ≡ length (f ++ (l ∷ k)) = ap length whole in
      let s : length (f ++ (l ∷ k)) ≡ length f + length (l ∷ k) = length-append f (l ∷ k) in
      absurd (omega arith);
}

pub whole_text : (text : List ℕ) (m : ByteMap) → reading_of text ≡ Ok m → IsHexText text m
whole_text text m e =
    let f = found [] _ 0 (lines text) m refl nothing_given e in
    record {
      shape = record { front = f.front; last = f.last; back = f.back; parts = f.parts; records = f.records; ends = f.ends; nothing = f.nothing };
      given = f.given;
      all = f.all;
    }
