-- A text with the form, and its map, is read so.
use Rattle.std.proofs.Common.{suc, ◌≡◌, ℕ, ◌+◌, ◌-◌, ◌*◌, ◌%◌, ◌^◌, ◌<◌, ◌≤◌, List, [], ◌∷◌, ◌++◌, length, take, drop, get_or, min, true, false, cond, eqb, Some, Result, Ok, Err, refl, sym, ap, ◌∙◌, subst, inl, inr, arith, append-nil, append_assoc, length-take, length-drop}
use Rattle.std.specs.Prelude.{◌≢◌}
use Rattle.std.proofs.lemmas.Bool.{cases_lt, cases_Bool, eqb-true, eq-eqb, ne_eqb, le-leb, lt-leb, false≢true}
use Rattle.std.specs.Cmp.{nat_cmp_total}
use Rattle.std.specs.FinMap.{get, empty, same_map, nat_cmp-IsAntisymmetric}
use Rattle.span_store.specs.ByteMap.{ByteMap, over}
use Rattle.span_store.proofs.Pieces.{slice_get-drop}
use Rattle.span_store.proofs.Settled.{slice_get-take}
use Rattle.rec_text.specs.Putting.{◌>>=◌, putting, put_round}
use Rattle.rec_text.specs.declared.fault.RecFault.{RecFault}
use Rattle.rec_text.specs.declared.fault.RecFault.TheVariants.{AfterEnd}
use Rattle.hex_rec.specs.Record.{record_of}
use Rattle.hex_rec.specs.Reading.{put_line, with_map, applied, step, read_from, reading_of}
use Rattle.hex_rec.specs.HexText.{IsRecord, kind_of, value_of, AreRecords, AreEmpty, address, Gives, IsHexText}
use Rattle.hex_rec.specs.Base.{IsBase}
use Rattle.hex_rec.specs.declared.base.Base.{Base}
use Rattle.hex_rec.specs.declared.base.Base.TheVariants.{Linear, Segment}
use Rattle.hex_rec.specs.declared.reading.State.{State}
use Rattle.hex_rec.proofs.Bases.{record_is}
use Rattle.rec_text.proofs.Adds.{From, putting_adds, some_below, put_ok, same_options}
use Rattle.hex_rec.proofs.Adds.{At}
use Rattle.hex_rec.proofs.Whole.{Holding, small, data_size, data_at, hold_empty, hold_record, gives_last, offset_of, data_of, nothing_given}

module _ (whole m : ByteMap) (start first room : ℕ) (bs : List ℕ) (place : ℕ → ℕ)
    (near : (k : ℕ) → k < room → k < length bs → place k ≡ first + k) (far : (k : ℕ) → room ≤ k → k < length bs → place k ≡ start + (k - room))
    (old : (a b : ℕ) → get m a ≡ Some b → get whole a ≡ Some b) (new : (a b : ℕ) → At place bs a b → get whole a ≡ Some b) where
  take_given : (a b : ℕ) → From first (take room bs) a b → get whole a ≡ Some b
  take_given a b got =
      let size_t : length (take room bs) ≡ min room (length bs) = length-take room bs in
      let l = some_below (take room bs) got.0 b got.2 in
      let lt : got.0 < room = omega arith in
      let le : got.0 < length bs = omega arith in
      new a b (got.0, le, got.1 ∙ sym (near got.0 lt le), sym (slice_get-take bs room got.0 lt) ∙ got.2)

  drop_given : (a b : ℕ) → From start (drop room bs) a b → get whole a ≡ Some b
  drop_given a b got =
      let size_d : length (drop room bs) ≡ length bs - room = length-drop room bs in
      let l = some_below (drop room bs) got.0 b got.2 in
      let lt : room + got.0 < length bs = omega arith in
      let back : room + got.0 - room ≡ got.0 = omega arith in
      new a b (room + got.0, lt, got.1 ∙ ap (λ k. start + k) (sym back) ∙ sym (far (room + got.0) (omega arith) lt), sym (slice_get-drop bs room got.0) ∙ got.2)

  half_old : (a b : ℕ) → get (over m start (drop room bs)) a ≡ Some b → get whole a ≡ Some b
  half_old a b e =
      let p = putting_adds m (over m start (drop room bs)) start (drop room bs) (put_ok whole m start (drop room bs) old drop_given) in
      elim (p.splits a b e) [ inl was ↦ old a b was | inr got ↦ drop_given a b got ]

  pub round_ok : (done : ByteMap) × (put_round m start first room bs ≡ Ok done)
  round_ok =
      elim (cases_lt room (length bs)) [
        | inr fits ↦ (
          over m first bs,
          ap (λ t. cond t (putting m first bs) (putting m start (drop room bs) >>= λ half. putting half first (take room bs))) (le-leb (length bs) room fits)
              ∙ put_ok whole m first bs old (λ a b got. let l = some_below bs got.0 b got.2 in new a b (got.0, l, got.1 ∙ sym (near got.0 (omega arith) l), got.2)),
        )
        | inl more ↦ (
          over (over m start (drop room bs)) first (take room bs),
          ap (λ t. cond t (putting m first bs) (putting m start (drop room bs) >>= λ half. putting half first (take room bs))) (lt-leb (length bs) room more)
              ∙ ap (λ r. r >>= λ half. putting half first (take room bs)) (put_ok whole m start (drop room bs) old drop_given)
              ∙ put_ok whole (over m start (drop room bs)) first (take room bs) half_old take_given,
        )
      ]

line_ok : (whole m : ByteMap) (base : Base) (offset : ℕ) (bs : List ℕ) → IsBase base → offset < 2 ^ 16 → length bs < 2 ^ 8
    → ((a b : ℕ) → get m a ≡ Some b → get whole a ≡ Some b) → ((a b : ℕ) → At (address base offset) bs a b → get whole a ≡ Some b) → (done : ByteMap) × (put_line m base offset bs ≡ Ok done)
line_ok whole m (Linear base) offset bs h o l old new =
    round_ok whole m 0 ((base + offset) % 2 ^ 32) (2 ^ 32 - (base + offset) % 2 ^ 32) bs (address (Linear base) offset) (λ k lt le. omega arith) (λ k ge le. omega arith) old new
line_ok whole m (Segment base) offset bs h o l old new =
    round_ok whole m base (base + offset) (2 ^ 16 - offset) bs (address (Segment base) offset) (λ k lt le. omega arith) (λ k ge le. omega arith) old new

-- ------ one record
other_ok : (k : ℕ) (s : State) (x y : Base) (a : Result State RecFault) → (k ≡ 0 → ⊥) → (k ≡ 1 → ⊥)
    → (t : State) × (t.ended ≡ s.ended) × (cond (eqb k 0) a (cond (eqb k 1) (Ok (record s { ended = true })) (cond (eqb k 2) (Ok (record s { base = x })) (cond (eqb k 4) (Ok (record s { base = y })) (Ok s)))) ≡ Ok t)
other_ok k s x y a ne0 ne1 =
    let z = ne_eqb k 0 ne0 in
    let o = ne_eqb k 1 ne1 in
    elim (cases_Bool (eqb k 2)) [
      | inl two ↦ (record s { base = x }, refl, rw (z, o, two) refl)
      | inr two ↦ elim (cases_Bool (eqb k 4)) [
        | inl four ↦ (record s { base = y }, refl, rw (z, o, two, four) refl)
        | inr four ↦ (s, refl, rw (z, o, two, four) refl)
      ]
    ]

applied_ok : (done : List (List ℕ)) (line bytes : List ℕ) (s : State) (whole : ByteMap) → Holding done s.base s.spans → IsRecord line bytes → kind_of bytes ≢ 1
    → ((a b : ℕ) → Gives (done ++ (line ∷ [])) a b → get whole a ≡ Some b) → ((a b : ℕ) → Gives done a b → get whole a ≡ Some b)
    → (t : State) × (t.ended ≡ s.ended) × (applied s bytes ≡ Ok t)
applied_ok done line bytes s whole h r ne new old =
    elim (cases_Bool (eqb (kind_of bytes) 0)) [
      | inl zero_kind ↦
          let kind : kind_of bytes ≡ 0 = eqb-true (kind_of bytes) 0 zero_kind in
          let b0 = small line bytes 0 r in
          let b1 = small line bytes 1 r in
          let b2 = small line bytes 2 r in
          let size = data_size line bytes r in
          let put = line_ok whole s.spans s.base (offset_of bytes) (data_of bytes) h.bounded (omega arith) (omega arith) (λ a b e. old a b (h.given a b e))
          (λ a b p. let l = p.1 in let lt : p.0 < get_or bytes 0 0 = omega arith in new a b (gives_last done line a b (bytes, s.base, p.0, r, kind, h.based, lt, p.2, sym (data_at bytes p.0 lt) ∙ p.3))) in
          (record s { spans = put.0 }, refl, rw zero_kind (ap (with_map s) put.1))
      | inr other ↦
          other_ok (kind_of bytes) s (Segment (value_of bytes * 16)) (Linear (value_of bytes * 65536)) (with_map s (put_line s.spans s.base (offset_of bytes) (data_of bytes)))
          (λ k. false≢true (sym other ∙ eq-eqb (kind_of bytes) 0 k)) ne
    ]

pub stepped : (s t : State) (n : ℕ) (line bytes : List ℕ) → s.ended ≡ false → IsRecord line bytes → applied s bytes ≡ Ok t → step s n line ≡ Ok t
stepped s t n [] bytes f r e = let l : 0 ≡ suc (length r.digits) = ap length r.colon in absurd (omega arith)
stepped s t n (c ∷ cs) bytes f r e =
    ap (λ b. cond b (Err (AfterEnd n)) (record_of n (c ∷ cs) >>= applied s)) f ∙ ap (λ q. q >>= applied s) (record_is n (c ∷ cs) bytes r) ∙ e

-- ------ all lines
early : (done : List (List ℕ)) (line : List ℕ) (a b : ℕ) (more : List (List ℕ)) → Gives done a b → Gives (done ++ more) a b
early done line a b more g =
    let (f, l, k, bytes, base, i, whole, r, kind, based, lt, at, got) = g in
    (f, l, k ++ more, bytes, base, i, ap (λ t. t ++ more) whole ∙ append_assoc f (l ∷ k) more, r, kind, based, lt, at, got)

-- where reading stands behind some records
abbrev pub Behind : List (List ℕ) → List (List ℕ) → List (List ℕ) → State → ℕ → Type 0
Behind done front rest s n = (t : State) × (k : ℕ) × (t.ended ≡ false) × Holding (done ++ front) t.base t.spans × (read_from s n (front ++ rest) ≡ read_from t k rest) × (k ≡ n + length front)

pub follow : (done front rest : List (List ℕ)) (s : State) (n : ℕ) (whole : ByteMap) → s.ended ≡ false → Holding done s.base s.spans → AreRecords front
    → ((a b : ℕ) → Gives (done ++ front) a b → get whole a ≡ Some b) → Behind done front rest s n
follow done [] rest s n whole f h rs all = (s, n, f, subst (λ t. Holding t s.base s.spans) (sym (append-nil done)) h, refl, omega arith)
follow done (line ∷ front) rest s n whole f h rs all =
    let e : (done ++ (line ∷ [])) ++ front ≡ done ++ (line ∷ front) = append_assoc done (line ∷ []) front in
    let later : (a b : ℕ) → Gives ((done ++ (line ∷ [])) ++ front) a b → get whole a ≡ Some b = λ a b g. all a b (subst (λ t. Gives t a b) e g) in
    elim rs.0 [
      | inl blank ↦
          let go = follow (done ++ ([] ∷ [])) front rest s (n + 1) whole f (hold_empty done s.base s.spans h) rs.1 (subst (λ l. (a b : ℕ) → Gives ((done ++ (l ∷ [])) ++ front) a b → get whole a ≡ Some b) blank later) in
          let e' : (done ++ ([] ∷ [])) ++ front ≡ done ++ (line ∷ front) = append_assoc done ([] ∷ []) front ∙ ap (λ l. done ++ (l ∷ front)) (sym blank) in
          let place : go.1 ≡ n + length (line ∷ front) = (let k = go.5 in omega arith) in
          (go.0, go.1, go.2, subst (λ t. Holding t go.0.base go.0.spans) e' go.3, ap (λ l. read_from s n (l ∷ (front ++ rest))) blank ∙ go.4, place)
      | inr full ↦
          let (bytes, r, ne) = full in
          let one = applied_ok done line bytes s whole h r ne (λ a b g. later a b (early (done ++ (line ∷ [])) line a b front g)) (λ a b g. all a b (early done line a b (line ∷ front) g)) in
          let go = follow (done ++ (line ∷ [])) front rest one.0 (n + 1) whole (one.1 ∙ f) (hold_record done line bytes s one.0 h r one.2) rs.1 later in
          let place : go.1 ≡ n + length (line ∷ front) = (let k = go.5 in omega arith) in
          (go.0, go.1, go.2, subst (λ t. Holding t go.0.base go.0.spans) e go.3, ap (λ q. q >>= λ t. read_from t (n + 1) (front ++ rest)) (stepped s one.0 (n + 1) line bytes f r one.2) ∙ go.4, place)
    ]

empties : (t : State) (n : ℕ) (ls : List (List ℕ)) → t.ended ≡ true → AreEmpty ls → read_from t n ls ≡ Ok t.spans
empties t n [] f a = rw f refl
empties t n (line ∷ more) f a = ap (λ l. read_from t n (l ∷ more)) a.0 ∙ empties t (n + 1) more f a.1

ended : (s : State) (n : ℕ) (line bytes : List ℕ) (back : List (List ℕ)) → s.ended ≡ false → IsRecord line bytes → kind_of bytes ≡ 1 → AreEmpty back → read_from s n (line ∷ back) ≡ Ok s.spans
ended s n line bytes back f r k none =
    let t : State = record s { ended = true } in
    let done : applied s bytes ≡ Ok t = rw (ne_eqb (kind_of bytes) 0 (λ e. omega arith), eq-eqb (kind_of bytes) 1 k) refl in
    ap (λ q. q >>= λ u. read_from u (n + 1) back) (stepped s t (n + 1) line bytes f r done) ∙ empties t (n + 1) back refl none

pub read_whole : (text : List ℕ) (m : ByteMap) → IsHexText text m → reading_of text ≡ Ok m
read_whole text m is =
    let sh = is.shape in
    let s0 : State = record { base = Linear 0; ended = false; spans = empty } in
    let go = follow [] sh.front (sh.last ∷ sh.back) s0 0 m refl nothing_given sh.records is.all in
    let (bytes, r, k) = sh.ends in
    let last = ended go.0 go.1 sh.last bytes sh.back go.2 r k sh.nothing in
    let same : go.0.spans ≡ m = same_map nat_cmp_total nat_cmp-IsAntisymmetric _ _ (λ q. same_options (get go.0.spans q) (get m q) (λ b e. is.all q b (go.3.given q b e)) (λ b e. go.3.all q b (is.given q b e))) in
    ap (read_from s0 0) sh.parts ∙ go.4 ∙ last ∙ ap Ok same
