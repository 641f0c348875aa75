-- A text is read exactly where the whole-text relation holds.
use Rattle.std.proofs.Common.{◌≡◌, ℕ, ◌+◌, ◌<◌, ◌≤◌, ◌⊎◌, List, [], ◌∷◌, ◌++◌, length, true, false, cond, Some, Ok, Err, refl, sym, ap, ◌∙◌, subst, inl, inr, arith, append-nil, append_assoc, length-append}
use Rattle.std.proofs.lemmas.Bool.{cases_lt, eq-eqb, ne_eqb, le-leb, lt-leb}
use Rattle.std.proofs.lemmas.Option.{none-some}
use Rattle.std.specs.Ordering.{nat_cmp}
use Rattle.std.specs.Cmp.{nat_cmp_total}
use Rattle.std.specs.FinMap.{get, empty, get-empty, same_map, nat_cmp-IsAntisymmetric}
use Rattle.span_store.specs.ByteMap.{ByteMap, over}
use Rattle.rec_text.specs.Lines.{lines}
use Rattle.rec_text.specs.Putting.{◌>>=◌}
use Rattle.rec_text.specs.declared.fault.RecFault.TheVariants.{AfterEnd, BadCount}
use Rattle.rec_text.proofs.Adds.{some_below, put_ok, same_options}
use Rattle.srec_rec.specs.Record.{width, number_at, size_of, record_of}
use Rattle.srec_rec.specs.Reading.{with_map, data_of, applied, step, read_from, reading_of}
use Rattle.srec_rec.specs.SrecText.{IsRecord, IsData, Counts, IsGood, AreEmpty, Gives, IsSrecText}
use Rattle.srec_rec.specs.declared.reading.State.{State}
use Rattle.srec_rec.proofs.Whole.{chosen, bind_ok, record_ok, record_is, same_kind, no_record, gives_early, gives_last, one_count, Holding, hold_skip, hold_data, data_size, data_at, did, count_part, data_part, end_part}

-- ------ read, so related
nothing_after : (t : State) (n : ℕ) (ls : List (List ℕ)) (m : ByteMap) → t.ended ≡ true → read_from t n ls ≡ Ok m → AreEmpty ls × (t.spans ≡ m)
nothing_after t n [] m f e = (tt, (let x = rw f at e in cc))
nothing_after t n ([] ∷ more) m f e = let r = nothing_after t (n + 1) more m f e in ((refl, r.0), r.1)
nothing_after t n ((c ∷ cs) ∷ more) m f e =
    let (u, a, b) = bind_ok (step t (n + 1) (c ∷ cs)) (λ u. read_from u (n + 1) more) m e in
    elim (chosen t.ended (Err (AfterEnd (n + 1))) (record_of (n + 1) (c ∷ cs) >>= applied t) (Ok u) a) [
      | inl x ↦ let y = x.1 in cc
      | inr x ↦ let y = x.0 in cc
    ]

-- each line is good behind what stands before it
abbrev AreGood : List (List ℕ) → List (List ℕ) → Type 0
AreGood done [] = Unit {0}
AreGood done (line ∷ more) = IsGood done line × AreGood (done ++ (line ∷ [])) more

abbrev first_of : List (List ℕ) → List ℕ
first_of [] = []
first_of (x ∷ xs) = x

abbrev others_of : List (List ℕ) → List (List ℕ)
others_of [] = []
others_of (x ∷ xs) = xs

good_at : (done front : List (List ℕ)) (f : List (List ℕ)) (line : List ℕ) (back : List (List ℕ)) → AreGood done front → front ≡ f ++ (line ∷ back) → IsGood (done ++ f) line
good_at done [] f line back g e =
    let n : 0 ≡ length (f ++ (line ∷ back)) = ap length e in
    let s : length (f ++ (line ∷ back)) ≡ length f + length (line ∷ back) = length-append f (line ∷ back) in
    absurd (omega arith)
good_at done (x ∷ front) [] line back g e = subst (λ d. IsGood d line) (sym (append-nil done)) (subst (IsGood done) (ap first_of e) g.0)
good_at done (x ∷ front) (y ∷ f) line back g e =
    let h : x ≡ y = ap first_of e in
    subst (λ d. IsGood d line) (append_assoc done (x ∷ []) f ∙ ap (λ t. done ++ (t ∷ f)) h) (good_at (done ++ (x ∷ [])) front f line back g.1 (ap others_of e))

pub all_good : (done front : List (List ℕ)) → ((f : List (List ℕ)) (line : List ℕ) (back : List (List ℕ)) → front ≡ f ++ (line ∷ back) → IsGood (done ++ f) line) → AreGood done front
all_good done [] h = tt
all_good done (x ∷ front) h = (
  subst (λ d. IsGood d x) (append-nil done) (h [] x front refl),
  all_good (done ++ (x ∷ [])) front (λ f line back e. subst (λ d. IsGood d line) (sym (append_assoc done (x ∷ []) f)) (h (x ∷ f) line back (ap (λ t. x ∷ t) e))),
)

pub record Found (done ls : List (List ℕ)) (m : ByteMap) : Type 0 where
  pub front : List (List ℕ)
  pub last : List ℕ
  pub back : List (List ℕ)
  pub parts : ls ≡ front ++ last ∷ back
  pub good : AreGood done front
  pub ends : (kind : ℕ) × (bytes : List ℕ) × IsRecord last kind bytes × (6 < kind)
  pub nothing : AreEmpty back
  pub given : (a b : ℕ) → get m a ≡ Some b → Gives (done ++ front) a b
  pub all : (a b : ℕ) → Gives (done ++ front) a b → get m a ≡ Some b

one_later : (done : List (List ℕ)) (line : List ℕ) (more : List (List ℕ)) (m : ByteMap) → IsGood done line → Found (done ++ (line ∷ [])) more m → Found done (line ∷ more) m
one_later done line more m is f =
    let e : (done ++ (line ∷ [])) ++ f.front ≡ done ++ (line ∷ f.front) = append_assoc done (line ∷ []) f.front in
    record {
      front = line ∷ f.front;
      last = f.last;
      back = f.back;
      parts = ap (λ t. line ∷ t) f.parts;
      good = (is, f.good);
      ends = f.ends;
      nothing = f.nothing;
      given = λ a b g. subst (λ t. Gives t a b) e (f.given a b g);
      all = λ a b g. f.all a b (subst (λ t. Gives t a b) (sym e) g);
    }

pub hold_empty : (done : List (List ℕ)) (count : ℕ) (m : ByteMap) → Holding done count m → Holding (done ++ ([] ∷ [])) count m
hold_empty done count m h = hold_skip done [] count m h (λ d. let (kind, bytes, r, lo, hi) = d in no_record kind bytes r)

pub no_data : (line : List ℕ) (kind : ℕ) (bytes : List ℕ) → IsRecord line kind bytes → (kind ≡ 0) ⊎ (3 < kind) → IsData line → ⊥
no_data line kind bytes r which d =
    let (other, more, s, lo, hi) = d in
    let e = same_kind line kind other bytes more r s in
    elim which [ inl zero_kind ↦ omega arith | inr high ↦ omega arith ]

pub found : (done : List (List ℕ)) (s : State) (n : ℕ) (ls : List (List ℕ)) (m : ByteMap) → s.ended ≡ false → Holding done s.count s.spans → read_from s n ls ≡ Ok m → Found done ls m
found done s n [] m f h e = let x = rw f at e in cc
found done s n ([] ∷ more) m f h e = one_later done [] more m (inl refl) (found (done ++ ([] ∷ [])) s (n + 1) more m f (hold_empty done s.count s.spans h) e)
found done s n ((c ∷ cs) ∷ more) m f h e =
    let (t, a, rest) = bind_ok (step s (n + 1) (c ∷ cs)) (λ u. read_from u (n + 1) more) m e in
    elim (chosen s.ended (Err (AfterEnd (n + 1))) (record_of (n + 1) (c ∷ cs) >>= applied s) (Ok t) a) [
      | inl x ↦ let y = x.0 in cc
      | inr x ↦
          let (got, ok, d) = bind_ok (record_of (n + 1) (c ∷ cs)) (applied s) t x.1 in
          let r = record_ok (n + 1) (c ∷ cs) got ok in
          elim (did s t got.0 got.1 d) [
            | inl data_line ↦
                let (lo, hi, new, put, is) = data_line in
                let good : IsGood done (c ∷ cs) = inr (got.0, got.1, r, omega arith, λ l. absurd (omega arith)) in
                let held = subst (λ (u : State). Holding (done ++ ((c ∷ cs) ∷ [])) u.count u.spans) (sym is) (hold_data done (c ∷ cs) got.0 got.1 s.count s.spans new h r lo hi put) in
                one_later done (c ∷ cs) more m good (found (done ++ ((c ∷ cs) ∷ [])) t (n + 1) more m (ap (λ (u : State). u.ended) is ∙ f) held rest)
            | inr others ↦ elim others [
              | inl same ↦
                  let (hi, which, says, is) = same in
                  let good : IsGood done (c ∷ cs) = inr (got.0, got.1, r, hi, λ l. subst (Counts done) (sym (says l)) h.counted) in
                  let held = subst (λ (u : State). Holding (done ++ ((c ∷ cs) ∷ [])) u.count u.spans) (sym is) (hold_skip done (c ∷ cs) s.count s.spans h (no_data (c ∷ cs) got.0 got.1 r which)) in
                  one_later done (c ∷ cs) more m good (found (done ++ ((c ∷ cs) ∷ [])) t (n + 1) more m (ap (λ (u : State). u.ended) is ∙ f) held rest)
              | inr last ↦
                  let (six, is) = last in
                  let after = nothing_after t (n + 1) more m (ap (λ (u : State). u.ended) is) rest in
                  let map : s.spans ≡ m = sym (ap (λ (u : State). u.spans) is) ∙ after.1 in
                  record {
                    front = [];
                    last = c ∷ cs;
                    back = more;
                    parts = refl;
                    good = tt;
                    ends = (got.0, got.1, r, six);
                    nothing = after.0;
                    given = λ a b g. subst (λ t. Gives t a b) (sym (append-nil done)) (h.given a b (ap (λ t. get t a) map ∙ g));
                    all = λ a b g. ap (λ t. get t a) (sym map) ∙ h.all a b (subst (λ t. Gives t a b) (append-nil done) g);
                  }
            ]
          ]
    ]

pub nothing_given : Holding [] 0 empty
nothing_given = record {
  counted = refl;
  given = λ a b e. absurd (none-some b (sym (get-empty nat_cmp a) ∙ e));
  all = λ a b g.
      let (f, l, k, kind, bytes, i, whole, r, lo, hi, lt, at, got) = g in
      let n : length {A = List ℕ} [] ≡ length (f ++ (l ∷ k)) = ap length whole in
      let s : length (f ++ (l ∷ k)) ≡ length f + length (l ∷ k) = length-append f (l ∷ k) in
      absurd (omega arith);
}

pub whole_text : (text : List ℕ) (m : ByteMap) → reading_of text ≡ Ok m → IsSrecText text m
whole_text text m e =
    let f = found [] _ 0 (lines text) m refl nothing_given e in
    record {
      front = f.front;
      last = f.last;
      back = f.back;
      parts = f.parts;
      records = λ g line back is. good_at [] f.front g line back f.good is;
      ends = f.ends;
      nothing = f.nothing;
      given = f.given;
      all = f.all;
    }

-- ------ related, so read
applied_ok : (done : List (List ℕ)) (line : List ℕ) (kind : ℕ) (bytes : List ℕ) (s : State) (whole : ByteMap) → Holding done s.count s.spans → IsRecord line kind bytes → kind ≤ 6
    → (3 < kind → Counts done (number_at (width kind) bytes)) → ((a b : ℕ) → Gives (done ++ (line ∷ [])) a b → get whole a ≡ Some b) → ((a b : ℕ) → Gives done a b → get whole a ≡ Some b)
    → (t : State) × (t.ended ≡ s.ended) × (applied s (kind, bytes) ≡ Ok t) × Holding (done ++ (line ∷ [])) t.count t.spans
applied_ok done line kind bytes s whole h r six says new old =
    elim (cases_lt 0 kind) [
      | inr none ↦
          let k : kind ≡ 0 = omega arith in
          (s, refl, rw (eq-eqb kind 0 k) refl, hold_skip done line s.count s.spans h (no_data line kind bytes r (inl k)))
      | inl lo ↦ elim (cases_lt 3 kind) [
        | inr three ↦
            let size = data_size line kind bytes r in
            let put = put_ok whole s.spans (number_at (width kind) bytes) (data_of (width kind) bytes) (λ a b e. old a b (h.given a b e))
            (λ a b p. let l = some_below (data_of (width kind) bytes) p.0 b p.2 in let lt : p.0 < size_of (width kind) bytes = omega arith in
            new a b (gives_last done line a b (kind, bytes, p.0, r, lo, three, lt, p.1, sym (data_at (width kind) bytes p.0 lt) ∙ p.2))) in (
              record s { count = s.count + 1; spans = over s.spans (number_at (width kind) bytes) (data_of (width kind) bytes) },
              refl,
              data_part s kind bytes (ne_eqb kind 0 (λ e. omega arith)) (le-leb kind 3 three) ∙ ap (with_map s) put,
              hold_data done line kind bytes s.count s.spans _ h r lo three put,
            )
        | inl high ↦
            let same = one_count done (number_at (width kind) bytes) s.count (says high) h.counted in
            (s, refl, count_part s kind bytes (ne_eqb kind 0 (λ e. omega arith)) (lt-leb kind 3 high) (le-leb kind 6 six) ∙ ap (λ b. cond b (Ok s) (Err (BadCount (number_at (width kind) bytes) s.count))) (eq-eqb (number_at (width kind) bytes) s.count same), hold_skip done line s.count s.spans h (no_data line kind bytes r (inr high)))
      ]
    ]

pub stepped : (s t : State) (n : ℕ) (line : List ℕ) (kind : ℕ) (bytes : List ℕ) → s.ended ≡ false → IsRecord line kind bytes → applied s (kind, bytes) ≡ Ok t → step s n line ≡ Ok t
stepped s t n [] kind bytes f r e = absurd (no_record kind bytes r)
stepped s t n (c ∷ cs) kind bytes f r e =
    ap (λ b. cond b (Err (AfterEnd n)) (record_of n (c ∷ cs) >>= applied s)) f ∙ ap (λ q. q >>= applied s) (record_is n (c ∷ cs) kind bytes r) ∙ e

abbrev pub Behind : List (List ℕ) → List (List ℕ) → List (List ℕ) → State → ℕ → Type 0
Behind done front rest s n = (t : State) × (k : ℕ) × (t.ended ≡ false) × Holding (done ++ front) t.count t.spans × (read_from s n (front ++ rest) ≡ read_from t k rest) × (k ≡ n + length front)

pub follow : (done front rest : List (List ℕ)) (s : State) (n : ℕ) (whole : ByteMap) → s.ended ≡ false → Holding done s.count s.spans → AreGood done front
    → ((a b : ℕ) → Gives (done ++ front) a b → get whole a ≡ Some b) → Behind done front rest s n
follow done [] rest s n whole f h rs all = (s, n, f, subst (λ t. Holding t s.count s.spans) (sym (append-nil done)) h, refl, omega arith)
follow done (line ∷ front) rest s n whole f h rs all =
    let e : (done ++ (line ∷ [])) ++ front ≡ done ++ (line ∷ front) = append_assoc done (line ∷ []) front in
    let later : (a b : ℕ) → Gives ((done ++ (line ∷ [])) ++ front) a b → get whole a ≡ Some b = λ a b g. all a b (subst (λ t. Gives t a b) e g) in
    elim rs.0 [
      | inl blank ↦
          let held : Holding (done ++ (line ∷ [])) s.count s.spans = subst (λ l. Holding (done ++ (l ∷ [])) s.count s.spans) (sym blank) (hold_empty done s.count s.spans h) in
          let go = follow (done ++ (line ∷ [])) front rest s (n + 1) whole f held rs.1 later in
          let place : go.1 ≡ n + length (line ∷ front) = (let k = go.5 in omega arith) in
          (go.0, go.1, go.2, subst (λ t. Holding t go.0.count go.0.spans) e go.3, ap (λ l. read_from s n (l ∷ (front ++ rest))) blank ∙ go.4, place)
      | inr full ↦
          let (kind, bytes, r, six, says) = full in
          let one = applied_ok done line kind bytes s whole h r six says (λ a b g. later a b (gives_early (done ++ (line ∷ [])) a b front g)) (λ a b g. all a b (gives_early done a b (line ∷ front) g)) in
          let go = follow (done ++ (line ∷ [])) front rest one.0 (n + 1) whole (one.1 ∙ f) one.3 rs.1 later in
          let place : go.1 ≡ n + length (line ∷ front) = (let k = go.5 in omega arith) in
          (go.0, go.1, go.2, subst (λ t. Holding t go.0.count go.0.spans) e go.3, ap (λ q. q >>= λ t. read_from t (n + 1) (front ++ rest)) (stepped s one.0 (n + 1) line kind bytes f r one.2) ∙ go.4, place)
    ]

empties : (t : State) (n : ℕ) (ls : List (List ℕ)) → t.ended ≡ true → AreEmpty ls → read_from t n ls ≡ Ok t.spans
empties t n [] f a = rw f refl
empties t n (line ∷ more) f a = ap (λ l. read_from t n (l ∷ more)) a.0 ∙ empties t (n + 1) more f a.1

ended : (s : State) (n : ℕ) (line : List ℕ) (kind : ℕ) (bytes : List ℕ) (back : List (List ℕ)) → s.ended ≡ false → IsRecord line kind bytes → 6 < kind → AreEmpty back → read_from s n (line ∷ back) ≡ Ok s.spans
ended s n line kind bytes back f r six none =
    let t : State = record s { ended = true } in
    let done : applied s (kind, bytes) ≡ Ok t = end_part s kind bytes (ne_eqb kind 0 (λ e. omega arith)) (lt-leb kind 3 (omega arith)) (lt-leb kind 6 six) in
    ap (λ q. q >>= λ u. read_from u (n + 1) back) (stepped s t (n + 1) line kind bytes f r done) ∙ empties t (n + 1) back refl none

pub read_whole : (text : List ℕ) (m : ByteMap) → IsSrecText text m → reading_of text ≡ Ok m
read_whole text m is =
    let s0 : State = record { count = 0; ended = false; spans = empty } in
    let go = follow [] is.front (is.last ∷ is.back) s0 0 m refl nothing_given (all_good [] is.front is.records) is.all in
    let (kind, bytes, r, six) = is.ends in
    let last = ended go.0 go.1 is.last kind bytes is.back go.2 r six is.nothing in
    let same : go.0.spans ≡ m = same_map nat_cmp_total nat_cmp-IsAntisymmetric _ _ (λ q. same_options (get go.0.spans q) (get m q) (λ b e. is.all q b (go.3.given q b e)) (λ b e. go.3.all q b (is.given q b e))) in
    ap (read_from s0 0) is.parts ∙ go.4 ∙ last ∙ ap Ok same
