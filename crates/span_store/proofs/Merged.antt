-- Maximal runs, counted over extents.
use Rattle.std.proofs.Common.{zero, suc, ◌≡◌, ℕ, ◌+◌, ◌-◌, ◌<◌, ◌≤◌, false, cond, eqb, List, [], ◌∷◌, ◌++◌, length, Some, refl, sym, ap, ◌∙◌, subst, inl, inr, arith, append_assoc}
use Rattle.std.proofs.lemmas.Bool.{cases_Bool, eq-eqb, ne_eqb, eqb-true, false≢true}
use Rattle.std.proofs.lemmas.Option.{none-some}
use Rattle.std.specs.Ordering.{nat_cmp}
use Rattle.std.specs.declared.cmp.Ordering.TheVariants.{Less}
use Rattle.std.specs.Cmp.{nat_cmp_total, nat_cmp_is}
use Rattle.std.specs.FinMap.{entries, entries-insert, put, len-entries, len-empty}
use Rattle.std.specs.FinMap.Entries.{by_order}
use Rattle.std.specs.List.{slice_get}
use Rattle.span_store.specs.ByteMap.{ByteMap, over, top}
use Rattle.span_store.specs.Extents.{Extent, map_of, end_of, StartFrom, AreExtents, low, high}
use Rattle.flash_base.specs.Lists.{Each}
use Rattle.span_store.specs.Runs.{before_runs, runs_of, runs, IsRun}
use Rattle.span_store.proofs.Order.{split, ascending, back, front, front_ends, high_cut, EndBy-append, EndBy_more, high_all, high_are, high_from}

abbrev pub pairs : ℕ → List ℕ → List (ℕ × ℕ)
pairs at [] = []
pairs at (b ∷ bs) = (at, b) ∷ pairs (at + 1) bs

abbrev flat : List Extent → List (ℕ × ℕ)
flat [] = []
flat (e ∷ es) = pairs e.0 e.1 ++ flat es

-- each address is one from n on
abbrev pub From : ℕ → List (ℕ × ℕ) → Type 0
From n [] = Unit {0}
From n (p ∷ ps) = (n ≤ p.0) × From n ps

From_less : (m n : ℕ) (ps : List (ℕ × ℕ)) → From n ps → m ≤ n → From m ps
From_less m n [] f le = tt
From_less m n (p ∷ ps) f le = (let l = f.0 in omega arith, From_less m n ps f.1 le)

From-append : (n : ℕ) (ps qs : List (ℕ × ℕ)) → From n ps → From n qs → From n (ps ++ qs)
From-append n [] qs f g = g
From-append n (p ∷ ps) qs f g = (f.0, From-append n ps qs f.1 g)

From_pairs : (n at : ℕ) (bs : List ℕ) → n ≤ at → From n (pairs at bs)
From_pairs n at [] le = tt
From_pairs n at (b ∷ bs) le = (le, From_pairs n (at + 1) bs (omega arith))

From_flat : (n : ℕ) (es : List Extent) → StartFrom n es → From n (flat es)
From_flat n [] s = tt
From_flat n (e ∷ es) s = From-append n (pairs e.0 e.1) (flat es) (From_pairs n e.0 e.1 s.0) (From_flat n es s.1)

put_first : (at b : ℕ) (ps : List (ℕ × ℕ)) → From (at + 1) ps → put nat_cmp at b ps ≡ (at, b) ∷ ps
put_first at b [] f = refl
put_first at b (p ∷ ps) f = ap (λ o. by_order o ((at, b) ∷ p ∷ ps) ((p.0, b) ∷ ps) (p ∷ put nat_cmp at b ps)) (sym (nat_cmp_is at p.0 Less (let l = f.0 in omega arith)))

pub entries-over : (m : ByteMap) (at : ℕ) (bs : List ℕ) → From (at + length bs) (entries m) → entries (over m at bs) ≡ pairs at bs ++ entries m
entries-over m at [] f = refl
entries-over m at (b ∷ bs) f =
    let more : at + 1 + length bs ≡ at + suc (length bs) = omega arith in
    let rest : entries (over m (at + 1) bs) ≡ pairs (at + 1) bs ++ entries m = entries-over m (at + 1) bs (subst (λ n. From n (entries m)) (sym more) f) in
    let le : at + 1 ≤ at + 1 = omega arith in
    entries-insert nat_cmp_total (over m (at + 1) bs) at b
    ∙ ap (put nat_cmp at b) rest
    ∙ put_first at b (pairs (at + 1) bs ++ entries m) (From-append (at + 1) (pairs (at + 1) bs) (entries m) (From_pairs (at + 1) (at + 1) bs le) (From_less (at + 1) (at + suc (length bs)) (entries m) f (omega arith)))

nil_of_length : (ps : List (ℕ × ℕ)) → length ps ≡ 0 → ps ≡ []
nil_of_length [] e = refl
nil_of_length (p ∷ ps) e = absurd (omega arith)

entries-map_of : (es : List Extent) → AreExtents es → entries (map_of es) ≡ flat es
entries-map_of [] s = nil_of_length (entries (map_of [])) (sym (len-entries (map_of [])) ∙ len-empty nat_cmp ℕ)
entries-map_of (e ∷ es) s =
    let rest : entries (map_of es) ≡ flat es = entries-map_of es s.3 in
    entries-over (map_of es) e.0 e.1 (subst (From (end_of e)) (sym rest) (From_flat (end_of e) es s.2)) ∙ ap (λ t. pairs e.0 e.1 ++ t) rest

-- ------ runs of extents
abbrev pub merged : List Extent → List (ℕ × ℕ)
merged [] = []
merged (e ∷ es) = before_runs (e.0, length e.1) (merged es)

-- a run right before another is one with it
pub join : (at m n : ℕ) (rs : List (ℕ × ℕ)) → before_runs (at, m) (before_runs (at + m, n) rs) ≡ before_runs (at, m + n) rs
join at m n [] = rw (eq-eqb (at + m) (at + m) refl) refl
join at m n (r ∷ rs) =
    elim (cases_Bool (eqb r.0 (at + m + n))) [
      | inl is_so ↦
          let e : r.0 ≡ at + (m + n) = (let t = eqb-true r.0 (at + m + n) is_so in omega arith) in
          let s : m + (n + r.1) ≡ m + n + r.1 = omega arith in
          rw (is_so, eq-eqb (at + m) (at + m) refl, eq-eqb r.0 (at + (m + n)) e) (ap (λ k. (at, k) ∷ rs) s)
      | inr is_not ↦
          let ne : eqb r.0 (at + (m + n)) ≡ false = ne_eqb r.0 (at + (m + n)) (λ e. false≢true (sym is_not ∙ eq-eqb r.0 (at + m + n) (omega arith))) in
          rw (is_not, eq-eqb (at + m) (at + m) refl, ne) refl
    ]

pub runs_of_pairs : (at : ℕ) (bs : List ℕ) (ps : List (ℕ × ℕ)) → 0 < length bs → runs_of (pairs at bs ++ ps) ≡ before_runs (at, length bs) (runs_of ps)
runs_of_pairs at [] ps h = absurd (omega arith)
runs_of_pairs at (b ∷ []) ps h = refl
runs_of_pairs at (b ∷ c ∷ cs) ps h =
    let n : 1 + length (c ∷ cs) ≡ length (b ∷ c ∷ cs) = omega arith in
    ap (before_runs (at, 1)) (runs_of_pairs (at + 1) (c ∷ cs) ps (omega arith)) ∙ join at 1 (length (c ∷ cs)) (runs_of ps) ∙ ap (λ k. before_runs (at, k) (runs_of ps)) n

runs_of_flat : (es : List Extent) → AreExtents es → runs_of (flat es) ≡ merged es
runs_of_flat [] s = refl
runs_of_flat (e ∷ es) s = runs_of_pairs e.0 e.1 (flat es) s.0 ∙ ap (before_runs (e.0, length e.1)) (runs_of_flat es s.3)

pub runs-merged : (es : List Extent) → AreExtents es → runs (map_of es) ≡ merged es
runs-merged es s = ap runs_of (entries-map_of es s) ∙ runs_of_flat es s

-- how many runs extents begin behind a run that ends at an address
abbrev pub tally : ℕ → List Extent → ℕ
tally n [] = 0
tally n (e ∷ es) = cond (eqb e.0 n) 0 1 + tally (end_of e) es

-- the first of merged runs begins where the extents do
pub head_is : (at n : ℕ) (rs : List (ℕ × ℕ)) → (size : ℕ) × (more : List (ℕ × ℕ)) × (before_runs (at, n) rs ≡ (at, size) ∷ more)
head_is at n [] = (n, [], refl)
head_is at n (r ∷ rs) =
    elim (cases_Bool (eqb r.0 (at + n))) [
      | inl is_so ↦ (n + r.1, rs, rw is_so refl)
      | inr is_not ↦ (n, r ∷ rs, rw is_not refl)
    ]

apart : (at n : ℕ) (rs : List (ℕ × ℕ)) (start size : ℕ) (more : List (ℕ × ℕ)) → rs ≡ (start, size) ∷ more
    → length (before_runs (at, n) rs) ≡ cond (eqb start (at + n)) 0 1 + length rs
apart at n rs start size more e =
    elim (cases_Bool (eqb start (at + n))) [
      | inl is_so ↦ rw (e, is_so) (omega arith)
      | inr is_not ↦ rw (e, is_not) (omega arith)
    ]

length-before_runs : (at n : ℕ) (es : List Extent) → length (before_runs (at, n) (merged es)) ≡ 1 + tally (at + n) es
length-before_runs at n [] = refl
length-before_runs at n (e ∷ es) =
    let head = head_is e.0 (length e.1) (merged es) in
    let known = length-before_runs e.0 (length e.1) es in
    let one = apart at n (merged (e ∷ es)) e.0 head.0 head.1 head.2 in
    omega (arith, one, known)

pub length-merged : (e : Extent) (es : List Extent) → length (merged (e ∷ es)) ≡ 1 + tally (end_of e) es
length-merged e es = length-before_runs e.0 (length e.1) es

-- what stands behind an extent
StartFrom_zero : (es : List Extent) → StartFrom 0 es
StartFrom_zero [] = tt
StartFrom_zero (e ∷ es) = (omega arith, StartFrom_zero es)

pub high_zero : (es : List Extent) → high 0 es ≡ es
high_zero es = high_all 0 es (StartFrom_zero es)

pub high_next : (es : List Extent) (here : ℕ) (e : Extent) (rest : List Extent) → AreExtents es → high here es ≡ e ∷ rest → high (end_of e) es ≡ rest
high_next es here e rest s h =
    let all : es ≡ low here es ++ (e ∷ rest) = split here es (ascending es s) ∙ ap (λ t. low here es ++ t) h in
    let t : AreExtents (low here es ++ (e ∷ rest)) = subst AreExtents all s in
    let b = back (low here es) (e ∷ rest) t in
    let cut : es ≡ (low here es ++ (e ∷ [])) ++ rest = all ∙ sym (append_assoc (low here es) (e ∷ []) rest) in
    let le : end_of e ≤ end_of e = omega arith in
    ap (high (end_of e)) cut
    ∙ high_cut (end_of e) (low here es ++ (e ∷ [])) rest (front (low here es ++ (e ∷ [])) rest (subst AreExtents cut s))
    (EndBy-append (end_of e) (low here es) (e ∷ []) (EndBy_more e.0 (end_of e) (low here es) (front_ends (low here es) e rest t) (omega arith)) (le, tt)) b.2

-- ------ along the runs
pub tally_joined : (n : ℕ) (e : Extent) (es : List Extent) → e.0 ≡ n → tally n (e ∷ es) ≡ tally (end_of e) es
tally_joined n e es h = let z : 0 + tally (end_of e) es ≡ tally (end_of e) es = omega arith in ap (λ b. cond b 0 1 + tally (end_of e) es) (eq-eqb e.0 n h) ∙ z

pub tally_apart : (n : ℕ) (e : Extent) (es : List Extent) → (e.0 ≡ n → ⊥) → tally n (e ∷ es) ≡ 1 + tally (end_of e) es
tally_apart n e es h = rw (ne_eqb e.0 n h) refl

-- the runs from one on that has bytes up to an address
abbrev pub runs_from : ℕ → ℕ → List Extent → List (ℕ × ℕ)
runs_from at end es = before_runs (at, end - at) (merged (high end es))

pub run_first : (es : List Extent) (e : Extent) (rest : List Extent) → AreExtents es → high 0 es ≡ e ∷ rest → merged es ≡ runs_from e.0 (end_of e) es
run_first es e rest s h =
    let all : es ≡ e ∷ rest = sym (high_zero es) ∙ h in
    let size : length e.1 ≡ end_of e - e.0 = omega arith in
    ap merged all ∙ ap (λ n. before_runs (e.0, n) (merged rest)) size ∙ ap (λ r. before_runs (e.0, end_of e - e.0) (merged r)) (sym (high_next es 0 e rest s h))

pub run_longer : (es : List Extent) (at end : ℕ) (e : Extent) (rest : List Extent) → AreExtents es → at ≤ end → high end es ≡ e ∷ rest → e.0 ≡ end
    → runs_from at end es ≡ runs_from at (end_of e) es
run_longer es at end e rest s le h is =
    let here : e.0 ≡ at + (end - at) = omega arith in
    let size : end - at + length e.1 ≡ end_of e - at = omega arith in
    ap (λ r. before_runs (at, end - at) (merged r)) h
    ∙ ap (λ a. before_runs (at, end - at) (before_runs (a, length e.1) (merged rest))) here
    ∙ join at (end - at) (length e.1) (merged rest)
    ∙ ap (λ n. before_runs (at, n) (merged rest)) size
    ∙ ap (λ r. before_runs (at, end_of e - at) (merged r)) (sym (high_next es end e rest s h))

pub run_apart : (at n : ℕ) (rs : List (ℕ × ℕ)) (start size : ℕ) (more : List (ℕ × ℕ)) → rs ≡ (start, size) ∷ more → (start ≡ at + n → ⊥) → before_runs (at, n) rs ≡ (at, n) ∷ rs
run_apart at n rs start size more e ne = rw (e, ne_eqb start (at + n) ne) refl

pub run_next : (es : List Extent) (at end : ℕ) (e : Extent) (rest : List Extent) → AreExtents es → at ≤ end → high end es ≡ e ∷ rest → (e.0 ≡ end → ⊥)
    → runs_from at end es ≡ (at, end - at) ∷ runs_from e.0 (end_of e) es
run_next es at end e rest s le h ne =
    let head = head_is e.0 (length e.1) (merged rest) in
    let size : length e.1 ≡ end_of e - e.0 = omega arith in
    ap (λ r. before_runs (at, end - at) (merged r)) h
    ∙ run_apart at (end - at) (merged (e ∷ rest)) e.0 head.0 head.1 head.2 (λ is. ne (omega arith))
    ∙ ap (λ n. (at, end - at) ∷ before_runs (e.0, n) (merged rest)) size
    ∙ ap (λ r. (at, end - at) ∷ before_runs (e.0, end_of e - e.0) (merged r)) (sym (high_next es end e rest s h))

pub run_last : (es : List Extent) (at end : ℕ) → high end es ≡ [] → runs_from at end es ≡ (at, end - at) ∷ []
run_last es at end h = ap (λ r. before_runs (at, end - at) (merged r)) h

-- ------ each is within the addresses
before_runs_within : (r : ℕ × ℕ) (rs : List (ℕ × ℕ)) → IsRun r → Each IsRun rs → Each IsRun (before_runs r rs)
before_runs_within r [] w each = (w, tt)
before_runs_within r (s ∷ ss) w each =
    elim (cases_Bool (eqb s.0 (r.0 + r.1))) [
      | inl is_so ↦
          let e : s.0 ≡ r.0 + r.1 = eqb-true s.0 (r.0 + r.1) is_so in
          let one : 1 ≤ r.1 = w.0 in
          let end : s.0 + s.1 ≤ top = each.0.1 in
          rw is_so ((omega arith, omega arith), each.1)
      | inr is_not ↦ rw is_not (w, each)
    ]

merged_within : (es : List Extent) → AreExtents es → Each IsRun (merged es)
merged_within [] s = tt
merged_within (e ∷ es) s = before_runs_within (e.0, length e.1) (merged es) (s.0, s.1) (merged_within es s.3)

pub runs_within : (es : List Extent) → AreExtents es → Each IsRun (runs (map_of es))
runs_within es s = subst (Each IsRun) (sym (runs-merged es s)) (merged_within es s)

-- ------ what the next extent is like
pub next_is : (es : List Extent) (here : ℕ) (e : Extent) (rest : List Extent) → AreExtents es → high here es ≡ e ∷ rest → (here ≤ e.0) × (0 < length e.1) × (end_of e ≤ top)
next_is es here e rest s h =
    let t : AreExtents (e ∷ rest) = subst AreExtents h (high_are here es s) in
    let f : StartFrom here (e ∷ rest) = subst (StartFrom here) h (high_from here es) in
    (f.0, t.0, t.1)

pub runs_none : (es : List Extent) → AreExtents es → high 0 es ≡ [] → runs (map_of es) ≡ []
runs_none es s h = runs-merged es s ∙ ap merged (sym (high_zero es) ∙ h)

pub no_runs : (es : List Extent) → AreExtents es → high 0 es ≡ [] → length (runs (map_of es)) ≡ 0
no_runs es s h = ap length (runs_none es s h)

there_is : (xs : List (ℕ × ℕ)) (i : ℕ) → i < length xs → (y : ℕ × ℕ) × (slice_get xs i ≡ Some y)
there_is [] i l = absurd (omega arith)
there_is (x ∷ xs) zero l = (x, refl)
there_is (x ∷ xs) (suc i) l = there_is xs i (omega arith)

pub only_one : (x : ℕ × ℕ) (j : ℕ) (xs : List (ℕ × ℕ)) (i : ℕ) → i < length xs → slice_get xs i ≡ slice_get (x ∷ []) j → slice_get xs i ≡ Some x
only_one x zero xs i l e = e
only_one x (suc j) xs i l e = let t = there_is xs i l in absurd (none-some t.0 (sym e ∙ t.1))
