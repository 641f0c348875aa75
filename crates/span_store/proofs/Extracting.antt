-- An extent that is taken out.
use Rattle.std.proofs.Common.{◌≡◌, ℕ, ◌+◌, List, [], ◌∷◌, ◌++◌, length, Some, cond, true, false, refl, sym, ap, ◌∙◌, subst, inl, inr, arith}
use Rattle.std.proofs.lemmas.Bool.{cases_lt}
use Rattle.std.specs.Ordering.{nat_cmp, is_eq}
use Rattle.std.specs.declared.cmp.Ordering.TheVariants.{Less, Equal, Greater}
use Rattle.std.specs.Cmp.{nat_cmp_is}
use Rattle.std.specs.Map.{lookup, remove_entry}
use Rattle.std.specs.BTreeMap.{is_at}
use Rattle.std.specs.FinMap.{get}
use Rattle.span_store.specs.ByteMap.{over}
use Rattle.span_store.specs.Extents.{Extent, map_of, EndBy, AreExtents}
use Rattle.span_store.specs.Putting.{Extracts}
use Rattle.span_store.proofs.Order.{back, front, front_ends, joined, StartFrom_less}
use Rattle.span_store.proofs.Lookups.{bare, placed}

-- the extents before and behind one
pub record Among (from : ℕ) (bs : List ℕ) (es : List Extent) : Type 0 where
  pub before : List Extent
  pub behind : List Extent
  pub all : es ≡ before ++ ((from, bs) ∷ behind)
  pub left : remove_entry (is_at (nat_cmp from)) es ≡ before ++ behind

-- not the first
later : (from : ℕ) (bs : List ℕ) (e : Extent) (es : List Extent) → is_at (nat_cmp from) e.0 ≡ false → lookup (is_at (nat_cmp from)) (e ∷ es) ≡ Some bs
    → (lookup (is_at (nat_cmp from)) es ≡ Some bs → Among from bs es) → Among from bs (e ∷ es)
later from bs e es t h rest =
    let w = rest (sym (ap (λ b. cond b (Some e.1) (lookup (is_at (nat_cmp from)) es)) t) ∙ h) in
    record {
      before = e ∷ w.before;
      behind = w.behind;
      all = ap (λ l. e ∷ l) w.all;
      left = ap (λ b. cond b es (e ∷ remove_entry (is_at (nat_cmp from)) es)) t ∙ ap (λ l. e ∷ l) w.left;
    }

first : (from : ℕ) (bs : List ℕ) (e : Extent) (es : List Extent) → from ≡ e.0 → lookup (is_at (nat_cmp from)) (e ∷ es) ≡ Some bs → Among from bs (e ∷ es)
first from bs e es same h =
    let t : is_at (nat_cmp from) e.0 ≡ true = ap is_eq (sym (nat_cmp_is from e.0 Equal same)) in
    let is : Some e.1 ≡ Some bs = sym (ap (λ b. cond b (Some e.1) (lookup (is_at (nat_cmp from)) es)) t) ∙ h in
    let bytes : e.1 ≡ bs = cc in
    record {
      before = [];
      behind = es;
      all = ap (λ a. (a, e.1) ∷ es) (sym same) ∙ ap (λ b. (from, b) ∷ es) bytes;
      left = ap (λ b. cond b es (e ∷ remove_entry (is_at (nat_cmp from)) es)) t;
    }

pub among : (from : ℕ) (bs : List ℕ) (es : List Extent) → lookup (is_at (nat_cmp from)) es ≡ Some bs → Among from bs es
among from bs [] h = cc
among from bs (e ∷ es) h =
    let rest : lookup (is_at (nat_cmp from)) es ≡ Some bs → Among from bs es = among from bs es in
    elim (cases_lt from e.0) [
      | inl l ↦ later from bs e es (ap is_eq (sym (nat_cmp_is from e.0 Less l))) h rest
      | inr g ↦ elim (cases_lt e.0 from) [
        | inl l ↦ later from bs e es (ap is_eq (sym (nat_cmp_is from e.0 Greater l))) h rest
        | inr m ↦ first from bs e es (omega arith) h
      ]
    ]

ends : (from : ℕ) (bs : List ℕ) (es : List Extent) (w : Among from bs es) → AreExtents es → AreExtents (w.before ++ ((from, bs) ∷ w.behind))
ends from bs es w s = subst AreExtents w.all s

pub extracted : (from : ℕ) (bs : List ℕ) (es new : List Extent) → AreExtents es → lookup (is_at (nat_cmp from)) es ≡ Some bs → new ≡ remove_entry (is_at (nat_cmp from)) es → Extracts (map_of es) from (length bs) (Some bs) (map_of new)
extracted from bs es new s h is =
    let w = among from bs es h in
    let whole = ends from bs es w s in
    let below : EndBy from w.before = front_ends w.before (from, bs) w.behind whole in
    let own = back w.before ((from, bs) ∷ w.behind) whole in (
      refl,
      ap map_of w.all ∙ placed from bs w.before [] w.behind below tt tt ∙ ap (λ l. over (map_of l) from bs) (sym w.left ∙ sym is),
      λ a l u. ap (λ t. get (map_of t) a) (is ∙ w.left) ∙ bare from (from + length bs) a w.before w.behind below own.2 l u,
    )

pub extents_left : (from : ℕ) (bs : List ℕ) (es new : List Extent) → AreExtents es → lookup (is_at (nat_cmp from)) es ≡ Some bs → new ≡ remove_entry (is_at (nat_cmp from)) es → AreExtents new
extents_left from bs es new s h is =
    let w = among from bs es h in
    let whole = ends from bs es w s in
    let own = back w.before ((from, bs) ∷ w.behind) whole in
    subst AreExtents (sym (is ∙ w.left))
    (joined from w.before w.behind (front w.before ((from, bs) ∷ w.behind) whole) own.3 (front_ends w.before (from, bs) w.behind whole) (StartFrom_less from (from + length bs) w.behind own.2 (omega arith)))
