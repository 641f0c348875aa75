-- What the steps share: functions changed at one place, stages told apart, and the rule after one view has changed.
use Rattle.std.proofs.Common.{◌≡◌, ◌≢◌, ◌⊎◌, ℕ, zero, suc, ◌+◌, ◌%◌, ◌^◌, ◌<◌, ◌≤◌, List, [], ◌∷◌, ◌++◌, length, set, get_or, refl, sym, ap, ◌∙◌, subst, ⊎_elim, arith}
use mathlib.Core.Option.{none, some, some-ne-none, some-injective}
use mathlib.Core.Option as maybe
use native.Mathlib.Decide.{ℕ_discrete, dec_le}
use lib.ListN.{get_elem?}
use Rattle.std.specs.Prelude.{Option}
use Rattle.atomic_table.specs.Table.{State, Me}
use Rattle.atomic_table.proofs.Lists.{at_set, at_longer, set_here, set_else}
use Rattle.turn_lock.specs.declared.view.View.{View}
use Rattle.turn_lock.specs.declared.view.Stage.{Stage}
use Rattle.turn_lock.specs.declared.view.Stage.TheVariants.{Gone, Idle, Waiting, Holding}
use Rattle.turn_lock.specs.Lists.{Begins}
use Rattle.turn_lock.specs.Seats.{ticket_count, pass_count, tickets_of, passes_of, own_count, OwnsSeen, HasAll}
use Rattle.turn_lock.specs.TurnRule.{IsSeated, IsInPlace, IsInTurn}
use Rattle.turn_lock.proofs.Counts.{sum_by-set_at}
use Rattle.turn_lock.proofs.Prefixes.{begins-length, begins-same_length}

-- a fact of each view, where one changes
pub views_set : {D : Type 0} (P : ℕ → D → Type 0) (views : List D) (id : ℕ) (w : D) → ((j : ℕ) (u : D) → j ≢ id → get_elem? views j ≡ some u → P j u) → P id w → (j : ℕ) (u : D) → get_elem? (set views id w) j ≡ some u → P j u
views_set {D} P views id w others mine j u e =
    ⊎_elim
    (λ (x : (j ≡ id) × (w ≡ u)). subst (λ (y : ℕ × D). P y.0 y.1) (λ i. (sym x.0 i, x.1 i)) mine)
    (λ (x : (j ≢ id) × (get_elem? views j ≡ some u)). others j u x.0 x.1)
    (at_set views id j w u e)

pub inside : {D : Type 0} (l : List D) (i : ℕ) (a : D) → get_elem? l i ≡ some a → i < length l
inside [] i a e = absurd (some-ne-none a (sym e))
inside (x ∷ xs) zero a e = omega arith
inside (x ∷ xs) (suc i) a e = let ih = inside xs i a e in omega arith

pub idle_passes : (st : Stage) (k : ℕ) → st ≡ Idle → pass_count st k ≡ k + 1
idle_passes st k e = ap (λ s. pass_count s k) e

pub waiting_passes : (st : Stage) (k : ℕ) → st ≡ Waiting → pass_count st k ≡ k + 1
waiting_passes st k e = ap (λ s. pass_count s k) e

pub holding_passes : (st : Stage) (k : ℕ) → st ≡ Holding → pass_count st k ≡ k + 1
holding_passes st k e = ap (λ s. pass_count s k) e

tickets-le-passes : (st : Stage) (k : ℕ) → ticket_count st ≤ pass_count st k
tickets-le-passes Gone k = omega arith
tickets-le-passes Idle k = omega arith
tickets-le-passes Waiting k = omega arith
tickets-le-passes Holding k = omega arith

pub tickets_of-le : {O E : Type 0} (v : View O E) → tickets_of v ≤ passes_of v
tickets_of-le v = tickets-le-passes v.stage v.unseated

present_passes : (st : Stage) (k : ℕ) → st ≢ Gone → 1 ≤ pass_count st k
present_passes Gone k n = absurd (n refl)
present_passes Idle k n = omega arith
present_passes Waiting k n = omega arith
present_passes Holding k n = omega arith

pub passes_of-present : {O E : Type 0} (v : View O E) → v.stage ≢ Gone → 1 ≤ passes_of v
passes_of-present v n = present_passes v.stage v.unseated n

pub idle_holds : (st : Stage) → st ≡ Idle → st ≢ Holding
idle_holds st i h = let e : Idle ≡ Holding = sym i ∙ h in cc

pub idle_gone : (st : Stage) → st ≡ Idle → st ≢ Gone
idle_gone st i h = let e : Idle ≡ Gone = sym i ∙ h in cc

pub waiting_holds : (st : Stage) → st ≡ Waiting → st ≢ Holding
waiting_holds st i h = let e : Waiting ≡ Holding = sym i ∙ h in cc

pub waiting_gone : (st : Stage) → st ≡ Waiting → st ≢ Gone
waiting_gone st i h = let e : Waiting ≡ Gone = sym i ∙ h in cc

pub holding_gone : (st : Stage) → st ≡ Holding → st ≢ Gone
holding_gone st i h = let e : Holding ≡ Gone = sym i ∙ h in cc

abbrev pick : {P A : Type 0} → Dec P → A → A → A
pick (yes _) a b = a
pick (no _) a b = b

-- f with c at i
pub put : (ℕ → ℕ) → ℕ → ℕ → ℕ → ℕ
put f i c j = pick (ℕ_discrete j i) c (f j)

pub put-same : (f : ℕ → ℕ) (i c : ℕ) → put f i c i ≡ c
unfolding put
put-same f i c = go (ℕ_discrete i i)
  where
    go : (d : Dec (i ≡ i)) → pick d c (f i) ≡ c
    go (yes _) = refl
    go (no n) = absurd (n refl)

pub put-other : (f : ℕ → ℕ) (i c j : ℕ) → j ≢ i → put f i c j ≡ f j
unfolding put
put-other f i c j other = go (ℕ_discrete j i)
  where
    go : (d : Dec (j ≡ i)) → pick d c (f j) ≡ f j
    go (yes e) = absurd (other e)
    go (no _) = refl

-- f with c from n on
pub put_from : (ℕ → ℕ) → ℕ → ℕ → ℕ → ℕ
put_from f n c j = pick (dec_le n j) c (f j)

pub put_from-above : (f : ℕ → ℕ) (n c j : ℕ) → n ≤ j → put_from f n c j ≡ c
unfolding put_from
put_from-above f n c j le = go (dec_le n j)
  where
    go : (d : Dec (n ≤ j)) → pick d c (f j) ≡ c
    go (yes _) = refl
    go (no k) = absurd (k le)

pub put_from-below : (f : ℕ → ℕ) (n c j : ℕ) → j < n → put_from f n c j ≡ f j
unfolding put_from
put_from-below f n c j lt = go (dec_le n j)
  where
    go : (d : Dec (n ≤ j)) → pick d c (f j) ≡ f j
    go (yes le) = absurd (let bad : ⊥ = omega arith in bad)
    go (no _) = refl

-- f with b where it says a
pub rename : (ℕ → ℕ) → ℕ → ℕ → ℕ → ℕ
rename f a b j = pick (ℕ_discrete (f j) a) b (f j)

pub rename-same : (f : ℕ → ℕ) (a b j : ℕ) → f j ≡ a → rename f a b j ≡ b
unfolding rename
rename-same f a b j e = go (ℕ_discrete (f j) a)
  where
    go : (d : Dec (f j ≡ a)) → pick d b (f j) ≡ b
    go (yes _) = refl
    go (no n) = absurd (n e)

pub rename-other : (f : ℕ → ℕ) (a b j : ℕ) → f j ≢ a → rename f a b j ≡ f j
unfolding rename
rename-other f a b j n = go (ℕ_discrete (f j) a)
  where
    go : (d : Dec (f j ≡ a)) → pick d b (f j) ≡ f j
    go (yes e) = absurd (n e)
    go (no _) = refl

-- a position below what was shown is below what was seen, where nothing was shown
pub only_seen : {A : Type 0} (n p : ℕ) (shown : List A) → shown ≡ [] → (p < n) ⊎ (p < length shown) → p < n
only_seen n p shown bare h = ⊎_elim (λ l. l) (λ (l : p < length shown). let e : length shown ≡ 0 = ap length bare in absurd (let bad : ⊥ = omega arith in bad)) h

-- a pass that was shown nothing and has all entries has seen them all
pub all_seen : {O E : Type 0} (entries : List E) (v : View O E) → v.shown ≡ [] → Begins v.seen entries → HasAll entries v → v.seen ≡ entries
all_seen entries v bare begins h =
    ⊎_elim (λ e. e)
    (λ (e : v.shown ≡ entries). let none : length entries ≡ 0 = ap length (sym e ∙ bare) in let le = begins-length v.seen entries begins in begins-same_length v.seen entries begins (omega arith)) h.all

module _ {V O E : Type 0} (opens : V → O) (entries_of : V → List E) where
  abbrev pub W : Type 0
  W = View O E

  abbrev pub St : Type 0
  St = State (Option V) W

  abbrev pub M : Type 0
  M = Me (Option V) W

  abbrev pub Rule : St → Type 0
  Rule = IsInTurn opens entries_of

  -- The view of the seat id becomes w, and the rest of the table what the step says: what the step owes
  pub moved : (s : St) (r : Rule s) (id : ℕ) (v w : W) (words' : List ℕ) (homes' : List (maybe.Option (Option V))) (entries' : List E) (next' serving' : ℕ) (holder' owner' : ℕ → ℕ) (slot' : maybe.Option (Option V)) (reader' : ℕ)
      → get_elem? s.views id ≡ some v → length words' ≡ 3 → get_or words' 1 0 ≡ next' % 2 ^ 64 → get_or words' 2 0 ≡ serving' % 2 ^ 64 → get_or words' 0 0 ≤ 65536 → length entries' < 2 ^ 63
      → passes_of w + get_or s.words 0 0 ≡ passes_of v + get_or words' 0 0 → next' + r.serving + tickets_of v ≡ r.next + serving' + tickets_of w → length r.entries + own_count w ≤ length entries' + own_count v
      → (id ≡ 0 → w.others + 1 ≡ get_or words' 0 0) → (id ≢ 0 → get_or words' 0 0 ≡ get_or s.words 0 0) → homes' ≡ slot' ∷ [] → IsInPlace opens entries_of r.opening entries' (set s.views id w) slot'
      → ((u : W) × (get_elem? (set s.views id w) reader' ≡ some u) × HasAll entries' u)
      → ((j : ℕ) (u : W) → j ≢ id → get_elem? s.views j ≡ some u → IsSeated r.opening entries' next' serving' holder' owner' j u) → IsSeated r.opening entries' next' serving' holder' owner' id w
      → Rule record { words = words'; homes = homes'; views = set s.views id w }
  moved s r id v w words' homes' entries' next' serving' holder' owner' slot' reader' at wide nexts servings few short weights queue owns first later homes slots reads others mine =
      let a = sum_by-set_at passes_of s.views id v w at in let b = sum_by-set_at tickets_of s.views id v w at in let c = sum_by-set_at own_count s.views id v w at in
      let p = r.passes in let t = r.tickets in let q = r.owned in record {
        opening = r.opening;
        entries = entries';
        next = next';
        serving = serving';
        holder_of = holder';
        owner_of = owner';
        slot = slot';
        reader = reader';
        three = wide;
        next_is = nexts;
        serving_is = servings;
        few = few;
        slot_is = homes;
        in_place = slots;
        short = short;
        passes = omega arith;
        tickets = omega arith;
        owned = omega arith;
        counts = λ u e. ⊎_elim (λ (x : (0 ≡ id) × (w ≡ u)). subst (λ (y : W). y.others + 1 ≡ get_or words' 0 0) x.1 (first (sym x.0)))
            (λ (x : (0 ≢ id) × (get_elem? s.views 0 ≡ some u)). r.counts u x.1 ∙ sym (later (λ e. x.0 (sym e)))) (at_set s.views id 0 w u e);
        read = reads;
        each = views_set (IsSeated r.opening entries' next' serving' holder' owner') s.views id w others mine;
      }

  -- a view changes whose pass does not hold the value
  pub slot_stays : (opening : O) (entries : List E) (views : List W) (id : ℕ) (v w : W) (slot : maybe.Option (Option V)) → get_elem? views id ≡ some v → v.stage ≢ Holding → IsInPlace opens entries_of opening entries views slot → IsInPlace opens entries_of opening entries (set views id w) slot
  slot_stays opening entries views id v w (some x) at idle h = h
  slot_stays opening entries views id v w none at idle h =
      let other : h.0 ≢ id = λ e. idle (ap (λ (u : W). u.stage) (some-injective v h.1 (sym at ∙ subst (λ (z : ℕ). get_elem? views z ≡ some h.1) e h.2)) ∙ h.3) in (h.0, h.1, set_else views id h.0 w other ∙ h.2, h.3)

  pub slot_longer : (opening : O) (entries : List E) (views : List W) (x : W) (slot : maybe.Option (Option V)) → IsInPlace opens entries_of opening entries views slot → IsInPlace opens entries_of opening entries (views ++ x ∷ []) slot
  slot_longer opening entries views x (some y) h = h
  slot_longer opening entries views x none h = (h.0, h.1, at_longer views (x ∷ []) h.0 h.1 h.2, h.3)

  -- the pass that has seen all entries, where a view changes that has seen no less
  pub reader_stays : (entries : List E) (views : List W) (reader id : ℕ) (v w : W) → get_elem? views id ≡ some v → (HasAll entries v → HasAll entries w) → (u : W) × (get_elem? views reader ≡ some u) × HasAll entries u
      → (u : W) × (get_elem? (set views id w) reader ≡ some u) × HasAll entries u
  reader_stays entries views reader id v w at keeps h = go (ℕ_discrete reader id)
    where
      go : Dec (reader ≡ id) → (u : W) × (get_elem? (set views id w) reader ≡ some u) × HasAll entries u
      go (yes e) = let same : v ≡ h.0 = some-injective v h.0 (sym at ∙ subst (λ (z : ℕ). get_elem? views z ≡ some h.0) e h.1) in
          (w, subst (λ (z : ℕ). get_elem? (set views id w) z ≡ some w) (sym e) (set_here views id w (inside views id v at)), keeps (subst (HasAll entries) (sym same) h.2))
      go (no n) = (h.0, set_else views id reader w n ∙ h.1, h.2)

  pub first_word : (s : St) (r : Rule s) (id : ℕ) (v : W) → get_elem? s.views id ≡ some v → id ≡ 0 → v.others + 1 ≡ get_or s.words 0 0
  first_word s r id v at first = r.counts v (subst (λ (z : ℕ). get_elem? s.views z ≡ some v) first at)

  -- the seat's own positions are below the length of what it has seen
  pub owns_seen : (s : St) (r : Rule s) (id : ℕ) (v : W) → get_elem? s.views id ≡ some v → v.shown ≡ [] → OwnsSeen v
  owns_seen s r id v at bare = let k = r.each id v at in record { once = k.once; below = λ i d lt. only_seen (length v.seen) (get_or v.own i d) v.shown bare (k.owns i d lt).1 }
