-- The first pass of the proof: a turn is made, split and joined.
use Rattle.std.proofs.Common.{◌≡◌, ◌≢◌, ◌⊎◌, ℕ, zero, suc, ◌+◌, ◌-◌, ◌%◌, ◌^◌, ◌<◌, ◌≤◌, List, [], ◌∷◌, ◌++◌, length, set, get_or, refl, sym, ap, ◌∙◌, subst, inl, inr, ⊎_elim, arith, true, false, Some, length-append, length-set, get_or-set_other, get_or-set_same, mod-eq_of_lt}
use mathlib.Core.Option.{some, some-ne-none, some-injective}
use native.Mathlib.Decide.{ℕ_discrete}
use native.Mathlib.Nat.{add-mod_right}
use lib.ListN.{get_elem?}
use Rattle.std.proofs.lemmas.List.Elements.{All-nil, All-append}
use Rattle.std.proofs.lemmas.List.Sums.{sum_by_push}
use Rattle.atomic_table.specs.Table.{keeps, Allows, Splits, Joins, opening}
use Rattle.atomic_table.proofs.Lists.{at_set, at_snoc, at_longer, set_here, set_else}
use Rattle.turn_lock.specs.declared.view.View.{View}
use Rattle.turn_lock.specs.declared.view.Stage.TheVariants.{Gone, Idle, Holding}
use Rattle.turn_lock.specs.Lists.{Begins, longer}
use Rattle.turn_lock.specs.Seats.{ticket_count, tickets_of, passes_of, own_count, first_view, split_view, spent_view, joined_view, HasAll}
use Rattle.turn_lock.specs.TurnRule.{IsSeated, IsInPlace}
use Rattle.turn_lock.specs.Steps.{CountsUp, CountsDown}
use Rattle.turn_lock.proofs.Counts.{sum_by-set_at, at-le-sum_by, differ-nil, differ-append}
use Rattle.turn_lock.proofs.Prefixes.{begins-refl, begins-nil, begins-length, longer-begins, longer-all}
use Rattle.turn_lock.proofs.Seating.{views_set, inside, idle_passes, idle_holds, idle_gone, rename, rename-same, rename-other, only_seen, all_seen, St, M, Rule, moved, slot_stays, slot_longer, reader_stays, first_word}

ticket_of_idle : ticket_count Idle ≡ 1 → ⊥
ticket_of_idle e = let bad : ⊥ = omega arith in bad

module _ {V O E : Type 0} (opens : V → O) (entries_of : V → List E) where
  pub starts : (y : V) → length (entries_of y) < 2 ^ 63 → Rule opens entries_of (opening (1 ∷ 0 ∷ 0 ∷ []) (Some y ∷ []) (first_view (opens y) (entries_of y)))
  starts y short = record {
    opening = opens y;
    entries = entries_of y;
    next = 0;
    serving = 0;
    holder_of = λ _. 0;
    owner_of = λ _. 0;
    slot = some (Some y);
    reader = 0;
    three = refl;
    next_is = refl;
    serving_is = refl;
    few = omega arith;
    slot_is = refl;
    in_place = (y, refl, refl, refl);
    short = short;
    passes = refl;
    tickets = refl;
    owned = omega arith;
    counts = λ v e. ap (λ (u : View O E). u.others + 1) (sym (some-injective _ v e));
    read = (first_view (opens y) (entries_of y), refl, record { present = idle_gone Idle refl; all = inl refl });
    each = one;
  }
    where
      one : (j : ℕ) (v : View O E) → get_elem? (first_view (opens y) (entries_of y) ∷ []) j ≡ some v → IsSeated (opens y) (entries_of y) 0 0 (λ _. 0) (λ _. 0) j v
      one zero v e = subst (IsSeated (opens y) (entries_of y) 0 0 (λ _. 0) (λ _. 0) 0) (some-injective _ v e) record {
        leads = λ _. refl;
        opened = λ _. refl;
        seen = begins-refl (entries_of y);
        shown = begins-nil (entries_of y);
        owns = All-nil _;
        once = differ-nil;
        drawn = λ e. absurd (ticket_of_idle e);
        served = λ e. absurd (idle_holds Idle refl e);
      }
      one (suc j) v e = absurd (some-ne-none v (sym e))

  pub counts_up : (n id : ℕ) (me : M opens entries_of) → me.0.first ≡ true → me.0.others < 65535 → me.0.stage ≡ Idle → Allows (Rule opens entries_of) n id me 0 (λ k. (k + 1) % 2 ^ 64) (λ _ m. CountsUp me m)
  counts_up n id me leads roomy idle s r _ at _ =
      let v : View O E = me.0 in let w : View O E = record v { others = v.others + 1; unseated = v.unseated + 1 } in let k = r.each id v at in let first = k.leads leads in
      let old : ℕ = get_or s.words 0 0 in let was : v.others + 1 ≡ old = first_word opens entries_of s r id v at first in
      let is : (old + 1) % 2 ^ 64 ≡ old + 1 = mod-eq_of_lt (omega arith) in let ws : List ℕ = set s.words 0 ((old + 1) % 2 ^ 64) in
      let long : length s.words ≡ 3 = r.three in let new : get_or ws 0 0 ≡ old + 1 = get_or-set_same s.words 0 _ 0 (omega arith) ∙ is in (
        w,
        keeps,
        tt,
        moved opens entries_of s r id v w ws s.homes r.entries r.next r.serving r.holder_of r.owner_of r.slot r.reader at (length-set s.words 0 _ ∙ long)
            (get_or-set_other s.words 0 1 _ 0 (λ e. omega arith) ∙ r.next_is) (get_or-set_other s.words 0 2 _ 0 (λ e. omega arith) ∙ r.serving_is) (omega arith) r.short
            (let a = idle_passes v.stage v.unseated idle in let b = idle_passes v.stage (v.unseated + 1) idle in omega arith) refl (omega arith) (λ _. omega arith) (λ other. absurd (other first)) r.slot_is
            (slot_stays opens entries_of r.opening r.entries s.views id v w r.slot at (idle_holds v.stage idle) r.in_place)
            (reader_stays opens entries_of r.entries s.views r.reader id v w at (λ h. record { present = h.present; all = h.all }) r.read) (λ j u _ e. r.each j u e)
            record { leads = k.leads; opened = k.opened; seen = k.seen; shown = k.shown; owns = k.owns; once = k.once; drawn = k.drawn; served = k.served },
        refl,
      )

  -- the second seat of a split stands behind the others
  pub splits : (id : ℕ) (v : View O E) → v.first ≡ true → v.stage ≡ Idle → 0 < v.unseated → Splits (Rule opens entries_of) id v (record v { unseated = v.unseated - 1 }) (split_view v)
  splits id v leads idle due s r at =
      let w : View O E = record v { unseated = v.unseated - 1 } in let x : View O E = split_view v in let k = r.each id v at in let first = k.leads leads in let vs : List (View O E) = set s.views id w in
      let a = sum_by-set_at passes_of s.views id v w at in let b = sum_by-set_at tickets_of s.views id v w at in let c = sum_by-set_at own_count s.views id v w at in
      let a' = sum_by_push passes_of vs x in let b' = sum_by_push tickets_of vs x in let c' = sum_by_push own_count vs x in
      let p = r.passes in let t = r.tickets in let q = r.owned in let wv = idle_passes v.stage v.unseated idle in let ww = idle_passes v.stage (v.unseated - 1) idle in
      let here : get_elem? vs 0 ≡ some w = subst (λ (z : ℕ). get_elem? vs z ≡ some w) first (set_here s.views id w (inside s.views id v at)) in
      let reads = reader_stays opens entries_of r.entries s.views r.reader id v w at (λ h. record { present = h.present; all = h.all }) r.read in record {
        opening = r.opening;
        entries = r.entries;
        next = r.next;
        serving = r.serving;
        holder_of = r.holder_of;
        owner_of = r.owner_of;
        slot = r.slot;
        reader = r.reader;
        three = r.three;
        next_is = r.next_is;
        serving_is = r.serving_is;
        few = r.few;
        slot_is = r.slot_is;
        in_place = slot_longer opens entries_of r.opening r.entries vs x r.slot (slot_stays opens entries_of r.opening r.entries s.views id v w r.slot at (idle_holds v.stage idle) r.in_place);
        short = r.short;
        passes = omega arith;
        tickets = omega arith;
        owned = omega arith;
        counts = λ u e. subst (λ (y : View O E). y.others + 1 ≡ get_or s.words 0 0) (some-injective w u (sym (at_longer vs (x ∷ []) 0 w here) ∙ e)) (first_word opens entries_of s r id v at first);
        read = (reads.0, at_longer vs (x ∷ []) r.reader reads.0 reads.1, reads.2);
        each = λ j u e. ⊎_elim
            (λ was. views_set (IsSeated r.opening r.entries r.next r.serving r.holder_of r.owner_of) s.views id w (λ i y _ e'. r.each i y e')
            record { leads = k.leads; opened = k.opened; seen = k.seen; shown = k.shown; owns = k.owns; once = k.once; drawn = k.drawn; served = k.served } j u was)
            (λ (is : x ≡ u). subst (IsSeated r.opening r.entries r.next r.serving r.holder_of r.owner_of j) is record {
              leads = λ (t : false ≡ true). absurd (let bad : ⊥ = cc in bad);
              opened = λ _. k.opened (idle_gone v.stage idle);
              seen = k.seen;
              shown = begins-nil r.entries;
              owns = All-nil _;
              once = differ-nil;
              drawn = λ y. absurd (ticket_of_idle y);
              served = λ y. absurd (idle_holds Idle refl y);
            })
            (at_snoc vs x u j e);
      }

  -- one fact of each view, where two change
  views_two : (P : ℕ → View O E → Type 0) (views : List (View O E)) (id other : ℕ) (w x : View O E) → other ≢ id → ((j : ℕ) (u : View O E) → j ≢ id → j ≢ other → get_elem? views j ≡ some u → P j u) → P id w → P other x
      → (j : ℕ) (u : View O E) → get_elem? (set (set views id w) other x) j ≡ some u → P j u
  views_two P views id other w x apart others one two j u e =
      ⊎_elim
      (λ (y : (j ≡ other) × (x ≡ u)). subst (λ (z : ℕ × View O E). P z.0 z.1) (λ i. (sym y.0 i, y.1 i)) two)
      (λ (y : (j ≢ other) × (get_elem? (set views id w) j ≡ some u)). views_set (λ i a. i ≢ other → P i a) views id w (λ i a n e'. λ m. others i a n m e') (λ _. one) j u y.1 y.0)
      (at_set (set views id w) other j x u e)

  -- the slot stays where it is, also where a second view becomes spent
  slot_joined : (s : St opens entries_of) (r : Rule opens entries_of s) (id other : ℕ) (v u w x : View O E) → get_elem? s.views id ≡ some v → get_elem? (set s.views id w) other ≡ some u → v.stage ≡ Idle → u.stage ≡ Idle
      → IsInPlace opens entries_of r.opening r.entries (set (set s.views id w) other x) r.slot
  slot_joined s r id other v u w x at at' idle idle' =
      slot_stays opens entries_of r.opening r.entries (set s.views id w) other u x r.slot at' (idle_holds u.stage idle') (slot_stays opens entries_of r.opening r.entries s.views id v w r.slot at (idle_holds v.stage idle) r.in_place)

  -- one of the passes has seen all entries after a join too
  read_joined : (entries : List E) (views : List (View O E)) (reader id other : ℕ) (v u : View O E) → other ≢ id → get_elem? views id ≡ some v → get_elem? views other ≡ some u → v.stage ≢ Gone → Begins v.seen entries → Begins u.seen entries → v.shown ≡ [] → u.shown ≡ []
      → (z : View O E) × (get_elem? views reader ≡ some z) × HasAll entries z → (i : ℕ) × (z : View O E) × (get_elem? (set (set views id (joined_view v u)) other spent_view) i ≡ some z) × HasAll entries z
  read_joined entries views reader id other v u apart at at' present vs us bare bare' h = go (ℕ_discrete reader id) (ℕ_discrete reader other)
    where
      here : get_elem? (set (set views id (joined_view v u)) other spent_view) id ≡ some (joined_view v u)
      here = set_else (set views id (joined_view v u)) other id spent_view (λ e. apart (sym e)) ∙ set_here views id (joined_view v u) (inside views id v at)

      is : (i : ℕ) (a : View O E) → reader ≡ i → get_elem? views i ≡ some a → HasAll entries a
      is i a e g = subst (HasAll entries) (sym (some-injective a h.0 (sym g ∙ subst (λ (z : ℕ). get_elem? views z ≡ some h.0) e h.1))) h.2

      go : Dec (reader ≡ id) → Dec (reader ≡ other) → (i : ℕ) × (z : View O E) × (get_elem? (set (set views id (joined_view v u)) other spent_view) i ≡ some z) × HasAll entries z
      go (yes e) _ = (id, joined_view v u, here, record { present = present; all = inl (all_seen entries v bare vs (is id v e at)) })
      go (no n) (yes e) = (id, joined_view v u, here, record { present = present; all = inr (all_seen entries u bare' us (is other u e at')) })
      go (no n) (no m) = (reader, h.0, set_else (set views id (joined_view v u)) other reader spent_view m ∙ set_else views id reader (joined_view v u) n ∙ h.1, h.2)

  pub joins : (id : ℕ) (v : View O E) (other : ℕ) (u : View O E) → v.first ≡ true → v.stage ≡ Idle → u.stage ≡ Idle → v.shown ≡ [] → u.shown ≡ [] → u.unseated ≡ 0 → Joins (Rule opens entries_of) id v other u (joined_view v u) spent_view
  joins id v other u leads idle idle' bare bare' tight s r at apart at' =
      let w : View O E = joined_view v u in let vs : List (View O E) = set s.views id w in let there : get_elem? s.views other ≡ some u = sym (set_else s.views id other w apart) ∙ at' in
      let k = r.each id v at in let h = r.each other u there in let first = k.leads leads in
      let a = sum_by-set_at passes_of s.views id v w at in let b = sum_by-set_at tickets_of s.views id v w at in let c = sum_by-set_at own_count s.views id v w at in
      let a' = sum_by-set_at passes_of vs other u spent_view at' in let b' = sum_by-set_at tickets_of vs other u spent_view at' in let c' = sum_by-set_at own_count vs other u spent_view at' in
      let p = r.passes in let t = r.tickets in let q = r.owned in let wv = idle_passes v.stage v.unseated idle in let ww = idle_passes v.stage (v.unseated + 1) idle in let wu = idle_passes u.stage u.unseated idle' in
      let qu : ticket_count u.stage ≡ 0 = ap ticket_count idle' in let both : length (v.own ++ u.own) ≡ length v.own + length u.own = length-append v.own u.own in
      let owner' = rename r.owner_of other id in let reads = read_joined r.entries s.views r.reader id other v u apart at there (idle_gone v.stage idle) k.seen h.seen bare bare' r.read in record {
        opening = r.opening;
        entries = r.entries;
        next = r.next;
        serving = r.serving;
        holder_of = r.holder_of;
        owner_of = owner';
        slot = r.slot;
        reader = reads.0;
        three = r.three;
        next_is = r.next_is;
        serving_is = r.serving_is;
        few = r.few;
        slot_is = r.slot_is;
        in_place = slot_joined s r id other v u w spent_view at at' idle idle';
        short = r.short;
        passes = omega arith;
        tickets = omega arith;
        owned = omega arith;
        counts = λ y e. let head : 0 ≢ other = λ z. apart (sym z ∙ sym first) in let e0 = sym (set_else vs other 0 spent_view head) ∙ e in
            subst (λ (z : View O E). z.others + 1 ≡ get_or s.words 0 0) (some-injective w y (sym (subst (λ (z : ℕ). get_elem? vs z ≡ some w) first (set_here s.views id w (inside s.views id v at))) ∙ e0)) (first_word opens entries_of s r id v at first);
        read = (reads.1, reads.2, reads.3);
        each = views_two (IsSeated r.opening r.entries r.next r.serving r.holder_of owner') s.views id other w spent_view apart
            (λ j x n m e. let f = r.each j x e in record {
              leads = f.leads;
              opened = f.opened;
              seen = f.seen;
              shown = f.shown;
              owns = λ i d lt. let g = f.owns i d lt in (rename-other r.owner_of other id (get_or x.own i d) (λ e'. m (sym g.0 ∙ e')) ∙ g.0, g.1);
              once = f.once;
              drawn = f.drawn;
              served = f.served;
            })
            record {
              leads = k.leads;
              opened = k.opened;
              seen = k.seen;
              shown = h.seen;
              owns = All-append (λ y. (owner' y ≡ id) × ((y < length v.seen) ⊎ (y < length u.seen))) v.own u.own
                  (λ i d lt. let g = k.owns i d lt in (rename-other r.owner_of other id (get_or v.own i d) (λ e'. apart (sym e' ∙ g.0)) ∙ g.0, inl (only_seen (length v.seen) (get_or v.own i d) v.shown bare g.1)))
                  (λ i d lt. let g = h.owns i d lt in (rename-same r.owner_of other id (get_or u.own i d) g.0, inr (only_seen (length u.seen) (get_or u.own i d) u.shown bare' g.1)));
              once = differ-append (λ y. r.owner_of y ≡ id) (λ y. r.owner_of y ≡ other) v.own u.own k.once h.once (λ i d lt. (k.owns i d lt).0) (λ i d lt. (h.owns i d lt).0) (λ y e e'. apart (sym e' ∙ e));
              drawn = k.drawn;
              served = λ e. absurd (idle_holds v.stage idle e);
            }
            record {
              leads = λ (t : false ≡ true). absurd (let bad : ⊥ = cc in bad);
              opened = λ n. absurd (n refl);
              seen = begins-nil r.entries;
              shown = begins-nil r.entries;
              owns = All-nil _;
              once = differ-nil;
              drawn = λ y. absurd (let bad : ⊥ = omega arith in bad);
              served = λ (e : Gone ≡ Holding). absurd (let bad : ⊥ = cc in bad);
            };
      }

  pub counts_down : (n id : ℕ) (me : M opens entries_of) → me.0.first ≡ true → me.0.stage ≡ Idle → 0 < me.0.unseated → Allows (Rule opens entries_of) n id me 0 (λ k. (k + 18446744073709551615) % 2 ^ 64) (λ _ m. CountsDown me m)
  counts_down n id me leads idle due s r _ at _ =
      let v : View O E = me.0 in let k = r.each id v at in let first = k.leads leads in let lo = longer-begins v.seen v.shown r.entries k.seen k.shown in
      let w : View O E = record v { others = v.others - 1; unseated = v.unseated - 1; seen = longer v.seen v.shown; shown = [] } in
      let old : ℕ = get_or s.words 0 0 in let was : v.others + 1 ≡ old = first_word opens entries_of s r id v at first in let few : old ≤ 65536 = r.few in
      let wv = idle_passes v.stage v.unseated idle in let ww = idle_passes v.stage (v.unseated - 1) idle in let heavy = at-le-sum_by passes_of s.views id v at in let p = r.passes in
      let two : 2 ≤ old = omega arith in
      let is : (old + 18446744073709551615) % 2 ^ 64 ≡ old - 1 = ap (λ (z : ℕ). z % 2 ^ 64) (let g : old + 18446744073709551615 ≡ (old - 1) + 2 ^ 64 = omega arith in g) ∙ add-mod_right (old - 1) (2 ^ 64) ∙ mod-eq_of_lt (omega arith) in
      let ws : List ℕ = set s.words 0 ((old + 18446744073709551615) % 2 ^ 64) in let long : length s.words ≡ 3 = r.three in
      let new : get_or ws 0 0 ≡ old - 1 = get_or-set_same s.words 0 _ 0 (omega arith) ∙ is in
      let mine = at-le-sum_by own_count s.views id v at in let all = r.owned in let short : length r.entries < 2 ^ 63 = r.short in
      let ls = begins-length _ _ lo.1 in let lt = begins-length _ _ lo.2 in (
        w,
        keeps,
        tt,
        moved opens entries_of s r id v w ws s.homes r.entries r.next r.serving r.holder_of r.owner_of r.slot r.reader at (length-set s.words 0 _ ∙ long)
            (get_or-set_other s.words 0 1 _ 0 (λ e. omega arith) ∙ r.next_is) (get_or-set_other s.words 0 2 _ 0 (λ e. omega arith) ∙ r.serving_is) (omega arith) r.short
            (omega arith) refl (omega arith) (λ _. omega arith) (λ other. absurd (other first)) r.slot_is
            (slot_stays opens entries_of r.opening r.entries s.views id v w r.slot at (idle_holds v.stage idle) r.in_place)
            (reader_stays opens entries_of r.entries s.views r.reader id v w at (λ h. record { present = h.present; all = inl (longer-all v.seen v.shown r.entries k.seen k.shown h.all) }) r.read) (λ j u _ e. r.each j u e)
            record {
              leads = k.leads;
              opened = k.opened;
              seen = lo.0;
              shown = begins-nil r.entries;
              owns = λ i d less. let g = k.owns i d less in let y : ℕ = get_or v.own i d in
                  (g.0, inl (⊎_elim (λ (l : y < length v.seen). let f : y < length (longer v.seen v.shown) = omega arith in f) (λ (l : y < length v.shown). let f : y < length (longer v.seen v.shown) = omega arith in f) g.1));
              once = k.once;
              drawn = k.drawn;
              served = λ e. absurd (idle_holds v.stage idle e);
            },
        record { some_other = omega arith; after = refl; own_few = omega arith; seen = lo.1; shown = lo.2 },
      )
