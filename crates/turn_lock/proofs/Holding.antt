-- The third pass of the proof: the value is taken, put, and the next ticket is served. At the end the turn is closed.
use Rattle.std.proofs.Common.{◌≡◌, ◌≢◌, ◌⊎◌, ℕ, ◌+◌, ◌-◌, ◌%◌, ◌^◌, ◌<◌, ◌≤◌, List, [], ◌∷◌, ◌++◌, length, set, get_or, refl, sym, ap, ◌∙◌, subst, inl, ⊎_elim, arith, true, false, Some, unwrap_or, length-append, length-set, get_or-set_other, get_or-set_same}
use mathlib.Core.Option.{none, some, some-injective}
use mathlib.Core.Option as maybe
use mathlib.Core.Logic.{dite}
use native.Mathlib.Decide.{ℕ_discrete}
use native.Mathlib.Nat.{mod-add-mod}
use lib.ListN.{get_elem?}
use Rattle.std.specs.Prelude.{Option, sum_by}
use Rattle.std.specs.List.{range_with_len}
use Rattle.std.proofs.lemmas.List.Elements.{All-append}
use Rattle.std.proofs.lemmas.List.FromFn.{length-range_with_len}
use Rattle.atomic_table.specs.Table.{keeps, takes, gives, Allows, Final, Seen}
use Rattle.atomic_table.proofs.Lists.{set_here}
use Rattle.turn_lock.specs.declared.view.View.{View}
use Rattle.turn_lock.specs.declared.view.Stage.TheVariants.{Gone, Idle, Waiting, Holding}
use Rattle.turn_lock.specs.Lists.{Begins, new_positions}
use Rattle.atomic_table.specs.Seated.{TableId}
use Rattle.turn_lock.specs.PassState.{PassState, HasOwn}
use Rattle.turn_lock.specs.Seats.{ticket_count, tickets_of, passes_of, own_count, OwnsSeen, HasAll, IsTold, state_of}
use Rattle.turn_lock.specs.TurnRule.{IsSeated, IsInPlace}
use Rattle.turn_lock.specs.Steps.{Takes, ReadsServing, AdvancesServing}
use Rattle.turn_lock.proofs.Counts.{at-le-sum_by, two-le-sum_by, sum_by-lt, differ-append, differ-range, all-range}
use Rattle.turn_lock.proofs.Prefixes.{begins-refl, begins-trans, begins-length}
use Rattle.turn_lock.proofs.Seating.{inside, tickets_of-le, passes_of-present, idle_passes, waiting_passes, holding_passes, idle_holds, idle_gone, waiting_gone, holding_gone, put_from, put_from-above, put_from-below, all_seen, St, M, Rule, moved, first_word, owns_seen}
use Rattle.turn_lock.proofs.States.{idle_stage, has_own}
use Rattle.turn_lock.proofs.Tickets.{is_served, nobody_holds, reread, unchanged}

module _ {V O E : Type 0} (opens : V → O) (entries_of : V → List E) where
  -- the value is in the slot where no pass holds it
  in_slot : (s : St opens entries_of) (opening : O) (entries : List E) (slot : maybe.Option (Option V)) → s.homes ≡ slot ∷ [] → IsInPlace opens entries_of opening entries s.views slot → ((j : ℕ) (u : View O E) → get_elem? s.views j ≡ some u → u.stage ≢ Holding)
      → (y : V) × (s.homes ≡ some (Some y) ∷ []) × (opens y ≡ opening) × (entries_of y ≡ entries)
  in_slot s opening entries (some x) e h nobody = (h.0, e ∙ ap (λ (z : Option V). some z ∷ []) h.1, h.2, h.3)
  in_slot s opening entries none e h nobody = absurd (nobody h.0 h.1 h.2 h.3)

  -- the read that finds the pass's own ticket takes the slot
  takes_value : (n id : ℕ) (me : M opens entries_of) → me.0.stage ≡ Waiting → me.0.shown ≡ [] → me.1 ≡ [] → (s : St opens entries_of) → Rule opens entries_of s → get_elem? s.views id ≡ some me.0 → get_or s.words 2 0 ≡ me.0.ticket % 2 ^ 64
      → (w : View O E) × (y : V) × (get_elem? s.homes 0 ≡ some (some (Some y))) × Rule opens entries_of record { words = set s.words 2 (get_or s.words 2 0); homes = set s.homes 0 none; views = set s.views id w } × Takes opens entries_of me (w, (0, Some y) ∷ me.1)
  takes_value n id me waits bare empty s r at hit =
      let v : View O E = me.0 in let k = r.each id v at in let ws : List ℕ = set s.words 2 (get_or s.words 2 0) in
      let is : r.serving ≡ v.ticket = is_served opens entries_of s r id v at waits hit in let d = k.drawn (ap ticket_count waits) in
      let here = in_slot s r.opening r.entries r.slot r.slot_is r.in_place (nobody_holds opens entries_of s r id v at waits is) in let y : V = here.0 in let w : View O E = record v { stage = Holding; seen = entries_of y } in
      let qv : ticket_count v.stage ≡ 1 = ap ticket_count waits in let wv = waiting_passes v.stage v.unseated waits in
      let fine = subst (λ (z : List ℕ). (length z ≡ 3) × (get_or z 1 0 ≡ r.next % 2 ^ 64) × (get_or z 2 0 ≡ r.serving % 2 ^ 64) × (get_or z 0 0 ≤ 65536) × (get_or z 0 0 ≡ get_or s.words 0 0)) (sym (reread opens entries_of s)) (r.three, r.next_is, r.serving_is, r.few, refl) in
      let zero_is : get_or ws 0 0 ≡ get_or s.words 0 0 = fine.4 in let set_w = set_here s.views id w (inside s.views id v at) in let mine = owns_seen opens entries_of s r id v at bare in (
        w,
        y,
        subst (λ (hs : List (maybe.Option (Option V))). get_elem? hs 0 ≡ some (some (Some y))) (sym here.1) refl,
        moved opens entries_of s r id v w ws (set s.homes 0 none) r.entries r.next r.serving r.holder_of r.owner_of none id at fine.0 fine.1 fine.2 fine.3 r.short
            (omega arith) (omega arith) (omega arith) (λ first. first_word opens entries_of s r id v at first ∙ sym zero_is) (λ _. zero_is)
            (ap (λ (hs : List (maybe.Option (Option V))). set hs 0 none) here.1) (id, w, set_w, refl) (w, set_w, record { present = holding_gone Holding refl; all = inl here.3 }) (λ j u _ e. r.each j u e)
            record {
              leads = k.leads;
              opened = λ _. k.opened (waiting_gone v.stage waits);
              seen = subst (λ (l : List E). Begins l r.entries) (sym here.3) (begins-refl r.entries);
              shown = k.shown;
              owns = λ i d' less. let lt = mine.below i d' less in let le = begins-length v.seen r.entries k.seen in let e : length (entries_of y) ≡ length r.entries = ap length here.3 in ((k.owns i d' less).0, inl (omega arith));
              once = k.once;
              drawn = λ _. d;
              served = λ _. (sym is, here.3);
            },
        record {
          value = y;
          slot = ap (λ (l : List (ℕ × Option V)). (0, Some y) ∷ l) empty;
          after = refl;
          opened = k.opened (waiting_gone v.stage waits) ∙ ap Some (sym here.2);
          grown = subst (Begins v.seen) (sym here.3) k.seen;
          owns = mine;
        },
      )

  pub reads : (n id : ℕ) (me : M opens entries_of) → me.0.stage ≡ Waiting → me.0.shown ≡ [] → me.1 ≡ [] → Allows (Rule opens entries_of) n id me 2 (λ k. k) (λ k m. ReadsServing opens entries_of me k m)
  reads n id me waits bare empty s r _ at _ =
      dite (ℕ_discrete (get_or s.words 2 0) (me.0.ticket % 2 ^ 64))
      (λ hit. let t = takes_value n id me waits bare empty s r at hit in (t.0, takes 0 (Some t.1), t.2, t.3, ((λ _. t.4), λ miss. absurd (miss hit))))
      (λ miss. (me.0, keeps, tt, unchanged opens entries_of s r id me.0 at, ((λ hit. absurd (miss hit)), λ _. refl)))

  -- what the other passes know stays true of the longer list, and no other pass has the ticket that was served
  others_stay : (s : St opens entries_of) (r : Rule opens entries_of s) (id : ℕ) (v : View O E) (entries' : List E) → get_elem? s.views id ≡ some v → v.stage ≡ Holding → Begins r.entries entries' → (j : ℕ) (u : View O E) → j ≢ id → get_elem? s.views j ≡ some u
      → IsSeated r.opening entries' r.next (r.serving + 1) r.holder_of (put_from r.owner_of (length r.entries) id) j u
  others_stay s r id v entries' at holds over j u other e =
      let k = r.each id v at in let d = k.drawn (ap ticket_count holds) in let now = k.served holds in let h = r.each j u e in record {
        leads = h.leads;
        opened = h.opened;
        seen = begins-trans u.seen r.entries entries' h.seen over;
        shown = begins-trans u.shown r.entries entries' h.shown over;
        owns = λ i d' less. let g = h.owns i d' less in let z : ℕ = get_or u.own i d' in let n₀ : ℕ = length r.entries in let a = begins-length u.seen r.entries h.seen in let b = begins-length u.shown r.entries h.shown in
            let lt : z < n₀ = ⊎_elim (λ (l : z < length u.seen). let q : z < n₀ = omega arith in q) (λ (l : z < length u.shown). let q : z < n₀ = omega arith in q) g.1 in
            (put_from-below r.owner_of n₀ id z lt ∙ g.0, g.1);
        once = h.once;
        drawn = λ q. let dj = h.drawn q in let low = dj.0 in let ne : u.ticket ≢ r.serving = λ is. other (sym dj.2 ∙ ap r.holder_of (is ∙ sym now.0) ∙ d.2) in (omega arith, dj.1, dj.2);
        served = λ q. absurd (let dj = h.drawn (ap ticket_count q) in other (sym dj.2 ∙ ap r.holder_of ((h.served q).0 ∙ sym now.0) ∙ d.2));
      }

  -- what the pass knows that gives the value back
  giver_knows : (s : St opens entries_of) (r : Rule opens entries_of s) (id : ℕ) (v : View O E) (entries' : List E) → get_elem? s.views id ≡ some v → v.stage ≡ Holding → v.shown ≡ [] → Begins r.entries entries' → v.seen ≡ r.entries
      → IsSeated r.opening entries' r.next (r.serving + 1) r.holder_of (put_from r.owner_of (length r.entries) id) id (record v { stage = Idle; seen = entries'; own = v.own ++ new_positions v.seen entries' })
  giver_knows s r id v entries' at holds bare over same =
      let k = r.each id v at in let mine = owns_seen opens entries_of s r id v at bare in let n₀ : ℕ = length v.seen in let n₁ : ℕ = length r.entries in let is : n₀ ≡ n₁ = ap length same in let c : ℕ = length entries' - n₀ in
      let le = begins-length r.entries entries' over in record {
        leads = k.leads;
        opened = λ _. k.opened (holding_gone v.stage holds);
        seen = begins-refl entries';
        shown = begins-trans v.shown r.entries entries' k.shown over;
        owns = All-append (λ z. (put_from r.owner_of n₁ id z ≡ id) × ((z < length entries') ⊎ (z < length v.shown))) v.own (range_with_len n₀ c)
            (λ i d less. let z : ℕ = get_or v.own i d in let lt : z < n₀ = mine.below i d less in let q : z < length entries' = omega arith in (put_from-below r.owner_of n₁ id z (omega arith) ∙ (k.owns i d less).0, inl q))
            (λ i d less. let z : ℕ = get_or (range_with_len n₀ c) i d in let b = all-range n₀ c i d less in let lo : n₀ ≤ z = b.0 in let hi : z < n₀ + c = b.1 in let q : z < length entries' = omega arith in (put_from-above r.owner_of n₁ id z (omega arith), inl q));
        once = differ-append (λ z. z < n₀) (λ z. (n₀ ≤ z) × (z < n₀ + c)) v.own (range_with_len n₀ c) k.once (differ-range n₀ c) mine.below (all-range n₀ c) (λ z a b. let lo = b.0 in let bad : ⊥ = omega arith in bad);
        drawn = λ q. absurd (let bad : ⊥ = omega arith in bad);
        served = λ q. absurd (idle_holds Idle refl q);
      }

  advances_at : (n id : ℕ) (v : View O E) (y : V) → v.stage ≡ Holding → v.shown ≡ [] → v.opening ≡ Some (opens y) → Begins v.seen (entries_of y) → length (entries_of y) < 2 ^ 63
      → Allows (Rule opens entries_of) n id (v, (0, Some y) ∷ []) 2 (λ k. (k + 1) % 2 ^ 64) (λ _ m. AdvancesServing entries_of (v, (0, Some y) ∷ []) m)
  advances_at n id v y holds bare opened grown short s r _ at _ =
      let k = r.each id v at in let old : ℕ = get_or s.words 2 0 in let ws : List ℕ = set s.words 2 ((old + 1) % 2 ^ 64) in let long : length s.words ≡ 3 = r.three in
      let now = k.served holds in let n₀ : ℕ = length v.seen in let c : ℕ = length (entries_of y) - n₀ in let w : View O E = record v { stage = Idle; seen = entries_of y; own = v.own ++ new_positions v.seen (entries_of y) } in
      let le = begins-length v.seen (entries_of y) grown in let logs : length r.entries ≡ n₀ = ap length (sym now.1) in let over : Begins r.entries (entries_of y) = subst (λ (l : List E). Begins l (entries_of y)) now.1 grown in
      let same : get_or ws 0 0 ≡ get_or s.words 0 0 = get_or-set_other s.words 2 0 _ 0 (λ e. omega arith) in
      let many : length (v.own ++ range_with_len n₀ c) ≡ length v.own + c = length-append v.own (range_with_len n₀ c) ∙ ap (λ (z : ℕ). length v.own + z) (length-range_with_len n₀ c) in
      let wv = holding_passes v.stage v.unseated holds in let qv : ticket_count v.stage ≡ 1 = ap ticket_count holds in
      let count = at-le-sum_by own_count s.views id v at in let all = r.owned in (
        w,
        gives,
        tt,
        moved opens entries_of s r id v w ws (set s.homes 0 (some (Some y))) (entries_of y) r.next (r.serving + 1) r.holder_of (put_from r.owner_of (length r.entries) id) (some (Some y)) id at (length-set s.words 2 _ ∙ long)
            (get_or-set_other s.words 2 1 _ 0 (λ e. omega arith) ∙ r.next_is) (get_or-set_same s.words 2 _ 0 (omega arith) ∙ ap (λ (z : ℕ). (z + 1) % 2 ^ 64) r.serving_is ∙ mod-add-mod r.serving (2 ^ 64) 1)
            (subst (λ (z : ℕ). z ≤ 65536) (sym same) r.few) short (omega arith) (omega arith) (omega arith) (λ first. first_word opens entries_of s r id v at first ∙ sym same) (λ _. same)
            (ap (λ (hs : List (maybe.Option (Option V))). set hs 0 (some (Some y))) r.slot_is)
            (y, refl, ap (λ (x : Option O). unwrap_or x r.opening) (sym opened ∙ k.opened (holding_gone v.stage holds)), refl)
            (w, set_here s.views id w (inside s.views id v at), record { present = idle_gone Idle refl; all = inl refl })
            (others_stay s r id v (entries_of y) at holds over) (giver_knows s r id v (entries_of y) at holds bare over now.1),
        record { grown = grown; after = refl; own_few = (let lt : length (v.own ++ range_with_len n₀ c) < 2 ^ 63 = omega arith in lt) },
      )

  pub advances : (n id : ℕ) (me : M opens entries_of) (y : V) → me.1 ≡ (0, Some y) ∷ [] → me.0.stage ≡ Holding → me.0.shown ≡ [] → me.0.opening ≡ Some (opens y) → Begins me.0.seen (entries_of y) → length (entries_of y) < 2 ^ 63
      → Allows (Rule opens entries_of) n id me 2 (λ k. (k + 1) % 2 ^ 64) (λ _ m. AdvancesServing entries_of me m)
  advances n id me y has holds bare opened grown short =
      subst (λ (l : List (ℕ × Option V)). Allows (Rule opens entries_of) n id (me.0, l) 2 (λ k. (k + 1) % 2 ^ 64) (λ _ m. AdvancesServing entries_of (me.0, l) m)) (sym has) (advances_at n id me.0 y holds bare opened grown short)

  -- where the first pass is the only one, it has seen all entries
  alone_has_all : (s : St opens entries_of) (r : Rule opens entries_of s) (id : ℕ) (v : View O E) → get_elem? s.views id ≡ some v → v.stage ≢ Gone → sum_by passes_of s.views ≡ 1 → HasAll r.entries v
  alone_has_all s r id v at present one = go (ℕ_discrete id r.reader)
    where
      go : Dec (id ≡ r.reader) → HasAll r.entries v
      go (yes e) = subst (HasAll r.entries) (sym (some-injective v r.read.0 (sym at ∙ subst (λ (z : ℕ). get_elem? s.views z ≡ some r.read.0) (sym e) r.read.1))) r.read.2
      go (no n) = let two = two-le-sum_by passes_of s.views id r.reader v r.read.0 n at r.read.1 in let a = passes_of-present v present in let b = passes_of-present r.read.0 r.read.2.present in absurd (let bad : ⊥ = omega arith in bad)

  -- the last state of a turn whose first pass is alone and idle has the value in the slot, and that pass has seen all of it
  record Closes (v : View O E) (xs : List (Option V)) : Type 0 where
    pub value : V
    pub slot : get_elem? xs 0 ≡ some (Some value)
    pub opened : v.opening ≡ Some (opens value)
    pub all : entries_of value ≡ v.seen
    pub owns : OwnsSeen v

  closes : (id : ℕ) (v : View O E) (ws : List ℕ) (xs : List (Option V)) → v.first ≡ true → v.others ≡ 0 → v.stage ≡ Idle → v.shown ≡ [] → Final (Seen (Rule opens entries_of) id v) ws xs → Closes v xs
  closes id v ws xs leads alone idle bare f =
      let s : St opens entries_of = f.0 in let r : Rule opens entries_of s = f.1.0 in let at = f.1.1 in let k = r.each id v at in let one = first_word opens entries_of s r id v at (k.leads leads) in let p = r.passes in let t = r.tickets in
      let wv = idle_passes v.stage v.unseated idle in let qv : ticket_count v.stage ≡ 0 = ap ticket_count idle in let less = sum_by-lt tickets_of passes_of tickets_of-le s.views id v at (omega arith) in
      let none_waits : r.next ≡ r.serving = omega arith in
      let nobody : (j : ℕ) (u : View O E) → get_elem? s.views j ≡ some u → u.stage ≢ Holding = λ j u e holds. let dj = (r.each j u e).drawn (ap ticket_count holds) in let a = dj.0 in let b = dj.1 in let bad : ⊥ = omega arith in bad in
      let here = in_slot s r.opening r.entries r.slot r.slot_is r.in_place nobody in record {
        value = here.0;
        slot = f.4 0 (Some here.0) (subst (λ (hs : List (maybe.Option (Option V))). get_elem? hs 0 ≡ some (some (Some here.0))) (sym here.1) refl);
        opened = k.opened (idle_gone v.stage idle) ∙ ap Some (sym here.2);
        all = here.3 ∙ sym (all_seen r.entries v bare k.seen (alone_has_all s r id v at (idle_gone v.stage idle) (omega arith)));
        owns = owns_seen opens entries_of s r id v at bare;
      }

  -- the same of the pass, and of the value that was found in the slot
  pub record Ends (p : PassState O E) (found : Option V) : Type 0 where
    pub value : V
    pub is : found ≡ Some value
    pub opened : p.opening ≡ Some (opens value)
    pub all : entries_of value ≡ p.seen
    pub owns : HasOwn p (entries_of value)

  pub ends : (a b c id : ℕ) (t : TableId) (m : M opens entries_of) (p : PassState O E) (ws : List ℕ) (xs : List (Option V)) (found : Option V) → state_of t m ≡ p → IsTold a b c m → p.first ≡ true → p.others ≡ 0 → p.holds ≡ false
      → Final (Seen (Rule opens entries_of) id m.0) ws xs → get_elem? xs 0 ≡ some found → Ends p found
  ends a b c id t m p ws xs found is told first alone rest f at =
      let got = closes id m.0 ws xs (ap (λ (q : PassState O E). q.first) is ∙ first) (ap (λ (q : PassState O E). q.others) is ∙ alone) (idle_stage a b c t m p is told rest) told.compared f in
      let seen = ap (λ (q : PassState O E). q.seen) is in let all = got.all ∙ seen in record {
        value = got.value;
        is = some-injective found (Some got.value) (sym at ∙ got.slot);
        opened = sym (ap (λ (q : PassState O E). q.opening) is) ∙ got.opened;
        all = all;
        owns = has_own p m.0 (entries_of got.value) seen (ap (λ (q : PassState O E). q.own) is) (subst (Begins p.seen) (sym all) (begins-refl p.seen)) got.owns;
      }
