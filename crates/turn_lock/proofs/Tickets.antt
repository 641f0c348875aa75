-- The second pass of the proof: a ticket is drawn, and the number that is served is read.
use Rattle.std.proofs.Common.{◌≡◌, ◌≢◌, ℕ, ◌+◌, ◌%◌, ◌^◌, ◌≤◌, List, length, set, get_or, refl, sym, ap, ◌∙◌, subst, arith, length-set, get_or-set_other, get_or-set_same}
use mathlib.Core.Option.{some, some-injective}
use native.Mathlib.Nat.{mod-add-mod}
use lib.ListN.{get_elem?}
use lib.Seq.{set-get_or}
use Rattle.std.proofs.lemmas.List.Sums.{sum_by-le-sum_by}
use Rattle.atomic_table.specs.Table.{keeps, Allows}
use Rattle.atomic_table.proofs.Lists.{set_again, one_turn}
use Rattle.turn_lock.specs.declared.view.View.{View}
use Rattle.turn_lock.specs.declared.view.Stage.TheVariants.{Idle, Waiting, Holding}
use Rattle.turn_lock.specs.Seats.{ticket_count, tickets_of, passes_of}
use Rattle.turn_lock.specs.Steps.{DrawsTicket}
use Rattle.turn_lock.proofs.Seating.{tickets_of-le, idle_passes, idle_holds, idle_gone, waiting_holds, waiting_gone, put, put-same, put-other, St, M, Rule, moved, slot_stays, reader_stays, first_word}

module _ {V O E : Type 0} (opens : V → O) (entries_of : V → List E) where
  pub draws : (n id : ℕ) (me : M opens entries_of) → me.0.stage ≡ Idle → Allows (Rule opens entries_of) n id me 1 (λ k. (k + 1) % 2 ^ 64) (λ k m. DrawsTicket me k m)
  draws n id me idle s r _ at _ =
      let v : View O E = me.0 in let w : View O E = record v { stage = Waiting; ticket = r.next } in let k = r.each id v at in let old : ℕ = get_or s.words 1 0 in
      let ws : List ℕ = set s.words 1 ((old + 1) % 2 ^ 64) in let long : length s.words ≡ 3 = r.three in let holder' = put r.holder_of r.next id in
      let same : get_or ws 0 0 ≡ get_or s.words 0 0 = get_or-set_other s.words 1 0 _ 0 (λ e. omega arith) in let qv : ticket_count v.stage ≡ 0 = ap ticket_count idle in let wv = idle_passes v.stage v.unseated idle in
      let t = r.tickets in (
        w,
        keeps,
        tt,
        moved opens entries_of s r id v w ws s.homes r.entries (r.next + 1) r.serving holder' r.owner_of r.slot r.reader at (length-set s.words 1 _ ∙ long)
            (get_or-set_same s.words 1 _ 0 (omega arith) ∙ ap (λ (z : ℕ). (z + 1) % 2 ^ 64) r.next_is ∙ mod-add-mod r.next (2 ^ 64) 1)
            (get_or-set_other s.words 1 2 _ 0 (λ e. omega arith) ∙ r.serving_is) (subst (λ (z : ℕ). z ≤ 65536) (sym same) r.few) r.short
            (omega arith) (omega arith) (omega arith) (λ first. first_word opens entries_of s r id v at first ∙ sym same) (λ _. same) r.slot_is
            (slot_stays opens entries_of r.opening r.entries s.views id v w r.slot at (idle_holds v.stage idle) r.in_place)
            (reader_stays opens entries_of r.entries s.views r.reader id v w at (λ h. record { present = waiting_gone Waiting refl; all = h.all }) r.read)
            (λ j u other e. let h = r.each j u e in record {
              leads = h.leads;
              opened = h.opened;
              seen = h.seen;
              shown = h.shown;
              owns = h.owns;
              once = h.once;
              drawn = λ q. let d = h.drawn q in let d0 = d.0 in let d1 = d.1 in (d0, omega arith, put-other r.holder_of r.next id u.ticket (λ is. omega arith) ∙ d.2);
              served = h.served;
            })
            record {
              leads = k.leads;
              opened = λ _. k.opened (idle_gone v.stage idle);
              seen = k.seen;
              shown = k.shown;
              owns = k.owns;
              once = k.once;
              drawn = λ _. (omega arith, omega arith, put-same r.holder_of r.next id);
              served = λ h. absurd (waiting_holds Waiting refl h);
            },
        (r.next, r.next_is, refl),
      )

  -- The ticket of a pass that waits is the one that is served, where the words are equal: fewer than 2^64 are out.
  pub is_served : (s : St opens entries_of) (r : Rule opens entries_of s) (id : ℕ) (v : View O E) → get_elem? s.views id ≡ some v → v.stage ≡ Waiting → get_or s.words 2 0 ≡ v.ticket % 2 ^ 64 → r.serving ≡ v.ticket
  is_served s r id v at waits hit =
      let d = (r.each id v at).drawn (ap ticket_count waits) in let d0 = d.0 in let d1 = d.1 in let t = r.tickets in let p = r.passes in let f = r.few in
      let le = sum_by-le-sum_by tickets_of passes_of s.views tickets_of-le in
      one_turn r.serving v.ticket (2 ^ 64) d.0 (omega arith) (sym r.serving_is ∙ hit)

  -- while a pass waits whose ticket is served, nobody holds the value
  pub nobody_holds : (s : St opens entries_of) (r : Rule opens entries_of s) (id : ℕ) (v : View O E) → get_elem? s.views id ≡ some v → v.stage ≡ Waiting → r.serving ≡ v.ticket → (j : ℕ) (u : View O E) → get_elem? s.views j ≡ some u → u.stage ≢ Holding
  nobody_holds s r id v at waits is j u e holds =
      let h = r.each j u e in let dj = h.drawn (ap ticket_count holds) in let d = (r.each id v at).drawn (ap ticket_count waits) in
      let j_is : j ≡ id = sym dj.2 ∙ ap r.holder_of ((h.served holds).0 ∙ is) ∙ d.2 in
      waiting_holds v.stage waits (ap (λ (z : View O E). z.stage) (some-injective v u (sym at ∙ subst (λ (z : ℕ). get_elem? s.views z ≡ some u) j_is e)) ∙ holds)

  -- a read changes no word
  pub reread : (s : St opens entries_of) → set s.words 2 (get_or s.words 2 0) ≡ s.words
  reread s = set-get_or s.words 2 0

  -- a read that finds another ticket changes nothing
  pub unchanged : (s : St opens entries_of) → Rule opens entries_of s → (id : ℕ) (v : View O E) → get_elem? s.views id ≡ some v → Rule opens entries_of record { words = set s.words 2 (get_or s.words 2 0); homes = s.homes; views = set s.views id v }
  unchanged s r id v at = subst (λ (z : St opens entries_of). Rule opens entries_of z) (λ i. record { words = sym (reread s) i; homes = s.homes; views = sym (set_again s.views id v at) i }) r
