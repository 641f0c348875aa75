-- What bytes put into a map add to it.
use Rattle.std.proofs.Common.{◌≡◌, ℕ, ◌+◌, ◌-◌, ◌%◌, ◌^◌, ◌<◌, ◌≤◌, List, length, take, drop, min, cond, Some, Ok, sym, ap, ◌∙◌, inl, inr, arith, length-take, length-drop}
use Rattle.std.proofs.lemmas.Bool.{cases_lt, le-leb, lt-leb}
use Rattle.std.specs.List.{slice_get}
use Rattle.span_store.specs.ByteMap.{ByteMap}
use Rattle.span_store.proofs.Pieces.{slice_get-drop}
use Rattle.span_store.proofs.Settled.{slice_get-take}
use Rattle.rec_text.specs.Putting.{◌>>=◌, putting, put_round}
use Rattle.rec_text.proofs.Adds.{Adds, some_below, putting_adds}
use Rattle.hex_rec.specs.Reading.{put_line}
use Rattle.hex_rec.specs.HexText.{address}
use Rattle.hex_rec.specs.Base.{IsBase}
use Rattle.hex_rec.specs.declared.base.Base.{Base}
use Rattle.hex_rec.specs.declared.base.Base.TheVariants.{Linear, Segment}
use Rattle.hex_rec.proofs.Shapes.{bind_ok}

-- bytes at the addresses of a line
abbrev pub At : (ℕ → ℕ) → List ℕ → ℕ → ℕ → Type 0
At place bs a b = (k : ℕ) × (k < length bs) × (a ≡ place k) × (slice_get bs k ≡ Some b)

module _ (m new : ByteMap) (start first room : ℕ) (bs : List ℕ) (place : ℕ → ℕ)
    (near : (k : ℕ) → k < room → k < length bs → place k ≡ first + k) (far : (k : ℕ) → room ≤ k → k < length bs → place k ≡ start + (k - room)) where
  all_fit : length bs ≤ room → putting m first bs ≡ Ok new → Adds m new (At place bs)
  all_fit fits e =
      let p = putting_adds m new first bs e in
      record {
        splits = λ a b h. elim (p.splits a b h) [
          | inl old ↦ inl old
          | inr got ↦ let l = some_below bs got.0 b got.2 in inr (got.0, l, got.1 ∙ sym (near got.0 (omega arith) l), got.2)
        ];
        keeps = p.keeps;
        has = λ a b h. p.has a b (h.0, h.2 ∙ near h.0 (let l = h.1 in omega arith) h.1, h.3);
      }

  two_parts : (half : ByteMap) → room < length bs → putting m start (drop room bs) ≡ Ok half → putting half first (take room bs) ≡ Ok new → Adds m new (At place bs)
  two_parts half more e f =
      let p = putting_adds m half start (drop room bs) e in
      let q = putting_adds half new first (take room bs) f in
      let size_d : length (drop room bs) ≡ length bs - room = length-drop room bs in
      let size_t : length (take room bs) ≡ min room (length bs) = length-take room bs in
      record {
        splits = λ a b h. elim (q.splits a b h) [
          | inl in_half ↦ elim (p.splits a b in_half) [
            | inl old ↦ inl old
            | inr got ↦
                let l = some_below (drop room bs) got.0 b got.2 in
                let lt : room + got.0 < length bs = omega arith in
                let back : room + got.0 - room ≡ got.0 = omega arith in
                inr (room + got.0, lt, got.1 ∙ ap (λ k. start + k) (sym back) ∙ sym (far (room + got.0) (omega arith) lt), sym (slice_get-drop bs room got.0) ∙ got.2)
          ]
          | inr got ↦
              let l = some_below (take room bs) got.0 b got.2 in
              let lt : got.0 < room = omega arith in
              let le : got.0 < length bs = omega arith in
              inr (got.0, le, got.1 ∙ sym (near got.0 lt le), sym (slice_get-take bs room got.0 lt) ∙ got.2)
        ];
        keeps = λ a b h. q.keeps a b (p.keeps a b h);
        has = λ a b h.
            let k : ℕ = h.0 in
            let l : k < length bs = h.1 in
            elim (cases_lt k room) [
              | inl lt ↦ q.has a b (k, h.2 ∙ near k lt l, slice_get-take bs room k lt ∙ h.3)
              | inr ge ↦
                  let back : room + (k - room) ≡ k = omega arith in
                  q.keeps a b (p.has a b (k - room, h.2 ∙ far k ge l, slice_get-drop bs room (k - room) ∙ ap (slice_get bs) back ∙ h.3))
            ];
      }

  pub round_adds : put_round m start first room bs ≡ Ok new → Adds m new (At place bs)
  round_adds e =
      elim (cases_lt room (length bs)) [
        | inr fits ↦ all_fit fits (sym (ap (λ t. cond t (putting m first bs) (putting m start (drop room bs) >>= λ half. putting half first (take room bs))) (le-leb (length bs) room fits)) ∙ e)
        | inl more ↦
            let two = sym (ap (λ t. cond t (putting m first bs) (putting m start (drop room bs) >>= λ half. putting half first (take room bs))) (lt-leb (length bs) room more)) ∙ e in
            let parts = bind_ok (putting m start (drop room bs)) (λ half. putting half first (take room bs)) new two in
            two_parts parts.0 more parts.1 parts.2
      ]

pub line_adds : (m new : ByteMap) (base : Base) (offset : ℕ) (bs : List ℕ) → IsBase base → offset < 2 ^ 16 → length bs < 2 ^ 8 → put_line m base offset bs ≡ Ok new → Adds m new (At (address base offset) bs)
line_adds m new (Linear base) offset bs h o l e =
    round_adds m new 0 ((base + offset) % 2 ^ 32) (2 ^ 32 - (base + offset) % 2 ^ 32) bs (address (Linear base) offset)
    (λ k lt le. omega arith) (λ k ge le. omega arith) e
line_adds m new (Segment base) offset bs h o l e =
    round_adds m new base (base + offset) (2 ^ 16 - offset) bs (address (Segment base) offset)
    (λ k lt le. omega arith) (λ k ge le. omega arith) e
