use Rattle.std.proofs.Common.{◌≡◌, ◌∙◌, ◌+◌, ◌-◌, ℕ, List, Option, take, drop, inl, inr, sym, ap, arith}
use Rattle.span_store.specs.ByteMap.{ByteMap}
use Rattle.session_image.specs.Pieces.{byte_of, filled}
use Rattle.session_image.specs.declared.content.Content.{Content}
use Rattle.session_image.specs.declared.content.Content.TheVariants.{Mapped, Plain}
use Rattle.session_image.proofs.Plain.{in_middle}
use Rattle.session_image.proofs.filling.body.Goals as goal

pub returns-in-Some-clause-bytes : goal.returns-in-Some-clause-bytes
returns-in-Some-clause-bytes c =
    let at : ℕ = c.args.range.0 in
    inr (sym (c.in-Some.ensures.bytes c.args.number c.args.fill)
    ∙ ap (λ (k : Content). filled c.args.number (byte_of k c.args.filters.now at c.args.before) c.args.fill at c.args.range.1) (sym c.in-Mapped.is))

pub returns-in_default-clause-bytes : goal.returns-in_default-clause-bytes
returns-in_default-clause-bytes c =
    let at : ℕ = c.args.range.0 in
    elim c.of_map.ensures [
      | inl e ↦ inl e
      | inr e ↦ inr (e
          ∙ ap (λ (m : ByteMap). filled c.args.number (byte_of (Mapped m) c.args.filters.now at 0) c.args.fill at c.args.range.1) c.in_default.ensures.same
          ∙ ap (λ (k : Content). filled c.args.number (byte_of k c.args.filters.now at c.args.before) c.args.fill at c.args.range.1) (sym c.in-Mapped.is))
    ]

pub returns-in-Plain-clause-bytes : goal.returns-in-Plain-clause-bytes
returns-in-Plain-clause-bytes c =
    let number : ℕ = c.args.number in
    let fill : Option ℕ = c.args.fill in
    let at : ℕ = c.args.range.0 in
    let size : ℕ = c.args.range.1 in
    let before : ℕ = c.args.before in
    let n : before + size - before ≡ size = omega arith in
    elim c.of_bytes.ensures [
      | inl e ↦ inl e
      | inr e ↦ inr (e
          ∙ ap (λ (bs : List ℕ). filled number (byte_of (Plain (take (before + size - before) (drop before bs))) c.args.filters.now at 0) fill at size) c.as_slice.ensures
          ∙ ap (λ (k : ℕ). filled number (byte_of (Plain (take k (drop before c.in-Plain.bytes))) c.args.filters.now at 0) fill at size) n
          ∙ in_middle number c.args.filters.now fill at before size c.in-Plain.bytes
          ∙ ap (λ (k : Content). filled number (byte_of k c.args.filters.now at before) fill at size) (sym c.in-Plain.is))
    ]
