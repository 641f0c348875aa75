use Rattle.std.proofs.Common.{◌≡◌, ◌∙◌, ℕ, List, length, sym, subst, Some, Option}
use Rattle.span_store.specs.Extents.{Extent, map_of}
use Rattle.span_store.specs.Putting.{Extracts}
use Rattle.span_store.proofs.Extracting.{extracted, extents_left}
use Rattle.span_store.proofs.store.take_from.Goals as goal

pub returns-in-Some-clause-takes : goal.returns-in-Some-clause-takes
returns-in-Some-clause-takes c =
    let es : List Extent = c.args.store.now.entries in
    let bs : List ℕ = c.in-Some.bytes.now in
    let size : length bs ≡ c.args.size = sym c.len.ensures ∙ c.if-len-size.true in
    let answer : c.remove.result ≡ Some bs = c.remove.ensures.value ∙ sym c.in-Some.ensures.value in
    subst (λ (n : ℕ). Extracts (map_of es) c.args.from n c.remove.result (map_of c.remove.new.self.entries)) size
    (subst (λ (o : Option (List ℕ)). Extracts (map_of es) c.args.from (length bs) o (map_of c.remove.new.self.entries)) (sym answer)
    (extracted c.args.from bs es c.remove.new.self.entries c.requires (sym c.in-Some.ensures.value) c.remove.ensures.entries))

pub returns-in-Some-clause-extents : goal.returns-in-Some-clause-extents
returns-in-Some-clause-extents c =
    extents_left c.args.from c.in-Some.bytes.now c.args.store.now.entries c.remove.new.self.entries c.requires (sym c.in-Some.ensures.value) c.remove.ensures.entries
