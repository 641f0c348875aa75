use Rattle.std.proofs.Common.{◌≡◌, ap, ◌∙◌, subst, List, ℕ}
use Rattle.std.specs.FinMap as map
use Rattle.hex_rec.specs.Writing.{IsWritten}
use Rattle.span_store.specs.ByteMap.{ByteMap, over}
use Rattle.bench_gen.specs.Sizes.{base}
use Rattle.bench_gen.proofs.making.hex_file.Goals as goal

pub returns : goal.returns
returns c = record {
  name = c.from_string.ensures ∙ c.in_ok-name.ensures;
  text = subst (λ (m : ByteMap). IsWritten m c.in_ok-text.text) (c.in_ok-spans.ensures.are ∙ ap (over map.empty base) c.in_ok-bytes.ensures.is) c.in_ok-text.ensures.written;
}
