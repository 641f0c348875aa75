use Rattle.std.proofs.Common.{◌≡◌, ◌∷◌, ◌++◌, [], codes, rules, List, ℕ, ◌∙◌}
use Rattle.bench_gen.proofs.making.files.Goals as goal

pub returns : goal.returns
returns c =
    let adds = c.in_ok-put_hex_files.ensures in
    record {
      order = c.in_ok-order.order.1;
      catalogue = c.in_ok-catalogue.catalogue.1;
      images = adds.images;
      are = search rules;
      order_text = c.in_ok-order.ensures.text;
      catalogue_text = c.in_ok-catalogue.ensures.text;
      number = adds.number;
      each = adds.each;
    }
