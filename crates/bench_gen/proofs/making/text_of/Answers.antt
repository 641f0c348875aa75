use Rattle.std.proofs.Common.{◌≡◌, ◌∙◌, ap, rules, string_bytes, Some, true}
use Rattle.std.proofs.lemmas.Str.{IsUtf8-string_bytes, is_utf8-from_IsUtf8}
use Rattle.std.specs.Str.{is_utf8}
use Rattle.serde_json.specs.Read.{read}
use Rattle.serde_json.specs.View.{view}
use Rattle.serde_json.specs.Written.{compact_text}
use Rattle.bench_gen.proofs.making.text_of.Goals as goal

pub returns : goal.returns
returns c =
    let text : c.in_ok-bytes.bytes ≡ string_bytes c.in_ok-text.text = search rules in
    let short : string_bytes c.in_ok-text.text ≡ compact_text (view c.args.value.now) = c.in_ok-text.ensures.text c.requires.plain in
    let back : read (string_bytes c.in_ok-text.text) ≡ Some (view c.args.value.now) = c.in_ok-text.ensures.reads_back c.requires.flat in
    let whole : is_utf8 (string_bytes c.in_ok-text.text) ≡ true = is_utf8-from_IsUtf8 (string_bytes c.in_ok-text.text) (IsUtf8-string_bytes c.in_ok-text.text) in
    record { utf8 = ap is_utf8 text ∙ whole; written = text ∙ short; reads = ap read text ∙ back }
