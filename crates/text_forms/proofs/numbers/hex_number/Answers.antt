use Rattle.std.proofs.Common.{rules, arith, ◌≡◌, ◌∙◌, sym, ◌^◌, ◌+◌, ◌≤◌, ◌<◌, ℕ, List, length, get_or, drop, Option, Some, None, lit≤}
use Rattle.std.proofs.lemmas.List.{at_drop_more, at_drop_all}
use Rattle.text_forms.specs.Numbers.{hex_digit, value_after, if_below, hex_text, hex_value}
use Rattle.text_forms.proofs.Digits.{too_great, whole_number, hex_text_is}
use Rattle.text_forms.proofs.numbers.hex_number.Goals as goal

pub returns-in_err-number : goal.returns-in_err-number
returns-in_err-number c =
    let text : List ℕ = c.args.text.now in
    let here : ℕ = get_or text c.loop-c.c-index 0 in
    let rest : List ℕ = drop (c.loop-c.c-index + 1) text in
    let whole : hex_text text ≡ if_below (2 ^ 64) (hex_value text) = hex_text_is text (search rules) (search rules) in
    let within : c.loop-c.c-index < length text = search rules in
    let next = at_drop_more (λ cs. if_below (2 ^ 64) (value_after hex_digit 16 c.loop-c.number cs)) text c.loop-c.c-index 0 within in
    let said : hex_digit here ≡ Some c.in_ok-digit.digit = search rules in
    let great = too_great hex_digit 16 c.loop-c.number here c.in_ok-digit.digit (2 ^ 64) rest said (lit≤ tt) c.in_err-number.ensures in
    c.from_residual-in_err-number.ensures ∙ sym (whole ∙ c.loop-c.invariant.rest ∙ next ∙ great)

pub returns : goal.returns
returns c =
    let text : List ℕ = c.args.text.now in
    let whole : hex_text text ≡ if_below (2 ^ 64) (hex_value text) = hex_text_is text (search rules) (search rules) in
    let last = at_drop_all (λ cs. if_below (2 ^ 64) (value_after hex_digit 16 c.loop-c.number cs)) text c.loop-c.c-index (search rules) in
    sym (whole ∙ c.loop-c.invariant.rest ∙ last ∙ whole_number c.loop-c.number (2 ^ 64) c.loop-c.invariant.small)
