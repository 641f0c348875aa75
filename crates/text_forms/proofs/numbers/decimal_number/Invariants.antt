use Rattle.std.proofs.Common.{◌≡◌, ◌<◌, ◌^◌, drop}
use Rattle.text_forms.specs.Numbers.{decimal_digit, value_after, decimal_value, if_below}
use Rattle.text_forms.proofs.numbers.decimal_number.Given as goal

abbrev pub invariant-loop-c : goal.invariant-loop-c
invariant-loop-c l = record {
  small : l.number < 2 ^ 64;
  rest : if_below (2 ^ 64) (decimal_value l.text) ≡ if_below (2 ^ 64) (value_after decimal_digit 10 l.number (drop l.c-index l.text));
}
