use Rattle.std.proofs.Common.{◌∙◌, sym, ap}
use Rattle.std.specs.List.{list_all}
use Rattle.flash_plan.specs.Plan.{is_name_byte}
use Rattle.data_tests.proofs.Names.{each_true, some_bytes}
use Rattle.data_tests.proofs.plans.is_name.Goals as goal

pub returns : goal.returns
returns c = λ passes. record {
  some = some_bytes c.args.text.now (sym c.is_empty.ensures ∙ c.if-is_empty.false);
  short = c.if-text-gt32.false;
  letters = each_true is_name_byte c.args.text.now (sym (c.are_name_bytes.ensures ∙ ap (list_all is_name_byte) c.as_bytes.ensures.value) ∙ passes);
}
