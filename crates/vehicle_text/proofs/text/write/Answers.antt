use Rattle.std.proofs.Common.{◌≡◌, ◌∙◌, ap, arith}
use Rattle.json.specs.Print.{print}
use Rattle.serde_json.specs.Data.{Data}
use Rattle.serde_json.proofs.Texts.{print-outline}
use Rattle.vehicle_file.specs.Files.{vehicle_from}
use Rattle.vehicle_text.specs.Objects.{put_value, tokens_of}
use Rattle.vehicle_text.specs.Texts.{vehicle_data}
use Rattle.vehicle_text.proofs.Plain.{vehicle_plain}
use Rattle.vehicle_text.proofs.Sorted.{text_reads}
use Rattle.vehicle_text.proofs.Whole.{back}
use Rattle.vehicle_text.proofs.text.write.Goals as goal

pub returns-clause-is : goal.returns-clause-is
returns-clause-is c =
    let d : Data = vehicle_data c.args.vehicle.now in
    let written : c.object.new.out ≡ tokens_of d = c.in_ok-object.ensures.is ∙ ap (put_value d) c.new-out.ensures in
    c.finish.ensures.text ∙ ap print written ∙ print-outline d

pub returns-clause-back : goal.returns-clause-back
returns-clause-back c said =
    let d : Data = vehicle_data c.args.vehicle.now in
    let fits = c.in_ok-object.ensures.fits in
    let written : c.object.new.out ≡ tokens_of d = c.in_ok-object.ensures.is ∙ ap (put_value d) c.new-out.ensures in
    ap vehicle_from (text_reads c.finish.result d 6 (vehicle_plain c.args.vehicle.now fits) (omega arith) c.finish.ensures.utf8 (c.finish.ensures.tokens ∙ written))
    ∙ back c.args.vehicle.now said fits
