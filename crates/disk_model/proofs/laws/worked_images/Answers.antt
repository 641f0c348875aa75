use Rattle.disk_model.proofs.Worked.{images_worked}
use Rattle.disk_model.proofs.laws.worked_images.Goals as goal

pub returns : goal.returns
returns c = images_worked
