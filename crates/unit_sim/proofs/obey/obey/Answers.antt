use Rattle.unit_sim.proofs.Forms.{is_low}
use Rattle.unit_sim.proofs.obey.obey.Goals as goal

pub download-requires : goal.download-requires
download-requires c = is_low c.in-Download.width _ _ (rw c.in-Download.is at c.requires)

pub upload-requires : goal.upload-requires
upload-requires c = is_low c.in-Upload.width _ _ (rw c.in-Upload.is at c.requires)
