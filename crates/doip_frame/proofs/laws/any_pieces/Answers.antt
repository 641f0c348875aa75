use Rattle.doip_frame.proofs.Pieces as pieces
use Rattle.doip_frame.proofs.laws.any_pieces.Goals as goal

pub returns : goal.returns
returns c = record { frames = pieces.all_frames; held = pieces.all_held; bad = pieces.all_bad }
