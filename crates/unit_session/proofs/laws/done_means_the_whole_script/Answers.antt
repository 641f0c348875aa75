use Rattle.unit_session.proofs.Wholes.{ends_mean_all}
use Rattle.unit_session.proofs.laws.done_means_the_whole_script.Goals as goal

pub returns : goal.returns
returns c = ends_mean_all
