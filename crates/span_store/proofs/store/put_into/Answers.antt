use Rattle.span_store.proofs.Free.{free_clash}
use Rattle.span_store.proofs.store.put_into.Goals as goal

pub returns-in_ok-append-in-Behind-clause-puts : goal.returns-in_ok-append-in-Behind-clause-puts
returns-in_ok-append-in-Behind-clause-puts c = (free_clash c.args.store.now.entries c.args.at c.args.bytes.now c.requires.extents c.in-Behind.ensures.0, c.in_ok-append-in-Behind.ensures.ok)

pub returns-in_ok-own-in-Apart-clause-puts : goal.returns-in_ok-own-in-Apart-clause-puts
returns-in_ok-own-in-Apart-clause-puts c = (free_clash c.args.store.now.entries c.args.at c.args.bytes.now c.requires.extents c.in-Apart.ensures, c.in_ok-own-in-Apart.ensures.ok)
