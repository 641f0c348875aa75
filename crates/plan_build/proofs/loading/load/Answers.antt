use Rattle.std.proofs.Common.{sym}
use Rattle.plan_build.proofs.loading.load.Goals as goal

pub returns-in-Raw-clause-read : goal.returns-in-Raw-clause-read
returns-in-Raw-clause-read g c = rw (c.in-Raw.is, sym c.as_slice.ensures) c.file_loaded.ensures.read

pub returns-in-Raw-clause-ready : goal.returns-in-Raw-clause-ready
returns-in-Raw-clause-ready g c = c.file_loaded.ensures.ready c.args.catalogue.now
