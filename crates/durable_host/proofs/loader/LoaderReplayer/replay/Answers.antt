-- Serves clause refused of a loader's replay.
use Rattle.durable_host.proofs.loader.LoaderReplayer.replay.Goals as goal

pub returns-clause-refused : goal.returns-clause-refused
returns-clause-refused c place why is = rw (← c.self.view_is) (c.replay.ensures.refused place why is)
