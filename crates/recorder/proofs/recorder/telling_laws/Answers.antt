use Rattle.recorder.proofs.Telling.{telling_laws_hold}
use Rattle.recorder.proofs.recorder.telling_laws.Goals as goal

pub returns : goal.returns
returns c = telling_laws_hold
