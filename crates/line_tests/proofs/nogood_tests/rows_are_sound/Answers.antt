use Rattle.line_tests.proofs.Sound.{rows_sound}
use Rattle.line_tests.proofs.nogood_tests.rows_are_sound.Goals as goal

pub returns : goal.returns
returns c = rows_sound _ c.requires.injective c.requires.pattern c.requires.target
