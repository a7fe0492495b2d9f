use Rattle.std.proofs.Common.{arith}
use Rattle.fail_account.proofs.Marks.{refutes_of}
use Rattle.fail_account.proofs.rows.refute.Goals as goal

pub returns : goal.returns
returns c = refutes_of _ _ _ _ _ c.requires.in_row (omega (arith, c.requires.inside, c.clear_words.auto.words)) c.clear_words.ensures
