use Rattle.journal_theory.proofs.Agreeing.{makes_same}
use Rattle.journal_theory.proofs.Writing.{text_accepted, no_feed, lines_are}
use Rattle.journal_theory.proofs.line_laws.Goals as goal

pub returns : goal.returns
returns c = record { refs = makes_same; text = text_accepted; no_feed = no_feed; lines = lines_are }
