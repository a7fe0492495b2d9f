use Rattle.merged_log.proofs.Noting.{notes_rise}
use Rattle.merged_log.proofs.notes.note_laws.Goals as goal

pub returns : goal.returns
returns c = notes_rise
