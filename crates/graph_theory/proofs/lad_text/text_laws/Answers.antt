use Rattle.graph_theory.proofs.OneReading.{one_reading}
use Rattle.graph_theory.proofs.Walk.{no_fault, one_fault}
use Rattle.graph_theory.proofs.Descent.{reads_or_fault}
use Rattle.graph_theory.proofs.lad_text.text_laws.Goals as goal

pub returns : goal.returns
returns c = record { one_reading = one_reading; no_fault = no_fault; one_fault = one_fault; either = reads_or_fault }
