use Rattle.graph_theory.proofs.MappingLines.{one_mapping, no_fault, one_fault, mapping_or_fault}
use Rattle.graph_theory.proofs.mapping_text.mapping_laws.Goals as goal

pub returns : goal.returns
returns c = record { one_mapping = one_mapping; no_fault = no_fault; one_fault = one_fault; either = mapping_or_fault }
