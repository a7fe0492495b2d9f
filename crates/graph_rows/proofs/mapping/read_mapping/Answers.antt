use Rattle.graph_theory.proofs.MappingWords.{only_mapping, only_line}
use Rattle.graph_rows.proofs.mapping.read_mapping.Goals as goal

pub returns-clause-only : goal.returns-clause-only
returns-clause-only c = only_mapping c.mapping_laws.ensures c.args.bytes.now (λ x. x.items) c.images_in.result c.images_in.ensures.found c.images_in.ensures.fault

pub returns-clause-fault_only : goal.returns-clause-fault_only
returns-clause-fault_only c = only_line c.mapping_laws.ensures c.args.bytes.now (λ x. x.items) c.images_in.result c.images_in.ensures.found c.images_in.ensures.fault
