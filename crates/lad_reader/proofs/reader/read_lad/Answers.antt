use Rattle.graph_theory.specs.Text.{words}
use Rattle.graph_theory.proofs.OneAnswer.{only_reading, only_fault}
use Rattle.lad_reader.specs.Parts.{vertices_of}
use Rattle.lad_reader.proofs.VertexParts.{few_parts, parts_below}
use Rattle.lad_reader.proofs.reader.read_lad.Goals as goal

pub returns-clause-only : goal.returns-clause-only
returns-clause-only c = only_reading c.text_laws.ensures (words c.args.bytes.now) c.args.kind c.args.most vertices_of c.read_text.result c.read_text.ensures.found c.read_text.ensures.fault

pub returns-clause-fault_only : goal.returns-clause-fault_only
returns-clause-fault_only c = only_fault c.text_laws.ensures (words c.args.bytes.now) c.args.kind c.args.most vertices_of c.read_text.result c.read_text.ensures.found c.read_text.ensures.fault

pub returns-clause-few : goal.returns-clause-few
returns-clause-few c = few_parts (words c.args.bytes.now) c.args.kind c.args.most c.read_text.result c.read_text.ensures.lengths c.read_text.ensures.found

pub returns-clause-below : goal.returns-clause-below
returns-clause-below c = parts_below (words c.args.bytes.now) c.args.kind c.args.most c.read_text.result c.read_text.ensures.lengths c.read_text.ensures.found
