-- What faults of the layers below are here.

use Rattle.graph_files.specs.declared.graph_file.GraphFault.{GraphFault}
use Rattle.graph_files.specs.declared.graph_file.GraphFault.TheVariants as graph
use Rattle.outer_io.specs.declared.fault.LoadFault.{LoadFault}
use Rattle.outer_io.specs.declared.fault.LoadFault.TheVariants as loading
use Rattle.graph_theory.specs.declared.lad_text.LadFault.{LadFault}
use Rattle.graph_theory.specs.declared.lad_text.LadFault.TheVariants as lad

-- A fault of loading.
abbrev pub graph_fault_of_load : LoadFault → GraphFault
graph_fault_of_load loading.Failed = graph.Failed
graph_fault_of_load loading.TooLong = graph.TooLong
graph_fault_of_load loading.NoMemory = graph.NoMemory

-- A fault of reading.
abbrev pub graph_fault_of_lad : LadFault → GraphFault
graph_fault_of_lad (lad.Word w cause) = graph.Word w cause
graph_fault_of_lad lad.NoMemory = graph.NoMemory
