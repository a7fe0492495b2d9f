pub mod Parts
pub mod Given
pub use Rattle.graph_theory.specs.Text
pub use Rattle.graph_theory.specs.Lad
pub use Rattle.graph_theory.specs.LadFault
