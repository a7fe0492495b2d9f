pub mod LabelledParts
pub mod VertexParts
