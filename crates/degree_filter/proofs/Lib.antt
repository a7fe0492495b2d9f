pub mod LoopsTurned
