pub mod HandleValues
