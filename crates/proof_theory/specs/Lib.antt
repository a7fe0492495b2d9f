pub mod Forms
pub mod Rules
pub mod Slack
pub mod Propagation
pub mod FormLaws
