pub mod KeyExamples
pub mod Parents
