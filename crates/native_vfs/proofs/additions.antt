pub mod MadeCalls
pub mod MadeNodes
pub mod NamedAgain
