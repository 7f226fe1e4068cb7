pub mod View
pub mod StatementTyping
pub mod Outcomes
pub mod ProgramView
pub mod ProgramTyping
