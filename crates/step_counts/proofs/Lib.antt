pub mod Bodies
pub mod Statements
pub mod Programs
pub mod Steps
