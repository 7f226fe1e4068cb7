pub mod Bytes
pub mod Numbers
pub mod Texts
pub mod Tables
pub mod Forms
pub mod Gaps
pub mod Tokens
