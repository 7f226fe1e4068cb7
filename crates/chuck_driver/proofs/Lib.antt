pub mod Said
pub mod Carried
pub mod Answering
pub mod Clauses
pub mod Mains
pub mod Unbuilt
