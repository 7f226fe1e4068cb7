pub mod FirstWalk
pub mod Room
pub mod Steps
