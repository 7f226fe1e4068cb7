pub mod Binary
pub mod TypedLists
