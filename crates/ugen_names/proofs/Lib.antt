pub mod FirstRow
pub mod Named
