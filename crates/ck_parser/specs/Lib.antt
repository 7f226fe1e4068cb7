pub mod Grammar
pub mod Depth
pub mod Parse
pub mod Examples
pub mod Statements
pub mod Items
pub mod FirstFault
