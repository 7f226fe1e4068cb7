pub mod Weights
pub mod DeclWalks
pub mod Printed
pub mod Rows
pub mod StatementWalks
pub mod Settling
