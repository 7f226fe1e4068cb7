pub mod Arguments
pub mod Lines
pub mod Printed
pub mod Gathered
pub mod Sporked
pub mod Keyed
pub mod Found
pub mod Carried
