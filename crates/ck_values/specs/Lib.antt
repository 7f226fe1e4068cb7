pub mod Trap
pub mod Datum
pub mod OperatorNames
pub mod ParamTypes
