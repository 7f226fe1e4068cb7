pub mod Settling
pub mod FitRuns
