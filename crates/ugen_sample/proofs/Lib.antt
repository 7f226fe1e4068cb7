pub mod Among
pub mod Visits
pub mod Enough
mod Finishing
mod Once
mod Renamed
mod Shown
mod Mono
mod Gains
pub mod Limits
pub mod Tables
pub mod Origins
pub mod Stillness
mod Examples
