pub mod Run
pub mod Report
pub mod Family
pub mod Told
pub mod Channels
pub mod Counts
pub mod Sound
