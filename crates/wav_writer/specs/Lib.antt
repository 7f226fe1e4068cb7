pub mod Wav
