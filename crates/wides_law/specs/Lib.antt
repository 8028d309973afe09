pub mod Wides
