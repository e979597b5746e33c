pub mod OneStep
pub mod Rotting
