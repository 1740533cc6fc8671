-- What is drawn, case by case.
pub mod Draws
