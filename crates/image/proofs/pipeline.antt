-- The two forms of the state.
pub mod Rows
pub mod TwoForms
pub mod Unused
