-- The definite cases.
pub mod DefiniteLists
