-- Starts with the candidates as the starts of the definition.
pub mod StartLaws
