-- Laws of flaws.
pub mod FlawLaws
