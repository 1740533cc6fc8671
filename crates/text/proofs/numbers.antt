-- The laws by which a word of digits is read, and a line of such words.
pub mod WordLaws
pub mod LineLaws
pub mod RuleLaws
