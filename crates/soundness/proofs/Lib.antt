-- Laws that the clauses share.
pub mod Facts
pub mod Parts
pub mod Rising
