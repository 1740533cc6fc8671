-- The laws by which a part of a text is found, where it ends and which parts follow it; and by which a word of digits is read.
pub mod PartLaws
pub mod DigitLaws
pub mod FirstLaws
