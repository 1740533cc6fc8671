-- Laws of the table of long sides, of rows up to a station, and of costs that two bytes do not hold.
pub mod FormatLaws
pub mod HeldLaws
