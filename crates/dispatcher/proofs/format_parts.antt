-- Laws of the calls by paper format.
pub mod SheetLaws
pub mod HeldLaws
