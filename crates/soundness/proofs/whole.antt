-- Laws of the clauses.
pub mod RecordLaws
pub mod LaterLaws
pub mod CountLaws
