-- The clauses of all records together, what each clause is said to be, and the first that fails.
pub mod RecordLaws
pub mod LaterLaws
pub mod FlawLaws
pub mod FirstLaws
