-- What is asked of two rows together.
pub mod Rows
-- The limits of a row.
pub mod RowLimits
-- One record's clauses, together.
pub mod Records
-- The clauses of a record, together, and what is wrong at a place of its rows.
pub mod Holds
pub mod RecordFlaws
-- What the code asks of an image on the way to the clauses of `Soundness`.
pub mod Zeros
-- What the code asks of the station entries on the way to the clause of `Soundness`.
pub mod Services
-- The clauses of soundness that are asked once the counts are in range.
pub mod Whole
-- The numbers of the questions.
pub mod Questions
