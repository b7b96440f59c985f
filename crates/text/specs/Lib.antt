-- The definitions that the contracts of `text` cite, in reading order. The laws that callers go by stand in proofs/.

-- What it means: what contracts and theorems cite, from document 01 and the standards. To be believed.
-- marker offsets and the cursor
pub mod Offset
-- the first two rows of the table
pub mod Admission
-- Statements: theorems and laws that a caller may use, and worked cases. Proved; nothing here is to be believed.
-- what an admitted text is
pub mod Admitted
-- worked cases, K1 among them
pub mod Examples
-- For speed only: how fast paths are told. Nothing of 01 rests on them.
-- how many characters begin among some bytes
pub mod Starts
