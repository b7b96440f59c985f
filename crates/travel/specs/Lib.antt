-- The definitions that the contracts of `travel` cite, in reading order. The laws stand in proofs/.

-- What it means: what contracts and theorems cite, from document 02. To be believed.
-- the distances between successive indices
pub mod Travel
-- the cursor by single steps
pub mod Steps
-- Statements: theorems and laws that a caller may use, and worked cases. Proved; nothing here is to be believed.
-- what is proved of a count, of an answer, and of a marker that moves by one
pub mod Proved
-- worked cases
pub mod Examples
