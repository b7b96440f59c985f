-- Nothing of document 01 rests on these crates: they are test programs, and nothing here is to be believed.
-- Test programs: what they compare.
-- the framing of an answered case
pub mod Case
-- what is read of a list
pub mod Stream
-- the count of verdicts
pub mod Tally
-- Statements: proved; nothing here is to be believed.
-- a run ends
pub mod TallyLaws
