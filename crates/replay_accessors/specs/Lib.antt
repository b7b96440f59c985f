-- Nothing of document 01 rests on these crates: they are test programs, and nothing here is to be believed.
-- Test programs: what they compare.
-- numbers matched with a list
pub mod Matched
-- all questions about a record
pub mod Questions
