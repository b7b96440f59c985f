-- The definitions that the contracts of `quarto_yaml` cite.
-- What it means: what contracts and theorems cite, from document 01 and the standards. To be believed.
-- one number, or none
pub mod None
-- several numbers, or none
pub mod Found
-- the numbers of an answer, and what the calls that read a text promise
pub mod Answer
-- Arguments: the lemmas behind the statements.
-- what fits 32 bits
pub mod Fit
