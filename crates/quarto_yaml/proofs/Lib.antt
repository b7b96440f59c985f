-- Lemmas of the proofs of `quarto_yaml`.
-- record numbers that accessors answer
mod Records
-- the numbers of a row
mod Rows
