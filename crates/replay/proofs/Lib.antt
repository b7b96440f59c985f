-- Lemmas that serve several functions of `replay`, by subject.
-- the numbers of a list
pub mod Numbers
-- a case from a place on
pub mod Framing
