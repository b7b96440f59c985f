-- Lemmas that serve several functions of `utf8`, by subject.
-- a rule of all numbers below a bound, by one computed test; the classes of all bytes
pub mod Table
-- going back from a boundary to the start of a character
pub mod Back
-- what passes by windows is UTF-8
pub mod Windows
-- the table of white space
pub mod WhiteSpace
-- the length of a character by its first byte
pub mod Leads
-- the laws of texts, characters and boundaries
pub mod Utf8Laws
-- the bytes of one character, both ways
pub mod Bytes
-- what an answer of `first_char` or `last_char` says
pub mod SomeChar
