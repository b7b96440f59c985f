-- The definitions that the contracts of `utf8` cite, in reading order. The laws of texts that callers go by stand in proofs/.

-- What it means: what contracts and theorems cite, from document 01 and the standards. To be believed.
-- bytes as they are written
pub mod Ascii
-- the classes of a byte
pub mod Class
-- UTF-8: what a text is
pub mod Utf8
-- where characters begin
pub mod Boundary
-- white space by code points
pub mod WhiteSpace
-- Statements: theorems and laws that a caller may use, and worked cases. Proved; nothing here is to be believed.
-- characters read from bytes, by definitions that compute: `characters_read` says what each is
pub mod Characters
-- laws of tests
pub mod Tests
-- the classes of all bytes, spelt out
pub mod ClassTable
-- For speed only: how fast paths are told. Nothing of 01 rests on them.
-- what a byte may be after the three before it
pub mod Window
