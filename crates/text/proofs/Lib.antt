-- Lemmas that serve several functions of `text`, by subject.
-- the answer on a text and a value
pub mod Admit
-- a cursor that is lent, and a contract of three facts
pub mod Lent
-- characters counted by the bytes they begin with
pub mod Starts
-- the laws of marker offsets
pub mod OffsetLaws
-- the laws of an admitted text
pub mod AdmissionLaws
