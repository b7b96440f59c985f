-- The definitions that the contracts of `letters` cite. Nothing in this crate is to be believed.
-- For speed only: how fast paths are told. Nothing of 01 rests on them.
-- the first places of a chunk
pub mod FirstPlaces
-- letters, which are equal in the text and in the value and mean nothing else
pub mod Letters
-- letters without the first ones
pub mod LetterLaws
-- bytes inside quotes that are neither the mark nor a backslash
pub mod Marks
