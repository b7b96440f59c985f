-- The laws that callers go by, and lemmas that serve the functions of `measure`, by subject.
-- a length is within the text left; where it ends
pub mod Laws
-- what "measured" says, proved
pub mod MeasuredLaws
-- runs, and places of a text by the characters before them
pub mod Places
-- the character that was read at a place, and the part from there on
pub mod Read
-- a white-space run, character by character
pub mod Runs
-- how far something reaches, told from further on
pub mod Reached
-- up to a closing mark
pub mod Closing
-- a line, character by character
pub mod Line
-- a block, line by line
pub mod Blocks
-- a value, matched character by character
pub mod Matches
