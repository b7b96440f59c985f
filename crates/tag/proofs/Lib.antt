-- The arguments behind what `specs/Proved.antt` states, and lemmas that serve several functions of `tag`, by subject.
-- the laws of tokens
pub mod TokenLaws
-- the search by the text's bytes
pub mod SearchLaws
-- what callers may count on
pub mod TagLaws
-- back over the characters of a kind, one at a time
pub mod Steps
-- the openings from a place of a token on
pub mod Openings
-- one token of the search
pub mod Turn
