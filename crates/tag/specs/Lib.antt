-- The definitions that the contracts of `tag` cite, and what is proved of them; the arguments are in proofs/.

-- What it means: what contracts and theorems cite, from document 01 and the standards. To be believed.
-- the tokens before a place of a text
pub mod Tokens
-- the tag property before a node, and the tag's span
pub mod Tag
-- Statements: theorems and laws that a caller may use, and worked cases. Proved; nothing here is to be believed.
-- the steps back that the code's search is made of
pub mod Back
-- what a token is, and what a caller may count on
pub mod Proved
-- worked cases, K12 among them
pub mod Examples
