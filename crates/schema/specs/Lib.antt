-- The definitions that the contracts of `schema` cite, and what is proved of them.

-- What it means: what contracts and theorems cite, from document 01 and the standards. To be believed.
-- regular expressions and what they match
pub mod Regex
-- the expressions of the standard's table
pub mod Rows
-- the integers that digits write
pub mod Integer
-- the standard's table and what it reads
pub mod Standard
-- the core schema: the standard, but for the range of integers
pub mod CoreSchema
-- a scalar by the rows of one kind
pub mod Kinds
-- tags, and the whole resolution
pub mod Tag
-- the numbers of a record
pub mod Record
-- Statements: theorems and laws that a caller may use, and worked cases. Proved; nothing here is to be believed.
-- a matcher that computes; it is exact (`MatcherExact`)
pub mod Matcher
-- the theorems' types
pub mod Statements
-- a scalar by any number for its style
pub mod TagLaws
-- worked examples
pub mod Examples
-- For speed only: how fast paths are told. Nothing of 01 rests on them.
-- the form of a scalar, and what is read off it
pub mod Form
-- the automaton that finds the form
pub mod Automaton
