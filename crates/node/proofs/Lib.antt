-- The tree theorem, and lemmas that serve several functions, by subject.
-- offsets in an admitted text
mod Offsets
-- answers told through other answers
mod Answers
-- steps back over children, and over pairs
mod Steps
-- members of a list by number
mod Members
-- going back over a forest that is laid out
mod ForestLaws
-- values by key over a forest that is laid out
mod SearchLaws
-- each node but the root is a child of exactly one
mod Parents
-- the tree that events make of other nodes
mod Alike
-- what a call builds is the tree of its events: `built_tree`
pub mod GrowthLaws
-- and the accessors give it back: `read_back`
pub mod ReadBackLaws
-- a scalar's span by the accessors: where it lies, and whether it was measured
pub mod ScalarSpanLaws
