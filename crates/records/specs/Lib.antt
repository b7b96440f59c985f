-- The record of a node, and how records and pieces stand in their buffers.

-- What it means: what contracts and theorems cite, from document 01 and the standards. To be believed.
-- the fourteen numbers of a record
pub mod Record
-- nodes and pieces laid out in the buffers, and how many fit
pub mod Layout
-- a node's parent
pub mod Parent
-- nodes as a forest
pub mod Forest
-- Statements: theorems and laws that a caller may use, and worked cases. Proved; nothing here is to be believed.
-- what is laid out is read back
pub mod RecordLaws
-- entries laid out one after the other
pub mod LayoutLaws
-- Arguments: what the code does to a buffer; cited by inner calls' contracts only.
-- the children of a collection, from the last to the first, and forests in which each node counts its tree
pub mod Adopt
