-- The definitions that the contracts of `node` cite, and the theorem on trees.

-- What it means: what contracts and theorems cite, from document 01 and the standards. To be believed.
-- what comes next where there is something
pub mod Chain
-- when a record exists
pub mod Record
-- kinds and counts
pub mod Kind
-- spans and whether they were measured, tags, piece lists
pub mod Source
-- the last child, the child before, items by index, the root, the parent
pub mod Child
-- pairs by index
pub mod Entry
-- values by key
pub mod Search
-- scan_error
pub mod Marker
-- the trees of a forest by number
pub mod Forest
-- the tree that events make
pub mod Growth
-- Statements: theorems and laws that a caller may use, and worked cases. Proved; nothing here is to be believed.
-- what the accessors give back of a tree: the theorem on trees
pub mod ReadBack
-- a scalar's span by the accessors: where it lies, and whether it was measured
pub mod ScalarSpan
-- reading is the inverse of laying out
pub mod RecordLaws
-- the nodes of every run are the tree of its events
pub mod Built
-- worked cases
pub mod Examples
