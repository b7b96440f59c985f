-- The machine that builds a document, and the two public calls.

-- What it means: what contracts and theorems cite, from document 01 and the standards. To be believed.
-- the machine over lists: state, step, run, ending
pub mod Machine
-- the two public calls
pub mod Call
-- Statements: theorems and laws that a caller may use, and worked cases. Proved; nothing here is to be believed.
-- the machine over a list of events
pub mod EventRun
-- demand 3 at the two public calls, and whether a span was measured
pub mod Demand
-- at most so many nodes, pieces, places and numbers
pub mod Bounds
-- K1 to K12
pub mod Cases
-- the smallest input of each row, and other worked inputs
pub mod Examples
-- Arguments: what the code's values hold of the machine's state; cited by inner calls' contracts only.
-- the open collections
pub mod Opens
-- the state, and what the inner calls ask and promise
pub mod Held
