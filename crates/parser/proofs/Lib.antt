-- Lemmas that serve several functions, by subject.
-- pieces laid out, a part lent and back
mod Pieces
-- what holds of every open collection
mod Opens
-- what a gate answers
mod Gates
-- cursors
mod Starts
-- the rows, and what holds after each event
mod Turns
-- the run, from the head of the loop
mod Heads
-- from the inner calls to the public promises
mod Wholes
-- the run over a list of events
pub mod EventRun
-- whether a node is awaited as a mapping's value, by the events before it
mod AwaitedLaws
-- what a step adds to nodes and pieces
mod Growths
-- the equations of the run
pub mod RunLaws
-- how many nodes and pieces a call comes to at most, and which places and numbers
pub mod BoundLaws
-- how much room for records is always enough
pub mod Room
-- demand 3 at the public calls
pub mod Demand
