-- Lemmas that serve several functions, by subject, and the proof of demand 3.
-- runs, as the loops go through them
pub mod Runs
-- escapes, as the code tells them
pub mod Escapes
-- the step that fits, as the code finds it
pub mod Steps
-- a block's empty header, and the list of a scalar, by where its walk starts
pub mod Starts
-- a turn of the walk
pub mod Turn
-- what the walk answers
pub mod Walks
-- demand 3, proved
pub mod DemandLaws
-- pieces
pub mod PieceLaws
-- a plain scalar that is measured: whether it has pieces, and where they end
pub mod Measured
-- the walk along a measured value
pub mod MeasuredLaws
