-- The definitions that the contracts of `provenance` cite, in reading order, and what demand 3 says.

-- What it means: what contracts and theorems cite, from document 01 and the standards. To be believed.
-- white-space runs by bytes, and the blanks of a value
pub mod Run
-- escapes: the tables, and what an escape stands for
pub mod Escape
-- the four steps of the piece grammar
pub mod Grammar
-- readings, and their pieces
pub mod Reading
-- what a walk answers and leaves in its buffer
pub mod Layout
-- where a walk starts, and the pieces of a scalar
pub mod Start
-- Statements: theorems and laws that a caller may use, and worked cases. Proved; nothing here is to be believed.
-- demand 3
pub mod Demand
-- a reading is the only one, and is found just if there is one; the equations of the function that finds it
pub mod ReadingLaws
-- what a table of escapes is asked for, and that those of the styles are so
pub mod EscapeLaws
-- a number that no style has goes as a block
pub mod NumberLaws
-- worked cases, K7 to K11 among them
pub mod Examples
-- where the walk of a plain scalar goes along with its measure
pub mod Alike
-- For speed only: how fast paths are told. Nothing of 01 rests on them.
-- what the code counts of a run in one pass
pub mod Counted
-- runs, as the walk looks at them
pub mod Looked
-- at a letter the step is one equal byte
pub mod LetterLaws
-- pieces, written one after the other
pub mod Writing
-- Arguments: the lemmas behind the statements.
-- tests and choices
pub mod Tests
-- runs
pub mod RunLaws
-- steps
pub mod StepLaws
-- the walk of a plain scalar, by what is left of its source and value
pub mod PlainSteps
-- runs by characters and by bytes
pub mod PlainRuns
-- along a run and an equal character
pub mod AlikeLaws
