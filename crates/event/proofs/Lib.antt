-- The arguments behind what `specs/Proved.antt` and `specs/Meaning.antt` state, by subject; `ReadLaws` and `EventListLaws` have what callers go by.
-- the laws of numbers
pub mod NumberLaws
-- the laws of encodings
pub mod EncodeLaws
-- the reader's definitions, case by case
pub mod ReadCases
-- and that what they read ends in time
pub mod ReadEnds
-- what is written is read
pub mod WrittenIsRead
-- what is read was written: strings and YAML tags, scalars, and any event
pub mod ReadParts
pub mod ReadScalar
pub mod ReadIsWritten
-- what the reader's answers are worth
pub mod ReadLaws
-- where the events of a list stand
pub mod EventListLaws
