-- The definitions that the contracts of `measure` cite, in reading order. The laws that callers go by stand in proofs/.

-- What it means: what contracts and theorems cite, from document 01 and the standards. To be believed.
-- what a measure answers
pub mod Length
-- white-space runs
pub mod Run
-- the plain measure
pub mod Plain
-- the quoted measure
pub mod Quoted
-- the block measure
pub mod Block
-- the styles, and the choice by style, cut to the text left
pub mod Scalar
-- Statements: theorems and laws that a caller may use, and worked cases. Proved; nothing here is to be believed.
-- what "measured" says, without the measures
pub mod Measured
-- a scalar by any number for its style
pub mod Styles
-- worked cases, by computation
pub mod Examples
-- For speed only: how fast paths are told. Nothing of 01 rests on them.
-- what the code counts in one pass
pub mod Counted
