-- Lemmas that serve several functions of `schema`, by subject.
-- booleans
pub mod Bools
-- tests over lists
pub mod Lists
-- the matcher is right
pub mod Derivative
-- the automaton is right
pub mod Automaton
-- the flags of a scalar
pub mod Flags
-- integers gathered below zero
pub mod Below
-- the positional value of digits
pub mod Digits
-- the definitions by the form of a scalar
pub mod Forms
-- equal bytes and standard tags
pub mod Tags
-- the core schema by the meaning of its expressions
pub mod CoreSchema
-- the bits of an integer
pub mod Bits
