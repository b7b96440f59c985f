-- The definitions that the contracts of `event` cite, and what is proved of them; the arguments are in proofs/.

-- What it means: what contracts and theorems cite, from document 01 and the standards. To be believed.
-- numbers, high byte first
pub mod Number
-- the six events and their bytes
pub mod Encode
-- what the reader answers
pub mod Read
-- what an answer means, by the encodings
pub mod Meaning
-- event bytes as a list of events
pub mod EventList
-- Statements: theorems and laws that a caller may use, and worked cases. Proved; nothing here is to be believed.
-- what holds of every answer, and that no two events have the same bytes
pub mod Proved
-- worked encodings
pub mod Examples
