-- One scalar or collection: start, span, tag, pieces, record.

-- What it means: what contracts and theorems cite, from document 01 and the standards. To be believed.
-- a scalar's start, span, pieces and record
pub mod Scalar
-- open collections, and the record of one that ends
pub mod Collection
-- Statements: theorems that a caller may use, and worked cases. Proved; nothing here is to be believed.
-- no scalar starts outside its text
pub mod Start
-- worked scalars, tags and collections
pub mod Examples
-- Arguments: what inner calls ask and promise; cited by their contracts only.
-- tags and values that fit, a scalar's record with its walk
pub mod Fits
