-- The styles by their numbers.

-- What it means: what contracts and theorems cite, from document 01 and the standards. To be believed.
-- the five styles
pub mod Style
-- Statements: theorems and laws that a caller may use, and worked cases. Proved; nothing here is to be believed.
-- styles and their numbers, there and back
pub mod StyleLaws
