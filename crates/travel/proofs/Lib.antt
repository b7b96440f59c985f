-- Lemmas of `travel`, by subject.
-- the distances between successive indices, and how many characters a text has
pub mod TravelLaws
-- the cursor by single steps, and a marker that moves by one
pub mod StepLaws
-- what the answer is, at the call
pub mod CountLaws
