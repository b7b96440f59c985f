-- Lemmas that serve the functions of `letters`, by subject, and those that callers go by.
-- chunks of bytes
pub mod Chunks
-- letters as characters: what callers go by
pub mod Words
