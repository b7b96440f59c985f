-- Lemmas that serve the functions of `replay_accessors`.
-- numbers matched in turn
pub mod Matching
