-- Each function's proof stands under its file. Laws that a caller may use:
-- one record of many
pub mod PlaceLaws
-- parents in a forest
pub mod ParentLaws
-- a collection's children get their parent
pub mod AdoptLaws
