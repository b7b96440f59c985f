-- Each function's proof stands under its file. Laws that a caller may use:
-- where spans start and end, a scalar's pieces by its walk's first byte, and what a measured span says of them
pub mod SpanLaws
-- a scalar by any number for its style
pub mod StyleLaws
