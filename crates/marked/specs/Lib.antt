-- 01's marked examples, one table under one claim: Marked.
pub mod Marked
