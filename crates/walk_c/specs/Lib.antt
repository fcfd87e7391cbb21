-- The C interface. What a reader must believe: Answers, Slices, Version. What is proved of records that are cut short: CutShort.
pub mod Answers
pub mod Slices
pub mod Version
pub mod CutShort
