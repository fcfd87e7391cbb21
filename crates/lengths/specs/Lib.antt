-- The length of a list. What a reader must believe: Length. What is proved of it: LengthLaws.
pub mod Length
pub mod LengthLaws
