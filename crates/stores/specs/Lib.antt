-- Fields written. The definitions are those of `fields`. What is proved of an i32: Signed.
pub mod Signed
