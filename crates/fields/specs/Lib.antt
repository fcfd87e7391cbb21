-- Little-endian fields and records. What a reader must believe: Little, Records, Bytes. What is proved of them, in proofs/: Laws, Pieces, RecordLaws.
pub mod Little
pub mod Records
pub mod Bytes
