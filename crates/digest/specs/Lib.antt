-- The digest of answers. What a reader must believe: Digest.
pub mod Digest
