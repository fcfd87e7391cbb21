-- The walk-back. What a reader must believe: WalkBack, and `pairs` and `listed`. What is proved of it: Claims (in proofs/), with the words of Places; Unique. What the code
-- goes by: Laws; on the way to Claims: Movements, Yes. Laws and Yes are in proofs/ too.
pub mod WalkBack
pub mod Movements
pub mod Places
pub mod Unique
