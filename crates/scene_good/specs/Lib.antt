-- What a scene makes is a good world, and its first boxes are sums. What a reader must believe: `counts_before` and `Summed` of Sums, and AllBytes. proofs/Good states the
-- theorems; proofs/Turns and SumLaws lead to them.
pub mod AllBytes
pub mod Sums
