-- The index of points. What a reader must believe: Size (which rooms are refused). What the code works out on any room: Index; what an index of nodes is:
-- Indexed. What is proved of them, in proofs/: SizeLaws, that a right size is what 02 says; Turns, the loops of the code, turn by turn; Laws, that a lookup by
-- an index of nodes answers as the scan does, and that entering nodes keeps it one.
pub mod Size
pub mod Index
pub mod Indexed
