-- Theorems on the definitions of specs/.
pub mod Laws
pub mod Pieces
pub mod RecordLaws
pub mod Signed
