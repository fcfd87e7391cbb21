-- Theorems on the definitions of specs/.
pub mod Claims
pub mod Divided
pub mod Ended
