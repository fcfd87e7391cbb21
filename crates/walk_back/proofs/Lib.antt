-- Theorems on the definitions of specs/.
pub mod Laws
pub mod Yes
pub mod Claims
