-- Theorems on the definitions of specs/.
pub mod Laws
