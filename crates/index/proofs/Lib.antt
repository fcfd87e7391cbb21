-- Theorems on the definitions of specs/.
pub mod Turns
pub mod SizeLaws
pub mod Laws
