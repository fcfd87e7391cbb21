-- Theorems on the definitions of specs/.
pub mod Next
pub mod BatchLaws
pub mod Put
pub mod Laws
