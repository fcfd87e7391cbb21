-- Theorems on -0.0: Tops states them, MinusZero leads to them.
pub mod MinusZero
pub mod Tops
