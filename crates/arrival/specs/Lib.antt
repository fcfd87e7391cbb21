-- The goal's own point, the sign of a zero, and lifts as numbers: theorems alone. Arrival, Signs, Tops and Lifts state them; Exact, Alike, Areas, Supports and
-- MinusZero lead to them. Tops, and what is proved of MinusZero, stand in proofs/.
pub mod Exact
pub mod Alike
pub mod Areas
pub mod Supports
pub mod Signs
pub mod Arrival
pub mod Lifts
pub mod MinusZero
