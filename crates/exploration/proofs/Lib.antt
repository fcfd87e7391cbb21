-- What is proved of bounded exploration, one theorem a claim: Claims. A worked example: Example. The lemmas on the way to Claims: Laws.
pub mod Flood
pub mod Claims
pub mod Example
pub mod Laws
