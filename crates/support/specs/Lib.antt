-- Supported segments. What a reader must believe: Support, Cover, and of Pass `reached` and `step`. What is proved of them: Laws, Rounds, Pass, PassLaws, Joints.
pub mod Cover
pub mod Support
pub mod Laws
pub mod Rounds
pub mod Pass
pub mod PassLaws
pub mod Joints
