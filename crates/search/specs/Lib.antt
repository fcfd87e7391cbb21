-- The search. What a reader must believe: FindWalkPath, Ticks, and for the code below it Steps, Turns, Runs. What is proved of them: proofs/Laws.
pub mod FindWalkPath
pub mod Ticks
pub mod Steps
pub mod Turns
pub mod Runs
