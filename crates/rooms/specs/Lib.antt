-- The rooms of the search. What a reader must believe: Waypoints, Records, Offsets, Scans, Rooms, Lists, Writes. What is proved of them: proofs/Laws.
pub mod Waypoints
pub mod Records
pub mod Scans
pub mod Rooms
pub mod Lists
pub mod Offsets
pub mod Writes
