-- A mob's policy and its permissions. What a reader must believe: Flags, Answers, Doors, Permission. What is proved of them: DoorLaws, PermissionLaws, Unique.
pub mod Flags
pub mod Answers
pub mod Doors
pub mod Permission
pub mod DoorLaws
pub mod PermissionLaws
pub mod Unique
