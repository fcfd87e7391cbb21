-- What a search that nobody touches between its calls comes to (02, No. 10). What a reader must believe: Calls, the statements of Claims (in proofs/), and of Acceptance the claim
-- `untouched_accepted`. Retained has what each node that it keeps is, UnderWay what a state is that is still searching, Rewritten how rooms are written over, and in proofs/ Divided
-- what is left after so many expansions in whatever lots, Ended the end.
pub mod Calls
pub mod Acceptance
pub mod Retained
pub mod UnderWay
pub mod Rewritten
