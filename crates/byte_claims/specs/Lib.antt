-- What the answers of the search and of the walk-back mean, of bytes. What a reader must believe: the statements of Bytes and Reasons. What is proved on the way to them:
-- Numbers, Requests, Cells.
pub mod Numbers
pub mod Requests
pub mod Cells
pub mod Bytes
pub mod Reasons
