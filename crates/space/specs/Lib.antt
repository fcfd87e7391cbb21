-- What stands in a cell. The definitions are Space of world; Laws has what the code goes by.
pub mod Laws
