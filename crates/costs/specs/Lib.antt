-- What a point costs, and when it is cheaper. What a reader must believe: Costs.
pub mod Costs
