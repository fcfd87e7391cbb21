-- Ranges of cells, and regions. What a reader must believe: Ranges, Regions. What is proved of them: RangeLaws, RegionLaws.
pub mod Ranges
pub mod RangeLaws
pub mod Regions
pub mod RegionLaws
