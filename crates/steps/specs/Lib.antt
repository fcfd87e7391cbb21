-- The graph. What a reader must believe: Columns, Graph. What is proved of them: ColumnLaws, Expansion, GraphLaws, Gathers, Layers, Bounds.
pub mod Columns
pub mod Graph
pub mod ColumnLaws
pub mod Expansion
pub mod GraphLaws
pub mod Gathers
pub mod Layers
pub mod Bounds
