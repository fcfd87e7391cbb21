-- The layout of a scene's records. What a reader must believe: Layout.
pub mod Layout
