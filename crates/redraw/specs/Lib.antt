pub mod Contexts
pub mod Redraw
pub mod Steps
