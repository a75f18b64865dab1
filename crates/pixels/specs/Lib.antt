pub mod Rooms
pub mod Greys
