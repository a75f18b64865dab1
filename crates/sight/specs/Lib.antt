pub mod Sights
