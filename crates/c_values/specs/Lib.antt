pub mod Replies
pub mod Headers
