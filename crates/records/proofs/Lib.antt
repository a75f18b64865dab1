pub mod Record16Laws
pub mod Record8Laws
