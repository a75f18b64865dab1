pub mod OriginLaws
pub mod LimitLaws
pub mod SetupLaws
