pub mod CutLaws
pub mod CutStringLaws
pub mod RestLaws
pub mod StringLaws
