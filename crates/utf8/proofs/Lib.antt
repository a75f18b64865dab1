pub mod FirstLaws
pub mod SplitLaws
