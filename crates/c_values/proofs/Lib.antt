pub mod RepliesLaws
