pub mod AlignedLaws
