pub mod PenLaws
