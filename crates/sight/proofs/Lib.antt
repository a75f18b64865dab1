pub mod SightLaws
