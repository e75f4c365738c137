pub mod Placement
pub mod ChildLaws
