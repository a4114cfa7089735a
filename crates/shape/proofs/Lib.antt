pub mod Shapes
pub mod AxisLaws
pub mod Runs
