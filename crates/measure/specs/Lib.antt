pub mod Measure
pub mod MeasureLaws
pub mod Theorems
