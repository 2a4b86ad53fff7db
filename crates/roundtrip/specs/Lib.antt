pub mod Trips
pub mod TripLaws
pub mod Theorems
