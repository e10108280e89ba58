pub mod Others
pub mod AtPlaces
