pub mod ChainMaps
pub mod Chained
pub mod Died
pub mod Touched
