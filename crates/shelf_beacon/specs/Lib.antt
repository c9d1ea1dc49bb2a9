pub mod Beacons
pub mod Moved
