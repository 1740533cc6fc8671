-- Loops over the stations.
pub mod StationLaws
