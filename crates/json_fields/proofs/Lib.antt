pub mod Results
pub mod Depths
pub mod KeyLaws
