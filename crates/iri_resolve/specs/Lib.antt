pub mod Characters
pub mod DotSegments
pub mod Fault
pub mod Parts
pub mod Reference
pub mod Resolution
pub mod inner
