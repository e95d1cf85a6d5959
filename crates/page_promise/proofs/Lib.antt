pub mod BundleIds
pub mod Forward
pub mod FourBytes
pub mod PageFits
pub mod Theorem
pub mod Upright
