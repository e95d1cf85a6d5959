pub mod Front
pub mod ListThere
pub mod PageFront
