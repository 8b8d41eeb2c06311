pub mod Joints
pub mod Turning
