pub mod Conn
pub mod Ends
pub mod Live
pub mod Moving
pub mod Serving
pub mod Turned
