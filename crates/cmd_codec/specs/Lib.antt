pub mod Layouts
pub mod Decoded
pub mod Decoding
pub mod Decodes
pub mod Encoded
pub mod Encoding
pub mod Encodes
