pub mod Framing
pub mod FirstFrame
pub mod Buffered
pub mod Lending
pub mod Splits
pub mod OwnedSplit
