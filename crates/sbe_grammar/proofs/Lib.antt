pub mod ElementsRead
pub mod MessagesRead
pub mod Fitting
