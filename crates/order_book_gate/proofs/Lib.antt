mod Taking
mod Calls
mod Lending
