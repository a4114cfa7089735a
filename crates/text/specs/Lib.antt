pub mod Decimal
pub mod Scan
pub mod Numbers
