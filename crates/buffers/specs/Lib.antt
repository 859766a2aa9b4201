pub mod Placed
pub mod Noted
pub mod Decimal
