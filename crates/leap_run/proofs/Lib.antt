pub mod Alone
pub mod Exchanging
pub mod Leaping
pub mod Quieting
pub mod Reaching
