pub mod Places
pub mod Desks
pub mod Queues
pub mod Leading
pub mod OneServed
pub mod Ending
pub mod Opened
