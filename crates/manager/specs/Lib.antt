pub mod Places
pub mod Queues
pub mod Managers
pub mod Openings
pub mod Leads
