-- orders
pub mod Orders
-- a core by itself, and what the cores send and take
pub mod Ticks
pub mod Shares
pub mod Opened
pub mod Drifting
pub mod Ending
pub mod Onlys
pub mod Once
-- short pieces
pub mod Quiet
pub mod Exact
-- as it is stored
pub mod Stored
pub mod Running
