-- lists, orders and inboxes
pub mod Lists
pub mod Perms
pub mod Ids
pub mod Sorting
pub mod Places
pub mod Inboxes
-- a core by itself
pub mod Early
pub mod Cores
pub mod Schedules
pub mod Moving
pub mod Settling
-- a channel by itself
pub mod Channels
pub mod Quiet
pub mod Calm
pub mod Closing
-- cores and channels, cycle by cycle
pub mod Delivery
pub mod ByCore
pub mod Kept
pub mod Peel
pub mod Parts
pub mod Join
-- watches and the scan
pub mod Highs
pub mod Knowing
pub mod Scanning
