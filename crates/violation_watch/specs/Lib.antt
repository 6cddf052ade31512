pub mod BoundedNotes
pub mod Complete
pub mod Noting
pub mod Scan
pub mod Watching
