pub mod DiskFiles
pub mod Disks
pub mod Files
pub mod GappedFiles
pub mod MemoryFolders
pub mod Protecting
pub mod WatchedFolders
