mod Answering
mod Calls
mod Ending
mod HostEntries
mod Limiting
mod Loads
mod EventNumbers
mod Polling
mod Pushing
mod Stores
mod Told
pub mod Passed
