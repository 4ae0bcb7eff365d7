pub mod StatusQueries
pub mod StatusCalls
pub mod Statuses
pub mod Tells
