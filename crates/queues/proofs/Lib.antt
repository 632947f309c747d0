pub mod InboxEvents
pub mod Tells
pub mod ItemLists
pub mod Keeps
pub mod Ended
