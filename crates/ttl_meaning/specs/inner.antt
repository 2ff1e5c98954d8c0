-- Words of the inside: what is proved of public calls can be believed without them.
pub mod Ascending
pub mod DocumentOf
pub mod IsReading
pub mod Meant
pub mod Placed
