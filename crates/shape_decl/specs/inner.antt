-- Words of the inside: what is proved of public calls can be believed without them.
pub mod Gathered
pub mod Kept
pub mod ToldForm
pub mod Visits
