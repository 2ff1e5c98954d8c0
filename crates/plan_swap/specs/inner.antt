-- Words of the inside: what is proved of public calls can be believed without them.
pub mod Stated
