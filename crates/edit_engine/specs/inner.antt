-- Words of the inside: what is proved of public calls can be believed without them.
pub mod Kept
pub mod Parts
pub mod Put
pub mod Recall
pub mod Settled
pub mod Staged
pub mod Stated
pub mod Swapping
pub mod Told
pub mod Turned
