pub mod HeldKeys
pub mod KeyLaws
pub mod Merged
pub mod NotesLaws
