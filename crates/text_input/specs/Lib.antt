pub mod LineRead
pub mod Lines
pub mod ScriptReader
pub mod TextRead
pub mod inner
