pub mod Blanks
pub mod Chars
pub mod Form
pub mod Terminals
pub mod Tokens
pub mod Unescaped
pub mod Walks
pub mod inner
