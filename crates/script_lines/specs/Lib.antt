pub mod Commands
pub mod FaultText
pub mod Forms
pub mod Lines
pub mod SameNames
pub mod inner
