pub mod InForce
pub mod IsStated
pub mod Items
pub mod KeepsTerms
pub mod ShapesNodes
pub mod State
pub mod Terms
pub mod inner
