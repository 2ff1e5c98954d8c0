pub mod AskLemmas
pub mod CountLemmas
pub mod LawLemmas
pub mod MemberTestLemmas
pub mod NotingLemmas
pub mod ResultLemmas
