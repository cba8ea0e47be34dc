pub mod AgreeLemmas
pub mod ChoiceUses
pub mod ChosenLemmas
pub mod DomainLemmas
pub mod MeetsLemmas
pub mod UseLemmas
pub mod ValueLemmas
mod WishLemmas
