pub mod HelpLemmas
pub mod ThingLemmas
