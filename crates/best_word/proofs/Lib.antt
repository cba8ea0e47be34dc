mod Moves
pub mod PartLemmas
mod RankLemmas
