mod ChangeLemmas
mod EndLemmas
mod EntryLemmas
mod RankLemmas
mod FitLemmas
mod RunLemmas
mod TurnLemmas
