mod BusLemmas
mod LowestLemmas
