pub mod Bytewise
mod Cuts
mod Once
mod OutLemmas
mod Places
mod Orders
