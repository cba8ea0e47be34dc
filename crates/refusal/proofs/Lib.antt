pub mod RefusalLemmas
