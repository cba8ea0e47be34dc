mod PinLemmas
