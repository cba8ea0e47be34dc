mod LeafLemmas
