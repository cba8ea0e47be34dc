-- The choice that is made of the least rank is the least.
use Rattle.std.proofs.Common.{◌≡◌, ℕ, ◌+◌, ◌*◌, ◌%◌, ◌<◌, List, Bool, Some, subst, sym, ap, ◌∙◌}
use Rattle.std.proofs.lemmas.Nat.{mod-mul-add}
use Rattle.choice_rank.specs.Choices.{IsChoice, choices_of, cost_of, index_of, rank_of}
use Rattle.choice_rank.specs.declared.variable.VarShape.{VarShape}
use Rattle.choice_rank.proofs.ChoiceLemmas.{index_lt, index_same}
use Rattle.choice_rank.specs.Least.{IsLeast, IsAnswer}

index_in_rank : (cost choices index : ℕ) → index < choices → (cost * choices + index) % choices ≡ index
index_in_rank cost choices index l = mod-mul-add cost choices index l

module _ (vs : List VarShape) (legal : List ℕ → Bool) (rank : ℕ) (at : List ℕ) (answer : IsAnswer vs legal (Some rank)) (choice : IsChoice vs at) (index : index_of vs at ≡ rank % choices_of vs) where
  same : answer.0 ≡ at
  same =
      let c : List ℕ = answer.0 in
      let least : IsLeast vs legal c = answer.1 in
      let is : rank_of vs c ≡ rank = answer.2 in
      let low : index_of vs c < choices_of vs = index_lt vs c least.is_choice in
      let e : index_of vs c ≡ rank % choices_of vs = sym (index_in_rank (cost_of vs c) (choices_of vs) (index_of vs c) low) ∙ ap (λ (r : ℕ). r % choices_of vs) is in
      index_same vs c at least.is_choice choice (e ∙ sym index)

  pub unranked : IsLeast vs legal at
  unranked = subst (IsLeast vs legal) same answer.1

  pub ranked : rank_of vs at ≡ rank
  ranked = subst (λ (c : List ℕ). rank_of vs c ≡ rank) same answer.2
