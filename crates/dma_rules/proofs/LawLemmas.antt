-- A legal choice by its requests two by two.
use Rattle.std.proofs.Common.{◌≡◌, ℕ, ◌==◌, List, Bool, true, false, inl, inr, refl, sym, ◌∙◌, arith}
use Rattle.std.proofs.lemmas.Bool.Decides.{nat_tests}
use Rattle.res_base.proofs.SumLemmas.{bool_cases}
use Rattle.choice_rank.specs.Choices.{IsChoice}
use Rattle.dma_model.specs.declared.table.DmaRequest.{DmaRequest}
use Rattle.dma_model.specs.declared.table.DmaRow.{DmaRow}
use Rattle.dma_rules.specs.Lawful.{apart_of, pairs_of, parts_of}
use Rattle.dma_rules.specs.Streams.{AreOnOwnStreams, is_one_stream, meets, row_of, rows_of, shape_of}
use Rattle.dma_rules.proofs.BoxLemmas.{as_many_rows}

both_same : (a b : DmaRow) → a.controller ≡ b.controller → a.stream ≡ b.stream → is_one_stream a b ≡ true
both_same a b c s =
    let t : (a.controller == b.controller) ≡ true = grind (arith, nat_tests, c) in
    let u : (a.stream == b.stream) ≡ true = grind (arith, nat_tests, s) in
    rw (t, u) refl

contradict : {A : Type 0} (b : Bool) → b ≡ true → b ≡ false → A
contradict b e f = let q : true ≡ false = sym e ∙ f in cc

module _ (requests : List DmaRequest) (choice : List ℕ) (c : IsChoice (shape_of requests) choice) where
  pub own_streams : meets requests choice ≡ true → AreOnOwnStreams requests choice
  own_streams h i j l k same_controller same_stream =
      let p = pairs_of (rows_of requests choice) h i j l (omega (arith, k, as_many_rows requests choice c)) in
      contradict (is_one_stream (row_of requests choice i) (row_of requests choice j)) (both_same (row_of requests choice i) (row_of requests choice j) same_controller same_stream) p

  pub is_legal : AreOnOwnStreams requests choice → meets requests choice ≡ true
  is_legal h = apart_of (rows_of requests choice) (λ i j l k. elim (bool_cases (is_one_stream (row_of requests choice i) (row_of requests choice j))) [
    | inr e ↦ e
    | inl e ↦
        let p = parts_of (row_of requests choice i) (row_of requests choice j) e in
        absurd (h i j l (omega (arith, k, as_many_rows requests choice c)) p.0 p.1)
  ])
