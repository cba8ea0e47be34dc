-- The outcome of the tests: the one choice of no variables is a leaf.
use Rattle.std.proofs.Common.{◌≡◌, ℕ, List, [], ◌∷◌, Some, inl, refl, sym, subst, arith}
use Rattle.box_split.proofs.RunLemmas.{box_root}
use Rattle.box_split.proofs.LawLemmas.{whole_covers}
use Rattle.search_api.specs.declared.outcome.Cause.TheVariants as cause
use Rattle.search_api.specs.declared.outcome.Closed.{Closed}
use Rattle.refutation.specs.Outcomes.{IsCovered}

abbrev pub leaf : Closed
leaf = record { worker = 0; path = 1; cause = cause.Leaf 0 }

covered : IsCovered [] (Some 0) (0 ∷ []) (leaf ∷ [])
covered = record {
  cover = λ choice i. omega (arith, whole_covers [] choice i);
  entries = (record { box = []; at = box_root []; closed = (refl, refl, inl refl) }, tt);
  best_is = (inl refl, (omega arith, tt));
}

pub one_leaf : (kept : List ℕ) (closed : List Closed) → kept ≡ 0 ∷ [] → closed ≡ leaf ∷ [] → IsCovered [] (Some 0) kept closed
one_leaf kept closed k c = subst (λ xs. IsCovered [] (Some 0) xs closed) (sym k) (subst (λ xs. IsCovered [] (Some 0) (0 ∷ []) xs) (sym c) covered)
