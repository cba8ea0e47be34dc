-- Signals settled one after the other.
use Rattle.std.proofs.Common.{◌≡◌, ℕ, zero, suc, ◌+◌, ◌<◌, List, [], ◌∷◌, length, drop, get_or, set, refl, sym, subst, ap, ◌∙◌, arith}
use Rattle.problem.specs.Meets.{places_of}
use Rattle.problem.specs.declared.parts.ProblemParts.{ProblemParts}
use Rattle.report.specs.Placed.{uses_of}
use Rattle.res_model.specs.Placement.{uses_at}
use Rattle.res_model.specs.declared.project.Signal.{Signal}
use Rattle.res_model.specs.declared.table.PinUse.{PinUse}
use Rattle.board_fit.specs.Fixed.{all_settled, settled}

-- the first ones are settled
abbrev pub settled_to : ℕ → List Signal → List PinUse → List Signal
settled_to zero ss us = ss
settled_to (suc k) [] us = []
settled_to (suc k) (s ∷ ss) [] = s ∷ ss
settled_to (suc k) (s ∷ ss) (u ∷ us) = settled s u.pin ∷ settled_to k ss us

pub settled_next : (k : ℕ) (ss : List Signal) (us rest : List PinUse) (u : PinUse) (d : Signal) → k < length ss → drop k us ≡ u ∷ rest → set (settled_to k ss us) k (settled (get_or (settled_to k ss us) k d) u.pin) ≡ settled_to (suc k) ss us
settled_next zero [] us rest u d l e = absurd (omega arith)
settled_next zero (s ∷ ss) [] rest u d l e = absurd cc
settled_next zero (s ∷ ss) (w ∷ ws) rest u d l e = let same : w ≡ u = cc in ap (λ (x : PinUse). settled s x.pin ∷ ss) (sym same)
settled_next (suc k) [] us rest u d l e = absurd (omega arith)
settled_next (suc k) (s ∷ ss) [] rest u d l e = absurd cc
settled_next (suc k) (s ∷ ss) (w ∷ ws) rest u d l e = ap (λ (xs : List Signal). settled s w.pin ∷ xs) (settled_next k ss ws rest u d (omega (arith, l)) e)

all_of : (ss : List Signal) (us : List PinUse) → settled_to (length ss) ss us ≡ all_settled ss us
all_of [] us = refl
all_of (s ∷ ss) [] = refl
all_of (s ∷ ss) (u ∷ us) = ap (λ (xs : List Signal). settled s u.pin ∷ xs) (all_of ss us)

drop_next : {X : Type 0} (k : ℕ) (xs rest : List X) (x : X) → drop k xs ≡ x ∷ rest → drop (k + 1) xs ≡ rest
drop_next zero [] rest x e = absurd cc
drop_next zero (y ∷ ys) rest x e = cc
drop_next (suc k) [] rest x e = absurd cc
drop_next (suc k) (y ∷ ys) rest x e = subst (λ (n : ℕ). drop n (y ∷ ys) ≡ rest) (one_more k) (drop_next k ys rest x e)
  where
    one_more : (n : ℕ) → suc (n + 1) ≡ suc n + 1
    one_more n = omega arith

pub record SettledSoFar (q : ProblemParts) (at : List ℕ) (old new : List Signal) (k : ℕ) : Type 0 where
  pub signals : new ≡ settled_to k old (uses_of q at)
  pub uses : drop k (uses_of q at) ≡ uses_at (drop k q.uses) (drop k (places_of q at))

pub none_settled : (q : ProblemParts) (at : List ℕ) (old : List Signal) → SettledSoFar q at old old 0
none_settled q at old = record { signals = refl; uses = refl }

pub one_settled :
    (q : ProblemParts) (at : List ℕ) (old new next : List Signal) (k : ℕ) (u : PinUse) (d : Signal) → k < length old → SettledSoFar q at old new k
    → uses_at (drop k q.uses) (drop k (places_of q at)) ≡ u ∷ uses_at (drop (k + 1) q.uses) (drop (k + 1) (places_of q at))
    → next ≡ set new k (settled (get_or new k d) u.pin) → SettledSoFar q at old next (k + 1)
one_settled q at old new next k u d l so_far first is =
    let rest : List PinUse = uses_at (drop (k + 1) q.uses) (drop (k + 1) (places_of q at)) in
    let here : drop k (uses_of q at) ≡ u ∷ rest = so_far.uses ∙ first in
    let one : suc k ≡ k + 1 = omega arith in
    record {
      signals = is ∙ ap (λ (xs : List Signal). set xs k (settled (get_or xs k d) u.pin)) so_far.signals ∙ settled_next k old (uses_of q at) rest u d l here ∙ ap (λ (n : ℕ). settled_to n old (uses_of q at)) one;
      uses = drop_next k (uses_of q at) rest u here;
    }

pub all_done : (q : ProblemParts) (at : List ℕ) (old new : List Signal) (k : ℕ) → k ≡ length old → SettledSoFar q at old new k → new ≡ all_settled old (uses_of q at)
all_done q at old new k e so_far = so_far.signals ∙ ap (λ (n : ℕ). settled_to n old (uses_of q at)) e ∙ all_of old (uses_of q at)
