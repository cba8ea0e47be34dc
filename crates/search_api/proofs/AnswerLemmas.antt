-- An accounted outcome has the least legal choice, or there is none.
use Rattle.std.proofs.Common.{◌≡◌, ℕ, ◌<◌, ◌≤◌, List, Bool, true, false, Option, Some, None, refl, subst, ap, arith}
use Rattle.std.specs.Option.{option_map_or}
use Rattle.choice_rank.specs.declared.variable.VarShape.{VarShape}
use Rattle.choice_rank.specs.Choices.{IsChoice, rank_of}
use Rattle.choice_rank.specs.Least.{IsAnswer}
use Rattle.res_base.specs.Lists.{Member}
use Rattle.res_base.specs.Sums.{one_if}
use Rattle.res_base.proofs.ListLemmas.{each_in, some_part}
use Rattle.box_split.specs.Boxes.{Run, IsBox, holds}
use Rattle.box_split.specs.Paths.{box_of, covers}
use Rattle.box_split.proofs.LawLemmas.{lies}
use Rattle.box_split.proofs.PathLemmas.{path_box}
use Rattle.box_split.proofs.RunLemmas.{low_rank}
use Rattle.search_api.specs.declared.outcome.Cause.{Cause}
use Rattle.search_api.specs.declared.outcome.Cause.TheVariants as cause
use Rattle.search_api.specs.declared.outcome.Closed.{Closed}
use Rattle.search_api.specs.Meaning.{Meaning, IsLawful}
use Rattle.search_api.specs.Accounts.{IsClosed, IsEntry, IsLegalRank, Accounted}

is_counted : (b : Bool) → 0 < one_if b → b ≡ true
is_counted true h = refl
is_counted false h = absurd (omega arith)

-- what a path covers lies in its box
pub covered_held : (vs : List VarShape) (choice : List ℕ) (path : ℕ) (box : List Run) → box_of vs path ≡ Some box → 0 < covers vs path choice → holds box choice ≡ true
covered_held vs choice path box e h =
    let count : covers vs path choice ≡ one_if (holds box choice) = ap (λ (o : Option (List Run)). option_map_or (λ b. one_if (holds b choice)) o 0) e in
    is_counted (holds box choice) (omega (arith, count))

module _ (m : Meaning) (lawful : IsLawful m) where
  -- a kept rank is at most that of a legal choice in a closed box
  kept_in : (kept : List ℕ) (box : List Run) (c : Cause) → IsBox m.shape box → IsClosed m kept box c → (choice : List ℕ) → IsChoice m.shape choice → holds box choice ≡ true → m.legal choice ≡ true → (r : ℕ) × Member r kept × (r ≤ rank_of m.shape choice)
  kept_in kept box (cause.Bad reason) b h choice i o l = absurd (lawful.none_legal reason box b h.0 choice i (lies box choice o) l)
  kept_in kept box (cause.Cut rank) b h choice i o l = (rank, h.0, omega (arith, h.1, low_rank m.shape box choice o))
  kept_in kept box (cause.Leaf rank) b h choice i o l = (rank, h.2, omega (arith, h.1, low_rank m.shape box choice o))

  kept_below : (best : Option ℕ) (kept : List ℕ) (closed : List Closed) → Accounted m best kept closed → (choice : List ℕ) → IsChoice m.shape choice → m.legal choice ≡ true → (r : ℕ) × Member r kept × (r ≤ rank_of m.shape choice)
  kept_below best kept closed a choice i l =
      let part = some_part (λ (e : Closed). covers m.shape e.path choice) closed (omega (arith, a.cover choice i)) in
      let entry = each_in (IsEntry m kept) part.0 closed a.entries part.1 in
      kept_in kept entry.box part.0.cause (path_box m.shape part.0.path entry.box lawful.is_shape.positions entry.at) entry.closed choice i (covered_held m.shape choice part.0.path entry.box entry.at part.2) l

  pub answer : (best : Option ℕ) (kept : List ℕ) (closed : List Closed) → Accounted m best kept closed → IsAnswer m.shape m.legal best
  answer None kept closed a = λ choice i l.
      let r = kept_below None kept closed a choice i l in
      absurd (subst (Member r.0) a.best_is r.1)
  answer (Some rank) kept closed a =
      let own = each_in (IsLegalRank m) rank kept a.legal a.best_is.0 in (
        own.choice,
        record {
          is_choice = own.is_choice;
          is_legal = own.is_legal;
          is_lowest = λ other i l.
              let r = kept_below (Some rank) kept closed a other i l in
              omega (arith, own.rank_is, r.2, each_in (λ k. rank ≤ k) r.0 kept a.best_is.1 r.1);
        },
        own.rank_is,
      )
