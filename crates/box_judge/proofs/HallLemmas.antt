-- The signals of a box, whose positions stand behind those of the clock variables.
use Rattle.std.proofs.Common.{◌≡◌, ◌≤◌, ℕ, zero, suc, ◌+◌, ◌-◌, List, [], ◌∷◌, length, drop, refl, sym, subst, ap, ◌∙◌, arith}
use Rattle.std.proofs.lemmas.List.{length-drop}
use Rattle.res_base.specs.Lists.{Each}
use Rattle.box_split.specs.declared.buffer.BoxBuf.{BoxBuf}
use Rattle.box_split.specs.BoxIn.{box_in, runs_in}
use Rattle.box_split.specs.Boxes.{Run, IsBox}
use Rattle.choice_rank.specs.declared.variable.VarShape.{VarShape}
use Rattle.problem.specs.declared.parts.ProblemParts.{ProblemParts}
use Rattle.res_model.specs.declared.table.PinUse.{PinUse}
use Rattle.res_model.specs.declared.table.TableParts.{TableParts}
use Rattle.search_api.specs.declared.verdict.Class.{Class}
use Rattle.box_rules.specs.Contest.{contestants, hall_in}
use Rattle.box_rules.specs.Inside.{AreInside}
use Rattle.box_rules.specs.Judged.{HasResources, IsReady, contest}
use Rattle.box_rules.proofs.ContestLemmas.{as_many_values, box_drop, box_inside}
use Rattle.box_rules.proofs.LawLemmas.{few}

drop_runs : (k : ℕ) (vs : List VarShape) (lo hi : List ℕ) → IsBox vs (runs_in (length vs) lo hi) → runs_in (length (drop k vs)) (drop k lo) (drop k hi) ≡ drop k (runs_in (length vs) lo hi)
drop_runs zero vs lo hi b = refl
drop_runs (suc k) [] lo hi b = refl
drop_runs (suc k) (v ∷ vs) [] hi b = absurd b
drop_runs (suc k) (v ∷ vs) (l ∷ lo) [] b = absurd b
drop_runs (suc k) (v ∷ vs) (l ∷ lo) (h ∷ hi) b = drop_runs k vs lo hi b.2

module _ (p : ProblemParts) (ready : IsReady p) (b : BoxBuf) (is_box : IsBox p.shape (box_in p.shape b)) where
  same_runs : runs_in (length p.uses) (drop p.first b.lo) (drop p.first b.hi) ≡ drop p.first (box_in p.shape b)
  same_runs =
      ap (λ (n : ℕ). runs_in n (drop p.first b.lo) (drop p.first b.hi)) (as_many_values (drop p.first p.shape) p.uses ready.sizes)
      ∙ drop_runs p.first p.shape b.lo b.hi is_box

  -- each signal has a position
  few_positions : length p.uses ≤ 170 - p.first
  few_positions = omega (arith, as_many_values (drop p.first p.shape) p.uses ready.sizes, length-drop p.first p.shape, ready.shape.few)

  inside : AreInside p.uses (runs_in (length p.uses) (drop p.first b.lo) (drop p.first b.hi))
  inside =
      subst (λ (rs : List Run). AreInside p.uses rs) (sym same_runs)
      (box_inside (drop p.first p.shape) p.uses (drop p.first (box_in p.shape b)) ready.sizes (box_drop p.first p.shape (box_in p.shape b) is_box))

  hall_same : (class : Class) → hall_in p.tables class (contestants class p.first p.uses (runs_in (length p.uses) (drop p.first b.lo) (drop p.first b.hi))) ≡ hall_in p.tables class (contest p class (box_in p.shape b))
  hall_same class = ap (λ (rs : List Run). hall_in p.tables class (contestants class p.first p.uses rs)) same_runs

  -- the same of what was read from the problem
  module _ (q : ProblemParts) (t : TableParts) (us : List (List PinUse)) (lo hi : List ℕ) (e : q ≡ p) (f : t ≡ q.tables) (g : us ≡ q.uses) (l : lo ≡ drop q.first b.lo) (h : hi ≡ drop q.first b.hi) where
    uses_are : us ≡ p.uses
    uses_are = g ∙ ap (λ (x : ProblemParts). x.uses) e

    tables_are : t ≡ p.tables
    tables_are = f ∙ ap (λ (x : ProblemParts). x.tables) e

    lo_is : lo ≡ drop p.first b.lo
    lo_is = l ∙ ap (λ (x : ProblemParts). drop x.first b.lo) e

    hi_is : hi ≡ drop p.first b.hi
    hi_is = h ∙ ap (λ (x : ProblemParts). drop x.first b.hi) e

    first_is : q.first ≡ p.first
    first_is = ap (λ (x : ProblemParts). x.first) e

    pub few_read : q.first + length us ≤ 192
    few_read = omega (arith, few p ready, first_is, ap length uses_are)

    pub long_read : (xs : List ℕ) → length xs ≡ 170 - q.first → length us ≤ length xs
    long_read xs n = omega (arith, few_positions, ap length uses_are, first_is, n)

    pub inside_read : AreInside us (runs_in (length us) lo hi)
    inside_read =
        subst (λ (xs : List (List PinUse)). AreInside xs (runs_in (length xs) lo hi)) (sym uses_are)
        (subst (λ (ys : List ℕ). AreInside p.uses (runs_in (length p.uses) ys hi)) (sym lo_is)
        (subst (λ (ys : List ℕ). AreInside p.uses (runs_in (length p.uses) (drop p.first b.lo) ys)) (sym hi_is) inside))

    pub resources_read : Each (Each (HasResources t)) us
    resources_read =
        subst (λ (x : TableParts). Each (Each (HasResources x)) us) (sym tables_are)
        (subst (λ (xs : List (List PinUse)). Each (Each (HasResources p.tables)) xs) (sym uses_are) ready.resources)

    pub hall_read : (class : Class) → hall_in t class (contestants class q.first us (runs_in (length us) lo hi)) ≡ hall_in p.tables class (contest p class (box_in p.shape b))
    hall_read class =
        ap (λ (x : TableParts). hall_in x class (contestants class q.first us (runs_in (length us) lo hi))) tables_are
        ∙ ap (λ (n : ℕ). hall_in p.tables class (contestants class n us (runs_in (length us) lo hi))) first_is
        ∙ ap (λ (xs : List (List PinUse)). hall_in p.tables class (contestants class p.first xs (runs_in (length xs) lo hi))) uses_are
        ∙ ap (λ (ys : List ℕ). hall_in p.tables class (contestants class p.first p.uses (runs_in (length p.uses) ys hi))) lo_is
        ∙ ap (λ (ys : List ℕ). hall_in p.tables class (contestants class p.first p.uses (runs_in (length p.uses) (drop p.first b.lo) ys))) hi_is
        ∙ hall_same class
