-- Internal: for the ghost field in which a judge keeps what it needs of its problem, and its law.
use Rattle.std.specs.Prelude.{◌≡◌, ℕ, List, [], ◌∷◌, drop, take}
use Rattle.std.specs.Coded.{×_prop, Unit-prop, le_prop}
use denote.Struct.Props.{props}
use Rattle.res_base.specs.Lists.{Each}
use Rattle.choice_rank.specs.declared.variable.VarShape.{VarShape}
use Rattle.search_api.proofs.ShapeLemmas.{shape_prop}
use Rattle.problem.specs.declared.parts.ProblemParts.{ProblemParts}
use Rattle.problem.specs.Problem.{HaveValues}
use Rattle.res_model.specs.declared.table.PinUse.{PinUse}
use Rattle.res_model.specs.declared.table.TableParts.{TableParts}
use Rattle.res_model.specs.Clock.{IsBetween}
use Rattle.clock_limits.specs.Ranges.{AreInRange, values_at}
use Rattle.search_api.specs.Meaning.{IsLawful}
use Rattle.box_rules.specs.Judged.{HasResources, IsReady, IsWhole, pin_meaning, whole_meaning}
use Rattle.box_rules.proofs.LawLemmas as laws
use Rattle.box_rules.proofs.WholeLemmas as whole_laws

sizes_prop : {X : Type 0} (vs : List VarShape) (uses : List (List X)) → IsProp (HaveValues vs uses)
sizes_prop [] [] = Unit-prop
sizes_prop [] (us ∷ uss) = λ a b. absurd a
sizes_prop (v ∷ vs) [] = λ a b. absurd a
sizes_prop (v ∷ vs) (us ∷ uss) = ×_prop (hlevel props) (sizes_prop vs uss)

has_prop : (t : TableParts) (us : List PinUse) → IsProp (Each (HasResources t) us)
has_prop t [] = Unit-prop
has_prop t (u ∷ us) = ×_prop (×_prop le_prop le_prop) (has_prop t us)

all_prop : (t : TableParts) (uses : List (List PinUse)) → IsProp (Each (Each (HasResources t)) uses)
all_prop t [] = Unit-prop
all_prop t (us ∷ uss) = ×_prop (has_prop t us) (all_prop t uss)

pub ready_prop : (p : ProblemParts) → IsProp (IsReady p)
ready_prop p = hlevel (props, shape_prop p.shape, sizes_prop (drop p.first p.shape) p.uses, all_prop p.tables p.uses)

pub pin_lawful : (p : ProblemParts) → IsReady p → p.first ≡ 0 → IsLawful (pin_meaning p)
pin_lawful p ready first = laws.pin_lawful p ready first

between_prop : (low high : ℕ) (vs : List ℕ) → IsProp (Each (IsBetween low high) vs)
between_prop low high [] = Unit-prop
between_prop low high (v ∷ vs) = ×_prop (×_prop le_prop le_prop) (between_prop low high vs)

range_prop : (values : List (List ℕ)) → IsProp (AreInRange values)
range_prop values = hlevel (
  between_prop 0 2 (values_at values 0),
  between_prop 0 1 (values_at values 1),
  between_prop 1 512 (values_at values 2),
  between_prop 2 8 (values_at values 3),
  between_prop 2 63 (values_at values 4),
  between_prop 50 432 (values_at values 5),
  between_prop 2 15 (values_at values 6),
  between_prop 1 16 (values_at values 7),
  between_prop 1 16 (values_at values 8),
)

pub whole_prop : (p : ProblemParts) → IsProp (IsWhole p)
whole_prop p = hlevel (props, ready_prop p, range_prop p.clock, sizes_prop (take p.first p.shape) p.clock)

pub whole_lawful : (p : ProblemParts) → IsWhole p → IsLawful (whole_meaning p)
whole_lawful p whole = whole_laws.whole_lawful p whole
