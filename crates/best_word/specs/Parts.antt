-- Internal: views that have a part: exactly one is first, and the others are those that it counts as out.
use Rattle.std.specs.Prelude.{◌≡◌, ◌≢◌, ℕ, List}
use mathlib.Core.Option.{some}
use lib.ListN.{get_elem?}
use Rattle.res_base.specs.Lists.{total}
use Rattle.best_word.specs.declared.part.Part.{Part}
use Rattle.best_word.specs.declared.part.Part.TheVariants.{First, Other, Spent}

-- 1 for a view that is out
abbrev pub others : Part → ℕ
others First = 0
others Other = 1
others Spent = 0

-- the view of this seat is first and no other one is, only it counts, and it counts the others
pub record OneFirst {V : Type 0} (part : V → Part) (out : V → ℕ) (views : List V) : Type 0 where
  pub seat : ℕ
  pub there : (v : V) × (get_elem? views seat ≡ some v) × (part v ≡ First)
  pub one : (port : ℕ) (v : V) → get_elem? views port ≡ some v → part v ≡ First → port ≡ seat
  pub only : (port : ℕ) (v : V) → get_elem? views port ≡ some v → part v ≢ First → out v ≡ 0
  pub count : total (λ v. others (part v)) views ≡ total out views
