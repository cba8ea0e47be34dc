-- The first home outside its domain.
use Rattle.std.proofs.Common.{◌≡◌, ℕ, zero, suc, ◌<◌, List, [], ◌∷◌, length, drop, get_or, Bool, true, false, Err, refl, arith}
use Rattle.ioc_project.specs.Project.{all_within}
use Rattle.ioc_project.specs.declared.fault.ProjectFault.TheVariants.{OutOfTable}
use Rattle.res_model.specs.declared.project.Home.{Home}
use Rattle.ioc_project.specs.Tests.{passes}

pub inside : (tests : List (ℕ → Bool)) (homes : List Home) (i : ℕ) (d : Home) → i < length tests → i < length homes → passes tests i (get_or homes i d).value ≡ true
    → all_within (drop (suc i) tests) (drop (suc i) homes) ≡ all_within (drop i tests) (drop i homes)
inside [] homes i d lt lh e = absurd (omega arith)
inside (t ∷ ts) [] i d lt lh e = absurd (omega arith)
inside (t ∷ ts) (h ∷ hs) zero d lt lh e = rw e refl
inside (t ∷ ts) (h ∷ hs) (suc i) d lt lh e = inside ts hs i d (omega arith) (omega arith) e

pub outside : (tests : List (ℕ → Bool)) (homes : List Home) (i : ℕ) (d : Home) → i < length tests → i < length homes → passes tests i (get_or homes i d).value ≡ false
    → all_within (drop i tests) (drop i homes) ≡ Err (OutOfTable (get_or homes i d).line)
outside [] homes i d lt lh e = absurd (omega arith)
outside (t ∷ ts) [] i d lt lh e = absurd (omega arith)
outside (t ∷ ts) (h ∷ hs) zero d lt lh e = rw e refl
outside (t ∷ ts) (h ∷ hs) (suc i) d lt lh e = outside ts hs i d (omega arith) (omega arith) e
