-- Homes that are in their domains are a choice that a table may allow.
use Rattle.std.proofs.Common.{◌≡◌, ℕ, zero, suc, ◌<◌, ◌≤◌, ◌==◌, ◌&&◌, ◌||◌, List, [], ◌∷◌, Bool, true, false, cond, length, get_or, Ok, Err, inl, inr, refl, sym, subst, arith}
use Rattle.std.specs.Prelude.{nat_le, nat_lt}
use Rattle.std.specs.List.{list_all, list_any}
use Rattle.std.proofs.lemmas.Bool.Decides.{nat_tests}
use Rattle.std.proofs.lemmas.Grind.{common_steps}
use Rattle.res_base.specs.Lists.{Each, Member}
use Rattle.res_model.specs.Clock.{IsOscillator}
use Rattle.ioc_project.specs.Project.{all_within, domain_tests, is_among}
use Rattle.res_model.specs.ClockValues.{ahb_dividers, apb_dividers, pll_dividers, known_steps, source_of}
use Rattle.res_model.specs.Valid.{AreDomains}
use Rattle.ioc_project.specs.declared.fault.ProjectFault.TheVariants.{OutOfTable}
use Rattle.res_model.specs.declared.project.Home.{Home}
use Rattle.res_model.specs.declared.table.Domains.{Domains}
use Rattle.resolver.specs.HomeTree.{AreHomes, home_at, home_choice}

-- each home passes the test at its place
within_at : (tests : List (ℕ → Bool)) (homes : List Home) (k : ℕ) → all_within tests homes ≡ Ok tt → k < length tests → k < length homes → (get_or tests k (λ n. true)) (get_or homes k record { value = 0; line = 0 }).value ≡ true
within_at [] homes k h l m = absurd (omega arith)
within_at (t ∷ ts) [] k h l m = absurd (omega arith)
within_at (t ∷ ts) (x ∷ xs) zero h l m = here (t x.value) h
  where
    here : (b : Bool) → cond b (all_within ts xs) (Err (OutOfTable x.line)) ≡ Ok tt → b ≡ true
    here true e = refl
    here false e = absurd cc
within_at (t ∷ ts) (x ∷ xs) (suc k) h l m = within_at ts xs k (rest (t x.value) h) (omega arith) (omega arith)
  where
    rest : (b : Bool) → cond b (all_within ts xs) (Err (OutOfTable x.line)) ≡ Ok tt → all_within ts xs ≡ Ok tt
    rest true e = e
    rest false e = absurd cc

-- a value among known ones is one of them
among : (P : ℕ → Type 0) (xs : List ℕ) (v : ℕ) → Each P xs → is_among xs v ≡ true → P v
among P [] v h e = absurd cc
among P (x ∷ xs) v h e = case (x == v) refl e (among P xs v h.1)
  where
    case : (b : Bool) → (x == v) ≡ b → (b || list_any (λ y. y == v) xs) ≡ true → (list_any (λ y. y == v) xs ≡ true → P v) → P v
    case true q k rest = let same : x ≡ v = grind (arith, nat_tests) in subst P same h.0
    case false q k rest = rest k

record Between (low high v : ℕ) : Type 0 where
  least : low ≤ v
  most : v ≤ high

first : (a b : Bool) → (a && b) ≡ true → a ≡ true
first true b p = refl
first false b p = absurd cc

second : (a b : Bool) → (a && b) ≡ true → b ≡ true
second true b p = p
second false b p = absurd cc

both_le : (low high x : ℕ) → (nat_le low x && nat_le x high) ≡ true → Between low high x
both_le low high x h = record { least = grind (arith, common_steps); most = grind (arith, common_steps) }

member_between : (low high : ℕ) (these : List ℕ) (v : ℕ) → list_all (λ x. nat_le low x && nat_le x high) these ≡ true → Member v these → Between low high v
member_between low high [] v h m = absurd m
member_between low high (x ∷ xs) v h m = elim m [
  | inl e ↦ subst (Between low high) (sym e) (both_le low high x (first (nat_le low x && nat_le x high) (list_all (λ y. nat_le low y && nat_le y high) xs) h))
  | inr k ↦ member_between low high xs v (second (nat_le low x && nat_le x high) (list_all (λ y. nat_le low y && nat_le y high) xs) h) k
]

oscillator : (code : ℕ) → code < 2 → IsOscillator (source_of code)
oscillator zero l = tt
oscillator (suc zero) l = tt
oscillator (suc (suc n)) l = absurd (omega arith)

below : (n m : ℕ) → (nat_lt n m) ≡ true → n < m
below n m h = grind (arith, common_steps)

-- a power step of either version
steps_between : (version : ℕ) → list_all (λ x. nat_le 1 x && nat_le x 5) (known_steps version) ≡ true
steps_between version = case (version == 1)
  where
    case : (b : Bool) → list_all (λ x. nat_le 1 x && nat_le x 5) (cond b (1 ∷ 2 ∷ []) (1 ∷ 2 ∷ 3 ∷ 4 ∷ 5 ∷ [])) ≡ true
    case true = refl
    case false = refl

pub fit : (version : ℕ) (d : Domains) (homes : List Home) → AreDomains version d → length homes ≡ 10 → all_within (domain_tests d) homes ≡ Ok tt → AreHomes homes
unfolding home_choice
fit version d homes dom ten h =
    let psrc = below (home_at homes 1) 2 (within_at (domain_tests d) homes 1 h (omega arith) (omega arith)) in
    let hpre = member_between 1 512 ahb_dividers (home_at homes 2) refl (among (λ v. Member v ahb_dividers) d.hpre (home_at homes 2) dom.hpre.known (within_at (domain_tests d) homes 2 h (omega arith) (omega arith))) in
    let p = member_between 2 8 pll_dividers (home_at homes 3) refl (among (λ v. Member v pll_dividers) d.p (home_at homes 3) dom.p.known (within_at (domain_tests d) homes 3 h (omega arith) (omega arith))) in
    let m = both_le d.m.0 d.m.1 (home_at homes 4) (within_at (domain_tests d) homes 4 h (omega arith) (omega arith)) in
    let n = both_le d.n.0 d.n.1 (home_at homes 5) (within_at (domain_tests d) homes 5 h (omega arith) (omega arith)) in
    let q = both_le d.q.0 d.q.1 (home_at homes 6) (within_at (domain_tests d) homes 6 h (omega arith) (omega arith)) in
    let a = member_between 1 16 apb_dividers (home_at homes 7) refl (among (λ v. Member v apb_dividers) d.ppre1 (home_at homes 7) dom.ppre1.known (within_at (domain_tests d) homes 7 h (omega arith) (omega arith))) in
    let b = member_between 1 16 apb_dividers (home_at homes 8) refl (among (λ v. Member v apb_dividers) d.ppre2 (home_at homes 8) dom.ppre2.known (within_at (domain_tests d) homes 8 h (omega arith) (omega arith))) in
    let vos = member_between 1 5 (known_steps version) (home_at homes 9) (steps_between version) (among (λ v. Member v (known_steps version)) d.vos (home_at homes 9) dom.vos.known (within_at (domain_tests d) homes 9 h (omega arith) (omega arith))) in
    let ml : 2 ≤ d.m.0 = dom.m.least in
    let mg : d.m.1 ≤ 63 = dom.m.greatest in
    let nl : 50 ≤ d.n.0 = dom.n.least in
    let ng : d.n.1 ≤ 432 = dom.n.greatest in
    let ql : 2 ≤ d.q.0 = dom.q.least in
    let qg : d.q.1 ≤ 15 = dom.q.greatest in
    record {
      in_range = record {
        psrc = oscillator (home_at homes 1) psrc;
        hpre = (hpre.least, hpre.most);
        p = (p.least, p.most);
        m = (omega (arith, ml, m.least), omega (arith, mg, m.most));
        n = (omega (arith, nl, n.least), omega (arith, ng, n.most));
        q = (omega (arith, ql, q.least), omega (arith, qg, q.most));
        ppre1 = (a.least, a.most);
        ppre2 = (b.least, b.most);
      };
      vos = omega (arith, vos.most);
      hpre = omega (arith, hpre.most);
      p = omega (arith, p.most);
      m = omega (arith, mg, m.most);
      n = omega (arith, ng, n.most);
      q = omega (arith, qg, q.most);
      ppre1 = omega (arith, a.most);
      ppre2 = omega (arith, b.most);
    }
