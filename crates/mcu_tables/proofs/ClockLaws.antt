-- What the names, the clock's domains and the limits of a table that is read keep.
use Rattle.std.proofs.Common.{◌≡◌, ◌≢◌, ℕ, ◌≤◌, List, [], ◌∷◌, Bool, true, false, not, ◌||◌, cond, eqb, Option, Some, None, Ok, inl, inr, refl, sym, ap, subst, arith, eqb-true}
use Rattle.std.specs.Prelude.{◌==◌, codes}
use Rattle.std.specs.List.{list_any}
use Rattle.std.proofs.lemmas.Bool.{eq-eqb}
use Rattle.std.proofs.lemmas.Grind.{common_steps}
use Rattle.res_base.specs.Lists.{Member}
use Rattle.res_model.specs.ClockValues.{pll_dividers, ahb_dividers, apb_dividers, known_steps}
use Rattle.table_members.specs.Forms.{below, member, nested, object, number_within, pair_within, some_among, one_among}
use Rattle.mcu_tables.specs.Table.{are_paired, steps, clock, limits, over_form, some_over, over, all_limits}
use Rattle.res_model.specs.Valid.{IsRange, AreDomains}
use Rattle.table_members.proofs.FormLaws.{bound, reads, same_ok, must_holds, need_keeps, number_keeps, pair_keeps, nested_keeps}
use Rattle.table_members.proofs.ListLaws.{AreSome, AreWithOne, some_keep, one_keep}
use Rattle.serde_json.specs.Data.{Data}
use Rattle.serde_json.specs.Find.{get}
use Rattle.table_members.specs.declared.fault.TableFault.TheVariants.{BadField}
use Rattle.res_model.specs.declared.table.Domains.{Domains}
use Rattle.res_model.specs.declared.table.Bounds.{Bounds}
use Rattle.res_model.specs.declared.table.Over.{Over}

-- ---- the power steps

has_two : (ns : List ℕ) → list_any (λ n. n == 2) ns ≡ true → Member 2 ns
has_two [] h = absurd cc
has_two (n ∷ ns) h = grind (arith, common_steps, has_two ns, eqb-true n 2)

or_right : (a b : Bool) → b ≡ true → (a || b) ≡ true
or_right true b h = refl
or_right false b h = h

any_five : (ns : List ℕ) → Member 5 ns → list_any (λ n. n == 5) ns ≡ true
any_five [] m = absurd m
any_five (n ∷ ns) m = elim m [
  | inl e ↦ ap (λ b. b || list_any (λ k. k == 5) ns) (eq-eqb n 5 (sym e))
  | inr k ↦ or_right (n == 5) (list_any (λ k. k == 5) ns) (any_five ns k)
]

where_not : (a b : Bool) → (not a || b) ≡ true → a ≡ true → b ≡ true
where_not true b h e = h
where_not false b h e = absurd cc

-- where 5 is among the steps, 2 is
paired : (ns : List ℕ) → are_paired ns ≡ true → Member 5 ns → Member 2 ns
paired ns h m = has_two ns (where_not (list_any (λ n. n == 5) ns) (list_any (λ n. n == 2) ns) h (any_five ns m))

pub record AreSteps (these ns : List ℕ) : Type 0 where
  pub with_one : AreWithOne these ns
  pub two : Member 5 ns → Member 2 ns

steps_keep : (version : ℕ) (path : List ℕ) (d : Data) (ns : List ℕ) → steps version path d ≡ Ok ns → AreSteps (known_steps version) ns
unfolding steps
steps_keep version path d ns h =
    let os = bound (one_among (known_steps version) path d) _ ns h in
    let m = must_holds (BadField path) (are_paired os.0) os.0 ns os.2 in
    let fine : AreSteps (known_steps version) os.0 = record { with_one = one_keep (known_steps version) path d os.0 os.1; two = paired os.0 m.0 } in
    subst (AreSteps (known_steps version)) m.1 fine

-- ---- the clock's domains

range_keeps : (low high : ℕ) (group key : List ℕ) (d : Data) (p : ℕ × ℕ) → nested (pair_within low high) group key d ≡ Ok p → IsRange low high p
range_keeps low high group key d p h = nested_keeps (IsRange low high) (pair_within low high) group key d p (λ path v e. pair_keeps low high path v p e) h

dividers_keep : (these key : List ℕ) (d : Data) (ns : List ℕ) → nested (one_among these) (codes "clock") key d ≡ Ok ns → AreWithOne these ns
dividers_keep these key d ns h = nested_keeps (AreWithOne these) (one_among these) (codes "clock") key d ns (λ path v e. one_keep these path v ns e) h

pub clock_keeps : (version : ℕ) (d : Data) (c : Domains) → clock version d ≡ Ok c → AreDomains version c
unfolding clock
clock_keeps version d c h =
    let m = bound (nested (pair_within 2 63) (codes "clock") (codes "m") d) _ c h in
    let n = bound (nested (pair_within 50 432) (codes "clock") (codes "n") d) _ c m.2 in
    let q = bound (nested (pair_within 2 15) (codes "clock") (codes "q") d) _ c n.2 in
    let p = bound (nested (some_among pll_dividers) (codes "clock") (codes "p") d) _ c q.2 in
    let a = bound (nested (one_among ahb_dividers) (codes "clock") (codes "hpre") d) _ c p.2 in
    let b = bound (nested (one_among apb_dividers) (codes "clock") (codes "ppre1") d) _ c a.2 in
    let e = bound (nested (one_among apb_dividers) (codes "clock") (codes "ppre2") d) _ c b.2 in
    let v = bound (nested (steps version) (codes "clock") (codes "vos") d) _ c e.2 in
    let ps = nested_keeps (AreSome pll_dividers) (some_among pll_dividers) (codes "clock") (codes "p") d p.0 (λ path w k. some_keep pll_dividers path w p.0 k) p.1 in
    let hs = dividers_keep ahb_dividers (codes "hpre") d a.0 a.1 in
    let bs = dividers_keep apb_dividers (codes "ppre1") d b.0 b.1 in
    let es = dividers_keep apb_dividers (codes "ppre2") d e.0 e.1 in
    let vs = nested_keeps (AreSteps (known_steps version)) (steps version) (codes "clock") (codes "vos") d v.0 (λ path w k. steps_keep version path w v.0 k) v.1 in
    let fine : AreDomains version (record { hpre = a.0; p = p.0; m = m.0; n = n.0; q = q.0; ppre1 = b.0; ppre2 = e.0; vos = v.0 }) = record {
      m = range_keeps 2 63 (codes "clock") (codes "m") d m.0 m.1;
      n = range_keeps 50 432 (codes "clock") (codes "n") d n.0 n.1;
      q = range_keeps 2 15 (codes "clock") (codes "q") d q.0 q.1;
      p = ps.among;
      p_some = ps.some;
      hpre = hs.among;
      hpre_one = hs.one;
      ppre1 = bs.among;
      ppre1_one = bs.one;
      ppre2 = es.among;
      ppre2_one = es.one;
      vos = vs.with_one.among;
      vos_one = vs.with_one.one;
      vos_two = vs.two;
    } in
    subst (AreDomains version) (same_ok (record { hpre = a.0; p = p.0; m = m.0; n = n.0; q = q.0; ppre1 = b.0; ppre2 = e.0; vos = v.0 }) c v.2) fine

-- ---- the limits

pub record AreRead (b : Bounds) : Type 0 where
  pub crystal : IsRange 4000000 26000000 b.crystal
  pub bypass : IsRange 1000000 50000000 b.bypass
  pub vco_in : IsRange 1000000 2000000 b.vco_in
  pub vco : IsRange 100000000 432000000 b.vco
  pub sysclk : b.sysclk ≤ 168000000
  pub pclk1 : b.pclk1 ≤ 42000000
  pub pclk2 : b.pclk2 ≤ 84000000

most_keeps : (low high : ℕ) (group key : List ℕ) (d : Data) (n : ℕ) → nested (number_within low high) group key d ≡ Ok n → n ≤ high
most_keeps low high group key d n h = nested_keeps (λ (k : ℕ). k ≤ high) (number_within low high) group key d n (λ path v e. (number_keeps low high path v n e).1) h

pub limits_keep : (d : Data) (b : Bounds) → limits d ≡ Ok b → AreRead b
unfolding limits
limits_keep d b h =
    let c = bound (nested (pair_within 4000000 26000000) (codes "limits") (codes "crystal") d) _ b h in
    let y = bound (nested (pair_within 1000000 50000000) (codes "limits") (codes "bypass") d) _ b c.2 in
    let i = bound (nested (pair_within 1000000 2000000) (codes "limits") (codes "vco_in") d) _ b y.2 in
    let v = bound (nested (pair_within 100000000 432000000) (codes "limits") (codes "vco") d) _ b i.2 in
    let s = bound (nested (number_within 1 168000000) (codes "limits") (codes "sysclk") d) _ b v.2 in
    let p = bound (nested (number_within 1 42000000) (codes "limits") (codes "pclk1") d) _ b s.2 in
    let q = bound (nested (number_within 1 84000000) (codes "limits") (codes "pclk2") d) _ b p.2 in
    let fine : AreRead (record { crystal = c.0; bypass = y.0; vco_in = i.0; vco = v.0; sysclk = s.0; pclk1 = p.0; pclk2 = q.0 }) = record {
      crystal = range_keeps 4000000 26000000 (codes "limits") (codes "crystal") d c.0 c.1;
      bypass = range_keeps 1000000 50000000 (codes "limits") (codes "bypass") d y.0 y.1;
      vco_in = range_keeps 1000000 2000000 (codes "limits") (codes "vco_in") d i.0 i.1;
      vco = range_keeps 100000000 432000000 (codes "limits") (codes "vco") d v.0 v.1;
      sysclk = most_keeps 1 168000000 (codes "limits") (codes "sysclk") d s.0 s.1;
      pclk1 = most_keeps 1 42000000 (codes "limits") (codes "pclk1") d p.0 p.1;
      pclk2 = most_keeps 1 84000000 (codes "limits") (codes "pclk2") d q.0 q.1;
    } in
    subst AreRead (same_ok (record { crystal = c.0; bypass = y.0; vco_in = i.0; vco = v.0; sysclk = s.0; pclk1 = p.0; pclk2 = q.0 }) b q.2) fine

-- ---- the limits with over-drive

pub record AreReadSpeeds (o : Over) : Type 0 where
  pub sysclk : o.sysclk ≤ 180000000
  pub pclk1 : o.pclk1 ≤ 45000000
  pub pclk2 : o.pclk2 ≤ 90000000

at_most_keeps : (high : ℕ) (path key : List ℕ) (d : Data) (n : ℕ) → member (number_within 1 high) path key d ≡ Ok n → n ≤ high
at_most_keeps high path key d n h = need_keeps (λ (k : ℕ). k ≤ high) (number_within 1 high) (below path key) (get key d) n (λ v e. (number_keeps 1 high (below path key) v n e).1) h

over_keeps : (path : List ℕ) (d : Data) (o : Over) → over_form path d ≡ Ok o → AreReadSpeeds o
unfolding over_form
over_keeps path d o h =
    let w = bound (object path d) _ o h in
    let s = bound (member (number_within 1 180000000) path (codes "sysclk") w.0) _ o w.2 in
    let p = bound (member (number_within 1 45000000) path (codes "pclk1") w.0) _ o s.2 in
    let q = bound (member (number_within 1 90000000) path (codes "pclk2") w.0) _ o p.2 in
    let fine : AreReadSpeeds (record { sysclk = s.0; pclk1 = p.0; pclk2 = q.0 }) = record {
      sysclk = at_most_keeps 180000000 path (codes "sysclk") w.0 s.0 s.1;
      pclk1 = at_most_keeps 45000000 path (codes "pclk1") w.0 p.0 p.1;
      pclk2 = at_most_keeps 90000000 path (codes "pclk2") w.0 q.0 q.1;
    } in
    subst AreReadSpeeds (same_ok (record { sysclk = s.0; pclk1 = p.0; pclk2 = q.0 }) o q.2) fine

-- what is read of a table of this version: none in version 1, and some in others
abbrev pub HasRead : ℕ → Option Over → Type 0
HasRead version None = version ≡ 1
HasRead version (Some o) = (version ≢ 1) × AreReadSpeeds o

abbrev pub IsReadSome : Option Over → Type 0
IsReadSome None = ⊥
IsReadSome (Some o) = AreReadSpeeds o

some_over_keeps : (path : List ℕ) (d : Data) (o : Option Over) → some_over path d ≡ Ok o → IsReadSome o
unfolding some_over
some_over_keeps path d o h =
    let w = bound (over_form path d) _ o h in
    subst IsReadSome (same_ok (Some w.0) o w.2) (over_keeps path d w.0 w.1)

read_some : (version : ℕ) (o : Option Over) → version ≢ 1 → IsReadSome o → HasRead version o
read_some version None n h = absurd h
read_some version (Some o) n h = (n, h)

over_if : (version : ℕ) (d : Data) (o : Option Over) (b : Bool) → eqb version 1 ≡ b → cond b (reads None) (nested some_over (codes "limits") (codes "over") d) ≡ Ok o → HasRead version o
over_if version d o true e h = subst (HasRead version) (same_ok None o h) (eqb-true version 1 e)
over_if version d o false e h =
    read_some version o (λ s. differ_bool (eq-eqb version 1 s) e)
    (nested_keeps IsReadSome some_over (codes "limits") (codes "over") d o (λ path w k. some_over_keeps path w o k) h)
  where
    differ_bool : {b : Bool} → b ≡ true → b ≡ false → ⊥
    differ_bool h k = cc

over_read : (version : ℕ) (d : Data) (o : Option Over) → over version d ≡ Ok o → HasRead version o
unfolding over
over_read version d o h = over_if version d o (eqb version 1) refl h

pub record AreAllRead (version : ℕ) (p : Bounds × Option Over) : Type 0 where
  pub plain : AreRead p.0
  pub over : HasRead version p.1

pub all_limits_keep : (version : ℕ) (d : Data) (p : Bounds × Option Over) → all_limits version d ≡ Ok p → AreAllRead version p
unfolding all_limits
all_limits_keep version d p h =
    let a = bound (limits d) _ p h in
    let b = bound (over version d) _ p a.2 in
    let fine : AreAllRead version (a.0, b.0) = record { plain = limits_keep d a.0 a.1; over = over_read version d b.0 b.1 } in
    subst (AreAllRead version) (same_ok (a.0, b.0) p b.2) fine
