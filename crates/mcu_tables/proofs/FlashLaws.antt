-- What the scales, the flash ranges and the defaults of a table that is read keep.
use Rattle.std.proofs.Common.{◌≡◌, ℕ, suc, ◌<◌, ◌≤◌, List, [], ◌∷◌, ◌++◌, length, map, take, Bool, true, false, Option, Some, None, Ok, refl, sym, ap, subst, arith, ◌∙◌, ltb-true, leb-true}
use Rattle.std.specs.Prelude.{nat_le, codes, slice_index, option_map, option_and_then, if◌then◌else◌}
use Rattle.std.specs.Str.{bytes_eq}
use Rattle.std.proofs.Math.Seq.{take-suc}
use Rattle.res_base.specs.Lists.{Each, Member, Pairwise}
use Rattle.res_base.proofs.ListLemmas.{each_push, each_map}
use Rattle.table_members.specs.Json.{number}
use Rattle.res_model.specs.ClockValues.{widest_hclk}
use Rattle.table_members.specs.Forms.{below, due, member, nested, object, object_if_there, flag, list, number_within, number_among, above, is_above_last}
use Rattle.mcu_tables.specs.Table.{is_after, flash_from, flash_to, flash_range, scale, scales, source_of, pll_source_of, source_form, pll_source_form, default_sources, default_factors, default_buses, defaults}
use Rattle.res_model.specs.Valid.{IsWithin, AreDefaults}
use Rattle.table_members.proofs.FormLaws.{bound, same_ok, due_some, must_holds, need_keeps, number_keeps, among_keeps, Kept, list_keeps, AreKept, one_more, nested_keeps}
use Rattle.table_members.proofs.ListLaws.{final, last_is, above_each, Any, Ascend, above_keeps}
use Rattle.serde_json.specs.Data.{Data}
use Rattle.serde_json.specs.Find.{get, as_str}
use Rattle.table_members.specs.declared.fault.TableFault.TheVariants.{BadField}
use Rattle.res_model.specs.declared.table.Domains.{Domains}
use Rattle.res_model.specs.declared.table.Scale.{Scale}
use Rattle.res_model.specs.declared.table.FlashRange.{FlashRange}

-- ---- scales

abbrev pub numbers : List Scale → List ℕ
numbers ss = map (λ (s : Scale). s.vos) ss

abbrev pub IsMax : Scale → Type 0
IsMax s = s.max ≤ widest_hclk s.vos

pub record AsDue (vos : List ℕ) (ss : List Scale) : Type 0 where
  pub order : length ss ≤ length vos → numbers ss ≡ take (length ss) vos
  pub each : Each IsMax ss

numbers_more : (ss : List Scale) (s : Scale) → numbers (ss ++ s ∷ []) ≡ numbers ss ++ s.vos ∷ []
numbers_more [] s = refl
numbers_more (x ∷ xs) s = ap (λ (ns : List ℕ). x.vos ∷ ns) (numbers_more xs s)

length_more : (ss : List Scale) (s : Scale) → length (ss ++ s ∷ []) ≡ suc (length ss)
length_more [] s = refl
length_more (x ∷ xs) s = ap suc (length_more xs s)

order_more : (vos : List ℕ) (ss : List Scale) (s : Scale) → s.vos ≡ slice_index vos (length ss) → (length ss ≤ length vos → numbers ss ≡ take (length ss) vos) → length (ss ++ s ∷ []) ≤ length vos → numbers (ss ++ s ∷ []) ≡ take (length (ss ++ s ∷ [])) vos
order_more vos ss s is h fits =
    let l = length_more ss s in
    let lt : length ss < length vos = omega (arith, l, fits) in
    let less : length ss ≤ length vos = omega (arith, lt) in
    subst (λ (k : ℕ). numbers (ss ++ s ∷ []) ≡ take k vos) (sym l)
    (numbers_more ss s ∙ ap (λ (ns : List ℕ). ns ++ s.vos ∷ []) (h less) ∙ ap (λ (n : ℕ). take (length ss) vos ++ n ∷ []) is ∙ sym (take-suc vos (length ss) 0 lt))

scale_keeps : (vos : List ℕ) (before : List Scale) (path : List ℕ) (d : Data) (s : Scale) → AsDue vos before → scale vos before path d ≡ Ok s → AsDue vos (before ++ s ∷ [])
unfolding scale
scale_keeps vos before path d s kept h =
    let v = slice_index vos (length before) in
    let o = bound (object path d) _ s h in
    let n = bound (member (number_within v v) path (codes "vos") o.0) _ s o.2 in
    let m = bound (member (number_within 1 (widest_hclk n.0)) path (codes "max") o.0) _ s n.2 in
    let r = need_keeps (λ (k : ℕ). (v ≤ k) × (k ≤ v)) (number_within v v) (below path (codes "vos")) (get (codes "vos") o.0) n.0 (λ w e. number_keeps v v (below path (codes "vos")) w n.0 e) n.1 in
    let g = need_keeps (λ (k : ℕ). k ≤ widest_hclk n.0) (number_within 1 (widest_hclk n.0)) (below path (codes "max")) (get (codes "max") o.0) m.0 (λ w e. (number_keeps 1 (widest_hclk n.0) (below path (codes "max")) w m.0 e).1) m.1 in
    let same : n.0 ≡ v = omega (arith, r.0, r.1) in
    let is = same_ok (record { vos = n.0; max = m.0 }) s m.2 in
    let named : s.vos ≡ v = sym (ap (λ (x : Scale). x.vos) is) ∙ same in
    let most : IsMax s = subst IsMax is g in
    record { order = order_more vos before s named kept.order; each = each_push IsMax before s kept.each most }

take_whole : (xs : List ℕ) → take (length xs) xs ≡ xs
take_whole [] = refl
take_whole (x ∷ xs) = ap (λ (ys : List ℕ). x ∷ ys) (take_whole xs)

pub record AreReadScales (vos : List ℕ) (ss : List Scale) : Type 0 where
  pub order : numbers ss ≡ vos
  pub each : Each IsMax ss

pub scales_keep : (vos path : List ℕ) (d : Data) (ss : List Scale) → scales vos path d ≡ Ok ss → AreReadScales vos ss
scales_keep vos path d ss h =
    let start : AsDue vos [] = record { order = λ e. refl; each = tt } in
    let k = list_keeps (AsDue vos) (length vos) (length vos) (scale vos) path d ss start (scale_keeps vos) h in
    let same : length ss ≡ length vos = omega (arith, k.low, k.high) in
    record { order = k.kept.order k.high ∙ ap (λ (n : ℕ). take n vos) same ∙ take_whole vos; each = k.kept.each }

-- ---- flash

pub record IsReadRange (r : FlashRange) : Type 0 where
  pub ordered : r.from ≤ r.to
  pub rows_some : 1 ≤ length r.rows
  pub rows_few : length r.rows ≤ 8
  pub ascending : Pairwise ◌<◌ r.rows

abbrev pub IsBelow : FlashRange → FlashRange → Type 0
IsBelow r s = r.to < s.from

ends_below : (rs : List FlashRange) (n : ℕ) → AreKept IsReadRange IsBelow rs → is_after rs n ≡ true → Each (λ (r : FlashRange). r.to < n) rs
ends_below [] n kept h = tt
ends_below (x ∷ xs) n kept h =
    let e : is_above_last (Some (final x xs).to) n ≡ true = subst (λ (o : Option FlashRange). is_above_last (option_map (λ r. r.to) o) n ≡ true) (last_is x xs) h in
    above_each (λ (r : FlashRange). r.from) (λ (r : FlashRange). r.to) n x xs (each_map IsReadRange (λ (r : FlashRange). r.from ≤ r.to) (x ∷ xs) (λ r i. i.ordered) kept.0) kept.1 (ltb-true (final x xs).to n e)

from_keeps : (before : List FlashRange) (path : List ℕ) (d : Data) (n : ℕ) → flash_from before path d ≡ Ok n → is_after before n ≡ true
unfolding flash_from
from_keeps before path d n h =
    let m = bound (due (BadField path) (number d)) _ n h in
    let t = must_holds (BadField path) (is_after before m.0) m.0 n m.2 in
    subst (λ (k : ℕ). is_after before k ≡ true) t.1 t.0

to_keeps : (from : ℕ) (path : List ℕ) (d : Data) (n : ℕ) → flash_to from path d ≡ Ok n → from ≤ n
unfolding flash_to
to_keeps from path d n h =
    let m = bound (due (BadField path) (number d)) _ n h in
    let t = must_holds (BadField path) (nat_le from m.0) m.0 n m.2 in
    subst (λ (k : ℕ). from ≤ k) t.1 (leb-true from m.0 t.0)

abbrev pub Rows : List ℕ → Type 0
Rows ns = Kept (AreKept Any Ascend) 1 8 ns

range_more : (before : List FlashRange) (path : List ℕ) (d : Data) (r : FlashRange) → AreKept IsReadRange IsBelow before → flash_range before path d ≡ Ok r → AreKept IsReadRange IsBelow (before ++ r ∷ [])
unfolding flash_range
range_more before path d r kept h =
    let o = bound (object path d) _ r h in
    let f = bound (member (flash_from before) path (codes "from") o.0) _ r o.2 in
    let t = bound (member (flash_to f.0) path (codes "to") o.0) _ r f.2 in
    let p = bound (member flag path (codes "prefetch") o.0) _ r t.2 in
    let w = bound (member (list 1 8 above) path (codes "rows") o.0) _ r p.2 in
    let after = need_keeps (λ (n : ℕ). is_after before n ≡ true) (flash_from before) (below path (codes "from")) (get (codes "from") o.0) f.0 (λ v e. from_keeps before (below path (codes "from")) v f.0 e) f.1 in
    let order = need_keeps (λ (n : ℕ). f.0 ≤ n) (flash_to f.0) (below path (codes "to")) (get (codes "to") o.0) t.0 (λ v e. to_keeps f.0 (below path (codes "to")) v t.0 e) t.1 in
    let rows : Rows w.0 = need_keeps Rows (list 1 8 above) (below path (codes "rows")) (get (codes "rows") o.0) w.0 (λ v e. list_keeps (AreKept Any Ascend) 1 8 above (below path (codes "rows")) v w.0 (tt, tt) above_keeps e) w.1 in
    let fine : IsReadRange (record { from = f.0; to = t.0; prefetch = p.0; rows = w.0 }) = record { ordered = order; rows_some = rows.low; rows_few = rows.high; ascending = rows.kept.1 } in
    let is = same_ok (record { from = f.0; to = t.0; prefetch = p.0; rows = w.0 }) r w.2 in
    one_more IsReadRange IsBelow before r kept (subst IsReadRange is fine)
    (subst (λ (x : FlashRange). Each (λ (q : FlashRange). q.to < x.from) before) is (ends_below before f.0 kept after))

pub flash_keeps : (path : List ℕ) (d : Data) (rs : List FlashRange) → list 0 16 flash_range path d ≡ Ok rs → Kept (AreKept IsReadRange IsBelow) 0 16 rs
flash_keeps path d rs h = list_keeps (AreKept IsReadRange IsBelow) 0 16 flash_range path d rs (tt, tt) range_more h

-- ---- defaults

picked : (P : ℕ → Type 0) (b : Bool) (x n : ℕ) (rest : Option ℕ) → P x → (rest ≡ Some n → P n) → (if b then Some x else rest) ≡ Some n → P n
picked P true x n rest here on h = let e : x ≡ n = cc in subst P e here
picked P false x n rest here on h = on h

source_small : (o : Option (List ℕ)) (n : ℕ) → option_and_then source_of o ≡ Some n → n < 3
unfolding source_of
source_small None n h = absurd cc
source_small (Some w) n h =
    picked (λ (k : ℕ). k < 3) (bytes_eq w (codes "HSI")) 0 n (if bytes_eq w (codes "HSE") then Some 1 else (if bytes_eq w (codes "PLL") then Some 2 else None)) (omega arith)
    (λ e. picked (λ (k : ℕ). k < 3) (bytes_eq w (codes "HSE")) 1 n (if bytes_eq w (codes "PLL") then Some 2 else None) (omega arith)
    (λ f. picked (λ (k : ℕ). k < 3) (bytes_eq w (codes "PLL")) 2 n None (omega arith) (λ g. absurd cc) f) e) h

pll_source_small : (o : Option (List ℕ)) (n : ℕ) → option_and_then pll_source_of o ≡ Some n → n < 2
unfolding pll_source_of
pll_source_small None n h = absurd cc
pll_source_small (Some w) n h =
    picked (λ (k : ℕ). k < 2) (bytes_eq w (codes "HSI")) 0 n (if bytes_eq w (codes "HSE") then Some 1 else None) (omega arith)
    (λ e. picked (λ (k : ℕ). k < 2) (bytes_eq w (codes "HSE")) 1 n None (omega arith) (λ g. absurd cc) e) h

source_keeps : (path : List ℕ) (d : Data) (n : ℕ) → source_form path d ≡ Ok n → n < 3
unfolding source_form
source_keeps path d n h = source_small (as_str d) n (due_some (BadField path) (option_and_then source_of (as_str d)) n h)

pll_source_keeps : (path : List ℕ) (d : Data) (n : ℕ) → pll_source_form path d ≡ Ok n → n < 2
unfolding pll_source_form
pll_source_keeps path d n h = pll_source_small (as_str d) n (due_some (BadField path) (option_and_then pll_source_of (as_str d)) n h)

among_default : (these key : List ℕ) (d : Data) (n : ℕ) → nested (number_among these) (codes "defaults") key d ≡ Ok n → Member n these
among_default these key d n h = nested_keeps (λ (k : ℕ). Member k these) (number_among these) (codes "defaults") key d n (λ path v e. among_keeps these path v n e) h

within_default : (p : ℕ × ℕ) (key : List ℕ) (d : Data) (n : ℕ) → nested (number_within p.0 p.1) (codes "defaults") key d ≡ Ok n → IsWithin p n
within_default p key d n h = nested_keeps (IsWithin p) (number_within p.0 p.1) (codes "defaults") key d n (λ path v e. number_keeps p.0 p.1 path v n e) h

abbrev pub AreSources : ℕ × ℕ → Type 0
AreSources s = (s.0 < 3) × (s.1 < 2)

sources_keep : (d : Data) (s : ℕ × ℕ) → default_sources d ≡ Ok s → AreSources s
unfolding default_sources
sources_keep d s h =
    let a = bound (nested source_form (codes "defaults") (codes "src") d) _ s h in
    let b = bound (nested pll_source_form (codes "defaults") (codes "psrc") d) _ s a.2 in
    let fine : AreSources (a.0, b.0) = (
      nested_keeps (λ (n : ℕ). n < 3) source_form (codes "defaults") (codes "src") d a.0 (λ path v e. source_keeps path v a.0 e) a.1,
      nested_keeps (λ (n : ℕ). n < 2) pll_source_form (codes "defaults") (codes "psrc") d b.0 (λ path v e. pll_source_keeps path v b.0 e) b.1,
    ) in
    subst AreSources (same_ok (a.0, b.0) s b.2) fine

record AreFactors (c : Domains) (f : ℕ × ℕ × ℕ × ℕ × ℕ) : Type 0 where
  pub hpre : Member f.0 c.hpre
  pub p : Member f.1 c.p
  pub m : IsWithin c.m f.2
  pub n : IsWithin c.n f.3
  pub q : IsWithin c.q f.4

factors_keep : (c : Domains) (d : Data) (f : ℕ × ℕ × ℕ × ℕ × ℕ) → default_factors c d ≡ Ok f → AreFactors c f
unfolding default_factors
factors_keep c d f h =
    let a = bound (nested (number_among c.hpre) (codes "defaults") (codes "hpre") d) _ f h in
    let p = bound (nested (number_among c.p) (codes "defaults") (codes "p") d) _ f a.2 in
    let m = bound (nested (number_within c.m.0 c.m.1) (codes "defaults") (codes "m") d) _ f p.2 in
    let n = bound (nested (number_within c.n.0 c.n.1) (codes "defaults") (codes "n") d) _ f m.2 in
    let q = bound (nested (number_within c.q.0 c.q.1) (codes "defaults") (codes "q") d) _ f n.2 in
    let fine : AreFactors c (a.0, p.0, m.0, n.0, q.0) = record {
      hpre = among_default c.hpre (codes "hpre") d a.0 a.1;
      p = among_default c.p (codes "p") d p.0 p.1;
      m = within_default c.m (codes "m") d m.0 m.1;
      n = within_default c.n (codes "n") d n.0 n.1;
      q = within_default c.q (codes "q") d q.0 q.1;
    } in
    subst (AreFactors c) (same_ok (a.0, p.0, m.0, n.0, q.0) f q.2) fine

record AreBuses (c : Domains) (b : ℕ × ℕ × ℕ) : Type 0 where
  pub ppre1 : Member b.0 c.ppre1
  pub ppre2 : Member b.1 c.ppre2
  pub vos : Member b.2 c.vos

buses_keep : (c : Domains) (d : Data) (b : ℕ × ℕ × ℕ) → default_buses c d ≡ Ok b → AreBuses c b
unfolding default_buses
buses_keep c d b h =
    let x = bound (nested (number_among c.ppre1) (codes "defaults") (codes "ppre1") d) _ b h in
    let y = bound (nested (number_among c.ppre2) (codes "defaults") (codes "ppre2") d) _ b x.2 in
    let z = bound (nested (number_among c.vos) (codes "defaults") (codes "vos") d) _ b y.2 in
    let fine : AreBuses c (x.0, y.0, z.0) = record {
      ppre1 = among_default c.ppre1 (codes "ppre1") d x.0 x.1;
      ppre2 = among_default c.ppre2 (codes "ppre2") d y.0 y.1;
      vos = among_default c.vos (codes "vos") d z.0 z.1;
    } in
    subst (AreBuses c) (same_ok (x.0, y.0, z.0) b z.2) fine

abbrev pub AreDefaultsRead : Domains → List ℕ × ℕ → Type 0
AreDefaultsRead c v = AreDefaults c v.0 × (v.1 ≤ 4294967295)

pub defaults_keep : (c : Domains) (d : Data) (v : List ℕ × ℕ) → defaults c d ≡ Ok v → AreDefaultsRead c v
unfolding defaults
defaults_keep c d v h =
    let o = bound (object_if_there (below [] (codes "defaults")) (get (codes "defaults") d)) _ v h in
    let s = bound (default_sources d) _ v o.2 in
    let f = bound (default_factors c d) _ v s.2 in
    let b = bound (default_buses c d) _ v f.2 in
    let z = bound (nested (number_within 0 4294967295) (codes "defaults") (codes "hse") d) _ v b.2 in
    let ss = sources_keep d s.0 s.1 in
    let fs = factors_keep c d f.0 f.1 in
    let bs = buses_keep c d b.0 b.1 in
    let most = nested_keeps (λ (n : ℕ). n ≤ 4294967295) (number_within 0 4294967295) (codes "defaults") (codes "hse") d z.0 (λ path w e. (number_keeps 0 4294967295 path w z.0 e).1) z.1 in
    let ds : List ℕ = s.0.0 ∷ s.0.1 ∷ f.0.0 ∷ f.0.1 ∷ f.0.2 ∷ f.0.3 ∷ f.0.4 ∷ b.0.0 ∷ b.0.1 ∷ b.0.2 ∷ [] in
    let fine : AreDefaults c ds = record { ten = refl; src = ss.0; psrc = ss.1; hpre = fs.hpre; p = fs.p; m = fs.m; n = fs.n; q = fs.q; ppre1 = bs.ppre1; ppre2 = bs.ppre2; vos = bs.vos } in
    subst (AreDefaultsRead c) (same_ok (ds, z.0) v z.2) (fine, most)
