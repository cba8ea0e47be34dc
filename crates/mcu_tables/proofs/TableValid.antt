-- Every table that is read keeps every rule.
use Rattle.std.proofs.Common.{◌≡◌, ◌≢◌, ℕ, ◌≤◌, List, [], ◌∷◌, length, Bool, true, false, Option, Some, None, Result, Ok, refl, subst, arith}
use Rattle.std.specs.Prelude.{nat_lt, codes, slice_index, if◌then◌else◌}
use Rattle.std.specs.List.{list_any}
use Rattle.std.proofs.lemmas.Bool.Decides.{nat_tests}
use Rattle.res_base.specs.Lists.{Each}
use Rattle.res_base.proofs.ListLemmas.{each_map}
use Rattle.table_members.specs.Json.{json_of}
use Rattle.res_model.specs.ClockValues.{hsi}
use Rattle.res_model.specs.Power.{over_speeds, plain_speeds, speeds_at}
use Rattle.res_model.specs.declared.limit.Limit.{Limit}
use Rattle.res_model.specs.declared.limit.Limit.TheVariants as the_limit
use Rattle.table_members.specs.Forms.{below, due, top, text, number_within, list, distinct_text}
use Rattle.mcu_tables.specs.Table.{pin, signal, ip, clock, all_limits, scales, flash_range, defaults, is_low, reset_fault, unless_illegal, legal, hse_names, supply, table, tables_of}
use Rattle.res_model.specs.Valid.{IsText, ArePins, AreSignals, AreIps, AreBounds, AreSpeeds, HasOver, AreScales, IsFlashRange, AreFlash, IsValid}
use Rattle.table_members.proofs.FormLaws.{bound, same_ok, need_keeps, none_passes, neither, text_keeps, number_keeps, Kept, list_keeps, AreKept}
use Rattle.mcu_tables.proofs.PinLaws.{pins_keep}
use Rattle.mcu_tables.proofs.SignalLaws.{signals_keep, ips_keep}
use Rattle.table_members.proofs.ListLaws.{DifferTexts, distinct_keeps}
use Rattle.mcu_tables.proofs.ClockLaws.{clock_keeps, AreRead, AreReadSpeeds, HasRead, all_limits_keep}
use Rattle.mcu_tables.proofs.FlashLaws.{IsMax, AreReadScales, scales_keep, IsReadRange, IsBelow, flash_keeps, defaults_keep}
use Rattle.serde_json.specs.Data.{Data}
use Rattle.serde_json.specs.Find.{get}
use Rattle.table_members.specs.declared.fault.TableFault.{TableFault}
use Rattle.table_members.specs.declared.fault.TableFault.TheVariants.{NotJson}
use Rattle.res_model.specs.declared.table.Bounds.{Bounds}
use Rattle.res_model.specs.declared.table.Scale.{Scale}
use Rattle.res_model.specs.declared.table.FlashRange.{FlashRange}
use Rattle.res_model.specs.declared.table.Over.{Over}
use Rattle.res_model.specs.declared.table.TableParts.{TableParts}

top_keeps : {X : Type 0} (P : X → Type 0) (form : List ℕ → Data → Result X TableFault) (key : List ℕ) (d : Data) (x : X) → ((path : List ℕ) (v : Data) → form path v ≡ Ok x → P x) → top form key d ≡ Ok x → P x
top_keeps P form key d x keeps h = need_keeps P form (below [] key) (get key d) x (λ v e. keeps (below [] key) v e) h

abbrev AreTexts : List ℕ × List ℕ → Type 0
AreTexts p = IsText p.0 × IsText p.1

hse_names_keep : (d : Data) (p : List ℕ × List ℕ) → hse_names d ≡ Ok p → AreTexts p
unfolding hse_names
hse_names_keep d p h =
    let a = bound (top text (codes "hse_in") d) _ p h in
    let b = bound (top text (codes "hse_out") d) _ p a.2 in
    let fine : AreTexts (a.0, b.0) = (top_keeps IsText text (codes "hse_in") d a.0 (λ path x e. text_keeps path x a.0 e) a.1, top_keeps IsText text (codes "hse_out") d b.0 (λ path x e. text_keeps path x b.0 e) b.1) in
    subst AreTexts (same_ok (a.0, b.0) p b.2) fine

abbrev ArePowers : List ℕ → List Scale × List FlashRange → Type 0
ArePowers vos p = AreReadScales vos p.0 × Kept (AreKept IsReadRange IsBelow) 0 16 p.1

supply_keeps : (vos : List ℕ) (d : Data) (p : List Scale × List FlashRange) → supply vos d ≡ Ok p → ArePowers vos p
unfolding supply
supply_keeps vos d p h =
    let a = bound (top (scales vos) (codes "scales") d) _ p h in
    let b = bound (top (list 0 16 flash_range) (codes "flash") d) _ p a.2 in
    let fine : ArePowers vos (a.0, b.0) = (
      top_keeps (AreReadScales vos) (scales vos) (codes "scales") d a.0 (λ path x e. scales_keep vos path x a.0 e) a.1,
      top_keeps (Kept (AreKept IsReadRange IsBelow) 0 16) (list 0 16 flash_range) (codes "flash") d b.0 (λ path x e. flash_keeps path x b.0 e) b.1,
    ) in
    subst (ArePowers vos) (same_ok (a.0, b.0) p b.2) fine

-- ---- the state after reset

skipped : (b : Bool) (x : Limit) (rest : Option Limit) → (if b then Some x else rest) ≡ None → (b ≡ false) × (rest ≡ None)
skipped true x rest h = absurd cc
skipped false x rest h = (refl, h)

not_below : (a b : ℕ) → nat_lt a b ≡ false → b ≤ a
not_below a b h = grind (arith, nat_tests)

-- limits that are not below the HSI
record AreAbove (o : Over) : Type 0 where
  pub sysclk : hsi ≤ o.sysclk
  pub pclk1 : hsi ≤ o.pclk1
  pub pclk2 : hsi ≤ o.pclk2

record IsLegal (t : TableParts) : Type 0 where
  pub plain : AreAbove (plain_speeds t.limits)
  pub over : AreAbove (over_speeds t.over (plain_speeds t.limits))
  pub scales : Each (λ (s : Scale). hsi ≤ s.max) t.scales
  pub flash : Each (λ (r : FlashRange). hsi ≤ slice_index r.rows 0) t.flash

not_low : (limit : Over → ℕ) (t : TableParts) → is_low limit t ≡ false → (hsi ≤ limit (speeds_at t 1)) × (hsi ≤ limit (speeds_at t 4))
not_low limit t h =
    let n = neither (nat_lt (limit (speeds_at t 1)) hsi) (nat_lt (limit (speeds_at t 4)) hsi) h in
    (not_below (limit (speeds_at t 1)) hsi n.0, not_below (limit (speeds_at t 4)) hsi n.1)

reset_legal : (t : TableParts) → reset_fault t ≡ None → IsLegal t
unfolding reset_fault speeds_at
reset_legal t h =
    let low_scale = list_any (λ s. nat_lt s.max hsi) t.scales in
    let low_row = list_any (λ r. nat_lt (slice_index r.rows 0) hsi) t.flash in
    let flash : Option Limit = if low_row then Some the_limit.FlashRow else None in
    let pclk2 : Option Limit = if is_low (λ o. o.pclk2) t then Some the_limit.Pclk2 else flash in
    let pclk1 : Option Limit = if is_low (λ o. o.pclk1) t then Some the_limit.Pclk1 else pclk2 in
    let scales : Option Limit = if low_scale then Some the_limit.Hclk else pclk1 in
    let a = skipped (is_low (λ o. o.sysclk) t) the_limit.Sysclk scales h in
    let b = skipped low_scale the_limit.Hclk pclk1 a.1 in
    let c = skipped (is_low (λ o. o.pclk1) t) the_limit.Pclk1 pclk2 b.1 in
    let d = skipped (is_low (λ o. o.pclk2) t) the_limit.Pclk2 flash c.1 in
    let e = skipped low_row the_limit.FlashRow None d.1 in
    let s = not_low (λ o. o.sysclk) t a.0 in
    let p = not_low (λ o. o.pclk1) t c.0 in
    let q = not_low (λ o. o.pclk2) t d.0 in
    record {
      plain = record { sysclk = s.0; pclk1 = p.0; pclk2 = q.0 };
      over = record { sysclk = s.1; pclk1 = p.1; pclk2 = q.1 };
      scales = each_map (λ s. nat_lt s.max hsi ≡ false) (λ (s : Scale). hsi ≤ s.max) t.scales (λ s k. not_below s.max hsi k) (none_passes (λ s. nat_lt s.max hsi) t.scales b.0);
      flash = each_map (λ r. nat_lt (slice_index r.rows 0) hsi ≡ false) (λ (r : FlashRange). hsi ≤ slice_index r.rows 0) t.flash (λ r k. not_below (slice_index r.rows 0) hsi k) (none_passes (λ r. nat_lt (slice_index r.rows 0) hsi) t.flash e.0);
    }

unless_none : (o : Option Limit) (t u : TableParts) → unless_illegal o t ≡ Ok u → (o ≡ None) × (t ≡ u)
unless_none None t u h = (refl, same_ok t u h)
unless_none (Some n) t u h = absurd cc

legal_keeps : (t u : TableParts) → legal t ≡ Ok u → (reset_fault t ≡ None) × (t ≡ u)
unfolding legal
legal_keeps t u h = unless_none (reset_fault t) t u h

-- ---- both of two facts

each_both : {X : Type 0} (P Q : X → Type 0) (xs : List X) → Each P xs → Each Q xs → Each (λ x. P x × Q x) xs
each_both P Q [] p q = tt
each_both P Q (x ∷ xs) p q = ((p.0, q.0), each_both P Q xs p.1 q.1)

bounds_of : (b : Bounds) → AreRead b → hsi ≤ b.sysclk → hsi ≤ b.pclk1 → hsi ≤ b.pclk2 → AreBounds b
bounds_of b r s p q = record { crystal = r.crystal; bypass = r.bypass; vco_in = r.vco_in; vco = r.vco; sysclk = r.sysclk; pclk1 = r.pclk1; pclk2 = r.pclk2; reset_sysclk = s; reset_pclk1 = p; reset_pclk2 = q }

speeds_of : (o : Over) → AreReadSpeeds o → AreAbove o → AreSpeeds o
speeds_of o r a = record { sysclk = r.sysclk; pclk1 = r.pclk1; pclk2 = r.pclk2; reset_sysclk = a.sysclk; reset_pclk1 = a.pclk1; reset_pclk2 = a.pclk2 }

over_of : (version : ℕ) (o : Option Over) (plain : Over) → (1 ≤ version) × (version ≤ 2) → HasRead version o → AreAbove (over_speeds o plain) → HasOver version o
over_of version None plain v r a = r
over_of version (Some o) plain v r a = (two version v r.0, speeds_of o r.1 a)
  where
    two : (n : ℕ) → (1 ≤ n) × (n ≤ 2) → n ≢ 1 → n ≡ 2
    two n b other = grind (arith, b.0, b.1, other)

scales_of : (vos : List ℕ) (ss : List Scale) → AreReadScales vos ss → Each (λ (s : Scale). hsi ≤ s.max) ss → AreScales vos ss
scales_of vos ss r h = record { order = r.order; each = each_both (λ (s : Scale). hsi ≤ s.max) IsMax ss h r.each }

range_of : (r : FlashRange) → IsReadRange r × (hsi ≤ slice_index r.rows 0) → IsFlashRange r
range_of r h = record { ordered = h.0.ordered; rows_some = h.0.rows_some; rows_few = h.0.rows_few; ascending = h.0.ascending; reset = h.1 }

flash_of : (rs : List FlashRange) → Kept (AreKept IsReadRange IsBelow) 0 16 rs → Each (λ (r : FlashRange). hsi ≤ slice_index r.rows 0) rs → AreFlash rs
flash_of rs k h = record {
  few = k.high;
  each = each_map (λ (r : FlashRange). IsReadRange r × (hsi ≤ slice_index r.rows 0)) IsFlashRange rs range_of (each_both IsReadRange (λ (r : FlashRange). hsi ≤ slice_index r.rows 0) rs k.kept.0 h);
  apart = k.kept.1;
}

-- ---- the whole

pub table_keeps : (d : Data) (t : TableParts) → table d ≡ Ok t → IsValid t
unfolding table
table_keeps d t h =
    let v = bound (top (number_within 1 2) (codes "version") d) _ t h in
    let n = bound (top (list 1 64 distinct_text) (codes "names") d) _ t v.2 in
    let g = bound (top text (codes "package") d) _ t n.2 in
    let p = bound (top (list 0 144 pin) (codes "pins") d) _ t g.2 in
    let s = bound (top (list 0 2000 (signal p.0)) (codes "signals") d) _ t p.2 in
    let o = bound (hse_names d) _ t s.2 in
    let i = bound (top (list 0 64 ip) (codes "ips") d) _ t o.2 in
    let c = bound (clock v.0 d) _ t i.2 in
    let l = bound (all_limits v.0 d) _ t c.2 in
    let b = bound (supply c.0.vos d) _ t l.2 in
    let w = bound (defaults c.0 d) _ t b.2 in
    let u : TableParts = record { version = v.0; names = n.0; «package» = g.0; pins = p.0; signals = s.0; hse_in = o.0.0; hse_out = o.0.1; ips = i.0; clock = c.0; limits = l.0.0; over = l.0.1; scales = b.0.0; flash = b.0.1; defaults = w.0.0; hse_hz = w.0.1 } in
    let last = legal_keeps u t w.2 in
    let fair : IsLegal u = reset_legal u last.0 in
    let names = top_keeps (Kept (AreKept IsText DifferTexts) 1 64) (list 1 64 distinct_text) (codes "names") d n.0 (λ path x e. list_keeps (AreKept IsText DifferTexts) 1 64 distinct_text path x n.0 (tt, tt) distinct_keeps e) n.1 in
    let texts = hse_names_keep d o.0 o.1 in
    let version = top_keeps (λ (k : ℕ). (1 ≤ k) × (k ≤ 2)) (number_within 1 2) (codes "version") d v.0 (λ path x e. number_keeps 1 2 path x v.0 e) v.1 in
    let limits = all_limits_keep v.0 d l.0 l.1 in
    let power = supply_keeps c.0.vos d b.0 b.1 in
    let values = defaults_keep c.0 d w.0 w.1 in
    let fine : IsValid u = record {
      names_some = names.low;
      names_few = names.high;
      names = names.kept.0;
      names_differ = names.kept.1;
      «package» = top_keeps IsText text (codes "package") d g.0 (λ path x e. text_keeps path x g.0 e) g.1;
      pins = top_keeps ArePins (list 0 144 pin) (codes "pins") d p.0 (λ path x e. pins_keep path x p.0 e) p.1;
      signals = top_keeps (AreSignals (length p.0)) (list 0 2000 (signal p.0)) (codes "signals") d s.0 (λ path x e. signals_keep p.0 path x s.0 e) s.1;
      hse_in = texts.0;
      hse_out = texts.1;
      ips = top_keeps AreIps (list 0 64 ip) (codes "ips") d i.0 (λ path x e. ips_keep path x i.0 e) i.1;
      clock = clock_keeps v.0 d c.0 c.1;
      limits = bounds_of l.0.0 limits.plain fair.plain.sysclk fair.plain.pclk1 fair.plain.pclk2;
      over = over_of v.0 l.0.1 (plain_speeds l.0.0) version limits.over fair.over;
      scales = scales_of c.0.vos b.0.0 power.0 fair.scales;
      flash = flash_of b.0.1 power.1 fair.flash;
      defaults = values.0;
      hse_hz = values.1;
    } in
    subst IsValid last.1 fine

-- the table that bytes say keeps every rule
pub tables_valid : (bytes : List ℕ) (t : TableParts) → tables_of bytes ≡ Ok t → IsValid t
unfolding tables_of
tables_valid bytes t h =
    let d = bound (due NotJson (json_of bytes)) _ t h in
    table_keeps d.0 t d.2
