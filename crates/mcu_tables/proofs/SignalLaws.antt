-- What the signals and the IPs of a table that is read keep.
use Rattle.std.proofs.Common.{◌≡◌, ◌≢◌, ℕ, ◌<◌, ◌≤◌, List, [], ◌∷◌, ◌++◌, length, false, not, Option, Some, None, Ok, refl, subst, arith, ◌∙◌}
use Rattle.std.specs.Prelude.{◌==◌, option_and_then, codes, IfSome}
use Rattle.std.specs.List.{list_any}
use Rattle.std.specs.Str.{bytes_eq}
use Rattle.std.proofs.lemmas.Grind.{common_steps}
use Rattle.std.proofs.lemmas.List.Quantifiers.{position-Some}
use Rattle.res_base.specs.Lists.{Each}
use Rattle.res_base.proofs.ListLemmas.{each_push, each_map}
use Rattle.table_members.specs.Json.{word, two}
use Rattle.res_model.specs.PinNames.{place}
use Rattle.table_members.specs.Forms.{below, due, may, member, optional, text, object, flag, number_within, list, any_text}
use Rattle.mcu_tables.specs.Table.{use_form, pin_named, row, alt_row, pin_row, no_rows, rows, real_name, signal_name, some_text, signal, clock48_form, ip_name, ip}
use Rattle.res_model.specs.Valid.{IsText, IsModeOf, HasRowsDue, AreRows, IsSignal, AreSignals, IsIp, AreIps}
use Rattle.res_model.proofs.PlaceLaws.{differ}
use Rattle.table_members.proofs.FormLaws.{bound, same_ok, due_some, must_holds, fresh_new, need_keeps, may_keeps, none_passes, text_keeps, number_keeps, Kept, list_keeps, AreKept, one_more}
use Rattle.mcu_tables.proofs.PinLaws.{not_true}
use Rattle.serde_json.specs.Data.{Data}
use Rattle.serde_json.specs.Find.{get}
use Rattle.table_members.specs.declared.fault.TableFault.TheVariants.{BadField}
use Rattle.res_model.specs.declared.table.Pin.{Pin}
use Rattle.res_model.specs.declared.table.Role.{Role}
use Rattle.res_model.specs.declared.table.Role.TheVariants as role
use Rattle.res_model.specs.declared.table.Mode.{Mode}
use Rattle.res_model.specs.declared.table.Mode.TheVariants as mode
use Rattle.res_model.specs.declared.table.PinUse.{PinUse}
use Rattle.res_model.specs.declared.table.TableSignal.{TableSignal}
use Rattle.res_model.specs.declared.table.Ip.{Ip}

-- ---- rows

abbrev pub IsRowOf : List Pin → Role → PinUse → Type 0
IsRowOf pins r u = (u.pin < length pins) × IsModeOf r u.mode

abbrev pub AreApart : PinUse → PinUse → Type 0
AreApart u v = u.pin ≢ v.pin

named_in : (pins : List Pin) (o : Option (List ℕ)) (i : ℕ) → option_and_then (place pins) o ≡ Some i → i < length pins
unfolding place
named_in pins None i h = absurd cc
named_in pins (Some name) i h = (position-Some (λ p. bytes_eq p.name name) pins i (record { name = []; port = 0; number = 0 }) h).0

named_within : (pins : List Pin) (d : Data) (i : ℕ) → pin_named pins d ≡ Some i → i < length pins
unfolding pin_named
named_within pins d i h = named_in pins (word d) i h

other_pin : (a b : ℕ) → (a == b) ≡ false → a ≢ b
other_pin a b h e = grind (arith, common_steps)

row_keeps : (pins : List Pin) (r : Role) (before : List PinUse) (path : List ℕ) (named : Option ℕ) (m : Mode) (u : PinUse)
    → ((i : ℕ) → named ≡ Some i → i < length pins) → IsModeOf r m
    → AreKept (IsRowOf pins r) AreApart before → row before path named m ≡ Ok u → AreKept (IsRowOf pins r) AreApart (before ++ u ∷ [])
row_keeps pins r before path named m u within fits kept h =
    let p = bound (due (BadField path) named) _ u h in
    let f = fresh_new path (list_any (λ v. v.pin == p.0) before) (record { pin = p.0; mode = m }) u p.2 in
    let fine : IsRowOf pins r (record { pin = p.0; mode = m }) = (within p.0 (due_some (BadField path) named p.0 p.1), fits) in
    one_more (IsRowOf pins r) AreApart before u kept (subst (IsRowOf pins r) f.1 fine)
    (each_map (λ v. (v.pin == p.0) ≡ false) (λ v. AreApart v u) before (λ v e. subst (λ (w : PinUse). AreApart v w) f.1 (other_pin v.pin p.0 e)) (none_passes (λ v. v.pin == p.0) before f.0))

alt_keeps : (pins : List Pin) (before : List PinUse) (path : List ℕ) (d : Data) (u : PinUse) → AreKept (IsRowOf pins role.Alt) AreApart before → alt_row pins before path d ≡ Ok u → AreKept (IsRowOf pins role.Alt) AreApart (before ++ u ∷ [])
unfolding alt_row
alt_keeps pins before path d u kept h =
    let ds = bound (due (BadField path) (two d)) _ u h in
    let p = bound (due (BadField path) (pin_named pins ds.0.0)) _ u ds.2 in
    let n = bound (number_within 0 15 path ds.0.1) _ u p.2 in
    let small = number_keeps 0 15 path ds.0.1 n.0 n.1 in
    let least : n.0 < 16 = omega (arith, small.1) in
    let at = due_some (BadField path) (pin_named pins ds.0.0) p.0 p.1 in
    row_keeps pins role.Alt before path (Some p.0) (mode.Alt n.0) u (λ i e. named_within pins ds.0.0 i (at ∙ e)) least kept n.2

pin_row_keeps : (pins : List Pin) (r : Role) (m : Mode) → IsModeOf r m → (before : List PinUse) (path : List ℕ) (d : Data) (u : PinUse) → AreKept (IsRowOf pins r) AreApart before → pin_row pins m before path d ≡ Ok u → AreKept (IsRowOf pins r) AreApart (before ++ u ∷ [])
unfolding pin_row
pin_row_keeps pins r m fits before path d u kept h = row_keeps pins r before path (pin_named pins d) m u (named_within pins d) fits kept h

are_rows : (pins : List Pin) (r : Role) (least : ℕ) (us : List PinUse) → Kept (AreKept (IsRowOf pins r) AreApart) least 16 us → HasRowsDue r us → AreRows (length pins) r us
are_rows pins r least us k due = record {
  few = k.high;
  at_pins = each_map (IsRowOf pins r) (λ (u : PinUse). u.pin < length pins) us (λ u h. h.0) k.kept.0;
  modes = each_map (IsRowOf pins r) (λ (u : PinUse). IsModeOf r u.mode) us (λ u h. h.1) k.kept.0;
  apart = k.kept.1;
  due = due;
}

no_row : (pins : List Pin) (r : Role) → HasRowsDue r [] → AreRows (length pins) r []
no_row pins r due = record { few = omega arith; at_pins = tt; modes = tt; apart = tt; due = due }

none_keep : (pins : List Pin) (r : Role) (path : List ℕ) (found : Option Data) (us : List PinUse) → HasRowsDue r [] → may no_rows [] path found ≡ Ok us → AreRows (length pins) r us
unfolding no_rows
none_keep pins r path found us due h = may_keeps (AreRows (length pins) r) no_rows [] path found us (no_row pins r due) (λ d e. absurd cc) h

pub rows_keep : (pins : List Pin) (r : Role) (path : List ℕ) (d : Data) (us : List PinUse) → rows pins r path d ≡ Ok us → AreRows (length pins) r us
unfolding rows
rows_keep pins role.Alt path d us h =
    need_keeps (AreRows (length pins) role.Alt) (list 1 16 (alt_row pins)) (below path (codes "at")) (get (codes "at") d) us
    (λ v e. let k = list_keeps (AreKept (IsRowOf pins role.Alt) AreApart) 1 16 (alt_row pins) (below path (codes "at")) v us (tt, tt) (alt_keeps pins) e in are_rows pins role.Alt 1 us k k.low) h
rows_keep pins role.Osc path d us h =
    need_keeps (AreRows (length pins) role.Osc) (list 1 16 (pin_row pins mode.Osc)) (below path (codes "at")) (get (codes "at") d) us
    (λ v e. let k = list_keeps (AreKept (IsRowOf pins role.Osc) AreApart) 1 16 (pin_row pins mode.Osc) (below path (codes "at")) v us (tt, tt) (pin_row_keeps pins role.Osc mode.Osc refl) e in are_rows pins role.Osc 1 us k k.low) h
rows_keep pins role.Analog path d us h =
    may_keeps (AreRows (length pins) role.Analog) (list 0 16 (pin_row pins mode.Analog)) [] (below path (codes "at")) (get (codes "at") d) us (no_row pins role.Analog tt)
    (λ v e. let k = list_keeps (AreKept (IsRowOf pins role.Analog) AreApart) 0 16 (pin_row pins mode.Analog) (below path (codes "at")) v us (tt, tt) (pin_row_keeps pins role.Analog mode.Analog refl) e in are_rows pins role.Analog 0 us k tt) h
rows_keep pins role.Input path d us h = none_keep pins role.Input (below path (codes "at")) (get (codes "at") d) us refl h
rows_keep pins role.Output path d us h = none_keep pins role.Output (below path (codes "at")) (get (codes "at") d) us refl h
rows_keep pins role.Exti path d us h = none_keep pins role.Exti (below path (codes "at")) (get (codes "at") d) us refl h

-- ---- signals

abbrev pub Differ : TableSignal → TableSignal → Type 0
Differ s u = s.name ≢ u.name

record IsName (before : List TableSignal) (name : List ℕ) : Type 0 where
  pub text : IsText name
  pub named : name ≢ codes "-"
  pub new : Each (λ (s : TableSignal). s.name ≢ name) before

abbrev IsReal : List ℕ → Type 0
IsReal w = IsText w × (w ≢ codes "-")

real_keeps : (path : List ℕ) (d : Data) (name : List ℕ) → real_name path d ≡ Ok name → IsReal name
unfolding real_name
real_keeps path d name h =
    let w = bound (text path d) _ name h in
    let n = must_holds (BadField path) (not (bytes_eq w.0 (codes "-"))) w.0 name w.2 in
    let fine : IsReal w.0 = (text_keeps path d w.0 w.1, differ w.0 (codes "-") (not_true (bytes_eq w.0 (codes "-")) n.0)) in
    subst IsReal n.1 fine

name_keeps : (before : List TableSignal) (path : List ℕ) (d : Data) (name : List ℕ) → signal_name before path d ≡ Ok name → IsName before name
unfolding signal_name
name_keeps before path d name h =
    let m = bound (real_name path d) _ name h in
    let f = fresh_new path (list_any (λ s. bytes_eq s.name m.0) before) m.0 name m.2 in
    let r = real_keeps path d m.0 m.1 in
    let fine : IsName before m.0 = record {
      text = r.0;
      named = r.1;
      new = each_map (λ s. bytes_eq s.name m.0 ≡ false) (λ (s : TableSignal). s.name ≢ m.0) before (λ s e. differ s.name m.0 e) (none_passes (λ s. bytes_eq s.name m.0) before f.0);
    } in
    subst (IsName before) f.1 fine

some_keeps : (path : List ℕ) (d : Data) (o : Option (List ℕ)) → some_text path d ≡ Ok o → IfSome o IsText
unfolding some_text
some_keeps path d o h =
    let w = bound (text path d) _ o h in
    subst (λ (x : Option (List ℕ)). IfSome x IsText) (same_ok (Some w.0) o w.2) (text_keeps path d w.0 w.1)

signal_keeps : (pins : List Pin) (before : List TableSignal) (path : List ℕ) (d : Data) (s : TableSignal) → AreKept (IsSignal (length pins)) Differ before → signal pins before path d ≡ Ok s → AreKept (IsSignal (length pins)) Differ (before ++ s ∷ [])
unfolding signal
signal_keeps pins before path d s kept h =
    let o = bound (object path d) _ s h in
    let n = bound (member (signal_name before) path (codes "name") o.0) _ s o.2 in
    let k = bound (member use_form path (codes "use") o.0) _ s n.2 in
    let i = bound (optional some_text None path (codes "ip") o.0) _ s k.2 in
    let dr = bound (optional flag false path (codes "drain") o.0) _ s i.2 in
    let at = bound (rows pins k.0 path o.0) _ s dr.2 in
    let name : IsName before n.0 = need_keeps (IsName before) (signal_name before) (below path (codes "name")) (get (codes "name") o.0) n.0 (λ v e. name_keeps before (below path (codes "name")) v n.0 e) n.1 in
    let fine : IsSignal (length pins) (record { name = n.0; role = k.0; ip = i.0; drain = dr.0; at = at.0 }) = record {
      text = name.text;
      named = name.named;
      ip = may_keeps (λ (x : Option (List ℕ)). IfSome x IsText) some_text None (below path (codes "ip")) (get (codes "ip") o.0) i.0 tt (λ v e. some_keeps (below path (codes "ip")) v i.0 e) i.1;
      rows = rows_keep pins k.0 path o.0 at.0 at.1;
    } in
    let is = same_ok (record { name = n.0; role = k.0; ip = i.0; drain = dr.0; at = at.0 }) s at.2 in
    one_more (IsSignal (length pins)) Differ before s kept (subst (IsSignal (length pins)) is fine)
    (each_map (λ (u : TableSignal). u.name ≢ n.0) (λ u. Differ u s) before (λ u e. subst (λ (x : TableSignal). Differ u x) is e) name.new)

pub signals_keep : (pins : List Pin) (path : List ℕ) (d : Data) (ss : List TableSignal) → list 0 2000 (signal pins) path d ≡ Ok ss → AreSignals (length pins) ss
signals_keep pins path d ss h =
    let k = list_keeps (AreKept (IsSignal (length pins)) Differ) 0 2000 (signal pins) path d ss (tt, tt) (signal_keeps pins) h in
    record { few = k.high; each = k.kept.0; differ = k.kept.1 }

-- ---- IPs

abbrev pub DifferIps : Ip → Ip → Type 0
DifferIps i j = i.name ≢ j.name

text_more : (before : List (List ℕ)) (path : List ℕ) (d : Data) (w : List ℕ) → Each IsText before → any_text before path d ≡ Ok w → Each IsText (before ++ w ∷ [])
unfolding any_text
text_more before path d w kept h = each_push IsText before w kept (text_keeps path d w h)

record IsIpName (before : List Ip) (name : List ℕ) : Type 0 where
  pub text : IsText name
  pub new : Each (λ (i : Ip). i.name ≢ name) before

ip_name_keeps : (before : List Ip) (path : List ℕ) (d : Data) (name : List ℕ) → ip_name before path d ≡ Ok name → IsIpName before name
unfolding ip_name
ip_name_keeps before path d name h =
    let w = bound (text path d) _ name h in
    let f = fresh_new path (list_any (λ i. bytes_eq i.name w.0) before) w.0 name w.2 in
    let fine : IsIpName before w.0 = record {
      text = text_keeps path d w.0 w.1;
      new = each_map (λ i. bytes_eq i.name w.0 ≡ false) (λ (i : Ip). i.name ≢ w.0) before (λ i e. differ i.name w.0 e) (none_passes (λ i. bytes_eq i.name w.0) before f.0);
    } in
    subst (IsIpName before) f.1 fine

abbrev Marks : List (List ℕ) → Type 0
Marks ms = (length ms ≤ 16) × Each IsText ms

ip_keeps : (before : List Ip) (path : List ℕ) (d : Data) (i : Ip) → AreKept IsIp DifferIps before → ip before path d ≡ Ok i → AreKept IsIp DifferIps (before ++ i ∷ [])
unfolding ip
ip_keeps before path d i kept h =
    let o = bound (object path d) _ i h in
    let n = bound (member (ip_name before) path (codes "name") o.0) _ i o.2 in
    let c = bound (member clock48_form path (codes "clock48") o.0) _ i n.2 in
    let f = bound (optional (number_within 0 168000000) 0 path (codes "floor") o.0) _ i c.2 in
    let m = bound (optional (list 0 16 any_text) [] path (codes "marks") o.0) _ i f.2 in
    let name : IsIpName before n.0 = need_keeps (IsIpName before) (ip_name before) (below path (codes "name")) (get (codes "name") o.0) n.0 (λ v e. ip_name_keeps before (below path (codes "name")) v n.0 e) n.1 in
    let marks : Marks m.0 = may_keeps Marks (list 0 16 any_text) [] (below path (codes "marks")) (get (codes "marks") o.0) m.0 (omega arith, tt) (λ v e. let k = list_keeps (Each IsText) 0 16 any_text (below path (codes "marks")) v m.0 tt text_more e in (k.high, k.kept)) m.1 in
    let fine : IsIp (record { name = n.0; clock48 = c.0; floor = f.0; marks = m.0 }) = record {
      text = name.text;
      floor = may_keeps (λ (x : ℕ). x ≤ 168000000) (number_within 0 168000000) 0 (below path (codes "floor")) (get (codes "floor") o.0) f.0 (omega arith) (λ v e. (number_keeps 0 168000000 (below path (codes "floor")) v f.0 e).1) f.1;
      marks_few = marks.0;
      marks = marks.1;
    } in
    let is = same_ok (record { name = n.0; clock48 = c.0; floor = f.0; marks = m.0 }) i m.2 in
    one_more IsIp DifferIps before i kept (subst IsIp is fine)
    (each_map (λ (j : Ip). j.name ≢ n.0) (λ j. DifferIps j i) before (λ j e. subst (λ (x : Ip). DifferIps j x) is e) name.new)

pub ips_keep : (path : List ℕ) (d : Data) (is : List Ip) → list 0 64 ip path d ≡ Ok is → AreIps is
ips_keep path d is h =
    let k = list_keeps (AreKept IsIp DifferIps) 0 64 ip path d is (tt, tt) ip_keeps h in
    record { few = k.high; each = k.kept.0; differ = k.kept.1 }
