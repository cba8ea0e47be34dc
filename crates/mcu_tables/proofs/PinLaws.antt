-- What the pins of a table that is read keep.
use Rattle.std.proofs.Common.{◌≡◌, ℕ, ◌<◌, ◌≤◌, ◌-◌, List, [], ◌∷◌, ◌++◌, Bool, true, false, not, Option, Some, None, Ok, refl, sym, ap, subst, arith, ◌&&◌, leb-true, ◌∙◌}
use Rattle.std.specs.Prelude.{nat_le, ◌==◌, option_and_then, if◌then◌else◌}
use Rattle.std.specs.List.{list_any}
use Rattle.std.specs.Str.{bytes_eq}
use Rattle.std.proofs.lemmas.Grind.{common_steps}
use Rattle.res_base.proofs.ListLemmas.{each_map}
use Rattle.res_model.specs.PinNames.{pin_number, ten_and, is_digit, begins_with_digit, spot}
use Rattle.table_members.specs.Forms.{due, text, list}
use Rattle.mcu_tables.specs.Table.{is_same_pin, pin}
use Rattle.res_model.specs.Valid.{IsPin, AreTwoPins, ArePins}
use Rattle.res_model.proofs.PlaceLaws.{differ}
use Rattle.table_members.proofs.FormLaws.{bound, due_some, fresh_new, both, neither, between, none_passes, text_keeps, list_keeps, AreKept, one_more}
use Rattle.serde_json.specs.Data.{Data}
use Rattle.table_members.specs.declared.fault.TableFault.TheVariants.{BadField}
use Rattle.res_model.specs.declared.table.Pin.{Pin}

-- ---- pins

pub not_true : (b : Bool) → not b ≡ true → b ≡ false
not_true true h = absurd cc
not_true false h = refl

digit_bounds : (a : ℕ) → is_digit a ≡ true → (48 ≤ a) × (a ≤ 57)
digit_bounds a h = between 48 a 57 h

ten_small : (bs : List ℕ) (n : ℕ) → ten_and bs ≡ Some n → n < 16
ten_small [] n h = absurd cc
ten_small (b ∷ bs) n h =
    elim (nat_le 48 b && nat_le b 53 && not (begins_with_digit bs)) as (λ t. (nat_le 48 b && nat_le b 53 && not (begins_with_digit bs)) ≡ t → (if t then Some (b - 38) else None) ≡ Some n → n < 16) [
      | true ↦ λ e k. let r = between 48 b 53 (both (nat_le 48 b && nat_le b 53) (not (begins_with_digit bs)) e).0 in let same : b - 38 ≡ n = cc in omega (arith, r.0, r.1, same)
      | false ↦ λ e k. absurd cc
    ] refl h

number_small : (w : List ℕ) (n : ℕ) → pin_number w ≡ Some n → n < 16
unfolding pin_number
number_small [] n h = absurd cc
number_small (a ∷ bs) n h =
    elim (is_digit a) as (λ t. is_digit a ≡ t → (if not t then None else (if not (begins_with_digit bs) then Some (a - 48) else (if a == 49 then ten_and bs else None))) ≡ Some n → n < 16) [
      | true ↦ λ d. elim (begins_with_digit bs) as (λ t. (if not t then Some (a - 48) else (if a == 49 then ten_and bs else None)) ≡ Some n → n < 16) [
        | true ↦ elim (a == 49) as (λ t. (if t then ten_and bs else None) ≡ Some n → n < 16) [ true ↦ λ k. ten_small bs n k | false ↦ λ k. absurd cc ]
        | false ↦ λ k. let r = digit_bounds a d in let same : a - 48 ≡ n = cc in omega (arith, r.0, r.1, same)
      ]
      | false ↦ λ d k. absurd cc
    ] refl h

numbered : (letter : ℕ) (o : Option ℕ) (s : ℕ × ℕ) → option_and_then (λ n. Some (letter - 65, n)) o ≡ Some s → (s.0 ≡ letter - 65) × (o ≡ Some s.1)
numbered letter None s h = absurd cc
numbered letter (Some n) s h =
    let e : (letter - 65, n) ≡ s = cc in
    (sym (ap (λ (p : ℕ × ℕ). p.0) e), ap (λ (p : ℕ × ℕ). Some p.1) e)

spot_small : (w : List ℕ) (s : ℕ × ℕ) → spot w ≡ Some s → (s.0 < 9) × (s.1 < 16)
unfolding spot
spot_small [] s h = absurd cc
spot_small (p ∷ []) s h = absurd cc
spot_small (p ∷ letter ∷ bs) s h =
    elim ((p == 80) && nat_le 65 letter && nat_le letter 73) as (λ t. ((p == 80) && nat_le 65 letter && nat_le letter 73) ≡ t → (if t then option_and_then (λ n. Some (letter - 65, n)) (pin_number bs) else None) ≡ Some s → (s.0 < 9) × (s.1 < 16)) [
      | true ↦ λ e k.
          let t = both ((p == 80) && nat_le 65 letter) (nat_le letter 73) e in
          let n = numbered letter (pin_number bs) s k in
          let low = leb-true letter 73 t.1 in
          let same : s.0 ≡ letter - 65 = n.0 in
          (omega (arith, low, same), number_small bs s.1 n.1)
      | false ↦ λ e k. absurd cc
    ] refl h

two_pins : (name : List ℕ) (s : ℕ × ℕ) (q p : Pin) → p ≡ record { name = name; port = s.0; number = s.1 } → is_same_pin name s q ≡ false → AreTwoPins q p
two_pins name s q p is h =
    let n = neither (bytes_eq q.name name) (q.port == s.0 && q.number == s.1) h in
    let named : p.name ≡ name = ap (λ (r : Pin). r.name) is in
    let port : p.port ≡ s.0 = ap (λ (r : Pin). r.port) is in
    let number : p.number ≡ s.1 = ap (λ (r : Pin). r.number) is in
    record { names = λ e. differ q.name name n.0 (e ∙ named); places = λ e k. grind (arith, common_steps, n.1, port, number, e, k) }

pub pin_keeps : (before : List Pin) (path : List ℕ) (d : Data) (p : Pin) → AreKept IsPin AreTwoPins before → pin before path d ≡ Ok p → AreKept IsPin AreTwoPins (before ++ p ∷ [])
unfolding pin
pin_keeps before path d p kept h =
    let w = bound (text path d) _ p h in
    let s = bound (due (BadField path) (spot w.0)) _ p w.2 in
    let f = fresh_new path (list_any (is_same_pin w.0 s.0) before) (record { name = w.0; port = s.0.0; number = s.0.1 }) p s.2 in
    let at : spot w.0 ≡ Some s.0 = due_some (BadField path) (spot w.0) s.0 s.1 in
    let small = spot_small w.0 s.0 at in
    let fine : IsPin (record { name = w.0; port = s.0.0; number = s.0.1 }) = record { text = text_keeps path d w.0 w.1; named = at; on_port = record { port = small.0; number = small.1 } } in
    one_more IsPin AreTwoPins before p kept (subst IsPin f.1 fine) (each_map (λ q. is_same_pin w.0 s.0 q ≡ false) (λ q. AreTwoPins q p) before (λ q e. two_pins w.0 s.0 q p (sym f.1) e) (none_passes (is_same_pin w.0 s.0) before f.0))

pub pins_keep : (path : List ℕ) (d : Data) (ps : List Pin) → list 0 144 pin path d ≡ Ok ps → ArePins ps
pins_keep path d ps h =
    let k = list_keeps (AreKept IsPin AreTwoPins) 0 144 pin path d ps (tt, tt) pin_keeps h in
    record { few = k.high; each = k.kept.0; differ = k.kept.1 }

-- ---- the place of a pin
