-- The lines of a pin in the text that is written, by those of the pin from which its signal comes.
use Rattle.std.proofs.Common.{◌≡◌, ℕ, ◌<◌, ◌==◌, List, [], ◌∷◌, ◌++◌, length, Bool, cond, Option, Some, None, refl, sym, ap, ◌∙◌, subst, inl, inr, arith}
use Rattle.std.specs.Prelude.{codes, is_some}
use Rattle.std.specs.List.{flat_map}
use Rattle.std.specs.Str.{bytes_eq}
use Rattle.std.proofs.lemmas.Bool.Decides.{nat_tests}
use Rattle.res_base.specs.Lists.{Member}
use Rattle.res_base.proofs.SumLemmas.{bool_cases}
use Rattle.res_model.specs.PinNames.{place}
use Rattle.ioc_text.specs.Lines.{pin_number}
use Rattle.problem.specs.declared.parts.ProblemParts.{ProblemParts}
use Rattle.ioc_lines.specs.Entries.{AreApart, Entry, lookup}
use Rattle.ioc_lines.specs.Lines.{last_dot, pin_part}
use Rattle.ioc_lines.proofs.KeyLemmas.{no_count, no_number, part_is, parts_same, rest_is}
use Rattle.ioc_lines.proofs.LookupLemmas.{in_lookup, out_lookup}
use Rattle.ioc_write.specs.Reading.{changed, entry_said}
use Rattle.ioc_write.specs.WriteBack.{fate_named, fate_of, keyed_by, pin_name, uses_of, variable_of}
use Rattle.ioc_write.specs.declared.fate.Fate.{Fate}
use Rattle.ioc_write.specs.declared.fate.Fate.TheVariants as fate
use Rattle.ioc_write.proofs.ApartLemmas.{FarFrom}
use Rattle.ioc_write.proofs.ChangeLemmas.{Becomes, IsSet, fate_of_name, by_kept, key_moves, by_moved, no_variable_of, by_same, with_other}
use Rattle.ioc_write.proofs.LookBack.{DoesNotEndInCr, becomes_there, nowhere}
use Rattle.ioc_write.proofs.MoveLemmas.{Move, goes_to, kept_home, moves, one_home}
use Rattle.ioc_write.proofs.PinNames.{begins_with_p, name_place}
use Rattle.ioc_write.proofs.TextBack.{NearAll}

some_same : (a b : ℕ) → Some a ≡ Some b → a ≡ b
some_same a b e = cc

module _ (p : ProblemParts) (at : List ℕ) (set : IsSet p at) (pins : ℕ) (es prefix more : List Entry) (apart : AreApart es) (near : NearAll (flat_map (changed p at pins) es) prefix) (all : AreApart (prefix ++ more))
    (m : Move) (i : Member m (moves p.signals (uses_of p at))) (h : ℕ) (home : m.0.home ≡ Some h) (inside : h < length p.tables.pins) (within : m.1.pin < length p.tables.pins) (x : List ℕ) (dotless : last_dot x ≡ None) where
  abbrev old : List ℕ
  old = pin_name p.tables h ++ 46 ∷ x

  abbrev new : List ℕ
  new = pin_name p.tables m.1.pin ++ 46 ∷ x

  old_first : (bs : List ℕ) × (old ≡ 80 ∷ bs)
  old_first = let b = begins_with_p p.tables set.are h inside in (b.0 ++ 46 ∷ x, ap (λ (n : List ℕ). n ++ 46 ∷ x) b.1)

  new_first : (bs : List ℕ) × (new ≡ 80 ∷ bs)
  new_first = let b = begins_with_p p.tables set.are m.1.pin within in (b.0 ++ 46 ∷ x, ap (λ (n : List ℕ). n ++ 46 ∷ x) b.1)

  its_fate : fate_named p at (pin_part old) ≡ cond (m.1.pin == h) fate.Kept (fate.Moved m.1.pin)
  its_fate =
      ap (fate_named p at) (part_is (pin_name p.tables h) x dotless) ∙ fate_of_name p at set h inside ∙ goes_to p.signals (uses_of p at) set.pins set.homes m h i home

  other : (y : List ℕ) → changed p at pins (old, y) ≡ entry_said p at pins (old, y) (keyed_by (cond (m.1.pin == h) fate.Kept (fate.Moved m.1.pin)))
  other y =
      let b = old_first in
      with_other p at pins (old, y) (ap (λ (k : List ℕ). is_some (pin_number k)) b.1 ∙ ap is_some (no_number b.0)) (ap (λ (k : List ℕ). bytes_eq k (codes "Mcu.PinsNb")) b.1 ∙ no_count b.0) None
      (ap variable_of b.1 ∙ no_variable_of b.0)
      ∙ ap (λ (f : Fate). entry_said p at pins (old, y) (keyed_by f)) its_fate

  becomes_new : (y : List ℕ) → changed p at pins (old, y) ≡ (new, y) ∷ []
  becomes_new y = elim (bool_cases (m.1.pin == h)) [
    | inl t ↦
        let stays : m.1.pin ≡ h = grind (arith, nat_tests) in
        other y ∙ ap (λ (b : Bool). entry_said p at pins (old, y) (keyed_by (cond b fate.Kept (fate.Moved m.1.pin)))) t
        ∙ ap (λ (n : ℕ). (pin_name p.tables n ++ 46 ∷ x, y) ∷ []) (sym stays)
    | inr n ↦
        other y ∙ ap (λ (b : Bool). entry_said p at pins (old, y) (keyed_by (cond b fate.Kept (fate.Moved m.1.pin)))) n
        ∙ ap (λ (r : List ℕ). (pin_name p.tables m.1.pin ++ r, y) ∷ []) (rest_is (pin_name p.tables h) x dotless)
  ]

  -- a line of the pin goes along
  pub pin_line_to : (y : List ℕ) → lookup es old ≡ Some y → DoesNotEndInCr y → lookup (prefix ++ more) new ≡ Some y
  pin_line_to y e d = becomes_there p at set pins es prefix more apart near all old y new y (in_lookup es old y e) (becomes_new y) d

  not_there : (e : Entry) → Member e es → lookup es old ≡ None → e.0 ≡ old → ⊥
  not_there e j n s = out_lookup es old e.1 apart n (subst (λ (k : List ℕ). Member (k, e.1) es) s j)

  from_none : lookup es old ≡ None → (e : Entry) → Member e es → Becomes p at e.0 new → ⊥
  from_none n e j (by_same s special) = special new_first.0 (sym s ∙ new_first.1)
  from_none n e j (by_kept s k) =
      let part : pin_part e.0 ≡ pin_name p.tables m.1.pin = ap pin_part (sym s) ∙ part_is (pin_name p.tables m.1.pin) x dotless in
      let stays : fate_of p.signals (uses_of p at) m.1.pin ≡ fate.Kept = sym (fate_of_name p at set m.1.pin within) ∙ ap (fate_named p at) (sym part) ∙ k in
      let there : m.0.home ≡ Some m.1.pin = kept_home p.signals (uses_of p at) set.pins set.homes m.1.pin m i refl stays in
      let is : h ≡ m.1.pin = some_same h m.1.pin (sym home ∙ there) in
      not_there e j n (sym s ∙ ap (λ (k : ℕ). pin_name p.tables k ++ 46 ∷ x) (sym is))
  from_none n e j (by_moved r f s) =
      let k = key_moves p at set e.0 new r f s in
      let parts = parts_same (pin_name p.tables r) k.dots.rest (pin_name p.tables m.1.pin) x k.dots.none dotless (sym k.is) in
      let pin : r ≡ m.1.pin = some_same r m.1.pin (sym (name_place p.tables set.are r k.inside) ∙ ap (place p.tables.pins) parts.0 ∙ name_place p.tables set.are m.1.pin within) in
      let g = k.moving.goes in
      let one = one_home p.signals (uses_of p at) set.pins set.homes g.move m g.member i (g.goes ∙ pin) in
      let is : k.moving.home ≡ h = some_same k.moving.home h (sym g.home ∙ one ∙ home) in
      not_there e j n (k.dots.is ∙ ap (λ (a : List ℕ). a ++ 46 ∷ k.dots.rest) (sym k.moving.there ∙ ap (pin_name p.tables) is) ∙ ap (λ (a : List ℕ). pin_name p.tables h ++ 46 ∷ a) parts.1)

  -- and where the pin had none, there is none
  pub pin_line_none : lookup es old ≡ None → FarFrom new more → lookup (prefix ++ more) new ≡ None
  pin_line_none n far = nowhere p at set pins es prefix more apart near all new (from_none n) far

  -- so the line is the same
  pub pin_line_same : ((y : List ℕ) → lookup es old ≡ Some y → DoesNotEndInCr y) → FarFrom new more → lookup es old ≡ lookup (prefix ++ more) new
  pin_line_same ends far = by (lookup es old) refl
    where
      by : (o : Option (List ℕ)) → lookup es old ≡ o → lookup es old ≡ lookup (prefix ++ more) new
      by None e = e ∙ sym (pin_line_none e far)
      by (Some y) e = e ∙ sym (pin_line_to y e (ends y e))
