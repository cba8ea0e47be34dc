-- The value of a key in the text that is written, by that in the text that was read.
use Rattle.std.proofs.Common.{◌≡◌, ◌⊎◌, ℕ, ◌==◌, List, [], ◌∷◌, ◌++◌, true, false, Option, Some, None, refl, sym, ap, ◌∙◌, subst, inl, inr}
use Rattle.std.specs.Prelude.{codes, is_some}
use Rattle.std.specs.List.{flat_map}
use Rattle.std.specs.Str.{bytes_eq}
use Rattle.res_base.specs.Lists.{Member}
use Rattle.res_base.proofs.ListLemmas.{member_left, member_right, member_split}
use Rattle.res_model.specs.PinNames.{place}
use Rattle.ioc_text.specs.Lines.{pin_number}
use Rattle.problem.specs.declared.parts.ProblemParts.{ProblemParts}
use Rattle.ioc_lines.specs.Entries.{AreApart, Entry, Near, lookup}
use Rattle.ioc_lines.specs.Lines.{last_of, pin_part}
use Rattle.ioc_lines.proofs.LookupLemmas.{in_lookup, lookup_in, lookup_out, out_lookup}
use Rattle.ioc_lines.proofs.TextCuts.{last_one}
use Rattle.ioc_write.specs.Reading.{changed, entry_said}
use Rattle.ioc_write.specs.WriteBack.{fate_at, fate_named, keyed_by, uses_of, variable_of}
use Rattle.ioc_write.specs.declared.fate.Fate.{Fate}
use Rattle.ioc_write.specs.declared.fate.Fate.TheVariants as fate
use Rattle.ioc_write.proofs.ApartLemmas.{FarFrom}
use Rattle.ioc_write.proofs.ChangeLemmas.{Becomes, BecomesOne, IsSet, becomes, by_kept, is_nothing, is_one, one_key, with_other}
use Rattle.ioc_write.proofs.PinNames.{begins_with_p, place_name}
use Rattle.ioc_write.proofs.TextBack.{NearAll}

abbrev pub DoesNotEndInCr : List ℕ → Type 0
DoesNotEndInCr v = (last_of v == 13) ≡ false

-- ---- members

pub near_value : (v w : List ℕ) → Near v w → DoesNotEndInCr v → v ≡ w
near_value v w (inl e) n = e
near_value v w (inr e) n =
    let yes : (last_of v == 13) ≡ true = ap (λ (x : List ℕ). last_of x == 13) e ∙ ap (λ (b : ℕ). b == 13) (last_one w 13) in
    absurd cc

pub near_member : (es fs : List Entry) (key v : List ℕ) → NearAll es fs → Member (key, v) es → DoesNotEndInCr v → Member (key, v) fs
near_member [] fs key v n m d = absurd m
near_member (e ∷ es) [] key v n m d = absurd n
near_member (e ∷ es) (f ∷ fs) key v n (inl q) d =
    let k : key ≡ e.0 = ap (λ (x : Entry). x.0) q in
    let w : v ≡ e.1 = ap (λ (x : Entry). x.1) q in
    let same : e.1 ≡ f.1 = near_value e.1 f.1 n.0.1 (subst DoesNotEndInCr w d) in
    inl (ap (λ (x : List ℕ). (x, v)) (k ∙ n.0.0) ∙ ap (λ (x : List ℕ). (f.0, x)) (w ∙ same))
near_member (e ∷ es) (f ∷ fs) key v n (inr m) d = inr (near_member es fs key v n.1 m d)

-- an entry near to one
pub record NearTo (es : List Entry) (key w : List ℕ) : Type 0 where
  pub value : List ℕ
  pub member : Member (key, value) es
  pub near : Near value w

pub member_near : (es fs : List Entry) (key w : List ℕ) → NearAll es fs → Member (key, w) fs → NearTo es key w
member_near [] [] key w n m = absurd m
member_near [] (f ∷ fs) key w n m = absurd n
member_near (e ∷ es) [] key w n m = absurd m
member_near (e ∷ es) (f ∷ fs) key w n (inl q) =
    let k : key ≡ f.0 = ap (λ (x : Entry). x.0) q in
    let v : w ≡ f.1 = ap (λ (x : Entry). x.1) q in
    record { value = e.1; member = inl (ap (λ (x : List ℕ). (x, e.1)) (k ∙ sym n.0.0)); near = subst (Near e.1) (sym v) n.0.1 }
member_near (e ∷ es) (f ∷ fs) key w n (inr m) = let r = member_near es fs key w n.1 m in record { value = r.value; member = inr r.member; near = r.near }

pub flat_member : (g : Entry → List Entry) (es : List Entry) (e f : Entry) → Member e es → Member f (g e) → Member f (flat_map g es)
flat_member g [] e f m n = absurd m
flat_member g (x ∷ xs) e f (inl q) n = member_left f (g x) (flat_map g xs) (subst (λ (y : Entry). Member f (g y)) q n)
flat_member g (x ∷ xs) e f (inr m) n = member_right f (g x) (flat_map g xs) (flat_member g xs e f m n)

pub record From (g : Entry → List Entry) (es : List Entry) (f : Entry) : Type 0 where
  pub entry : Entry
  pub member : Member entry es
  pub gives : Member f (g entry)

pub member_flat : (g : Entry → List Entry) (es : List Entry) (f : Entry) → Member f (flat_map g es) → From g es f
member_flat g [] f m = absurd m
member_flat g (x ∷ xs) f m = elim (member_split f (g x) (flat_map g xs) m) [
  | inl here ↦ record { entry = x; member = inl refl; gives = here }
  | inr there ↦ let r = member_flat g xs f there in record { entry = r.entry; member = inr r.member; gives = r.gives }
]

-- a key of the whole project
pub record IsPlainKey (key : List ℕ) : Type 0 where
  pub number : is_some (pin_number key) ≡ false
  pub count : bytes_eq key (codes "Mcu.PinsNb") ≡ false
  pub variable : variable_of key ≡ None
  pub part : (bs : List ℕ) → pin_part key ≡ 80 ∷ bs → ⊥

-- ---- the value of a key

module _ (p : ProblemParts) (at : List ℕ) (set : IsSet p at) (pins : ℕ) (es prefix more : List Entry) (apart : AreApart es) (near : NearAll (flat_map (changed p at pins) es) prefix) (all : AreApart (prefix ++ more)) where
  -- what an entry becomes is there
  pub becomes_there : (key v next w : List ℕ) → Member (key, v) es → changed p at pins (key, v) ≡ (next, w) ∷ [] → DoesNotEndInCr w → lookup (prefix ++ more) next ≡ Some w
  becomes_there key v next w m e d =
      let there : Member (next, w) (changed p at pins (key, v)) = subst (Member (next, w)) (sym e) (inl refl) in
      lookup_in (prefix ++ more) next w all (member_left (next, w) prefix more (near_member (flat_map (changed p at pins) es) prefix next w near (flat_member (changed p at pins) es (key, v) (next, w) m there) d))

  pub lookup_to : (key v w : List ℕ) → lookup es key ≡ Some v → changed p at pins (key, v) ≡ (key, w) ∷ [] → DoesNotEndInCr w → lookup (prefix ++ more) key ≡ Some w
  lookup_to key v w l e d = becomes_there key v key w (in_lookup es key v l) e d

  pub lookup_added : (key v : List ℕ) → Member (key, v) more → lookup (prefix ++ more) key ≡ Some v
  lookup_added key v m = lookup_in (prefix ++ more) key v all (member_right (key, v) prefix more m)

  reached : (e f : Entry) (fs : List Entry) → BecomesOne p at e fs → Member f fs → Becomes p at e.0 f.0
  reached e f fs (is_nothing q) m = absurd (subst (Member f) q m)
  reached e f fs (is_one g q b) m = by (subst (Member f) q m)
    where
      by : Member f (g ∷ []) → Becomes p at e.0 f.0
      by (inl s) = subst (λ (x : Entry). Becomes p at e.0 x.0) (sym s) b
      by (inr n) = absurd n

  far_member : (key v : List ℕ) (fs : List Entry) → FarFrom key fs → Member (key, v) fs → ⊥
  far_member key v [] h m = m
  far_member key v (f ∷ fs) h (inl q) = h.0 (ap (λ (x : Entry). x.0) q)
  far_member key v (f ∷ fs) h (inr m) = far_member key v fs h.1 m

  -- a key that no entry's key becomes, and that is not appended
  pub nowhere : (key : List ℕ) → ((e : Entry) → Member e es → Becomes p at e.0 key → ⊥) → FarFrom key more → lookup (prefix ++ more) key ≡ None
  nowhere key none far = lookup_out (prefix ++ more) key (λ w m. by w (member_split (key, w) prefix more m))
    where
      by : (w : List ℕ) → Member (key, w) prefix ⊎ Member (key, w) more → ⊥
      by w (inl m) =
          let n = member_near (flat_map (changed p at pins) es) prefix key w near m in
          let f = member_flat (changed p at pins) es (key, n.value) n.member in
          none f.entry f.member (reached f.entry (key, n.value) (changed p at pins f.entry) (becomes p at pins f.entry) f.gives)
      by w (inr m) = far_member key w more far m

  pub lookup_none : (key : List ℕ) → Becomes p at key key → lookup es key ≡ None → FarFrom key more → lookup (prefix ++ more) key ≡ None
  lookup_none key b l far = nowhere key (λ e m r. (let is : e.0 ≡ key = one_key p at set e.0 key key r b in
      out_lookup es key e.1 apart l (subst (λ (k : List ℕ). Member (k, e.1) es) is m))) far

  -- ---- keys that stay as they are

  -- a pin part that is the name of no pin
  pub fate_stays : (name : List ℕ) → ((bs : List ℕ) → name ≡ 80 ∷ bs → ⊥) → fate_named p at name ≡ fate.Kept
  unfolding fate_named
  fate_stays name n = by (place p.tables.pins name) refl
    where
      by : (o : Option ℕ) → place p.tables.pins name ≡ o → fate_at p.signals (uses_of p at) o ≡ fate.Kept
      by None e = refl
      by (Some h) e =
          let r = place_name p.tables set.are name h e in
          let b = begins_with_p p.tables set.are h r.1 in
          absurd (n b.0 (sym r.0 ∙ b.1))

  pub stays : (key : List ℕ) → IsPlainKey key → FarFrom key more → ((v : List ℕ) → lookup es key ≡ Some v → DoesNotEndInCr v) → lookup es key ≡ lookup (prefix ++ more) key
  stays key k far ends = by (lookup es key) refl
    where
      by : (o : Option (List ℕ)) → lookup es key ≡ o → lookup es key ≡ lookup (prefix ++ more) key
      by None e = e ∙ sym (lookup_none key (by_kept refl (fate_stays (pin_part key) k.part)) e far)
      by (Some v) e =
          let other = with_other p at pins (key, v) k.number k.count None k.variable in
          let is : changed p at pins (key, v) ≡ (key, v) ∷ [] = other ∙ ap (λ (f : Fate). entry_said p at pins (key, v) (keyed_by f)) (fate_stays (pin_part key) k.part) in
          e ∙ sym (lookup_to key v v e is (ends v e))
