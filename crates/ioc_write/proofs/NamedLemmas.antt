-- Keys that are changed are named.
use Rattle.std.proofs.Common.{◌≡◌, ◌⊎◌, ℕ, ◌||◌, List, Bool, true, false, cond, Option, Some, refl, ap, ◌∙◌, inl, inr}
use Rattle.std.specs.Prelude.{codes, is_some}
use Rattle.std.specs.Str.{bytes_eq}
use Rattle.std.proofs.lemmas.Slice.Eq.{bytes_eq-Decides}
use Rattle.ioc_text.specs.Lines.{is_clock_key, is_named, is_pin_key, is_single_key, pin_number}
use Rattle.ioc_write.specs.WriteBack.{clock_key, variable_of}
use Rattle.ioc_write.specs.declared.variable.Variable.{Variable}
use Rattle.ioc_write.specs.declared.variable.Variable.TheVariants as variable

or_true : (b : Bool) → b || true ≡ true
or_true true = refl
or_true false = refl

pub named_pin : (key : List ℕ) → is_some (pin_number key) ≡ true → is_named key ≡ true
unfolding is_named
named_pin key e = rw e (or_true (is_single_key key || is_clock_key key || is_pin_key key))

count_named : is_named (codes "Mcu.PinsNb") ≡ true
unfolding is_named is_single_key
count_named = refl

pub named_count : (key : List ℕ) → bytes_eq key (codes "Mcu.PinsNb") ≡ true → is_named key ≡ true
named_count key e = ap is_named ((bytes_eq-Decides key (codes "Mcu.PinsNb")).0 e) ∙ count_named

or_left : (a b c : Bool) → a ≡ true → (a || b) || c ≡ true
or_left true b c e = refl
or_left false b c e = absurd cc

clock_first : (key : List ℕ) → is_clock_key key ≡ true → is_named key ≡ true
unfolding is_named
clock_first key e = by (is_single_key key) (is_clock_key key) (is_pin_key key) (is_some (pin_number key)) e
  where
    by : (s c p n : Bool) → c ≡ true → ((s || c) || p) || n ≡ true
    by true c p n e = refl
    by false true p n e = refl
    by false false p n e = absurd cc

clock_keys : (v : Variable) → is_clock_key (clock_key v) ≡ true
unfolding is_clock_key
clock_keys variable.System = refl
clock_keys variable.Input = refl
clock_keys variable.Ahb = refl
clock_keys variable.P = refl
clock_keys variable.M = refl
clock_keys variable.N = refl
clock_keys variable.Q = refl
clock_keys variable.Apb1 = refl
clock_keys variable.Apb2 = refl

pub named_clock : (v : Variable) → is_named (clock_key v) ≡ true
named_clock v = clock_first (clock_key v) (clock_keys v)

pick : (b : Bool) (x v : Variable) (rest : Option Variable) → cond b (Some x) rest ≡ Some v → ((b ≡ true) × (x ≡ v)) ⊎ (rest ≡ Some v)
pick true x v rest e = inl (refl, cc)
pick false x v rest e = inr e

module _ (key : List ℕ) (v : Variable) where
  is_of : (x : Variable) → (bytes_eq key (clock_key x) ≡ true) × (x ≡ v) → key ≡ clock_key v
  is_of x h = (bytes_eq-Decides key (clock_key x)).0 h.0 ∙ ap clock_key h.1

  pub key_of_variable : variable_of key ≡ Some v → key ≡ clock_key v
  unfolding variable_of
  key_of_variable e = elim (pick (bytes_eq key (clock_key variable.System)) variable.System v _ e) [
    | inl h ↦ is_of variable.System h
    | inr e ↦ elim (pick (bytes_eq key (clock_key variable.Input)) variable.Input v _ e) [
      | inl h ↦ is_of variable.Input h
      | inr e ↦ elim (pick (bytes_eq key (clock_key variable.Ahb)) variable.Ahb v _ e) [
        | inl h ↦ is_of variable.Ahb h
        | inr e ↦ elim (pick (bytes_eq key (clock_key variable.P)) variable.P v _ e) [
          | inl h ↦ is_of variable.P h
          | inr e ↦ elim (pick (bytes_eq key (clock_key variable.M)) variable.M v _ e) [
            | inl h ↦ is_of variable.M h
            | inr e ↦ elim (pick (bytes_eq key (clock_key variable.N)) variable.N v _ e) [
              | inl h ↦ is_of variable.N h
              | inr e ↦ elim (pick (bytes_eq key (clock_key variable.Q)) variable.Q v _ e) [
                | inl h ↦ is_of variable.Q h
                | inr e ↦ elim (pick (bytes_eq key (clock_key variable.Apb1)) variable.Apb1 v _ e) [
                  | inl h ↦ is_of variable.Apb1 h
                  | inr e ↦ elim (pick (bytes_eq key (clock_key variable.Apb2)) variable.Apb2 v _ e) [
                    | inl h ↦ is_of variable.Apb2 h
                    | inr e ↦ absurd cc
                  ]
                ]
              ]
            ]
          ]
        ]
      ]
    ]
  ]
