-- Lines, one after another.
use Rattle.std.proofs.Common.{◌≡◌, ℕ, zero, suc, ◌+◌, ◌<◌, ◌≤◌, List, [], ◌∷◌, ◌++◌, length, drop, max, true, false, Option, Some, None, Result, Ok, Err, get_or, refl, sym, ap, ◌∙◌, append_assoc, inl, inr, arith}
use Rattle.res_base.proofs.SumLemmas.{bool_cases}
use Rattle.res_model.specs.Steps.{◌>>=◌, with_prefix}
use Rattle.res_model.specs.declared.project.Signal.{Signal}
use Rattle.res_model.specs.declared.table.Mode.TheVariants.{Held}
use Rattle.res_model.specs.declared.table.PinUse.{PinUse}
use Rattle.res_model.specs.declared.table.TableParts.{TableParts}
use Rattle.refusal.specs.declared.refusal.Refusal.{Refusal}
use Rattle.refusal.specs.declared.refusal.Refusal.TheVariants.{Fault, OutOfMemory}
use Rattle.refusal.specs.Refusals.{Refuses}
use Rattle.ioc_lines.specs.Lines.{TextLine, keyed}
use Rattle.ioc_write.specs.Survey.{above}
use Rattle.ioc_write.specs.WriteBack.{needs_lines, needs_of, number_on, pin_entry, pin_name, pin_numbers, signal_entry}
use Rattle.ioc_write.specs.declared.fault.BackFault.{BackFault}
use Rattle.ioc_write.proofs.Fates.{next_of}

abbrev Bytes : Type 0
Bytes = Result (List ℕ) BackFault

abbrev pub both : Bytes → Bytes → Bytes
both r more = r >>= λ prefix. more >>= λ rest. Ok (prefix ++ rest)

ok_same : (a b : List ℕ) → (let r : Bytes = Ok a in r) ≡ Ok b → a ≡ b
ok_same a b e = cc

-- a line was written
pub line_put : (out next : List ℕ) (r more : Bytes) → with_prefix out r ≡ Ok next → with_prefix next more ≡ with_prefix out (both r more)
line_put out next (Err e) more h = absurd cc
line_put out next (Ok prefix) (Err e) h = refl
line_put out next (Ok prefix) (Ok rest) h = let same : out ++ prefix ≡ next = cc in rw (sym same) (ap Ok (append_assoc out prefix rest))

err_prefix : (out : List ℕ) (r : Bytes) (e : BackFault) → with_prefix out r ≡ Err e → r ≡ Err e
err_prefix out (Ok prefix) e h = absurd cc
err_prefix out (Err f) e h = h

err_both : (out : List ℕ) (r more : Bytes) (e : BackFault) → with_prefix out r ≡ Err e → with_prefix out (both r more) ≡ Err e
err_both out r more e h = rw (err_prefix out r e h) refl

-- a line was refused
pub line_refused : (e : Refusal BackFault) (out : List ℕ) (r more : Bytes) → Refuses e (with_prefix out r) → Refuses e (with_prefix out (both r more))
line_refused (Fault fault) out r more h = err_both out r more fault h
line_refused OutOfMemory out r more h = tt

-- ---- what keys say together

module _ (l : TextLine) (ls : List TextLine) where
  pub no_pin : number_on (keyed l.says) ≡ None → pin_numbers (l ∷ ls) ≡ pin_numbers ls
  no_pin e = rw e refl

  pub one_pin : (n : ℕ) → number_on (keyed l.says) ≡ Some n → pin_numbers (l ∷ ls) ≡ n ∷ pin_numbers ls
  one_pin n e = rw e refl

pub greater_of : (n a rest all : ℕ) (last : Option ℕ) → a ≡ max (n + 1) (above last) → max (above last) (max (n + 1) rest) ≡ all → max a rest ≡ all
greater_of n a rest all last e h = omega arith

-- ---- needs

needs_first : (s : Signal) (ss : List Signal) → s.need ≡ true → needs_of (s ∷ ss) ≡ suc (needs_of ss)
needs_first s ss e = rw e refl

needs_rest : (s : Signal) (ss : List Signal) → s.need ≡ false → needs_of (s ∷ ss) ≡ needs_of ss
needs_rest s ss e = rw e refl

pub needs_few : (ss : List Signal) → needs_of ss ≤ length ss
needs_few [] = omega arith
needs_few (s ∷ ss) = elim (bool_cases s.need) [
  | inl e ↦ let n = needs_first s ss e in omega (arith, n, needs_few ss)
  | inr e ↦ let n = needs_rest s ss e in omega (arith, n, needs_few ss)
]

pub some_use : (us : List PinUse) (k : ℕ) → PinUse
some_use us k = get_or us k (record { pin = 0; mode = Held })

pub some_is : (us : List PinUse) (k : ℕ) → some_use us k ≡ get_or us k (some_use us k)
unfolding some_use
some_is us k = same_read us k (record { pin = 0; mode = Held })
  where
    same_read : (xs : List PinUse) (k : ℕ) (d : PinUse) → get_or xs k d ≡ get_or xs k (get_or xs k d)
    same_read [] k d = refl
    same_read (x ∷ xs) zero d = refl
    same_read (x ∷ xs) (suc k) d = same_read xs k d

read_either : (xs : List PinUse) (k : ℕ) (d e : PinUse) → k < length xs → get_or xs k d ≡ get_or xs k e
read_either [] k d e l = absurd (omega arith)
read_either (x ∷ xs) zero d e l = refl
read_either (x ∷ xs) (suc k) d e l = read_either xs k d e (omega arith)

pub named_use : (t : TableParts) (us : List PinUse) (k : ℕ) (d : PinUse) (pin : List ℕ) → k < length us → pin ≡ pin_name t (get_or us k d).pin → pin ≡ pin_name t (some_use us k).pin
unfolding some_use
named_use t us k d pin l e = e ∙ ap (λ (u : PinUse). pin_name t u.pin) (read_either us k d (record { pin = 0; mode = Held }) l)

module _ (t : TableParts) (ss : List Signal) (us : List PinUse) (k : ℕ) (s : Signal) (u : PinUse) (lt : k < length ss) (many : length us ≡ length ss) (is : s ≡ get_or ss k s) (used : u ≡ get_or us k u) where
  heads : (drop k ss ≡ s ∷ drop (k + 1) ss) × (drop k us ≡ u ∷ drop (k + 1) us)
  heads = (next_of ss k s lt is, next_of us k u (omega arith) used)

  pub need_put : (n : ℕ) (out next pin signal : List ℕ) → s.need ≡ true → pin ≡ pin_name t u.pin → signal ≡ s.name → next ≡ (out ++ pin_entry n pin) ++ signal_entry pin signal
      → next ++ needs_lines t (n + 1) (drop (k + 1) ss) (drop (k + 1) us) ≡ out ++ needs_lines t n (drop k ss) (drop k us)
  need_put n out next pin signal e p q h =
      let rest = needs_lines t (n + 1) (drop (k + 1) ss) (drop (k + 1) us) in
      let one : needs_lines t n (drop k ss) (drop k us) ≡ (pin_entry n pin ++ signal_entry pin signal) ++ rest = rw (heads.0, heads.1, e, p, q) refl in
      ap (λ (x : List ℕ). x ++ rest) (h ∙ append_assoc out (pin_entry n pin) (signal_entry pin signal))
      ∙ append_assoc out (pin_entry n pin ++ signal_entry pin signal) rest
      ∙ ap (λ (x : List ℕ). out ++ x) (sym one)

  pub no_need : (n : ℕ) → s.need ≡ false → needs_lines t n (drop (k + 1) ss) (drop (k + 1) us) ≡ needs_lines t n (drop k ss) (drop k us)
  no_need n e = rw (heads.0, heads.1, e) refl

  pub need_counted : s.need ≡ true → needs_of (drop k ss) ≡ suc (needs_of (drop (k + 1) ss))
  need_counted e = ap needs_of heads.0 ∙ needs_first s (drop (k + 1) ss) e

  pub none_counted : s.need ≡ false → needs_of (drop k ss) ≡ needs_of (drop (k + 1) ss)
  none_counted e = ap needs_of heads.0 ∙ needs_rest s (drop (k + 1) ss) e
