-- Names and keys, byte by byte.
use Rattle.std.proofs.Common.{◌≡◌, ℕ, arith, ◌+◌, ◌<◌, ◌==◌, List, ◌∷◌, ◌++◌, length, drop, get_or, cond, Option, Some, None, refl, sym, ap, ◌∙◌, append_assoc, inl, inr}
use Rattle.std.specs.Prelude.{IfSome}
use Rattle.res_base.proofs.SumLemmas.{bool_cases}
use Rattle.ioc_lines.specs.Lines.{last_dot, first_or_later, escaped, escaped_byte}
use Rattle.ioc_text.proofs.Bytewise.{first_and_more}

-- the last dot of what stands from a place on, or else that before it
abbrev pub later : Option ℕ → ℕ → Option ℕ → Option ℕ
later last at None = last
later last at (Some i) = Some (at + i)

later_first : (last : Option ℕ) (at b : ℕ) (o : Option ℕ) → later (cond (b == 46) (Some at) last) (at + 1) o ≡ later last at (first_or_later b o)
later_first last at b None = elim (bool_cases (b == 46)) [ inl e ↦ rw e (ap Some (omega arith)) | inr e ↦ rw e refl ]
later_first last at b (Some i) = ap Some (omega arith)

pub later_more : (bytes : List ℕ) (at : ℕ) (last next : Option ℕ) → at < length bytes → next ≡ cond (get_or bytes at 0 == 46) (Some at) last
    → later next (at + 1) (last_dot (drop (at + 1) bytes)) ≡ later last at (last_dot (drop at bytes))
later_more bytes at last next lt n = rw (n, first_and_more bytes at lt) (later_first last at (get_or bytes at 0) (last_dot (drop (at + 1) bytes)))

within : (at long b : ℕ) (last : Option ℕ) → at < long → IfSome last (λ k. k < long) → IfSome (cond (b == 46) (Some at) last) (λ k. k < long)
within at long b last lt h = elim (bool_cases (b == 46)) [ inl e ↦ rw e lt | inr e ↦ rw e h ]

pub later_within : (at long b : ℕ) (last next : Option ℕ) → at < long → next ≡ cond (b == 46) (Some at) last → IfSome last (λ k. k < long) → IfSome next (λ k. k < long)
later_within at long b last next lt n h = rw n (within at long b last lt h)

pub escaped_first : (b : ℕ) (bs : List ℕ) → escaped (b ∷ bs) ≡ escaped_byte b ++ escaped bs
unfolding escaped
escaped_first b bs = refl

pub escaped_more : (out next name : List ℕ) (at : ℕ) → at < length name → next ≡ out ++ escaped_byte (get_or name at 0)
    → next ++ escaped (drop (at + 1) name) ≡ out ++ escaped (drop at name)
escaped_more out next name at lt e =
    ap (λ (x : List ℕ). x ++ escaped (drop (at + 1) name)) e
    ∙ append_assoc out (escaped_byte (get_or name at 0)) (escaped (drop (at + 1) name))
    ∙ ap (λ (x : List ℕ). out ++ x) (sym (ap escaped (first_and_more name at lt) ∙ escaped_first (get_or name at 0) (drop (at + 1) name)))
