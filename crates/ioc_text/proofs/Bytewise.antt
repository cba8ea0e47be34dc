-- One more byte of a line.
use Rattle.std.proofs.Common.{◌≡◌, ◌≢◌, ℕ, arith, ◌+◌, ◌<◌, List, [], ◌∷◌, ◌++◌, length, drop, get_or, Bool, true, false, eqb, Option, Some, None, refl, sym, ap, append_assoc, add-one}
use Rattle.std.proofs.Math.Seq.{drop-cons}
use Rattle.std.proofs.lemmas.Bool.Decides.{nat_tests}
use Rattle.ioc_text.specs.Lines.{equals_from, undone_from, after_bytes, is_escapable}

pub first_and_more : (bytes : List ℕ) (at : ℕ) → at < length bytes → drop at bytes ≡ get_or bytes at 0 ∷ drop (at + 1) bytes
first_and_more bytes at lt = rw add-one (drop-cons bytes at 0 lt)

differs : (m n : ℕ) → m ≢ n → eqb m n ≡ false
differs m n h = grind (arith, nat_tests)

same : (m n : ℕ) → m ≡ n → eqb m n ≡ true
same m n h = grind (arith, nat_tests)

module _ (line : List ℕ) (at : ℕ) (old new : Bool) (lt : at < length line) where
  pub past_pair : old ≡ true → new ≡ false → equals_from new (at + 1) (drop (at + 1) line) ≡ equals_from old at (drop at line)
  unfolding equals_from
  past_pair o n = rw (n, o, first_and_more line at lt) refl

  pub past_other : old ≡ false → get_or line at 0 ≢ 61 → new ≡ eqb (get_or line at 0) 92 → equals_from new (at + 1) (drop (at + 1) line) ≡ equals_from old at (drop at line)
  unfolding equals_from
  past_other o e n = rw (n, o, first_and_more line at lt, differs (get_or line at 0) 61 e) refl

pub two_prefixes : (prefix bytes : List ℕ) (rest : Option (List ℕ)) → after_bytes prefix (after_bytes bytes rest) ≡ after_bytes (prefix ++ bytes) rest
two_prefixes prefix bytes None = refl
two_prefixes prefix bytes (Some more) = ap Some (sym (append_assoc prefix bytes more))

module _ (bytes out next : List ℕ) (at : ℕ) (old new : Bool) (lt : at < length bytes) where
  pub undo_escaped : old ≡ true → is_escapable (get_or bytes at 0) ≡ true → next ≡ out ++ get_or bytes at 0 ∷ [] → new ≡ false
      → after_bytes next (undone_from new (drop (at + 1) bytes)) ≡ after_bytes out (undone_from old (drop at bytes))
  unfolding undone_from
  undo_escaped o e p n = rw (n, o, p, first_and_more bytes at lt, e) (sym (two_prefixes out (get_or bytes at 0 ∷ []) (undone_from false (drop (at + 1) bytes))))

  pub undo_backslash : old ≡ false → get_or bytes at 0 ≡ 92 → next ≡ out → new ≡ true
      → after_bytes next (undone_from new (drop (at + 1) bytes)) ≡ after_bytes out (undone_from old (drop at bytes))
  unfolding undone_from
  undo_backslash o e p n = rw (n, o, p, first_and_more bytes at lt, same (get_or bytes at 0) 92 e) refl

  pub undo_plain : old ≡ false → get_or bytes at 0 ≢ 92 → next ≡ out ++ get_or bytes at 0 ∷ [] → new ≡ false
      → after_bytes next (undone_from new (drop (at + 1) bytes)) ≡ after_bytes out (undone_from old (drop at bytes))
  unfolding undone_from
  undo_plain o e p n = rw (n, o, p, first_and_more bytes at lt, differs (get_or bytes at 0) 92 e) (sym (two_prefixes out (get_or bytes at 0 ∷ []) (undone_from false (drop (at + 1) bytes))))
