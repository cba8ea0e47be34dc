-- One step after another, where each may refuse: the first refusal is the answer.
use Rattle.std.specs.Prelude.{List, [], ◌∷◌, ◌++◌, Result, Ok, Err}

infixl 10 ◌>>=◌
abbrev pub ◌>>=◌ : {A B E : Type 0} → Result A E → (A → Result B E) → Result B E
(Ok x) >>= f = f x
(Err e) >>= f = Err e

-- each entry read by f, in order
abbrev pub each : {D X E : Type 0} → (D → Result X E) → List D → Result (List X) E
each f [] = Ok []
each f (d ∷ ds) = do
  x ← f d
  xs ← each f ds
  Ok (x ∷ xs)

-- what each gives, one after another
abbrev pub gathered : {D X E : Type 0} → (D → Result (List X) E) → List D → Result (List X) E
gathered f [] = Ok []
gathered f (d ∷ ds) = do
  xs ← f d
  ys ← gathered f ds
  Ok (xs ++ ys)

-- these, and then what is read of the rest
abbrev pub with_prefix : {X E : Type 0} → List X → Result (List X) E → Result (List X) E
with_prefix prefix (Err e) = Err e
with_prefix prefix (Ok xs) = Ok (prefix ++ xs)
