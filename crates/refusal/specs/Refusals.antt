-- How what a call answers fits what a definition says. A definition knows faults alone; out of memory is the one free answer.
use Rattle.std.specs.Prelude.{◌≡◌, Result, Ok, Err}
use Rattle.refusal.specs.declared.refusal.Refusal.{Refusal}
use Rattle.refusal.specs.declared.refusal.Refusal.TheVariants.{Fault, OutOfMemory}

module _ {F : Type 0} where
  -- what holds of the fault, where the refusal has one
  abbrev pub IfFault : Refusal F → (F → Type 0) → Type 0
  IfFault (Fault fault) P = P fault
  IfFault OutOfMemory P = Unit {0}

  -- the definition refuses with this very fault
  abbrev pub Refuses : {Y : Type 0} → Refusal F → Result Y F → Type 0
  Refuses (Fault fault) read = read ≡ Err fault
  Refuses OutOfMemory read = Unit {0}

  -- what was answered, seen by look, is what the definition reads
  abbrev pub Gives : {X Y : Type 0} → (X → Y) → Result X (Refusal F) → Result Y F → Type 0
  Gives look (Ok x) read = read ≡ Ok (look x)
  Gives look (Err e) read = Refuses e read

  -- the same for what takes no memory: any refusal is a fault, and the definition's
  abbrev pub Tells : {X Y : Type 0} → (X → Y) → Result X (Refusal F) → Result Y F → Type 0
  Tells look (Ok x) read = read ≡ Ok (look x)
  Tells look (Err (Fault fault)) read = read ≡ Err fault
  Tells look (Err OutOfMemory) read = ⊥
