-- The inputs of a call: their names and bytes, and what is known of them before and after.
use Rattle.std.specs.Prelude.{ℕ, List, [], ◌∷◌, length, nat_lt, if◌then◌else◌, Option, Some, None, option_map}
use Rattle.res_io.specs.Bytes.{file_of}

-- an input: its name, and its bytes
pub record Input : Type 0 where
  pub name : List ℕ
  pub bytes : List ℕ

-- the most bytes that an input may have
abbrev pub most_bytes : ℕ
most_bytes = 67108864

-- the name of the first input that has more
abbrev pub first_long : List Input → Option (List ℕ)
first_long [] = None
first_long (input ∷ inputs) = if nat_lt most_bytes (length input.bytes) then Some input.name else first_long inputs

-- the bytes of each name, where inputs tell them
abbrev pub Files : Type 0
Files = Option (List ℕ → Option (List ℕ))

-- one input before others, where all are told
abbrev pub with_input : List ℕ → Option (List ℕ) → Option (List Input) → Option (List Input)
with_input name None inputs = None
with_input name (Some bytes) inputs = option_map (λ (more : List Input). record { name = name; bytes = bytes } ∷ more) inputs

-- the inputs of these names, where the bytes of each are told
abbrev pub inputs_told : Files → List (List ℕ) → Option (List Input)
inputs_told files [] = Some []
inputs_told files (name ∷ names) = with_input name (file_of files name) (inputs_told files names)

-- what is known of inputs: the bytes of each name, how often each name has failed, the name that is open, and how many
-- bytes of it were taken
pub record Reads : Type 0 where
  pub files : Files
  pub faults : List ℕ → ℕ
  pub current : Option (List ℕ)
  pub taken : ℕ

abbrev pub reads : Files → (List ℕ → ℕ) → Option (List ℕ) → ℕ → Reads
reads files faults current taken = record { files = files; faults = faults; current = current; taken = taken }

-- what is known of a sink: the bytes written, where they are told, and how often it has failed
pub record Wrote : Type 0 where
  pub bytes : Option (List ℕ)
  pub faults : ℕ

abbrev pub wrote : Option (List ℕ) → ℕ → Wrote
wrote bytes faults = record { bytes = bytes; faults = faults }
