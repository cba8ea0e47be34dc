-- What a command reads, and what it may do.
use Rattle.std.specs.Prelude.{ℕ, List, [], ◌∷◌, Bool, true, false}
use Rattle.cmd_words.specs.declared.command.Command.{Command}
use Rattle.cmd_words.specs.declared.command.Command.TheVariants.{Pins, Tree, Resolve, Check, Case, Can, I2s, Dma, Ioc, Board, Explain, Trace}

-- the inputs that a command reads, in their order
abbrev pub inputs_of : Command → List (List ℕ)
inputs_of (Pins tables project opts) = tables ∷ project ∷ []
inputs_of (Tree tables project opts) = tables ∷ project ∷ []
inputs_of (Resolve tables project opts workers proof) = tables ∷ project ∷ []
inputs_of (Check tables project proof opts) = tables ∷ project ∷ proof ∷ []
inputs_of (Case number workers) = []
inputs_of (Can tables project rate point tolerance) = tables ∷ project ∷ []
inputs_of (I2s tables project rate) = tables ∷ project ∷ []
inputs_of (Dma tables requests workers) = tables ∷ []
inputs_of (Ioc tables project opts workers) = tables ∷ project ∷ []
inputs_of (Board tables project opts) = tables ∷ project ∷ []
inputs_of (Explain tables project opts) = tables ∷ project ∷ []
inputs_of (Trace tables project c answers opts) = tables ∷ project ∷ c ∷ answers ∷ []

-- the commands that may start threads
abbrev pub may_wait : Command → Bool
may_wait (Pins tables project opts) = false
may_wait (Tree tables project opts) = false
may_wait (Resolve tables project opts workers proof) = true
may_wait (Check tables project proof opts) = false
may_wait (Case number workers) = true
may_wait (Can tables project rate point tolerance) = false
may_wait (I2s tables project rate) = false
may_wait (Dma tables requests workers) = true
may_wait (Ioc tables project opts workers) = true
may_wait (Board tables project opts) = false
may_wait (Explain tables project opts) = false
may_wait (Trace tables project c answers opts) = false

-- the workers that a command asks for
abbrev pub workers_asked : Command → ℕ
workers_asked (Pins tables project opts) = 1
workers_asked (Tree tables project opts) = 1
workers_asked (Resolve tables project opts workers proof) = workers
workers_asked (Check tables project proof opts) = 1
workers_asked (Case number workers) = workers
workers_asked (Can tables project rate point tolerance) = 1
workers_asked (I2s tables project rate) = 1
workers_asked (Dma tables requests workers) = workers
workers_asked (Ioc tables project opts workers) = workers
workers_asked (Board tables project opts) = 1
workers_asked (Explain tables project opts) = 1
workers_asked (Trace tables project c answers opts) = 1
