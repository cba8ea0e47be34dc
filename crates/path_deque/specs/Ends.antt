-- What a clause says of the two kinds of ends of a deque.
use Rattle.std.specs.Prelude.{ℕ}
use Rattle.std.proofs.Common.{Global}
use Rattle.crossbeam_deque.specs.Handles.{view, worker_deque, stealer_deque, worker_view}
use Rattle.path_deque.specs.declared.deque.Tally.{Tally}
use Rattle.path_deque.specs.declared.deque.Owner.{Owner}
use Rattle.path_deque.specs.declared.deque.Thief.{Thief}

-- what the end put and got
abbrev pub owner_tally : Owner → Tally
owner_tally o = worker_view o.worker

abbrev pub thief_tally : Thief → Tally
thief_tally t = view t.pass

-- which deque it is an end of
abbrev pub owner_deque : Owner → (ℕ × ℕ) × Global
owner_deque o = worker_deque o.worker

abbrev pub thief_deque : Thief → (ℕ × ℕ) × Global
thief_deque t = stealer_deque t.stealer
