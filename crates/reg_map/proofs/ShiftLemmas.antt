-- Shifts that lose no bit.
use Rattle.std.proofs.Common.{◌≡◌, ℕ, ◌*◌, ◌%◌, ◌^◌, ◌<◌, arith}
use Rattle.std.proofs.lemmas.Nat.{shl_whole}

pub shift_two : (v n : ℕ) → v < 4 → v * 2 ^ (2 * (n % 16)) % 4294967296 ≡ v * 2 ^ (2 * (n % 16))
shift_two v n l = shl_whole v 2 (2 * (n % 16)) 32 (omega (arith, l)) (omega arith)

pub ones_two : (n : ℕ) → 3 * 2 ^ (2 * (n % 16)) % 4294967296 ≡ 3 * 2 ^ (2 * (n % 16))
ones_two n = shl_whole 3 2 (2 * (n % 16)) 32 (omega arith) (omega arith)

pub shift_one : (v n : ℕ) → v < 2 → v * 2 ^ (n % 16) % 4294967296 ≡ v * 2 ^ (n % 16)
shift_one v n l = shl_whole v 1 (n % 16) 32 (omega (arith, l)) (omega arith)

pub ones_one : (n : ℕ) → 1 * 2 ^ (n % 16) % 4294967296 ≡ 1 * 2 ^ (n % 16)
ones_one n = shl_whole 1 1 (n % 16) 32 (omega arith) (omega arith)

pub shift_four : (v n : ℕ) → v < 16 → v * 2 ^ (4 * (n % 8)) % 4294967296 ≡ v * 2 ^ (4 * (n % 8))
shift_four v n l = shl_whole v 4 (4 * (n % 8)) 32 (omega (arith, l)) (omega arith)

pub ones_four : (n : ℕ) → 15 * 2 ^ (4 * (n % 8)) % 4294967296 ≡ 15 * 2 ^ (4 * (n % 8))
ones_four n = shl_whole 15 4 (4 * (n % 8)) 32 (omega arith) (omega arith)
