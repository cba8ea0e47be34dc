-- Internal: a vector, as the logic holds it, for the clause on what a `&mut` lends.
use denote.RattleType.{RattleType}
use Rattle.std.specs.contracts.alloc.Global as global
use Rattle.std.specs.contracts.vec.Vec as vec
use Rattle.std.specs.contracts.impls.GlobalAllocator.TheImpl.{ghosts}

abbrev pub vec_row : RattleType → RattleType
vec_row T = vec.the_row T global.the_row ghosts
