-- The power steps of a clock's list are small numbers.
use Rattle.std.proofs.Common.{◌≡◌, ℕ, zero, suc, ◌<◌, List, [], ◌∷◌, length, Bool, true, false, cond, eqb, Ok, sym, subst, arith}
use Rattle.std.specs.Prelude.{slice_index}
use Rattle.res_base.specs.Lists.{Each, Member}
use Rattle.res_base.proofs.ListLemmas.{each_in}
use Rattle.res_model.specs.ClockValues.{known_steps}
use Rattle.mcu_tables.specs.Table.{clock}
use Rattle.res_model.specs.Valid.{AreDomains}
use Rattle.mcu_tables.proofs.ClockLaws.{clock_keeps}
use Rattle.serde_json.specs.Data.{Data}
use Rattle.res_model.specs.declared.table.Domains.{Domains}

-- the steps of either kind of part
small_if : (b : Bool) → Each (λ (n : ℕ). n < 256) (cond b (1 ∷ 2 ∷ []) (1 ∷ 2 ∷ 3 ∷ 4 ∷ 5 ∷ []))
small_if true = (omega arith, (omega arith, tt))
small_if false = (omega arith, (omega arith, (omega arith, (omega arith, (omega arith, tt)))))

one_small : (version n : ℕ) → Member n (known_steps version) → n < 256
one_small version n m = each_in (λ (k : ℕ). k < 256) n (known_steps version) (small_if (eqb version 1)) m

known_small : (version : ℕ) (ns : List ℕ) → Each (λ n. Member n (known_steps version)) ns → (k : ℕ) → k < length ns → slice_index ns k < 256
known_small version [] h k lt = absurd (omega arith)
known_small version (n ∷ ns) h zero lt = one_small version n h.0
known_small version (n ∷ ns) h (suc k) lt = known_small version ns h.1 k (omega arith)

pub vos_small : (version : ℕ) (d : Data) (c : Domains) (vos : List ℕ) → vos ≡ c.vos → clock version d ≡ Ok c → (k : ℕ) → k < length vos → slice_index vos k < 256
vos_small version d c vos is h =
    let fine : AreDomains version c = clock_keeps version d c h in
    subst (λ (ns : List ℕ). (k : ℕ) → k < length ns → slice_index ns k < 256) (sym is) (known_small version c.vos fine.vos.known)
