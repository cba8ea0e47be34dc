use Rattle.std.proofs.Common.{◌≡◌, ◌∙◌, ℕ, Bool, List, length, sym, ap, arith}
use Rattle.res_base.specs.declared.var_set.VarSet.{VarSet}
use Rattle.box_split.specs.BoxIn.{runs_in}
use Rattle.pin_match.specs.Largest.{hall_of}
use Rattle.pin_match.specs.Sets.{fits_in}
use Rattle.pin_match.specs.Sizes.{Sizes}
use Rattle.dma_rules.specs.Judged.{can_have}
use Rattle.dma_rules.proofs.BoxLemmas.{whole}
use Rattle.dma_rules.proofs.judge.hall.Goals as goal

pub returns-clause-hall : goal.returns-clause-hall
returns-clause-hall c =
    let rs = c.args.requests.now in
    let box = runs_in (length rs) c.args.lo.now c.args.hi.now in
    let m = c.args.room.now.matcher in
    let sets : c.as_slice.result.now ≡ c.fill.new.sets = c.as_slice.ensures.value ∙ whole c.args.room.now.sets.len c.fill.new.sets c.args.room.now.sets.items (omega (arith, c.fill.auto.sets, c.as_mut_slice.ensures.len)) (sym (ap length c.as_mut_slice.ensures.value) ∙ c.as_mut_slice.ensures.len) in
    let n : m.variables ≡ length rs = ap (λ (x : Sizes). x.variables) c.requires.room.matcher in
    let r : m.resources ≡ 192 = ap (λ (x : Sizes). x.resources) c.requires.room.matcher in
    c.hall.ensures.computed
    ∙ ap (λ (l : List VarSet). hall_of m.variables m.resources (fits_in l)) sets
    ∙ ap (λ (f : ℕ → ℕ → Bool). hall_of m.variables m.resources f) c.fill.ensures
    ∙ ap (λ (k : ℕ). hall_of k m.resources (can_have rs box)) n
    ∙ ap (λ (k : ℕ). hall_of (length rs) k (can_have rs box)) r
