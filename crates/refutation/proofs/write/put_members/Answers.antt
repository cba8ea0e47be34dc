use Rattle.std.proofs.Common.{◌≡◌, ◌+◌, ◌++◌, [], ◌∷◌, ℕ, List, refl, sym, ap, ◌∙◌, append_assoc, arith}
use Rattle.std.specs.Prelude.{decimal}
use Rattle.res_base.specs.VarSet.{in_set}
use Rattle.refutation.specs.Forms.{below_in, members}
use Rattle.refutation.specs.Spelling.{spaced}
use Rattle.refutation.proofs.FormLemmas.{below_none, below_next, spaced_push}
use Rattle.refutation.proofs.write.put_members.Goals as goal

pub loop-v-preserved : goal.loop-v-preserved
loop-v-preserved c =
    let p = in_set c.args.vars.now in
    let from = c.loop-v.from in
    let v = c.in-Some.v in
    let next = c.in-Some.ensures in
    let old = c.args.out.now.items in
    let before = below_in from p in
    let more : below_in (v + 1) p ≡ before ++ v ∷ [] = below_next p p from v next.at_least (λ x l. refl) next.before next.member in
    record {
      within = omega (arith, next.below);
      put = c.in_ok-put_spaced.ensures ∙ ap (λ (n : ℕ). c.loop-v.out.items ++ 32 ∷ decimal n) c.from.ensures ∙ ap (λ (xs : List ℕ). xs ++ 32 ∷ decimal v) c.loop-v.invariant.put ∙ append_assoc old (spaced before) (32 ∷ decimal v)
          ∙ ap (λ (xs : List ℕ). old ++ xs) (sym (spaced_push before v) ∙ ap spaced (sym more));
    }

pub returns : goal.returns
unfolding members
returns c =
    c.loop-v.invariant.put
    ∙ ap (λ (vs : List ℕ). c.args.out.now.items ++ spaced vs) (sym (below_none 192 (in_set c.args.vars.now) c.loop-v.from c.loop-v.invariant.within (λ x a b. c.in_default.ensures x a b)))
