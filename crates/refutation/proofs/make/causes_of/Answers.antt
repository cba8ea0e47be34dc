use Rattle.std.proofs.Common.{◌≡◌, ℕ, ◌+◌, [], ◌∷◌, ◌++◌, take, get_or, cond, eqb, Option, Some, None, inl, inr, refl, sym, ap, ◌∙◌, arith}
use Rattle.std.specs.Ordering.{nat_cmp, is_eq}
use Rattle.std.specs.BTreeMap.{get}
use Rattle.std.proofs.lemmas.Grind.{common_steps}
use Rattle.std.proofs.lemmas.List.{take_more}
use Rattle.search_api.specs.declared.verdict.Class.TheVariants as class
use Rattle.search_api.specs.declared.verdict.Reason.TheVariants as reason
use Rattle.search_api.specs.declared.outcome.Cause.{Cause}
use Rattle.search_api.specs.declared.outcome.Cause.TheVariants as cause
use Rattle.search_api.specs.declared.outcome.Closed.{Closed}
use Rattle.refutation.specs.Outcomes.{or_else, cause_at}
use Rattle.refutation.proofs.CauseLemmas.{cause_push, eq_tells}
use Rattle.refutation.proofs.make.causes_of.Goals as goal

same_test : (a b : ℕ) → is_eq (nat_cmp a b) ≡ eqb a b
same_test a b = grind (arith, common_steps)

or_is_cond : (a b : ℕ) (x : Cause) (o : Option Cause) → or_else (cond (eqb a b) (Some x) None) o ≡ cond (eqb a b) (Some x) o
or_is_cond a b x o = elim (eq_tells a b) [ inl y ↦ rw y.0 refl | inr n ↦ rw n.0 refl ]

-- what is read past the end of a list of closed paths
abbrev nothing : Closed
nothing = record { worker = 0; path = 0; cause = cause.Bad (reason.Hall class.Pins (record { words = [] })) }

pub loop-entry-preserved : goal.loop-entry-preserved
loop-entry-preserved c = λ p.
    let xs = c.args.closed.now in
    let i = c.loop-entry.entry-index in
    let e = get_or xs i nothing in
    let more : take (i + 1) xs ≡ take i xs ++ e ∷ [] = take_more xs i nothing c.loop-entry-test.true in
    c.in_ok-insert.ensures.updates.0 p
    ∙ ap (λ b. cond b (Some e.cause) (get nat_cmp c.loop-entry.causes p)) (same_test e.path p)
    ∙ ap (λ o. cond (eqb e.path p) (Some e.cause) o) (c.loop-entry.invariant p)
    ∙ sym (or_is_cond e.path p e.cause (cause_at (take i xs) p))
    ∙ sym (cause_push (take i xs) e p)
    ∙ ap (λ ys. cause_at ys p) (sym more)
