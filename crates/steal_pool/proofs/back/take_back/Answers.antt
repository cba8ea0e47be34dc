use Rattle.std.proofs.Common.{◌≡◌, ℕ, ◌+◌, [], ◌∷◌, ◌++◌, List, length, sym, ap, ◌∙◌, subst, arith, length-append, append-nil}
use Rattle.res_base.specs.Lists.{Each, total}
use Rattle.res_base.proofs.ListLemmas.{each_prefix, total_append, total_snoc}
use Rattle.path_deque.specs.declared.deque.Tally.{Tally}
use Rattle.path_deque.specs.declared.deque.Thief.{Thief}
use Rattle.path_deque.specs.Ends.{owner_tally, owner_deque, thief_tally, thief_deque}
use Rattle.steal_worker.specs.Jobs.{stolen, IsThief}
use Rattle.steal_pool.proofs.back.take_back.Goals as goal

pub loop-thief-preserved : goal.loop-thief-preserved
loop-thief-preserved c =
    let i = c.loop-thief.invariant in
    let rest = c.pop.new.self.items in
    let t = c.in-Some.thief in
    let is : c.loop-thief.thieves.items ≡ rest ++ t ∷ [] = c.in-Some.ensures.items in
    let e = c.take_back.ensures.together in
    let o = owner_tally c.loop-thief.owner in
    let ends = each_prefix IsThief rest t (subst (Each IsThief) is i.ends) in
    let Of : Thief → Type 0 = λ (x : Thief). thief_deque x ≡ owner_deque c.args.owner in
    let of = each_prefix Of rest t (subst (Each Of) is i.of) in
    record {
      same = c.take_back.ensures.same ∙ i.same;
      ends = ends.0;
      of = of.0;
      owner = (ap (λ (x : Tally). x.part) e ∙ i.owner.0, (let a = ap (λ (x : Tally). x.out) e in let b = i.owner.1 in let l = ap (length {A = Thief}) is in omega (arith, a, b, l, length-append rest (t ∷ []))));
      put = ap (λ (x : Tally). x.put) e ∙ (ap (λ (l : List ℕ). o.put ++ l) ends.1.1 ∙ (append-nil o.put ∙ i.put));
      got = λ h.
          let a : total h (owner_tally c.take_back.new.self).got ≡ total h o.got + total h (thief_tally t).got = ap (λ (x : Tally). total h x.got) e ∙ total_append h o.got (thief_tally t).got in
          let b : stolen h c.loop-thief.thieves.items ≡ stolen h rest + total h (thief_tally t).got = ap (stolen h) is ∙ total_snoc (λ (x : Thief). total h (thief_tally x).got) rest t in
          let k = i.got h in omega (arith, a, b, k);
    }

pub take_back-requires-clause-deque : goal.take_back-requires-clause-deque
take_back-requires-clause-deque c =
    let i = c.loop-thief.invariant in
    let Of : Thief → Type 0 = λ (x : Thief). thief_deque x ≡ owner_deque c.args.owner in
    (each_prefix Of c.pop.new.self.items c.in-Some.thief (subst (Each Of) c.in-Some.ensures.items i.of)).1 ∙ sym i.same

pub take_back-requires-clause-parts : goal.take_back-requires-clause-parts
take_back-requires-clause-parts c =
    let i = c.loop-thief.invariant in
    (i.owner.0, (each_prefix IsThief c.pop.new.self.items c.in-Some.thief (subst (Each IsThief) c.in-Some.ensures.items i.ends)).1.0)
