-- Each step on a deque keeps its rule.
use Rattle.std.proofs.Common.{◌≡◌, ◌≢◌, ℕ, zero, suc, ◌+◌, List, [], ◌∷◌, ◌++◌, length, set, sym, refl, ap, ◌∙◌, arith}
use mathlib.Core.Option.{some, some-ne-none, some-injective}
use lib.ListN.{get_elem?}
use Rattle.crossbeam_deque.specs.Tasks.{Pushes, Takes, Pops, Finds, Learns, Forks, Merges}
use Rattle.best_word.specs.declared.part.Part.TheVariants.{First, Other, Spent}
use Rattle.res_base.specs.Lists.{total}
use Rattle.res_base.proofs.ListLemmas.{total_set, total_snoc, total_append, total_only}
use Rattle.best_word.proofs.PartLemmas.{each_set, each_snoc, begins as parts_begin, keeps as parts_keep, splits as parts_split, joins as parts_join, alone as parts_alone}
use Rattle.path_deque.specs.declared.deque.Tally.{Tally}
use Rattle.path_deque.specs.Tallies.{empty_tally, one_more_out, put_more, got_more, together, IsBalanced, IsDrained}

pub begins : IsBalanced [] (empty_tally First ∷ [])
begins = record {
  even = λ h. omega arith;
  parts = parts_begin (λ (v : Tally). v.part) (λ (v : Tally). v.out) (empty_tally First) refl refl;
  spent = none_spent;
}
  where
    none_spent : (port : ℕ) (v : Tally) → get_elem? (empty_tally First ∷ []) port ≡ some v → v.part ≡ Spent → (v.put ≡ []) × (v.got ≡ [])
    none_spent zero v e s = absurd (never (ap (λ (x : Tally). x.part) (some-injective (empty_tally First) v e) ∙ s))
      where
        never : First ≡ Spent → ⊥
        never q = cc
    none_spent (suc k) v e s = absurd (some-ne-none v (sym e))

-- a step of one view that stays in its part
goes_on : (items now : List ℕ) (views : List Tally) (port : ℕ) (v w : Tally) → get_elem? views port ≡ some v → v.part ≢ Spent → w.part ≡ v.part → w.out ≡ v.out
    → ((h : ℕ → ℕ) → total h w.put + total h v.got + total h items ≡ total h v.put + total h w.got + total h now) → IsBalanced items views → IsBalanced now (set views port w)
goes_on items now views port v w at live part out moves e = record {
  even = λ h.
      let a = total_set (λ (u : Tally). total h u.put) views port v w at in let b = total_set (λ (u : Tally). total h u.got) views port v w at in
      let m = moves h in let k = e.even h in omega arith;
  parts = parts_keep (λ (u : Tally). u.part) (λ (u : Tally). u.out) views port v w at part out e.parts;
  spent = each_set (λ j u. u.part ≡ Spent → (u.put ≡ []) × (u.got ≡ [])) views port w (λ s. absurd (live (sym part ∙ s))) (λ j u _ q. e.spent j u q);
}

pub pushes : (port : ℕ) (v : Tally) (xs : List ℕ) → v.part ≢ Spent → Pushes IsBalanced port v xs (λ w. w ≡ put_more v xs)
pushes port v xs live items views e at = (
  put_more v xs,
  goes_on items (items ++ xs) views port v (put_more v xs) at live refl refl (λ h. omega (arith, total_append h v.put xs, total_append h items xs)) e,
  refl,
)

pub takes : (port : ℕ) (v : Tally) (most : ℕ) → v.part ≢ Spent → Takes IsBalanced port v most (λ xs w. w ≡ got_more v xs)
takes port v most live xs items views _ _ e at = (
  got_more v xs,
  goes_on (xs ++ items) items views port v (got_more v xs) at live refl refl (λ h. omega (arith, total_append h v.got xs, total_append h xs items)) e,
  refl,
)

pub pops : (port : ℕ) (v : Tally) → v.part ≢ Spent → Pops IsBalanced port v (λ xs w. w ≡ got_more v xs)
pops port v live x items views e at = (
  got_more v (x ∷ []),
  goes_on (items ++ x ∷ []) items views port v (got_more v (x ∷ [])) at live refl refl (λ h. omega (arith, total_append h v.got (x ∷ []), total_append h items (x ∷ []))) e,
  refl,
)

pub finds : (port : ℕ) (v : Tally) → Finds IsBalanced port v (IsDrained v)
finds port v views e at first none h =
    let gone : (j : ℕ) (u : Tally) → j ≢ port → get_elem? views j ≡ some u → (u.put ≡ []) × (u.got ≡ []) = λ j u n q. e.spent j u q (parts_alone (λ (u : Tally). u.part) (λ (u : Tally). u.out) views port v at first none e.parts j u n q) in
    let a = total_only (λ (u : Tally). total h u.put) views port v at (λ j u n q. ap (total h) (gone j u n q).0) in
    let b = total_only (λ (u : Tally). total h u.got) views port v at (λ j u n q. ap (total h) (gone j u n q).1) in
    let k = e.even h in omega arith

pub looks : (port : ℕ) (v : Tally) → Learns IsBalanced port v (λ paths. length paths ≡ 0 → IsDrained v)
looks port v [] views e at none = finds port v views e at
looks port v (x ∷ xs) views e at none = absurd (omega arith)

pub forks : (port : ℕ) (v : Tally) → v.part ≡ First → Forks IsBalanced port v (one_more_out v) (empty_tally Other)
forks port v first items views e at = record {
  even = λ h.
      let a = total_set (λ (u : Tally). total h u.put) views port v (one_more_out v) at in let b = total_set (λ (u : Tally). total h u.got) views port v (one_more_out v) at in
      let c = total_snoc (λ (u : Tally). total h u.put) (set views port (one_more_out v)) (empty_tally Other) in let d = total_snoc (λ (u : Tally). total h u.got) (set views port (one_more_out v)) (empty_tally Other) in
      let k = e.even h in omega arith;
  parts = parts_split (λ (u : Tally). u.part) (λ (u : Tally). u.out) views port v (one_more_out v) (empty_tally Other) at first first refl refl refl e.parts;
  spent = each_snoc (λ (u : Tally). u.part ≡ Spent → (u.put ≡ []) × (u.got ≡ [])) (set views port (one_more_out v)) (empty_tally Other) (λ s. (refl, refl))
      (each_set (λ j u. u.part ≡ Spent → (u.put ≡ []) × (u.got ≡ [])) views port (one_more_out v) (e.spent port v at) (λ j u _ q. e.spent j u q));
}

not_spent : First ≡ Spent → ⊥
not_spent q = cc

pub merges : (port : ℕ) (v : Tally) (other : ℕ) (u : Tally) → v.part ≡ First → u.part ≡ Other → Merges IsBalanced port v other u (together v u) (empty_tally Spent)
merges port v other u first o items views e at apart there =
    let b : Tally = together v u in let gone : Tally = empty_tally Spent in let vs = set views port b in record {
      even = λ h.
          let a1 = total_set (λ (u : Tally). total h u.put) views port v b at in let a2 = total_set (λ (u : Tally). total h u.got) views port v b at in
          let b1 = total_set (λ (u : Tally). total h u.put) vs other u gone there in let b2 = total_set (λ (u : Tally). total h u.got) vs other u gone there in
          let c1 = total_append h v.put u.put in let c2 = total_append h v.got u.got in let k = e.even h in omega arith;
      parts = parts_join (λ (y : Tally). y.part) (λ (y : Tally). y.out) views port other v u b gone at first apart there o first refl refl refl e.parts;
      spent = each_set (λ j (y : Tally). y.part ≡ Spent → (y.put ≡ []) × (y.got ≡ [])) vs other gone (λ _. (refl, refl))
          (λ j y _ q. each_set (λ j (y : Tally). y.part ≡ Spent → (y.put ≡ []) × (y.got ≡ [])) views port b (λ g. absurd (not_spent (sym first ∙ g))) (λ j y _ q. e.spent j y q) j y q);
    }
