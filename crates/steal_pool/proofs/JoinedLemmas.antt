-- Workers account together for what each of them accounts for.
use Rattle.std.proofs.Common.{◌≡◌, ℕ, ◌+◌, ◌<◌, List, [], ◌∷◌, ◌++◌, sym, refl, ap, ◌∙◌, subst, ⊎_elim, arith, append_assoc, length-append}
use Rattle.res_base.specs.Lists.{Each, Member, Pairwise}
use Rattle.res_base.proofs.ListLemmas.{each_map, member_left, member_right, member_split, total_append}
use Rattle.choice_rank.specs.declared.variable.VarShape.{VarShape}
use Rattle.box_split.specs.Paths.{covers}
use Rattle.best_word.specs.declared.word.View.{View}
use Rattle.best_word.specs.Word.{together}
use Rattle.search_api.specs.declared.outcome.Cause.{Cause}
use Rattle.search_api.specs.declared.outcome.Cause.TheVariants as cause
use Rattle.search_api.specs.declared.outcome.Closed.{Closed}
use Rattle.search_api.specs.Meaning.{Meaning}
use Rattle.search_api.specs.Accounts.{IsEntry, IsLegalRank, IsInTime}
use Rattle.steal_worker.specs.Flows.{Flows}
use Rattle.steal_worker.specs.Walks.{leaf_rank, leaf_ranks, IfCut, known, AreClosed}
use Rattle.steal_worker.proofs.FlowActs.{flow_same}
use Rattle.steal_worker.proofs.WalkActs.{entry_more}
use Rattle.steal_pool.specs.Joined.{Joined}

pub each_append : {X : Type 0} (P : X → Type 0) (xs ys : List X) → Each P xs → Each P ys → Each P (xs ++ ys)
each_append P [] ys h e = e
each_append P (x ∷ xs) ys h e = (h.0, each_append P xs ys h.1 e)

pairs_append : {X : Type 0} (R : X → X → Type 0) (xs ys : List X) → Pairwise R xs → Pairwise R ys → Each (λ x. Each (R x) ys) xs → Pairwise R (xs ++ ys)
pairs_append R [] ys h k e = k
pairs_append R (x ∷ xs) ys h k e = (each_append (R x) xs ys h.0 e.0, pairs_append R xs ys h.1 k e.1)

leaf_ranks_append : (xs ys : List Closed) → leaf_ranks (xs ++ ys) ≡ leaf_ranks xs ++ leaf_ranks ys
leaf_ranks_append [] ys = refl
leaf_ranks_append (x ∷ xs) ys = ap (λ l. leaf_rank x.cause ++ l) (leaf_ranks_append xs ys) ∙ sym (append_assoc (leaf_rank x.cause) (leaf_ranks xs) (leaf_ranks ys))

pub cut_more : (c : Cause) (old new : List ℕ) → ((r : ℕ) → Member r old → Member r new) → IfCut c (λ rank. Member rank old) → IfCut c (λ rank. Member rank new)
cut_more (cause.Bad reason) old new f h = tt
cut_more (cause.Cut rank) old new f h = f rank h
cut_more (cause.Leaf rank) old new f h = tt

-- boxes of workers with other numbers are closed in time
apart_in_time : (vars : List VarShape) (k : ℕ) (xs ys : List Closed) → Each (λ (e : Closed). e.worker < k) xs → Each (λ (e : Closed). e.worker ≡ k) ys → Each (λ x. Each (IsInTime vars x) ys) xs
apart_in_time vars k xs ys h g = each_map (λ (e : Closed). e.worker < k) (λ x. Each (IsInTime vars x) ys) xs
    (λ x l. each_map (λ (e : Closed). e.worker ≡ k) (IsInTime vars x) ys (λ y e same. absurd (omega (arith, l, e, same))) g) h

pub flows_join : (m : Meaning) (came went came' went' : (ℕ → ℕ) → ℕ) (xs ys : List Closed) → Flows m came went [] [] xs → Flows m came' went' [] [] ys → Flows m (λ h. came h + came' h) (λ h. went h + went' h) [] [] (xs ++ ys)
flows_join m came went came' went' xs ys a b = record {
  balance = λ choice.
      let p = a.balance choice in let q = b.balance choice in
      omega (arith, p, q, total_append (λ (e : Closed). covers m.shape e.path choice) xs ys);
  sourced = λ h g hh hg one none.
      let p = a.sourced h g hh hg one (omega (arith, none)) in
      let q = b.sourced h g hh hg one (omega (arith, none)) in
      let pw = p.went_on in let qw = q.went_on in let pc = p.in_closed in let qc = q.in_closed in
      record {
        went_on = omega (arith, pw, qw);
        in_hand = refl;
        in_held = refl;
        halves_held = refl;
        in_closed = omega (arith, pc, qc, total_append (λ (e : Closed). h e.path) xs ys);
      };
}

module _ {J : Type 0} where
  known_left : (v u : View J) (r : ℕ) → Member r (known v) → Member r (known (together v u))
  known_left v u r x = ⊎_elim (λ k. member_left r (v.kept ++ u.kept) (v.saw ++ u.saw) (member_left r v.kept u.kept k)) (λ k. member_right r (v.kept ++ u.kept) (v.saw ++ u.saw) (member_left r v.saw u.saw k)) (member_split r v.kept v.saw x)

  known_right : (v u : View J) (r : ℕ) → Member r (known u) → Member r (known (together v u))
  known_right v u r x = ⊎_elim (λ k. member_left r (v.kept ++ u.kept) (v.saw ++ u.saw) (member_right r v.kept u.kept k)) (λ k. member_right r (v.kept ++ u.kept) (v.saw ++ u.saw) (member_right r v.saw u.saw k)) (member_split r u.kept u.saw x)

  closed_join : (m : Meaning) (k : ℕ) (v u : View J) (xs ys : List Closed) → Each (λ (e : Closed). e.worker < k) xs → Each (λ (e : Closed). e.worker ≡ k) ys → AreClosed m v xs → AreClosed m u ys → AreClosed m (together v u) (xs ++ ys)
  closed_join m k v u xs ys below at a b = record {
    entries = each_append (IsEntry m (known (together v u))) xs ys
        (each_map (IsEntry m (known v)) (IsEntry m (known (together v u))) xs (entry_more m (known v) (known (together v u)) (known_left v u)) a.entries)
        (each_map (IsEntry m (known u)) (IsEntry m (known (together v u))) ys (entry_more m (known u) (known (together v u)) (known_right v u)) b.entries);
    ranks = ap (λ l. l ++ u.kept) a.ranks ∙ (ap (λ l. leaf_ranks xs ++ l) b.ranks ∙ sym (leaf_ranks_append xs ys));
    legal = each_append (IsLegalRank m) v.kept u.kept a.legal b.legal;
    in_time = pairs_append (IsInTime m.shape) xs ys a.in_time b.in_time (apart_in_time m.shape k xs ys below at);
    cuts = each_append (λ (e : Closed). IfCut e.cause (λ rank. Member rank (v.saw ++ u.saw))) xs ys
        (each_map (λ (e : Closed). IfCut e.cause (λ rank. Member rank v.saw)) (λ (e : Closed). IfCut e.cause (λ rank. Member rank (v.saw ++ u.saw))) xs (λ e c. cut_more e.cause v.saw (v.saw ++ u.saw) (λ r x. member_left r v.saw u.saw x) c) a.cuts)
        (each_map (λ (e : Closed). IfCut e.cause (λ rank. Member rank u.saw)) (λ (e : Closed). IfCut e.cause (λ rank. Member rank (v.saw ++ u.saw))) ys (λ e c. cut_more e.cause u.saw (v.saw ++ u.saw) (λ r x. member_right r v.saw u.saw x) c) b.cuts);
    loads = (let p = a.loads in let q = b.loads in omega (arith, p, q, length-append xs ys, length-append v.saw u.saw));
  }

  -- nobody has done anything
  pub joined_none : (m : Meaning) (v : View J) → v.kept ≡ [] → Joined m 0 (λ h. 0) (λ h. 0) v []
  joined_none m v none = record {
    boxes = record { entries = tt; ranks = none; legal = subst (Each (IsLegalRank m)) (sym none) tt; in_time = tt; cuts = tt; loads = omega arith };
    numbers = tt;
    flows = record { balance = λ choice. refl; sourced = λ h g hh hg one z. record { went_on = refl; in_hand = refl; in_held = refl; halves_held = refl; in_closed = refl } };
  }

  -- the next worker's share is added
  pub joined_more : (m : Meaning) (k : ℕ) (came went came' went' : (ℕ → ℕ) → ℕ) (v u : View J) (xs ys : List Closed) → AreClosed m u ys → Each (λ (e : Closed). e.worker ≡ k) ys → Flows m came' went' [] [] ys
      → Joined m k came went v xs → Joined m (k + 1) (λ h. came h + came' h) (λ h. went h + went' h) (together v u) (xs ++ ys)
  joined_more m k came went came' went' v u xs ys boxes numbers flows j = record {
    boxes = closed_join m k v u xs ys j.numbers numbers j.boxes boxes;
    numbers = each_append (λ (e : Closed). e.worker < k + 1) xs ys
        (each_map (λ (e : Closed). e.worker < k) (λ (e : Closed). e.worker < k + 1) xs (λ e l. omega (arith, l)) j.numbers)
        (each_map (λ (e : Closed). e.worker ≡ k) (λ (e : Closed). e.worker < k + 1) ys (λ e l. omega (arith, l)) numbers);
    flows = flows_join m came went came' went' xs ys j.flows flows;
  }

  -- the same amounts
  pub joined_same : (m : Meaning) (k : ℕ) (came went came' went' : (ℕ → ℕ) → ℕ) (v : View J) (xs : List Closed) → ((h : ℕ → ℕ) → came' h ≡ came h) → ((h : ℕ → ℕ) → went' h ≡ went h) → Joined m k came went v xs → Joined m k came' went' v xs
  joined_same m k came went came' went' v xs more less j = record { boxes = j.boxes; numbers = j.numbers; flows = flow_same m came came' went went' [] [] xs more less j.flows }
