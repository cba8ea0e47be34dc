-- Each step on the word keeps its rule.
use Rattle.std.proofs.Common.{◌≡◌, ◌≢◌, ◌⊎◌, ℕ, zero, suc, ◌^◌, ◌<◌, ◌≤◌, min, List, [], ◌∷◌, ◌++◌, set, sym, refl, ap, ◌∙◌, subst, inl, inr, ⊎_elim, arith, lt_of_not-le}
use Rattle.std.specs.Prelude.{slice_index, slice_set}
use mathlib.Core.Option.{none as no_value, some, some-ne-none, some-injective}
use mathlib.Core.Logic.{dite}
use native.Mathlib.Decide.{dec_le, ℕ_discrete}
use lib.ListN.{get_elem?}
use Rattle.atomic_table.specs.Table.{State, Me, Step, step, keeps, Allows, Splits, Joins}
use Rattle.atomic_table.proofs.Lists.{at_set, set_else, at_longer}
use Rattle.best_word.specs.declared.part.Part.TheVariants.{First, Other, Spent}
use Rattle.res_base.specs.Lists.{Member}
use Rattle.res_base.proofs.ListLemmas.{member_left, member_right, member_split, member_last, member_one}
use Rattle.best_word.proofs.PartLemmas.{set_at, first-spent, begins as parts_begin, each_set, each_snoc, keeps as parts_keep, splits as parts_split, joins as parts_join, alone as parts_alone}
use Rattle.best_word.specs.declared.word.View.{View}
use Rattle.best_word.specs.Word.{newcomer, one_more_out, together, saw_more, blank_more, kept_more, KeptBy, Least, Holds, SeesRank, SeesNone, Loaded, Offered}

none_kept : (r : ℕ) (xs : List ℕ) → xs ≡ [] → Member r xs → ⊥
none_kept r xs e m = subst (λ l. Member r l) e m

all_none : (xs : List ℕ) → ((r : ℕ) → Member r xs → ⊥) → xs ≡ []
all_none [] h = refl
all_none (x ∷ xs) h = absurd (h x (inl refl))

least_of_two : (n k : ℕ) → (min n k ≡ n) ⊎ (min n k ≡ k)
least_of_two n k = dite (dec_le n k) (λ le. inl (omega arith)) (λ not. let l = lt_of_not-le not in inr (omega arith))

module _ {J : Type 0} (legal : ℕ → Type 0) where
  only_one : (port : ℕ) (v w : View J) → get_elem? (v ∷ []) port ≡ some w → w ≡ v
  only_one zero v w at = sym (some-injective v w at)
  only_one (suc k) v w at = absurd (some-ne-none w (sym at))

  -- the rule at first, when the word stands for no rank
  pub opens : (n : ℕ) → 2 ^ 63 ≤ n → Least {J = J} legal n (newcomer First ∷ [])
  opens n high =
      let v : View J = newcomer First in record {
        ranks = λ port w at r i. absurd (subst (λ (x : View J). Member r x.kept) (only_one port v w at) i);
        low = λ port w at r i. absurd (subst (λ (x : View J). Member r x.kept) (only_one port v w at) i);
        stands = λ s. absurd (omega (arith, s, high));
        seen = λ port w at r i. absurd (subst (λ (x : View J). Member r x.saw) (only_one port v w at) i);
        parts = parts_begin (λ (u : View J). u.part) (λ (u : View J). u.out) v refl refl;
        spent = λ port w at g. absurd (first-spent (sym (ap (λ (x : View J). x.part) (only_one port v w at)) ∙ g));
      }

  kept_there : (views : List (View J)) (port : ℕ) (v w : View J) (r : ℕ) → get_elem? views port ≡ some v → ((s : ℕ) → Member s v.kept → Member s w.kept) → KeptBy views r → KeptBy (set views port w) r
  kept_there views port v w r at more k = dite (ℕ_discrete k.0 port)
      (λ e. let same : v ≡ k.1 = some-injective v k.1 (sym at ∙ (sym (ap (λ p. get_elem? views p) e) ∙ k.2)) in (port, w, set_at views port w v at, more r (subst (λ (x : View J). Member r x.kept) (sym same) k.3)))
      (λ n. (k.0, k.1, set_else views port k.0 w n ∙ k.2, k.3))

  -- a step of one view, where the word becomes m
  goes_on : (n m : ℕ) (views : List (View J)) (port : ℕ) (v w : View J) → get_elem? views port ≡ some v → Least legal n views → w.part ≡ v.part → w.out ≡ v.out
      → ((r : ℕ) → Member r w.kept → Member r v.kept ⊎ (legal r × (m ≤ r))) → m ≤ n → ((r : ℕ) → Member r v.kept → Member r w.kept) → (m < 2 ^ 63 → (m ≡ n) ⊎ Member m w.kept)
      → ((r : ℕ) → Member r w.saw → Member r v.saw ⊎ KeptBy views r) → (w.part ≡ Spent → (w.kept ≡ []) × (w.saw ≡ [])) → Least legal m (set views port w)
  goes_on n m views port v w at h part out kept less more now saw gone =
      let up : (r : ℕ) → KeptBy views r → KeptBy (set views port w) r = λ r k. kept_there views port v w r at more k in record {
        ranks = each_set (λ j u. (r : ℕ) → Member r u.kept → legal r) views port w (λ r x. ⊎_elim (λ o. h.ranks port v at r o) (λ t. t.0) (kept r x)) (λ j u _ e. h.ranks j u e);
        low = each_set (λ j u. (r : ℕ) → Member r u.kept → m ≤ r) views port w (λ r x. ⊎_elim (λ o. omega (arith, less, h.low port v at r o)) (λ t. t.1) (kept r x)) (λ j u _ e r x. omega (arith, less, h.low j u e r x));
        stands = λ s. ⊎_elim (λ (e : m ≡ n). subst (KeptBy (set views port w)) (sym e) (up n (h.stands (omega arith)))) (λ x. (port, w, set_at views port w v at, x)) (now s);
        seen = each_set (λ j u. (r : ℕ) → Member r u.saw → KeptBy (set views port w) r) views port w (λ r x. ⊎_elim (λ o. up r (h.seen port v at r o)) (λ k. up r k) (saw r x)) (λ j u _ e r x. up r (h.seen j u e r x));
        parts = parts_keep (λ (u : View J). u.part) (λ (u : View J). u.out) views port v w at part out h.parts;
        spent = each_set (λ j u. u.part ≡ Spent → (u.kept ≡ []) × (u.saw ≡ [])) views port w gone (λ j u _ e. h.spent j u e);
      }

  -- what a first view with none out knows
  alone_kept : (n : ℕ) (views : List (View J)) (port : ℕ) (v : View J) → get_elem? views port ≡ some v → Least legal n views → v.part ≡ First → v.out ≡ 0 → (r : ℕ) → KeptBy views r → Member r v.kept
  alone_kept n views port v at h first none r k = dite (ℕ_discrete k.0 port)
      (λ e. let same : v ≡ k.1 = some-injective v k.1 (sym at ∙ (sym (ap (λ p. get_elem? views p) e) ∙ k.2)) in subst (λ (x : View J). Member r x.kept) (sym same) k.3)
      (λ ne. absurd (none_kept r k.1.kept (h.spent k.0 k.1 k.2 (parts_alone (λ (u : View J). u.part) (λ (u : View J). u.out) views port v at first none h.parts k.0 k.1 ne k.2)).0 k.3))

  below : (n : ℕ) (views : List (View J)) → Least legal n views → (r : ℕ) → KeptBy views r → n ≤ r
  below n views h r k = h.low k.0 k.1 k.2 r k.3

  loads_rank : (n : ℕ) (views : List (View J)) (port : ℕ) (v : View J) → get_elem? views port ≡ some v → v.part ≢ Spent → Least legal n views → n < 2 ^ 63 → Least legal n (set views port (saw_more v n)) × SeesRank v n (saw_more v n)
  loads_rank n views port v at live h low = (
    goes_on n n views port v (saw_more v n) at h refl refl (λ r x. inl x) (omega arith) (λ r x. x) (λ s. inl refl)
        (λ r x. ⊎_elim (λ o. inl o) (λ (y : Member r (n ∷ [])). inr (subst (KeptBy views) (sym (member_one r n y)) (h.stands low))) (member_split r v.saw (n ∷ []) x)) (λ gone. absurd (live gone)),
    (
      refl,
      h.low port v at,
      (λ r x. below n views h r (h.seen port v at r x)),
      (λ first none r x. ⊎_elim (λ o. alone_kept n views port v at h first none r (h.seen port v at r o))
          (λ (y : Member r (n ∷ [])). alone_kept n views port v at h first none r (subst (KeptBy views) (sym (member_one r n y)) (h.stands low))) (member_split r v.saw (n ∷ []) x)),
    ),
  )

  loads_none : ((r : ℕ) → legal r → r < 2 ^ 63) → (n : ℕ) (views : List (View J)) (port : ℕ) (v : View J) → get_elem? views port ≡ some v → Least legal n views → 2 ^ 63 ≤ n → Least legal n (set views port (blank_more v)) × SeesNone v (blank_more v)
  loads_none small n views port v at h high =
      let never : (r : ℕ) → KeptBy views r → ⊥ = λ r k. let a = h.ranks k.0 k.1 k.2 r k.3 in let b = small r a in let c = below n views h r k in omega arith in (
        goes_on n n views port v (blank_more v) at h refl refl (λ r x. inl x) (omega arith) (λ r x. x) (λ s. inl refl) (λ r x. inl x) (h.spent port v at),
        (refl, all_none v.kept (λ r x. never r (port, v, at, x)), all_none v.saw (λ r x. never r (h.seen port v at r x))),
      )

  pub loads : ((r : ℕ) → legal r → r < 2 ^ 63) → (slots id : ℕ) (me : Me (Unit {0}) (View J)) → me.0.part ≢ Spent → Allows (Holds legal) slots id me 0 (λ n. n) (Loaded (step slots 0 0 0 no_value) me)
  loads small slots id me live s h homes at bound =
      let st : Step (Unit {0}) = step slots 0 0 0 no_value in
      let n = h.0 in
      let found : slice_index s.words 0 ≡ n = ap (λ ws. slice_index ws 0) h.1 in
      let words : slice_set s.words 0 (slice_index s.words 0) ≡ n ∷ [] = ap (λ ws. slice_set ws 0 (slice_index ws 0)) h.1 in
      dite (dec_le (2 ^ 63) n)
      (λ high. let t = loads_none small n s.views id me.0 at h.2 high in
      (blank_more me.0, keeps, tt, (n, words, t.0), subst (λ (k : ℕ). Loaded st me k (blank_more me.0, me.1)) (sym found) ((λ low. absurd (omega arith)), (λ _. t.1), refl)))
      (λ not. let low : n < 2 ^ 63 = lt_of_not-le not in let t = loads_rank n s.views id me.0 at live h.2 low in
      (saw_more me.0 n, keeps, tt, (n, words, t.0), subst (λ (k : ℕ). Loaded st me k (saw_more me.0 n, me.1)) (sym found) ((λ _. t.1), (λ high. absurd (omega arith)), refl)))

  pub offers : (slots id : ℕ) (me : Me (Unit {0}) (View J)) (k : ℕ) → legal k → me.0.part ≢ Spent → Allows (Holds legal) slots id me 0 (λ n. min n k) (Offered (step slots 0 k 0 no_value) me)
  offers slots id me k fair live s h homes at bound =
      let n = h.0 in let v = me.0 in let w = kept_more me.0 k in
      let words : slice_set s.words 0 (min (slice_index s.words 0) k) ≡ min n k ∷ [] = ap (λ ws. slice_set ws 0 (min (slice_index ws 0) k)) h.1 in
      let after : Least legal (min n k) (set s.views id w) = goes_on n (min n k) s.views id v w at h.2 refl refl
      (λ r x. ⊎_elim (λ o. inl o) (λ (y : Member r (k ∷ [])). let e = member_one r k y in inr (subst legal (sym e) fair, omega arith)) (member_split r v.kept (k ∷ []) x))
      (omega arith) (λ r x. member_left r v.kept (k ∷ []) x)
      (λ low. ⊎_elim (λ e. inl e) (λ (e : min n k ≡ k). inr (subst (λ (r : ℕ). Member r w.kept) (sym e) (member_last k v.kept))) (least_of_two n k))
      (λ r x. inl x) (λ gone. absurd (live gone)) in
      (w, keeps, tt, (min n k, words, after), refl)

  splits_keep : (n : ℕ) (views : List (View J)) (port : ℕ) (v : View J) → get_elem? views port ≡ some v → v.part ≡ First → Least legal n views → Least legal n (set views port (one_more_out v) ++ newcomer Other ∷ [])
  splits_keep n views port v at first h =
      let l : View J = one_more_out v in let new : View J = newcomer Other in let vs = set views port l in
      let up : (r : ℕ) → KeptBy views r → KeptBy (vs ++ new ∷ []) r = λ r k. let a = kept_there views port v l r at (λ s x. x) k in (a.0, a.1, at_longer vs (new ∷ []) a.0 a.1 a.2, a.3) in record {
        ranks = each_snoc (λ u. (r : ℕ) → Member r u.kept → legal r) vs new (λ r x. absurd x) (each_set (λ j u. (r : ℕ) → Member r u.kept → legal r) views port l (h.ranks port v at) (λ j u _ e. h.ranks j u e));
        low = each_snoc (λ u. (r : ℕ) → Member r u.kept → n ≤ r) vs new (λ r x. absurd x) (each_set (λ j u. (r : ℕ) → Member r u.kept → n ≤ r) views port l (h.low port v at) (λ j u _ e. h.low j u e));
        stands = λ s. up n (h.stands s);
        seen = each_snoc (λ u. (r : ℕ) → Member r u.saw → KeptBy (vs ++ new ∷ []) r) vs new (λ r x. absurd x) (each_set (λ j u. (r : ℕ) → Member r u.saw → KeptBy (vs ++ new ∷ []) r) views port l (λ r x. up r (h.seen port v at r x)) (λ j u _ e r x. up r (h.seen j u e r x)));
        parts = parts_split (λ (u : View J). u.part) (λ (u : View J). u.out) views port v l new at first first refl refl refl h.parts;
        spent = each_snoc (λ u. u.part ≡ Spent → (u.kept ≡ []) × (u.saw ≡ [])) vs new (λ _. (refl, refl)) (each_set (λ j u. u.part ≡ Spent → (u.kept ≡ []) × (u.saw ≡ [])) views port l (h.spent port v at) (λ j u _ e. h.spent j u e));
      }

  pub splits : (id : ℕ) (v : View J) → v.part ≡ First → Splits (Holds legal) id v (one_more_out v) (newcomer Other)
  splits id v first s h at = (h.0, h.1, splits_keep h.0 s.views id v at first h.2)

  joins_keep : (n : ℕ) (views : List (View J)) (port other : ℕ) (v u : View J) → get_elem? views port ≡ some v → v.part ≡ First → (other ≡ port → ⊥) → get_elem? (set views port (together v u)) other ≡ some u → u.part ≡ Other
      → Least legal n views → Least legal n (set (set views port (together v u)) other (newcomer Spent))
  joins_keep n views port other v u at first apart there o h =
      let b : View J = together v u in let gone : View J = newcomer Spent in let vs = set views port b in
      let was : get_elem? views other ≡ some u = ⊎_elim (λ (x : (other ≡ port) × (b ≡ u)). absurd (apart x.0)) (λ (x : (other ≢ port) × (get_elem? views other ≡ some u)). x.1) (at_set views port other b u there) in
      let here : get_elem? (set vs other gone) port ≡ some b = set_else vs other port gone (λ e. apart (sym e)) ∙ set_at views port b v at in
      let up : (r : ℕ) → KeptBy views r → KeptBy (set vs other gone) r = λ r k. dite (ℕ_discrete k.0 port)
      (λ e. let same : v ≡ k.1 = some-injective v k.1 (sym at ∙ (sym (ap (λ p. get_elem? views p) e) ∙ k.2)) in (port, b, here, member_left r v.kept u.kept (subst (λ (x : View J). Member r x.kept) (sym same) k.3)))
      (λ ne. dite (ℕ_discrete k.0 other)
      (λ e. let same : u ≡ k.1 = some-injective u k.1 (sym was ∙ (sym (ap (λ p. get_elem? views p) e) ∙ k.2)) in (port, b, here, member_right r v.kept u.kept (subst (λ (x : View J). Member r x.kept) (sym same) k.3)))
      (λ ne2. (k.0, k.1, set_else vs other k.0 gone ne2 ∙ (set_else views port k.0 b ne ∙ k.2), k.3))) in
      record {
        ranks = each_set (λ j y. (r : ℕ) → Member r y.kept → legal r) vs other gone (λ r x. absurd x)
            (λ j y _ e. each_set (λ j y. (r : ℕ) → Member r y.kept → legal r) views port b (λ r x. ⊎_elim (λ a. h.ranks port v at r a) (λ c. h.ranks other u was r c) (member_split r v.kept u.kept x)) (λ j y _ e. h.ranks j y e) j y e);
        low = each_set (λ j y. (r : ℕ) → Member r y.kept → n ≤ r) vs other gone (λ r x. absurd x)
            (λ j y _ e. each_set (λ j y. (r : ℕ) → Member r y.kept → n ≤ r) views port b (λ r x. ⊎_elim (λ a. h.low port v at r a) (λ c. h.low other u was r c) (member_split r v.kept u.kept x)) (λ j y _ e. h.low j y e) j y e);
        stands = λ s. up n (h.stands s);
        seen = each_set (λ j y. (r : ℕ) → Member r y.saw → KeptBy (set vs other gone) r) vs other gone (λ r x. absurd x)
            (λ j y _ e. each_set (λ j y. (r : ℕ) → Member r y.saw → KeptBy (set vs other gone) r) views port b
            (λ r x. ⊎_elim (λ a. up r (h.seen port v at r a)) (λ c. up r (h.seen other u was r c)) (member_split r v.saw u.saw x)) (λ j y _ e r x. up r (h.seen j y e r x)) j y e);
        parts = parts_join (λ (y : View J). y.part) (λ (y : View J). y.out) views port other v u b gone at first apart there o first refl refl refl h.parts;
        spent = each_set (λ j y. y.part ≡ Spent → (y.kept ≡ []) × (y.saw ≡ [])) vs other gone (λ _. (refl, refl))
            (λ j y _ e. each_set (λ j y. y.part ≡ Spent → (y.kept ≡ []) × (y.saw ≡ [])) views port b (λ g. absurd (not_spent (sym first ∙ g))) (λ j y _ e. h.spent j y e) j y e);
      }
    where
      not_spent : First ≡ Spent → ⊥
      not_spent e = cc

  pub joins : (id : ℕ) (v : View J) (other : ℕ) (u : View J) → v.part ≡ First → u.part ≡ Other → Joins (Holds legal) id v other u (together v u) (newcomer Spent)
  joins id v other u first o s h at apart there = (h.0, h.1, joins_keep h.0 s.views id other v u at first apart there o h.2)

  -- what the last seat knows
  pub closes : ((r : ℕ) → legal r → r < 2 ^ 63) → (found id : ℕ) (v : View J) (s : State (Unit {0}) (View J)) (ws : List ℕ) → Holds legal s → get_elem? s.views id ≡ some v → s.words ≡ ws → get_elem? ws 0 ≡ some found → v.part ≡ First → v.out ≡ 0
      → (found < 2 ^ 63 → Member found v.kept × ((r : ℕ) → Member r v.kept → found ≤ r)) × (2 ^ 63 ≤ found → v.kept ≡ []) × ((r : ℕ) → Member r v.saw → Member r v.kept)
  closes small found id v s ws h at is there first none =
      let e : h.0 ≡ found = some-injective h.0 found (ap (λ l. get_elem? l 0) (sym h.1 ∙ is) ∙ there) in let l : Least legal found s.views = subst (λ (k : ℕ). Least legal k s.views) e h.2 in (
        (λ low. (alone_kept found s.views id v at l first none found (l.stands low), l.low id v at)),
        (λ high. all_none v.kept (λ r x. let a = small r (l.ranks id v at r x) in let b = l.low id v at r x in omega arith)),
        (λ r x. alone_kept found s.views id v at l first none r (l.seen id v at r x)),
      )
