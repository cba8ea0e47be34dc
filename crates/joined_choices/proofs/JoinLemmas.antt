-- Choices of joined lists of variables.
use Rattle.std.proofs.Common.{◌≡◌, ℕ, suc, ◌+◌, ◌*◌, ◌<◌, ◌≤◌, ◌++◌, List, [], ◌∷◌, length, Bool, true, false, ◌&&◌, ◌⊎◌, inl, inr, refl, sym, subst, ap, ◌∙◌, arith}
use Rattle.std.proofs.lemmas.Bool.{cases_order, cases_lt}
use Rattle.std.proofs.lemmas.Nat.{mul-le}
use Rattle.std.proofs.Math.Nat.{mul_assoc, mul_comm}
use Rattle.choice_rank.specs.declared.variable.VarShape.{VarShape}
use Rattle.choice_rank.specs.Choices.{IsChoice, choices_of, cost_at, cost_of, index_of, rank_of}
use Rattle.choice_rank.specs.Least.{IsLeast, NoneLegal}
use Rattle.choice_rank.proofs.ChoiceLemmas.{index_lt}
use Rattle.joined_choices.specs.Joined.{IsJoined}

-- ---- sizes, costs and indices

pub choices_join : (vs ws : List VarShape) → choices_of (vs ++ ws) ≡ choices_of vs * choices_of ws
choices_join [] ws = omega arith
choices_join (v ∷ vs) ws = ap (λ (n : ℕ). v.size * n) (choices_join vs ws) ∙ sym (mul_assoc v.size (choices_of vs) (choices_of ws))

pub cost_join : (vs ws : List VarShape) (xs ys : List ℕ) → IsChoice vs xs → cost_of (vs ++ ws) (xs ++ ys) ≡ cost_of vs xs + cost_of ws ys
cost_join [] ws [] ys h = omega arith
cost_join [] ws (x ∷ xs) ys h = absurd h
cost_join (v ∷ vs) ws [] ys h = absurd h
cost_join (v ∷ vs) ws (x ∷ xs) ys h = omega (arith, cost_join vs ws xs ys h.1)

spread : (a b c : ℕ) → (a + b) * c ≡ a * c + b * c
spread a b c = omega arith

pub index_join : (vs ws : List VarShape) (xs ys : List ℕ) → IsChoice vs xs → index_of (vs ++ ws) (xs ++ ys) ≡ index_of vs xs * choices_of ws + index_of ws ys
index_join [] ws [] ys h = omega arith
index_join [] ws (x ∷ xs) ys h = absurd h
index_join (v ∷ vs) ws [] ys h = absurd h
index_join (v ∷ vs) ws (x ∷ xs) ys h =
    let prefix : x * choices_of (vs ++ ws) ≡ x * choices_of vs * choices_of ws = ap (λ (n : ℕ). x * n) (choices_join vs ws) ∙ sym (mul_assoc x (choices_of vs) (choices_of ws)) in
    omega (arith, prefix, index_join vs ws xs ys h.1, spread (x * choices_of vs) (index_of vs xs) (choices_of ws))

pub choice_join : (vs ws : List VarShape) (xs ys : List ℕ) → IsChoice vs xs → IsChoice ws ys → IsChoice (vs ++ ws) (xs ++ ys)
choice_join [] ws [] ys h k = k
choice_join [] ws (x ∷ xs) ys h k = absurd h
choice_join (v ∷ vs) ws [] ys h k = absurd h
choice_join (v ∷ vs) ws (x ∷ xs) ys h k = (h.0, choice_join vs ws xs ys h.1 k)

pub choice_parts : (vs ws : List VarShape) (c : List ℕ) → IsChoice (vs ++ ws) c → IsJoined vs ws c
choice_parts [] ws c h = record { prefix = []; suffix = c; is = refl; prefix_choice = tt; suffix_choice = h }
choice_parts (v ∷ vs) ws [] h = absurd h
choice_parts (v ∷ vs) ws (x ∷ c) h =
    let r : IsJoined vs ws c = choice_parts vs ws c h.1 in
    record { prefix = x ∷ r.prefix; suffix = r.suffix; is = ap (λ (l : List ℕ). x ∷ l) r.is; prefix_choice = (h.0, r.prefix_choice); suffix_choice = r.suffix_choice }

-- ---- ranks

-- costs come first, then indices below n
pub record IsNoLater (n c i d j : ℕ) : Type 0 where
  pub costs : c ≤ d
  pub indices : c ≡ d → i ≤ j

pub rank_tells : (n c i d j : ℕ) → i < n → j < n → c * n + i ≤ d * n + j → IsNoLater n c i d j
rank_tells n c i d j li lj h = elim (cases_lt d c) [
  | inl l ↦
      let more : (d + 1) * n ≤ c * n = mul-le (d + 1) n c n (omega (arith, l)) (omega arith) in
      absurd (omega (arith, more, spread d 1 n, h, lj))
  | inr l ↦ record { costs = l; indices = λ e. let same : c * n ≡ d * n = ap (λ (x : ℕ). x * n) e in omega (arith, same, h) }
]

pub rank_from : (n c i d j : ℕ) → i < n → IsNoLater n c i d j → c * n + i ≤ d * n + j
rank_from n c i d j li h = elim (cases_lt c d) [
  | inl l ↦
      let more : (c + 1) * n ≤ d * n = mul-le (c + 1) n d n (omega (arith, l)) (omega arith) in
      omega (arith, more, spread c 1 n, li)
  | inr l ↦
      let e : c ≡ d = omega (arith, l, h.costs) in
      let same : c * n ≡ d * n = ap (λ (x : ℕ). x * n) e in
      omega (arith, same, h.indices e)
]

-- the cost and the index of joined choices
pub joined_rank : (vs ws : List VarShape) (xs ys : List ℕ) → IsChoice vs xs → rank_of (vs ++ ws) (xs ++ ys) ≡ (cost_of vs xs + cost_of ws ys) * choices_of (vs ++ ws) + (index_of vs xs * choices_of ws + index_of ws ys)
joined_rank vs ws xs ys h =
    ap (λ (c : ℕ). c * choices_of (vs ++ ws) + index_of (vs ++ ws) (xs ++ ys)) (cost_join vs ws xs ys h)
    ∙ ap (λ (i : ℕ). (cost_of vs xs + cost_of ws ys) * choices_of (vs ++ ws) + i) (index_join vs ws xs ys h)

module _ (vs ws : List VarShape) where
  -- joined choices of which each is no later than another's part are no later
  pub joined_le :
      (xs ys us zs : List ℕ) → IsChoice vs xs → IsChoice ws ys → IsChoice vs us → IsChoice ws zs
      → rank_of vs xs ≤ rank_of vs us → rank_of ws ys ≤ rank_of ws zs → rank_of (vs ++ ws) (xs ++ ys) ≤ rank_of (vs ++ ws) (us ++ zs)
  joined_le xs ys us zs hx hy hu hz l m =
      let a : IsNoLater (choices_of vs) (cost_of vs xs) (index_of vs xs) (cost_of vs us) (index_of vs us) = rank_tells (choices_of vs) (cost_of vs xs) (index_of vs xs) (cost_of vs us) (index_of vs us) (index_lt vs xs hx) (index_lt vs us hu) l in
      let b : IsNoLater (choices_of ws) (cost_of ws ys) (index_of ws ys) (cost_of ws zs) (index_of ws zs) = rank_tells (choices_of ws) (cost_of ws ys) (index_of ws ys) (cost_of ws zs) (index_of ws zs) (index_lt ws ys hy) (index_lt ws zs hz) m in
      let below : index_of vs xs * choices_of ws + index_of ws ys < choices_of (vs ++ ws) = omega (arith, index_join vs ws xs ys hx, index_lt (vs ++ ws) (xs ++ ys) (choice_join vs ws xs ys hx hy)) in
      let no_later : IsNoLater (choices_of (vs ++ ws)) (cost_of vs xs + cost_of ws ys) (index_of vs xs * choices_of ws + index_of ws ys) (cost_of vs us + cost_of ws zs) (index_of vs us * choices_of ws + index_of ws zs) = record {
        costs = omega (arith, a.costs, b.costs);
        indices = λ e.
            let ea : cost_of vs xs ≡ cost_of vs us = omega (arith, e, a.costs, b.costs) in
            let eb : cost_of ws ys ≡ cost_of ws zs = omega (arith, e, a.costs, b.costs) in
            let product : index_of vs xs * choices_of ws ≤ index_of vs us * choices_of ws = mul-le (index_of vs xs) (choices_of ws) (index_of vs us) (choices_of ws) (a.indices ea) (omega arith) in
            omega (arith, product, b.indices eb);
      } in
      let le = rank_from (choices_of (vs ++ ws)) (cost_of vs xs + cost_of ws ys) (index_of vs xs * choices_of ws + index_of ws ys) (cost_of vs us + cost_of ws zs) (index_of vs us * choices_of ws + index_of ws zs) below no_later in
      omega (arith, joined_rank vs ws xs ys hx, joined_rank vs ws us zs hu, le)

  tells :
      (xs ys us zs : List ℕ) → IsChoice vs xs → IsChoice ws ys → IsChoice vs us → IsChoice ws zs → rank_of (vs ++ ws) (xs ++ ys) ≤ rank_of (vs ++ ws) (us ++ zs)
      → IsNoLater (choices_of (vs ++ ws)) (cost_of vs xs + cost_of ws ys) (index_of vs xs * choices_of ws + index_of ws ys) (cost_of vs us + cost_of ws zs) (index_of vs us * choices_of ws + index_of ws zs)
  tells xs ys us zs hx hy hu hz l =
      let below : index_of vs xs * choices_of ws + index_of ws ys < choices_of (vs ++ ws) = omega (arith, index_join vs ws xs ys hx, index_lt (vs ++ ws) (xs ++ ys) (choice_join vs ws xs ys hx hy)) in
      let below_too : index_of vs us * choices_of ws + index_of ws zs < choices_of (vs ++ ws) = omega (arith, index_join vs ws us zs hu, index_lt (vs ++ ws) (us ++ zs) (choice_join vs ws us zs hu hz)) in
      let le : (cost_of vs xs + cost_of ws ys) * choices_of (vs ++ ws) + (index_of vs xs * choices_of ws + index_of ws ys) ≤ (cost_of vs us + cost_of ws zs) * choices_of (vs ++ ws) + (index_of vs us * choices_of ws + index_of ws zs) =
      omega (arith, joined_rank vs ws xs ys hx, joined_rank vs ws us zs hu, l) in
      rank_tells (choices_of (vs ++ ws)) (cost_of vs xs + cost_of ws ys) (index_of vs xs * choices_of ws + index_of ws ys) (cost_of vs us + cost_of ws zs) (index_of vs us * choices_of ws + index_of ws zs) below below_too le

  -- beside the same prefix, the suffixes are ordered as the joined choices are
  pub suffix_le : (xs ys zs : List ℕ) → IsChoice vs xs → IsChoice ws ys → IsChoice ws zs → rank_of (vs ++ ws) (xs ++ ys) ≤ rank_of (vs ++ ws) (xs ++ zs) → rank_of ws ys ≤ rank_of ws zs
  suffix_le xs ys zs hx hy hz l =
      let t = tells xs ys xs zs hx hy hx hz l in
      rank_from (choices_of ws) (cost_of ws ys) (index_of ws ys) (cost_of ws zs) (index_of ws zs) (index_lt ws ys hy) record {
        costs = omega (arith, t.costs);
        indices = λ e. omega (arith, t.indices (omega (arith, e)));
      }

  -- before the same suffix, the prefixes are
  pub prefix_le : (xs us ys : List ℕ) → IsChoice vs xs → IsChoice vs us → IsChoice ws ys → rank_of (vs ++ ws) (xs ++ ys) ≤ rank_of (vs ++ ws) (us ++ ys) → rank_of vs xs ≤ rank_of vs us
  prefix_le xs us ys hx hu hy l =
      let t = tells xs ys us ys hx hy hu hy l in
      rank_from (choices_of vs) (cost_of vs xs) (index_of vs xs) (cost_of vs us) (index_of vs us) (index_lt vs xs hx) record {
        costs = omega (arith, t.costs);
        indices = λ e. not_more (index_of vs xs) (index_of vs us) (choices_of ws) (index_of ws ys) (index_lt ws ys hy) (t.indices (omega (arith, e)));
      }
    where
      not_more : (i j n y : ℕ) → y < n → i * n + y ≤ j * n + y → i ≤ j
      not_more i j n y low h = elim (cases_lt j i) [
        | inl l ↦
            let more : (j + 1) * n ≤ i * n = mul-le (j + 1) n i n (omega (arith, l)) (omega arith) in
            absurd (omega (arith, more, spread j 1 n, h, low))
        | inr l ↦ l
      ]

-- ---- the least of joined choices

both : (a b : Bool) → (a && b) ≡ true → (a ≡ true) × (b ≡ true)
both true true e = (refl, refl)
both true false e = cc
both false b e = cc

both_true : (a b : Bool) → a ≡ true → b ≡ true → (a && b) ≡ true
both_true a b e f = rw (e, f) refl

-- a joined choice is legal where each of its parts is
module _ (vs ws : List VarShape) (legal prefix suffix : List ℕ → Bool) (parts : (xs ys : List ℕ) → IsChoice vs xs → IsChoice ws ys → legal (xs ++ ys) ≡ (prefix xs && suffix ys)) where
  made_legal : (xs ys : List ℕ) → IsChoice vs xs → IsChoice ws ys → prefix xs ≡ true → suffix ys ≡ true → legal (xs ++ ys) ≡ true
  made_legal xs ys hx hy e f = parts xs ys hx hy ∙ both_true (prefix xs) (suffix ys) e f

  pub least_joined : (xs ys : List ℕ) → IsLeast vs prefix xs → IsLeast ws suffix ys → IsLeast (vs ++ ws) legal (xs ++ ys)
  least_joined xs ys a b = record {
    is_choice = choice_join vs ws xs ys a.is_choice b.is_choice;
    is_legal = made_legal xs ys a.is_choice b.is_choice a.is_legal b.is_legal;
    is_lowest = λ other choice ok.
        let r : IsJoined vs ws other = choice_parts vs ws other choice in
        let ok_parts : legal (r.prefix ++ r.suffix) ≡ true = subst (λ (c : List ℕ). legal c ≡ true) r.is ok in
        let each = both (prefix r.prefix) (suffix r.suffix) (sym (parts r.prefix r.suffix r.prefix_choice r.suffix_choice) ∙ ok_parts) in
        let low = joined_le vs ws xs ys r.prefix r.suffix a.is_choice b.is_choice r.prefix_choice r.suffix_choice (a.is_lowest r.prefix r.prefix_choice each.0) (b.is_lowest r.suffix r.suffix_choice each.1) in
        subst (λ (c : List ℕ). rank_of (vs ++ ws) (xs ++ ys) ≤ rank_of (vs ++ ws) c) (sym r.is) low;
  }

  pub least_prefix : (xs ys : List ℕ) → IsChoice vs xs → IsChoice ws ys → IsLeast (vs ++ ws) legal (xs ++ ys) → IsLeast vs prefix xs
  least_prefix xs ys hx hy l =
      let each = both (prefix xs) (suffix ys) (sym (parts xs ys hx hy) ∙ l.is_legal) in
      record {
        is_choice = hx;
        is_legal = each.0;
        is_lowest = λ other choice ok. prefix_le vs ws xs other ys hx choice hy (l.is_lowest (other ++ ys) (choice_join vs ws other ys choice hy) (made_legal other ys choice hy ok each.1));
      }

  pub least_suffix : (xs ys : List ℕ) → IsChoice vs xs → IsChoice ws ys → IsLeast (vs ++ ws) legal (xs ++ ys) → IsLeast ws suffix ys
  least_suffix xs ys hx hy l =
      let each = both (prefix xs) (suffix ys) (sym (parts xs ys hx hy) ∙ l.is_legal) in
      record {
        is_choice = hy;
        is_legal = each.1;
        is_lowest = λ other choice ok. suffix_le vs ws xs ys other hx hy choice (l.is_lowest (xs ++ other) (choice_join vs ws xs other hx choice) (made_legal xs other hx choice each.0 ok));
      }

  pub none_prefix : NoneLegal vs prefix → NoneLegal (vs ++ ws) legal
  none_prefix none other choice ok =
      let r : IsJoined vs ws other = choice_parts vs ws other choice in
      let ok_parts : legal (r.prefix ++ r.suffix) ≡ true = subst (λ (c : List ℕ). legal c ≡ true) r.is ok in
      none r.prefix r.prefix_choice (both (prefix r.prefix) (suffix r.suffix) (sym (parts r.prefix r.suffix r.prefix_choice r.suffix_choice) ∙ ok_parts)).0

  pub none_suffix : NoneLegal ws suffix → NoneLegal (vs ++ ws) legal
  none_suffix none other choice ok =
      let r : IsJoined vs ws other = choice_parts vs ws other choice in
      let ok_parts : legal (r.prefix ++ r.suffix) ≡ true = subst (λ (c : List ℕ). legal c ≡ true) r.is ok in
      none r.suffix r.suffix_choice (both (prefix r.prefix) (suffix r.suffix) (sym (parts r.prefix r.suffix r.prefix_choice r.suffix_choice) ∙ ok_parts)).1

  -- beside a legal suffix, no prefix is legal where no joined choice is
  pub no_prefix : (ys : List ℕ) → IsChoice ws ys → suffix ys ≡ true → NoneLegal (vs ++ ws) legal → NoneLegal vs prefix
  no_prefix ys hy ok none other choice e = none (other ++ ys) (choice_join vs ws other ys choice hy) (made_legal other ys choice hy e ok)
