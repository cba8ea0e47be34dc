-- What closing, keeping and splitting do to a search under way.
use Rattle.std.proofs.Common.{◌≡◌, ℕ, zero, suc, ◌+◌, ◌*◌, ◌/◌, ◌^◌, ◌<◌, ◌≤◌, List, [], ◌∷◌, ◌++◌, true, false, Option, Some, None, IfSome, inl, inr, refl, sym, subst, ap, ◌∙◌, arith}
use Rattle.std.proofs.lemmas.Nat.{shr-shr, div_below, pow_pos, pow_below}
use Rattle.std.specs.Option.{option_to_list}
use Rattle.res_base.specs.Lists.{Each, Member}
use Rattle.res_base.proofs.ListLemmas.{total_snoc, each_push, each_prefix, each_map, member_left, member_last, pairs_push, pairs_prefix}
use Rattle.box_split.specs.Boxes.{Run, IsBox, is_single, lows, low_of}
use Rattle.box_split.specs.Paths.{box_of, covers}
use Rattle.box_split.proofs.RunLemmas.{lt_tells, halves_count}
use Rattle.box_split.proofs.PathLemmas.{lows_choice, box_zero}
use Rattle.box_split.proofs.PrefixLemmas.{same_box}
use Rattle.box_split.proofs.LawLemmas.{whole_covers}
use Rattle.search_api.specs.declared.verdict.Reason.{Reason}
use Rattle.search_api.specs.declared.verdict.Verdict.TheVariants as verdict
use Rattle.search_api.specs.declared.outcome.Cause.{Cause}
use Rattle.search_api.specs.declared.outcome.Cause.TheVariants as cause
use Rattle.search_api.specs.declared.outcome.Closed.{Closed}
use Rattle.search_api.specs.Meaning.{Meaning, IsLawful}
use Rattle.search_api.specs.Accounts.{IsClosed, IsEntry, IsLegalRank, IsBest, OpenAbove, IfLeaf, IsInTime, low_at, Accounted, InSerialOrder, first_at}
use Rattle.serial_search.specs.Going.{cut_rank, IsBefore, Going}
use Rattle.serial_search.proofs.OrderLemmas.{late_all, ordered, first_le_last, pairs_map}

cut_none : (r low : ℕ) → cut_rank (Some r) low ≡ None → low ≤ r
cut_none r low c = elim (lt_tells r low) [
  | inl y ↦ let x : ◌≡◌ {A = Option ℕ} (Some r) None = rw y.0 at c in cc
  | inr n ↦ n.1
]

half_none : (k : ℕ) → 0 < k → 1 / 2 ^ k ≡ 0
half_none k h = omega (arith, div_below 1 (2 ^ k) 1 (pow_pos k) (omega (arith, pow_below 0 k h)))

-- a path that worker 0 closed
abbrev pub entry_of : ℕ → Cause → Closed
entry_of path c = record { worker = 0; path = path; cause = c }

module _ (m : Meaning) where
  none_above : OpenAbove m 1
  none_above k b pos at =
      let e : ◌≡◌ {A = Option (List Run)} None (Some b) = sym (box_zero m.shape) ∙ (ap (box_of m.shape) (sym (half_none k pos)) ∙ at) in
      cc

  -- the verdict on a half's parent is that on its box
  open_half : (p bit : ℕ) (box : List Run) → bit < 2 → box_of m.shape p ≡ Some box → m.verdict box ≡ verdict.Open → OpenAbove m p → OpenAbove m (2 * p + bit)
  open_half p bit box l e o h zero b pos at = absurd (omega arith)
  open_half p bit box l e o h (suc zero) b pos at =
      let q : (2 * p + bit) / 2 ^ 1 ≡ p = omega arith in
      let same : box ≡ b = same_box box b (sym e ∙ (ap (box_of m.shape) (sym q) ∙ at)) in
      ap m.verdict (sym same) ∙ o
  open_half p bit box l e o h (suc (suc k)) b pos at =
      let q : (2 * p + bit) / 2 ^ 1 ≡ p = omega arith in
      let r : (2 * p + bit) / 2 ^ suc (suc k) ≡ p / 2 ^ suc k = ap (λ n. (2 * p + bit) / 2 ^ n) (omega arith) ∙ sym (shr-shr (2 * p + bit) 1 (suc k)) ∙ ap (λ n. n / 2 ^ suc k) q in
      h (suc k) b (omega arith) (ap (box_of m.shape) (sym r) ∙ at)

  -- more kept ranks leave each entry accounted for
  closed_more : (kept more : List ℕ) (box : List Run) (c : Cause) → IsClosed m kept box c → IsClosed m (kept ++ more) box c
  closed_more kept more box (cause.Bad reason) h = h
  closed_more kept more box (cause.Cut rank) h = (member_left rank kept more h.0, h.1)
  closed_more kept more box (cause.Leaf rank) h = (h.0, h.1, member_left rank kept more h.2)

  entry_more : (kept more : List ℕ) (e : Closed) → IsEntry m kept e → IsEntry m (kept ++ more) e
  entry_more kept more e h = record { box = h.box; at = h.at; closed = closed_more kept more h.box e.cause h.closed }

  going_close : (pending : List ℕ) (best : Option ℕ) (kept : List ℕ) (closed : List Closed) (e : Closed) → Going m (pending ++ e.path ∷ []) best kept closed → e.worker ≡ 0 → IsEntry m kept e → Each (λ (x : Closed). IsInTime m.shape x e) closed → Going m pending best kept (closed ++ e ∷ [])
  going_close pending best kept closed e g w h late =
      let vs = m.shape in
      let o = each_prefix (OpenAbove m) pending e.path g.open_pending in
      let order = pairs_prefix (λ p q. IsBefore vs q p) pending e.path g.next_last in
      let All : Closed → Type 0 = λ x. Each (IsBefore vs x.path) (pending ++ e.path ∷ []) in
      let Rest : Closed → Type 0 = λ x. Each (IsBefore vs x.path) pending in
      let Last : Closed → Type 0 = λ x. IsBefore vs x.path e.path in
      record {
        cover = λ c i. omega (arith, g.cover c i, total_snoc (λ p. covers vs p c) pending e.path, total_snoc (λ (x : Closed). covers vs x.path c) closed e);
        entries = each_push (IsEntry m kept) closed e g.entries h;
        legal = g.legal;
        best_is = g.best_is;
        open_above = each_push (λ (x : Closed). OpenAbove m x.path) closed e g.open_above o.1;
        in_time = pairs_push (IsInTime vs) closed e g.in_time late;
        worker = each_push (λ (x : Closed). x.worker ≡ 0) closed e g.worker w;
        in_order = pairs_push (λ (x y : Closed). IsBefore vs x.path y.path) closed e g.in_order (each_map All Last closed (λ x h. (each_prefix (IsBefore vs x.path) pending e.path h).1) g.ahead);
        ahead = each_push Rest closed e (each_map All Rest closed (λ x h. (each_prefix (IsBefore vs x.path) pending e.path h).0) g.ahead) order.1;
        next_last = order.0;
        open_pending = o.0;
      }

  best_more : (best : Option ℕ) (kept : List ℕ) (low : ℕ) → cut_rank best low ≡ None → IsBest kept best → IsBest (kept ++ low ∷ []) (Some low)
  best_more None kept low c b = (member_last low kept, each_push (λ k. low ≤ k) kept low (subst (Each (λ k. low ≤ k)) (sym b) tt) (omega arith))
  best_more (Some r) kept low c b =
      let l = cut_none r low c in
      (member_last low kept, each_push (λ k. low ≤ k) kept low (each_map (λ k. r ≤ k) (λ k. low ≤ k) kept (λ k h. omega arith) b.1) (omega arith))

  going_kept : (pending : List ℕ) (best : Option ℕ) (kept : List ℕ) (closed : List Closed) (low : ℕ) → Going m pending best kept closed → cut_rank best low ≡ None → IsLegalRank m low → Going m pending (Some low) (kept ++ low ∷ []) closed
  going_kept pending best kept closed low g c l = record {
    cover = g.cover;
    entries = each_map (IsEntry m kept) (IsEntry m (kept ++ low ∷ [])) closed (entry_more kept (low ∷ [])) g.entries;
    legal = each_push (IsLegalRank m) kept low g.legal l;
    best_is = best_more best kept low c g.best_is;
    open_above = g.open_above;
    in_time = g.in_time;
    worker = g.worker;
    in_order = g.in_order;
    ahead = g.ahead;
    next_last = g.next_last;
    open_pending = g.open_pending;
  }

  pub going_split : (pending : List ℕ) (best : Option ℕ) (kept : List ℕ) (closed : List Closed) (path : ℕ) (box : List Run) → Going m (pending ++ path ∷ []) best kept closed → box_of m.shape path ≡ Some box → IsBox m.shape box → is_single box ≡ false → m.verdict box ≡ verdict.Open → Going m ((pending ++ (2 * path + 1) ∷ []) ++ (2 * path) ∷ []) best kept closed
  going_split pending best kept closed path box g e ib s v =
      let vs = m.shape in
      let d = ordered vs path box e ib s in
      let o = each_prefix (OpenAbove m) pending path g.open_pending in
      let up = open_half path 1 box (omega arith) e v o.1 in
      let two : 2 * path + 0 ≡ 2 * path = omega arith in
      let down = subst (OpenAbove m) two (open_half path 0 box (omega arith) e v o.1) in
      let R : ℕ → ℕ → Type 0 = λ p q. IsBefore vs q p in
      let order = pairs_prefix R pending path g.next_last in
      let more = pairs_push R pending (2 * path + 1) order.0 (each_map (λ x. R x path) (λ x. R x (2 * path + 1)) pending (λ x h. omega (arith, h, d.last_high)) order.1) in
      record {
        cover = λ c i. omega (arith, g.cover c i, total_snoc (λ p. covers vs p c) pending path, total_snoc (λ p. covers vs p c) (pending ++ (2 * path + 1) ∷ []) (2 * path), total_snoc (λ p. covers vs p c) pending (2 * path + 1), halves_count vs path box e s c);
        entries = g.entries;
        legal = g.legal;
        best_is = g.best_is;
        open_above = g.open_above;
        in_time = g.in_time;
        worker = g.worker;
        in_order = g.in_order;
        ahead = each_map (λ (x : Closed). Each (IsBefore vs x.path) (pending ++ path ∷ [])) (λ (x : Closed). Each (IsBefore vs x.path) ((pending ++ (2 * path + 1) ∷ []) ++ (2 * path) ∷ [])) closed
            (λ x h.
            let f = each_prefix (IsBefore vs x.path) pending path h in
            each_push (IsBefore vs x.path) (pending ++ (2 * path + 1) ∷ []) (2 * path) (each_push (IsBefore vs x.path) pending (2 * path + 1) f.0 (omega (arith, f.1, d.first_low, d.low_upright, d.between))) (omega (arith, f.1, d.first_low))) g.ahead;
        next_last = pairs_push R (pending ++ (2 * path + 1) ∷ []) (2 * path) more (each_push (λ x. R x (2 * path)) pending (2 * path + 1) (each_map (λ x. R x path) (λ x. R x (2 * path)) pending (λ x h. omega (arith, h, d.last_high, d.between, d.high_upright)) order.1) d.between);
        open_pending = each_push (OpenAbove m) (pending ++ (2 * path + 1) ∷ []) (2 * path) (each_push (OpenAbove m) pending (2 * path + 1) o.0 up) down;
      }

  kept_legal : (known : Option ℕ) → IfSome known (IsLegalRank m) → Each (IsLegalRank m) (option_to_list known)
  kept_legal None k = tt
  kept_legal (Some rank) k = (k, tt)

  known_best : (known : Option ℕ) → IsBest (option_to_list known) known
  known_best None = refl
  known_best (Some rank) = (inl refl, (omega arith, tt))

  pub going_first : (known : Option ℕ) → IfSome known (IsLegalRank m) → Going m (1 ∷ []) known (option_to_list known) []
  going_first known k = record {
    cover = λ c i. omega (arith, whole_covers m.shape c i);
    entries = tt;
    legal = kept_legal known k;
    best_is = known_best known;
    open_above = tt;
    in_time = tt;
    worker = tt;
    in_order = tt;
    ahead = tt;
    next_last = (tt, tt);
    open_pending = (none_above, tt);
  }

  pub going_done : (best : Option ℕ) (kept : List ℕ) (closed : List Closed) → Going m [] best kept closed → Accounted m best kept closed
  going_done best kept closed g = record { cover = λ c i. omega (arith, g.cover c i); entries = g.entries; legal = g.legal; best_is = g.best_is; open_above = g.open_above; in_time = g.in_time }

  pub order_done : (best : Option ℕ) (kept : List ℕ) (closed : List Closed) → IsLawful m → Going m [] best kept closed → InSerialOrder m.shape closed
  order_done best kept closed lawful g = record {
    worker = g.worker;
    order = pairs_map (IsEntry m kept) (λ (e f : Closed). IsBefore m.shape e.path f.path) (λ (e f : Closed). first_at m.shape e.path < first_at m.shape f.path) closed
        (λ e f h b. omega (arith, b, first_le_last m.shape e.path h.box lawful.is_shape.positions h.at)) g.entries g.in_order;
  }

  cut_some : (best : Option ℕ) (kept : List ℕ) (low rank : ℕ) → ◌≡◌ {A = Option ℕ} (Some rank) (cut_rank best low) → IsBest kept best → Member rank kept × (rank < low)
  cut_some None kept low rank e b = cc
  cut_some (Some r) kept low rank e b = elim (lt_tells r low) [
    | inl y ↦
        let x : ◌≡◌ {A = Option ℕ} (Some rank) (Some r) = rw y.0 at e in
        let same : rank ≡ r = cc in
        (subst (λ k. Member k kept) (sym same) b.0, omega (arith, y.1))
    | inr n ↦ let x : ◌≡◌ {A = Option ℕ} (Some rank) None = rw n.0 at e in cc
  ]

  -- ---- the three ways to close a box
  pub close_cut : (pending : List ℕ) (best : Option ℕ) (kept : List ℕ) (closed : List Closed) (path : ℕ) (box : List Run) (low rank : ℕ) → Going m (pending ++ path ∷ []) best kept closed → box_of m.shape path ≡ Some box → low ≡ low_of m.shape box → ◌≡◌ {A = Option ℕ} (Some rank) (cut_rank best low) → Going m pending best kept (closed ++ entry_of path (cause.Cut rank) ∷ [])
  close_cut pending best kept closed path box low rank g e l c =
      let s = cut_some best kept low rank c g.best_is in
      going_close pending best kept closed (entry_of path (cause.Cut rank)) g refl (record { box = box; at = e; closed = (s.0, omega (arith, s.1)) })
      (each_map (IsEntry m kept) (λ x. IsInTime m.shape x (entry_of path (cause.Cut rank))) closed (λ x h w. tt) g.entries)

  pub close_bad : (pending : List ℕ) (best : Option ℕ) (kept : List ℕ) (closed : List Closed) (path : ℕ) (box : List Run) (low : ℕ) (reason : Reason) → Going m (pending ++ path ∷ []) best kept closed → box_of m.shape path ≡ Some box → low ≡ low_of m.shape box → cut_rank best low ≡ None → m.verdict box ≡ verdict.Bad reason → m.refutes reason box ≡ true → Going m pending best kept (closed ++ entry_of path (cause.Bad reason) ∷ [])
  close_bad pending best kept closed path box low reason g e l c v s =
      going_close pending best kept closed (entry_of path (cause.Bad reason)) g refl (record { box = box; at = e; closed = (s, v) })
      (each_map (λ (x : Closed). IfLeaf x.cause (λ r. low_at m.shape path ≤ r)) (λ x. IsInTime m.shape x (entry_of path (cause.Bad reason))) closed (λ x h w. h) (late_all m best kept closed path box low g.best_is g.entries e l c))

  pub close_leaf : (pending : List ℕ) (best : Option ℕ) (kept : List ℕ) (closed : List Closed) (path : ℕ) (box : List Run) (low : ℕ) → Going m (pending ++ path ∷ []) best kept closed → box_of m.shape path ≡ Some box → IsBox m.shape box → low ≡ low_of m.shape box → cut_rank best low ≡ None → is_single box ≡ true → m.legal (lows box) ≡ true → Going m pending (Some low) (kept ++ low ∷ []) (closed ++ entry_of path (cause.Leaf low) ∷ [])
  close_leaf pending best kept closed path box low g e b l c s k =
      let own : IsLegalRank m low = record { choice = lows box; is_choice = lows_choice m.shape box b; is_legal = k; rank_is = sym l } in
      going_close pending (Some low) (kept ++ low ∷ []) closed (entry_of path (cause.Leaf low)) (going_kept (pending ++ path ∷ []) best kept closed low g c own) refl
      (record { box = box; at = e; closed = (s, sym l, member_last low kept) })
      (each_map (λ (x : Closed). IfLeaf x.cause (λ r. low_at m.shape path ≤ r)) (λ x. IsInTime m.shape x (entry_of path (cause.Leaf low))) closed (λ x h w. h) (late_all m best kept closed path box low g.best_is g.entries e l c))
