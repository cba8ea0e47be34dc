-- Each act of a worker keeps what it keeps of its boxes and places.
use Rattle.std.proofs.Common.{◌≡◌, ℕ, ◌+◌, ◌*◌, ◌^◌, ◌<◌, ◌≤◌, List, [], ◌∷◌, ◌++◌, length, Bool, true, false, Option, Some, sym, refl, ap, ◌∙◌, subst, ⊎_elim, arith, append_assoc, append-nil, length-append, lt_of_not-le}
use Rattle.std.specs.Option.{option_map_or}
use Rattle.std.proofs.Math.Pow.{pow_mono}
use Rattle.std.proofs.lemmas.Grind.{pow_more}
use mathlib.Core.Logic.{dite}
use native.Mathlib.Decide.{dec_le}
use Rattle.res_base.specs.Lists.{Each, Member}
use Rattle.res_base.proofs.ListLemmas.{each_push, each_prefix, each_map, member_left, member_right, member_split, member_last, member_one, pairs_push}
use Rattle.choice_rank.specs.declared.variable.VarShape.{VarShape}
use Rattle.choice_rank.specs.Choices.{IsShape}
use Rattle.best_word.specs.declared.word.View.{View}
use Rattle.best_word.specs.Word.{kept_more, SeesRank, SeesNone}
use Rattle.box_split.specs.Boxes.{Run, low_of}
use Rattle.box_split.specs.Paths.{box_of}
use Rattle.box_split.specs.BoxIn.{box_in}
use Rattle.box_split.proofs.RunLemmas.{positive}
use Rattle.box_split.proofs.ShortLemmas.{path_below}
use Rattle.search_api.specs.declared.outcome.Cause.{Cause}
use Rattle.search_api.specs.declared.outcome.Cause.TheVariants as cause
use Rattle.search_api.specs.declared.outcome.Closed.{Closed}
use Rattle.search_api.specs.declared.place.Place.{Place}
use Rattle.search_api.specs.Meaning.{Meaning}
use Rattle.search_api.specs.Accounts.{IsClosed, IsEntry, IsLegalRank, IfLeaf, UnlessCut, IsInTime, low_at}
use Rattle.search_api.specs.Places.{IsAt}
use Rattle.steal_worker.specs.Walks.{leaf_rank, leaf_ranks, IfCut, IsAtMost, Deep, known, IsLooked, AreClosed, Walks, Halved, in_hand, IsFound}

-- a path that a worker closed
abbrev pub entry_of : ℕ → ℕ → Cause → Closed
entry_of number path c = record { worker = number; path = path; cause = c }

pub leaf_ranks_push : (xs : List Closed) (e : Closed) → leaf_ranks (xs ++ e ∷ []) ≡ leaf_ranks xs ++ leaf_rank e.cause
leaf_ranks_push [] e = append-nil (leaf_rank e.cause)
leaf_ranks_push (x ∷ xs) e = ap (λ l. leaf_rank x.cause ++ l) (leaf_ranks_push xs e) ∙ sym (append_assoc (leaf_rank x.cause) (leaf_ranks xs) (leaf_rank e.cause))

pub low_there : (vars : List VarShape) (path : ℕ) (box : List Run) → box_of vars path ≡ Some box → low_at vars path ≡ low_of vars box
low_there vars path box at = ap (λ (o : Option (List Run)). option_map_or (λ b. low_of vars b) o 0) at

-- more known ranks leave each entry accounted for
closed_more : (m : Meaning) (old new : List ℕ) (box : List Run) (c : Cause) → ((r : ℕ) → Member r old → Member r new) → IsClosed m old box c → IsClosed m new box c
closed_more m old new box (cause.Bad reason) f h = h
closed_more m old new box (cause.Cut rank) f h = (f rank h.0, h.1)
closed_more m old new box (cause.Leaf rank) f h = (h.0, h.1, f rank h.2)

pub entry_more : (m : Meaning) (old new : List ℕ) → ((r : ℕ) → Member r old → Member r new) → (e : Closed) → IsEntry m old e → IsEntry m new e
entry_more m old new f e h = record { box = h.box; at = h.at; closed = closed_more m old new h.box e.cause f h.closed }

if_leaf : (m : Meaning) (ranks : List ℕ) (box : List Run) (c : Cause) (low : ℕ) → IsAtMost low ranks → IsClosed m ranks box c → IfLeaf c (λ rank. low ≤ rank)
if_leaf m ranks box (cause.Bad reason) low f h = tt
if_leaf m ranks box (cause.Cut rank) low f h = tt
if_leaf m ranks box (cause.Leaf rank) low f h = f rank h.2

unless_cut : (c : Cause) (P : Type 0) → P → UnlessCut c P
unless_cut (cause.Bad reason) P p = p
unless_cut (cause.Cut rank) P p = tt
unless_cut (cause.Leaf rank) P p = p

-- a box whose low is no more than any known rank is closed in time
in_time : (m : Meaning) (ranks : List ℕ) (e : Closed) → IsAtMost (low_at m.shape e.path) ranks → (xs : List Closed) → Each (IsEntry m ranks) xs → Each (λ (x : Closed). IsInTime m.shape x e) xs
in_time m ranks e f xs h = each_map (IsEntry m ranks) (λ (x : Closed). IsInTime m.shape x e) xs
    (λ x i same. unless_cut e.cause (IfLeaf x.cause (λ rank. low_at m.shape e.path ≤ rank)) (if_leaf m ranks i.box x.cause (low_at m.shape e.path) f i.closed)) h

cut_in_time : (m : Meaning) (number path rank : ℕ) (xs : List Closed) (P : Closed → Type 0) → Each P xs → Each (λ (x : Closed). IsInTime m.shape x (entry_of number path (cause.Cut rank))) xs
cut_in_time m number path rank xs P h = each_map P (λ (x : Closed). IsInTime m.shape x (entry_of number path (cause.Cut rank))) xs (λ x i same. tt) h

deep_push : (k : ℕ) (xs : List Place) (y : Place) (n : ℕ) → n ≡ k + length xs + 1 → 2 ^ n ≤ y.path → Deep k xs → Deep k (xs ++ y ∷ [])
deep_push k [] y n e le d = (subst (λ (m : ℕ). 2 ^ m ≤ y.path) (omega arith) le, tt)
deep_push k (x ∷ xs) y n e le d = (d.0, deep_push (k + 1) xs y n (omega arith) le d.1)

deep_prefix : (k : ℕ) (xs : List Place) (y : Place) → Deep k (xs ++ y ∷ []) → Deep k xs
deep_prefix k [] y d = tt
deep_prefix k (x ∷ xs) y d = (d.0, deep_prefix (k + 1) xs y d.1)

deep_last : (k : ℕ) (xs : List Place) (y : Place) (n : ℕ) → n ≡ k + length xs + 1 → Deep k (xs ++ y ∷ []) → 2 ^ n ≤ y.path
deep_last k [] y n e d = let is : k + 1 ≡ n = omega arith in subst (λ (m : ℕ). 2 ^ m ≤ y.path) is d.0
deep_last k (x ∷ xs) y n e d = deep_last (k + 1) xs y n (omega arith) d.1

deep_less : (k : ℕ) (xs : List Place) → Deep (k + 1) xs → Deep k xs
deep_less k [] d = tt
deep_less k (x ∷ xs) d = (let a = pow_more 2 (k + 1) in omega (arith, a, d.0), deep_less (k + 1) xs d.1)

deep_drop : (k : ℕ) (gone xs : List Place) → Deep k (gone ++ xs) → Deep k xs
deep_drop k [] xs d = d
deep_drop k (g ∷ gone) xs d = deep_drop k gone xs (deep_less k (gone ++ xs) d.1)

each_drop : {X : Type 0} (P : X → Type 0) (gone xs : List X) → Each P (gone ++ xs) → Each P xs
each_drop P [] xs h = h
each_drop P (g ∷ gone) xs h = each_drop P gone xs h.1

-- the private end has room for half of a box
pub room : (vars : List VarShape) → IsShape vars → (path : ℕ) (half : List Run) (held : List Place) → box_of vars (2 * path) ≡ Some half → 2 ^ (length held) ≤ path → length held < 126
room vars shape path half held at deep = dite (dec_le 126 (length held))
    (λ big. let a : 2 ^ 126 ≤ 2 ^ (length held) = pow_mono big in let b = path_below vars (2 * path) half shape at in absurd (omega arith))
    (λ not. lt_of_not-le not)

if_cut : (c : Cause) (old new : List ℕ) → ((r : ℕ) → Member r old → Member r new) → IfCut c (λ rank. Member rank old) → IfCut c (λ rank. Member rank new)
if_cut (cause.Bad reason) old new f h = tt
if_cut (cause.Cut rank) old new f h = f rank h
if_cut (cause.Leaf rank) old new f h = tt

module _ {J : Type 0} where
  pub looked_rank : (v w : View J) (n : ℕ) → SeesRank v n w → IsLooked v w
  looked_rank v w n s = subst (λ (u : View J). IsLooked v u) (sym s.0)
      (record { part = refl; kept = refl; saw = λ r x. member_left r v.saw (n ∷ []) x; loads = omega (arith, length-append v.saw (n ∷ [])) })

  pub looked_none : (v w : View J) → SeesNone v w → IsLooked v w
  looked_none v w s = subst (λ (u : View J). IsLooked v u) (sym s.0) (record { part = refl; kept = refl; saw = λ r x. x; loads = omega arith })

  pub seen_rank : (v w : View J) (n : ℕ) → SeesRank v n w → Member n w.saw
  seen_rank v w n s = subst (λ (u : View J). Member n u.saw) (sym s.0) (member_last n v.saw)

  pub most_rank : (v w : View J) (n low : ℕ) → SeesRank v n w → low ≤ n → IsAtMost low (known w)
  most_rank v w n low s le = subst (λ (u : View J). IsAtMost low (known u)) (sym s.0)
      (λ r x. ⊎_elim (λ k. omega (arith, s.1 r k, le))
      (λ y. ⊎_elim (λ k. omega (arith, s.2 r k, le)) (λ k. let e = member_one r n k in omega (arith, e, le)) (member_split r v.saw (n ∷ []) y))
      (member_split r v.kept (v.saw ++ n ∷ []) x))

  pub most_none : (v w : View J) (low : ℕ) → SeesNone v w → IsAtMost low (known w)
  most_none v w low s = subst (λ (u : View J). IsAtMost low (known u)) (sym s.0)
      (λ r x. ⊎_elim (λ k. absurd (subst (λ (l : List ℕ). Member r l) s.1 k)) (λ k. absurd (subst (λ (l : List ℕ). Member r l) s.2 k)) (member_split r v.kept v.saw x))

  known_more : (v w : View J) → w.kept ≡ v.kept → ((r : ℕ) → Member r v.saw → Member r w.saw) → (r : ℕ) → Member r (known v) → Member r (known w)
  known_more v w kept saw r x = ⊎_elim (λ k. member_left r w.kept w.saw (subst (λ (l : List ℕ). Member r l) (sym kept) k)) (λ k. member_right r w.kept w.saw (saw r k)) (member_split r v.kept v.saw x)

  module _ (m : Meaning) where
    pub closed_look : (v w : View J) (closed : List Closed) → IsLooked v w → AreClosed m v closed → AreClosed m w closed × (length closed < length w.saw + w.blank)
    closed_look v w closed l c = (
      record {
        entries = each_map (IsEntry m (known v)) (IsEntry m (known w)) closed (entry_more m (known v) (known w) (known_more v w l.kept l.saw)) c.entries;
        ranks = l.kept ∙ c.ranks;
        legal = subst (Each (IsLegalRank m)) (sym l.kept) c.legal;
        in_time = c.in_time;
        cuts = each_map (λ (e : Closed). IfCut e.cause (λ rank. Member rank v.saw)) (λ (e : Closed). IfCut e.cause (λ rank. Member rank w.saw)) closed (λ e h. if_cut e.cause v.saw w.saw l.saw h) c.cuts;
        loads = (let a = l.loads in let b = c.loads in omega arith);
      },
      (let a = l.loads in let b = c.loads in omega arith),
    )

    -- a box is closed for a cause that keeps no rank
    closed_close : (v : View J) (closed : List Closed) (e : Closed) → length closed < length v.saw + v.blank → leaf_rank e.cause ≡ [] → IsEntry m (known v) e → IfCut e.cause (λ rank. Member rank v.saw) → Each (λ (x : Closed). IsInTime m.shape x e) closed → AreClosed m v closed → AreClosed m v (closed ++ e ∷ [])
    closed_close v closed e seen none entry cut late c = record {
      entries = each_push (IsEntry m (known v)) closed e c.entries entry;
      ranks = c.ranks ∙ sym (leaf_ranks_push closed e ∙ ap (λ l. leaf_ranks closed ++ l) none ∙ append-nil (leaf_ranks closed));
      legal = c.legal;
      in_time = pairs_push (IsInTime m.shape) closed e c.in_time late;
      cuts = each_push (λ (x : Closed). IfCut x.cause (λ rank. Member rank v.saw)) closed e c.cuts cut;
      loads = omega (arith, seen, length-append closed (e ∷ []));
    }

    known_kept : (v : View J) (rank r : ℕ) → Member r (known v) → Member r (known (kept_more v rank))
    known_kept v rank r x = ⊎_elim (λ k. member_left r (v.kept ++ rank ∷ []) v.saw (member_left r v.kept (rank ∷ []) k)) (λ k. member_right r (v.kept ++ rank ∷ []) v.saw k) (member_split r v.kept v.saw x)

    -- a leaf is closed, and its rank kept
    closed_leaf : (v : View J) (closed : List Closed) (number path rank : ℕ) → length closed < length v.saw + v.blank → IsLegalRank m rank → IsEntry m (known (kept_more v rank)) (entry_of number path (cause.Leaf rank))
        → Each (λ (x : Closed). IsInTime m.shape x (entry_of number path (cause.Leaf rank))) closed → AreClosed m v closed → AreClosed m (kept_more v rank) (closed ++ entry_of number path (cause.Leaf rank) ∷ [])
    closed_leaf v closed number path rank seen legal entry late c = let e = entry_of number path (cause.Leaf rank) in record {
      entries = each_push (IsEntry m (known (kept_more v rank))) closed e (each_map (IsEntry m (known v)) (IsEntry m (known (kept_more v rank))) closed (entry_more m (known v) (known (kept_more v rank)) (known_kept v rank)) c.entries) entry;
      ranks = ap (λ l. l ++ rank ∷ []) c.ranks ∙ sym (leaf_ranks_push closed e);
      legal = each_push (IsLegalRank m) v.kept rank c.legal legal;
      in_time = pairs_push (IsInTime m.shape) closed e c.in_time late;
      cuts = each_push (λ (x : Closed). IfCut x.cause (λ r. Member r v.saw)) closed e c.cuts tt;
      loads = omega (arith, seen, length-append closed (e ∷ []));
    }

    module _ (number : ℕ) where
      -- a load
      pub walks_look : (hand : List Place) (v w : View J) (held : List Place) (closed : List Closed) → IsLooked v w → Walks m number hand v held closed → Walks m number hand w held closed × (length closed < length w.saw + w.blank)
      walks_look hand v w held closed l k = let b = closed_look v w closed l k.boxes in (record { boxes = b.0; named = k.named; part = l.part ∙ k.part; places = k.places; deep = k.deep; hands = k.hands }, b.1)

      closes : (p : Place) (v : View J) (held : List Place) (closed : List Closed) (c : Cause) → length closed < length v.saw + v.blank → leaf_rank c ≡ [] → IsEntry m (known v) (entry_of number p.path c) → IfCut c (λ rank. Member rank v.saw)
          → Each (λ (x : Closed). IsInTime m.shape x (entry_of number p.path c)) closed → Walks m number (p ∷ []) v held closed → Walks m number [] v held (closed ++ entry_of number p.path c ∷ [])
      closes p v held closed c seen none entry cut late k = let e = entry_of number p.path c in
          record { boxes = closed_close v closed e seen none entry cut late k.boxes; named = each_push (λ (x : Closed). x.worker ≡ number) closed e k.named refl; part = k.part; places = k.places; deep = k.deep; hands = tt }

      pub walks_cut : (p : Place) (v : View J) (held : List Place) (closed : List Closed) (box : List Run) (rank : ℕ) → box_of m.shape p.path ≡ Some box → length closed < length v.saw + v.blank → rank < low_of m.shape box → Member rank v.saw
          → Walks m number (p ∷ []) v held closed → Walks m number [] v held (closed ++ entry_of number p.path (cause.Cut rank) ∷ [])
      walks_cut p v held closed box rank at seen low saw k =
          closes p v held closed (cause.Cut rank) seen refl (record { box = box; at = at; closed = (member_right rank v.kept v.saw saw, low) }) saw (cut_in_time m number p.path rank closed (IsEntry m (known v)) k.boxes.entries) k

      late : (p : Place) (v : View J) (closed : List Closed) (c : Cause) (box : List Run) → box_of m.shape p.path ≡ Some box → IsAtMost (low_of m.shape box) (known v) → Each (IsEntry m (known v)) closed → Each (λ (x : Closed). IsInTime m.shape x (entry_of number p.path c)) closed
      late p v closed c box at most entries = in_time m (known v) (entry_of number p.path c) (subst (λ (n : ℕ). IsAtMost n (known v)) (sym (low_there m.shape p.path box at)) most) closed entries

      pub walks_close : (p : Place) (v : View J) (held : List Place) (closed : List Closed) (box : List Run) (c : Cause) → box_of m.shape p.path ≡ Some box → length closed < length v.saw + v.blank → leaf_rank c ≡ [] → IsClosed m (known v) box c → IfCut c (λ rank. Member rank v.saw) → IsAtMost (low_of m.shape box) (known v)
          → Walks m number (p ∷ []) v held closed → Walks m number [] v held (closed ++ entry_of number p.path c ∷ [])
      walks_close p v held closed box c at seen none why cut most k = closes p v held closed c seen none (record { box = box; at = at; closed = why }) cut (late p v closed c box at most k.boxes.entries) k

      pub walks_leaf : (p : Place) (v : View J) (held : List Place) (closed : List Closed) (box : List Run) (rank : ℕ) → box_of m.shape p.path ≡ Some box → length closed < length v.saw + v.blank → IsLegalRank m rank → IsClosed m (rank ∷ []) box (cause.Leaf rank) → IsAtMost (low_of m.shape box) (known v)
          → Walks m number (p ∷ []) v held closed → Walks m number [] (kept_more v rank) held (closed ++ entry_of number p.path (cause.Leaf rank) ∷ [])
      walks_leaf p v held closed box rank at seen legal why most k = let e = entry_of number p.path (cause.Leaf rank) in record {
        boxes = closed_leaf v closed number p.path rank seen legal (record { box = box; at = at; closed = (why.0, why.1, member_left rank (v.kept ++ rank ∷ []) v.saw (member_last rank v.kept)) }) (late p v closed (cause.Leaf rank) box at most k.boxes.entries) k.boxes;
        named = each_push (λ (x : Closed). x.worker ≡ number) closed e k.named refl;
        part = k.part;
        places = k.places;
        deep = k.deep;
        hands = tt;
      }

      -- the box in hand is split
      pub walks_halve : (p lower : Place) (v : View J) (held new : List Place) (closed : List Closed) → Halved m.shape p lower held new → Walks m number (p ∷ []) v held closed → Walks m number (lower ∷ []) v new closed
      walks_halve p lower v held new closed s k =
          let h = k.hands.0.1 in
          let a = pow_more 2 (length held) in
          let twice : (n : ℕ) → n ≡ length held + 1 → 2 ^ n ≤ 2 * p.path = λ n e. subst (λ (i : ℕ). 2 ^ i ≤ 2 * p.path) (sym e) (omega (arith, a, h)) in
          let count : length new ≡ length held + 1 = ap length s.pushed ∙ length-append held (s.upper ∷ []) in
          record {
            boxes = k.boxes;
            named = k.named;
            part = k.part;
            places = subst (Each (IsAt m.shape)) (sym s.pushed) (each_push (IsAt m.shape) held s.upper k.places s.upper_at);
            deep = subst (Deep 0) (sym s.pushed) (deep_push 0 held s.upper (length held + 1) (omega arith) (let t = twice (length held + 1) refl in let u = s.upper_path in omega (arith, t, u)) k.deep);
            hands = ((s.lower_at, subst (λ (q : ℕ). 2 ^ (length new) ≤ q) (sym s.lower_path) (twice (length new) count)), tt);
          }

      -- the next place of the private end comes to the hand
      pub walks_pop : (p : Place) (v : View J) (old held : List Place) (closed : List Closed) → old ≡ held ++ p ∷ [] → Walks m number [] v old closed → Walks m number (p ∷ []) v held closed
      walks_pop p v old held closed is k =
          let places = each_prefix (IsAt m.shape) held p (subst (Each (IsAt m.shape)) is k.places) in
          let deep : Deep 0 (held ++ p ∷ []) = subst (Deep 0) is k.deep in
          let a = pow_more 2 (length held) in
          let d = deep_last 0 held p (length held + 1) (omega arith) deep in
          record { boxes = k.boxes; named = k.named; part = k.part; places = places.0; deep = deep_prefix 0 held p deep; hands = ((places.1, omega (arith, a, d)), tt) }

      -- a place comes from a deque to a worker that holds none
      pub walks_take : (p : Place) (v : View J) (held : List Place) (closed : List Closed) → held ≡ [] → IsAt m.shape p → 1 ≤ p.path → Walks m number [] v held closed → Walks m number (p ∷ []) v held closed
      walks_take p v held closed none at pos k = record { boxes = k.boxes; named = k.named; part = k.part; places = k.places; deep = k.deep; hands = ((at, subst (λ (l : List Place). 2 ^ (length l) ≤ p.path) (sym none) pos), tt) }

      -- places of the private end go
      pub walks_share : (hand gone : List Place) (v : View J) (old held : List Place) (closed : List Closed) → old ≡ gone ++ held → Walks m number hand v old closed → Walks m number hand v held closed
      walks_share hand gone v old held closed is k =
          let less : length held ≤ length old = omega (arith, ap length is, length-append gone held) in
          let down : 2 ^ (length held) ≤ 2 ^ (length old) = pow_mono less in
          record {
            boxes = k.boxes;
            named = k.named;
            part = k.part;
            places = each_drop (IsAt m.shape) gone held (subst (Each (IsAt m.shape)) is k.places);
            deep = deep_drop 0 gone held (subst (Deep 0) is k.deep);
            hands = each_map (λ (p : Place). IsAt m.shape p × (2 ^ (length old) ≤ p.path)) (λ (p : Place). IsAt m.shape p × (2 ^ (length held) ≤ p.path)) hand (λ p h. (h.0, omega (arith, down, h.1))) k.hands;
          }

      -- the path that a worker without places found, if it is one
      pub walks_found : (x : ℕ) (r : Bool) (p : Place) (v : View J) (held : List Place) (closed : List Closed) → IsFound m.shape x r p → held ≡ [] → Walks m number [] v held closed → Walks m number (in_hand r p) v held closed
      walks_found x false p v held closed f none k = k
      walks_found x true p v held closed f none k = walks_take p v held closed none f.1 (positive m.shape p.path (box_in m.shape p.b) f.1) k

    pub walks_same : (n n' : ℕ) (hand hand' : List Place) (v v' : View J) (held held' : List Place) (closed closed' : List Closed) → n' ≡ n → hand' ≡ hand → v' ≡ v → held' ≡ held → closed' ≡ closed → Walks m n hand v held closed → Walks m n' hand' v' held' closed'
    walks_same n n' hand hand' v v' held held' closed closed' en eh ev ep ec k =
        subst (λ (x : ℕ). Walks m x hand' v' held' closed') (sym en)
        (subst (λ (x : List Place). Walks m n x v' held' closed') (sym eh)
        (subst (λ (x : View J). Walks m n hand x held' closed') (sym ev)
        (subst (λ (x : List Place). Walks m n hand v x closed') (sym ep)
        (subst (λ (x : List Closed). Walks m n hand v held x) (sym ec) k))))
