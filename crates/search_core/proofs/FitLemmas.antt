-- Each event keeps what holds of a core.
use Rattle.std.proofs.Common.{◌≡◌, ℕ, ◌+◌, ◌*◌, List, [], ◌∷◌, ◌++◌, set, true, Option, Some, None, inl, inr, refl, sym, subst, ap, ◌∙◌, arith}
use Rattle.std.specs.Prelude.{IsSome, slice_get}
use Rattle.std.specs.Option.{option_to_list}
use Rattle.std.proofs.lemmas.List.{length-set}
use Rattle.res_base.specs.Lists.{Member, total}
use Rattle.res_base.proofs.ListLemmas.{each_in, each_map, each_push, member_left, member_right, member_last, member_one, member_split, total_snoc}
use Rattle.choice_rank.proofs.ChoiceLemmas.{rank_same}
use Rattle.box_split.specs.Boxes.{Run, IsBox, is_single, lows, low_of}
use Rattle.box_split.specs.Paths.{covers}
use Rattle.box_split.proofs.PathLemmas.{path_box, lows_choice}
use Rattle.box_split.proofs.PrefixLemmas.{counted, lows_held}
use Rattle.search_api.specs.declared.verdict.Verdict.TheVariants as verdict
use Rattle.search_api.specs.declared.outcome.Cause.{Cause}
use Rattle.search_api.specs.declared.outcome.Cause.TheVariants as cause
use Rattle.search_api.specs.declared.outcome.Closed.{Closed}
use Rattle.search_api.specs.Meaning.{Meaning, IsLawful}
use Rattle.search_api.specs.Accounts.{IsClosed, IsEntry, IsLegalRank, OpenAbove}
use Rattle.search_core.specs.declared.state.Hand.{Hand}
use Rattle.search_core.specs.declared.state.Core.{Core}
use Rattle.search_core.specs.Events.{Holds, Pops, Steals, Sees, Cuts, ClosesBad, Splits, Keeps, Offers, with_deque, with_closed, with_path, least_of}
use Rattle.search_core.specs.Fits.{Fits, IsSeen, entries, owed, leaf_rank, leaf_ranks}
use Rattle.search_core.proofs.ChangeLemmas.{each_get, each_put, flat_put, part_get, part_of, total_flat, total_put}
use Rattle.search_core.proofs.EntryLemmas.{AreEntries, in_hand, weigh, weigh_deque, weigh_closed, path_member, entries_same, entries_moved, entries_split}
use Rattle.search_core.proofs.RankLemmas.{AreRanks, ranks_keep, ranks_offer, ranks_same, seen_more, seen_less, seen_word}

pub not_some : (o : Option ℕ) → o ≡ None → IsSome o → ⊥
not_some None e s = cc
not_some (Some x) e s = cc

some_not : (o : Option ℕ) (x : ℕ) → o ≡ None → o ≡ Some x → ⊥
some_not None x e s = cc
some_not (Some y) x e s = cc

-- the weight of a hand with this path, and of one with none
held_weight : (h : ℕ → ℕ) (k : Hand) (path : ℕ) → k.path ≡ Some path → in_hand h k ≡ h path
held_weight h k path e = omega (arith, ap (λ (o : Option ℕ). total h (option_to_list o)) e)

free_weight : (h : ℕ → ℕ) (k : Hand) → k.path ≡ None → in_hand h k ≡ 0
free_weight h k e = ap (λ (o : Option ℕ). total h (option_to_list o)) e

leaf_cause : (c : Cause) (r : ℕ) → Member r (option_to_list (leaf_rank c)) → c ≡ cause.Leaf r
leaf_cause (cause.Bad reason) r i = absurd i
leaf_cause (cause.Cut rank) r i = absurd i
leaf_cause (cause.Leaf rank) r i = ap cause.Leaf (sym (member_one r rank i))

-- the closed box that a leaf's rank is of
leaf_of : (closed : List Closed) (r : ℕ) → Member r (leaf_ranks closed) → (e : Closed) × Member e closed × (e.cause ≡ cause.Leaf r)
leaf_of [] r i = absurd i
leaf_of (e ∷ es) r i = elim (member_split r (option_to_list (leaf_rank e.cause)) (leaf_ranks es) i) [
  | inl a ↦ (e, inl refl, leaf_cause e.cause r a)
  | inr b ↦ let k = leaf_of es r b in (k.0, inr k.1, k.2)
]

leaves_push : (closed : List Closed) (e : Closed) (r : ℕ) → Member r (leaf_ranks closed) → Member r (leaf_ranks (closed ++ e ∷ []))
leaves_push [] e r i = absurd i
leaves_push (x ∷ xs) e r i = elim (member_split r (option_to_list (leaf_rank x.cause)) (leaf_ranks xs) i) [
  | inl a ↦ member_left r (option_to_list (leaf_rank x.cause)) (leaf_ranks (xs ++ e ∷ [])) a
  | inr b ↦ member_right r (option_to_list (leaf_rank x.cause)) (leaf_ranks (xs ++ e ∷ [])) (leaves_push xs e r b)
]

leaves_last : (closed : List Closed) (w path r : ℕ) → Member r (leaf_ranks (closed ++ record { worker = w; path = path; cause = cause.Leaf r } ∷ []))
leaves_last [] w path r = inl refl
leaves_last (x ∷ xs) w path r = member_right r (option_to_list (leaf_rank x.cause)) (leaf_ranks (xs ++ record { worker = w; path = path; cause = cause.Leaf r } ∷ [])) (leaves_last xs w path r)

-- a hand that owes nothing adds nothing to what is owed
no_debt : (g : ℕ → ℕ) (k : Hand) → (IsSome k.owed → ⊥) → total g (option_to_list k.owed) ≡ 0
no_debt g k free = none_weight k.owed free
  where
    none_weight : (o : Option ℕ) → (IsSome o → ⊥) → total g (option_to_list o) ≡ 0
    none_weight None free = refl
    none_weight (Some x) free = absurd (free refl)

module _ (m : Meaning) where
  -- more kept ranks leave each entry accounted for
  closed_more : (kept more : List ℕ) (box : List Run) (c : Cause) → IsClosed m kept box c → IsClosed m (kept ++ more) box c
  closed_more kept more box (cause.Bad reason) h = h
  closed_more kept more box (cause.Cut rank) h = (member_left rank kept more h.0, h.1)
  closed_more kept more box (cause.Leaf rank) h = (h.0, h.1, member_left rank kept more h.2)

  entry_more : (kept more : List ℕ) (e : Closed) → IsEntry m kept e → IsEntry m (kept ++ more) e
  entry_more kept more e h = record { box = h.box; at = h.at; closed = closed_more kept more h.box e.cause h.closed }

  of_entries : (c : Core) → Fits m c → AreEntries m (entries c)
  of_entries c f = record { cover = f.cover; are_paths = f.paths; open_above = f.open_above }

  of_ranks : (c : Core) → Fits m c → AreRanks c.kept (owed c.hands) c.word
  of_ranks c f = record { owed_kept = f.owed_kept; owed_once = f.owed_once; kept_once = f.kept_once; word_is = f.word }

  -- a path is put into a hand, or in another's place there, and a deque changes
  moved_fits : (c : Core) (v w : ℕ) (d e : List ℕ) (hand : Hand) (path : ℕ) → slice_get c.deques v ≡ Some d → slice_get c.hands w ≡ Some hand → (IsSome hand.owed → ⊥) → AreEntries m (entries (with_deque c v e w (with_path hand (Some path)))) → Fits m c → Fits m (with_deque c v e w (with_path hand (Some path)))
  moved_fits c v w d e hand path at own free a f =
      let new = with_path hand (Some path) in
      let r = ranks_same c.kept (owed c.hands) (owed (set c.hands w new)) c.word (of_ranks c f) (flat_put (λ (k : Hand). option_to_list k.owed) c.hands w hand new own refl) in
      record {
        workers = length-set c.hands w new ∙ f.workers ∙ sym (length-set c.deques v e);
        cover = a.cover;
        paths = a.are_paths;
        owing = each_put (λ (h : Hand). IsSome h.owed → h.path ≡ None) c.hands w new f.owing (λ s. absurd (free s));
        owed_kept = r.owed_kept;
        owed_once = r.owed_once;
        word = r.word_is;
        seen = each_put (λ (h : Hand). IsSeen c.kept c.word h.seen) c.hands w new f.seen (each_get (λ (h : Hand). IsSeen c.kept c.word h.seen) c.hands w hand f.seen own);
        closed = f.closed;
        legal = f.legal;
        kept_once = r.kept_once;
        leaves = f.leaves;
        open_above = a.open_above;
      }

  pub pop_fits : (c new : Core) (w : ℕ) → Pops c w new → Fits m c → Fits m new
  pop_fits c new w p f =
      let d = p.rest ++ p.path ∷ [] in
      let k = with_path p.hand (Some p.path) in
      subst (Fits m) (sym p.new_is)
      (moved_fits c w w d p.rest p.hand p.path p.has_deque p.has_hand (not_some p.hand.owed p.idle.1)
      (entries_moved m (entries c) (entries (with_deque c w p.rest w k)) (λ h. omega (arith, weigh_deque h c w w d p.rest p.hand k p.has_deque p.has_hand, total_snoc h p.rest p.path, free_weight h p.hand p.idle.0, held_weight h k p.path refl)) (of_entries c f)) f)

  pub steal_fits : (c new : Core) (w from : ℕ) → Steals c w from new → Fits m c → Fits m new
  steal_fits c new w from p f =
      let d = p.path ∷ p.rest in
      let k = with_path p.hand (Some p.path) in
      subst (Fits m) (sym p.new_is)
      (moved_fits c from w d p.rest p.hand p.path p.has_deque p.has_hand (not_some p.hand.owed p.idle.1)
      (entries_moved m (entries c) (entries (with_deque c from p.rest w k)) (λ h. omega (arith, weigh_deque h c from w d p.rest p.hand k p.has_deque p.has_hand, free_weight h p.hand p.idle.0, held_weight h k p.path refl)) (of_entries c f)) f)

  -- a hand with a path owes nothing
  owes_nothing : (c : Core) (w : ℕ) (hand : Hand) (path : ℕ) (box : List Run) → Holds m c w hand path box → Fits m c → IsSome hand.owed → ⊥
  owes_nothing c w hand path box h f s = some_not hand.path path (each_get (λ (k : Hand). IsSome k.owed → k.path ≡ None) c.hands w hand f.owing h.has_hand s) h.has_path

  -- a hand's path is among the entries
  path_open : (c : Core) (w : ℕ) (hand : Hand) (path : ℕ) (box : List Run) → Holds m c w hand path box → Fits m c → OpenAbove m path
  path_open c w hand path box h f = each_in (OpenAbove m) path (entries c) f.open_above (path_member c w hand path h.has_hand h.has_path)

  module _ (lawful : IsLawful m) where
    box_is : (c : Core) (w : ℕ) (hand : Hand) (path : ℕ) (box : List Run) → Holds m c w hand path box → IsBox m.shape box
    box_is c w hand path box h = path_box m.shape path box lawful.is_shape.positions h.has_box

    pub split_fits : (c new : Core) (w : ℕ) → Splits m c w new → Fits m c → Fits m new
    split_fits c new w p f =
        let e = p.deque ++ (2 * p.path + 1) ∷ [] in
        let k = with_path p.hand (Some (2 * p.path)) in
        let two = lawful.open_has_two p.box (box_is c w p.hand p.path p.box p.holds) p.judged in
        subst (Fits m) (sym p.new_is)
        (moved_fits c w w p.deque e p.hand (2 * p.path) p.has_deque p.holds.has_hand (owes_nothing c w p.hand p.path p.box p.holds f)
        (entries_split m (entries c) (entries (with_deque c w e w k)) p.path p.box
        (λ h. omega (arith, weigh_deque h c w w p.deque e p.hand k p.has_deque p.holds.has_hand, total_snoc h p.deque (2 * p.path + 1), held_weight h p.hand p.path p.holds.has_path, held_weight h k (2 * p.path) refl))
        p.holds.has_box two p.judged (path_open c w p.hand p.path p.box p.holds f) (of_entries c f)) f)

    -- what was kept before a leaf was closed is not the rank of its choice
    is_fresh : (c : Core) (w : ℕ) (hand : Hand) (path : ℕ) (box : List Run) (rank : ℕ) → Holds m c w hand path box → is_single box ≡ true → rank ≡ low_of m.shape box → Fits m c → Member rank c.kept → ⊥
    is_fresh c w hand path box rank h one low f i =
        let vs = m.shape in
        let leaf = leaf_of c.closed rank (each_in (λ r. Member r (leaf_ranks c.closed)) rank c.kept f.leaves i) in
        let entry = each_in (IsEntry m c.kept) leaf.0 c.closed f.closed leaf.1 in
        let other : IsClosed m c.kept entry.box (cause.Leaf rank) = subst (IsClosed m c.kept entry.box) leaf.2 entry.closed in
        let b = box_is c w hand path box h in
        let d = path_box vs leaf.0.path entry.box lawful.is_shape.positions entry.at in
        let choice = lows box in
        let same : lows entry.box ≡ choice = rank_same vs (lows entry.box) choice (lows_choice vs entry.box d) (lows_choice vs box b) (other.1 ∙ low) in
        let mine = counted vs choice path box h.has_box (lows_held vs box b) in
        let its = subst (λ x. covers vs leaf.0.path x ≡ 1) same (counted vs (lows entry.box) leaf.0.path entry.box entry.at (lows_held vs entry.box d)) in
        let g : ℕ → ℕ = λ p. covers vs p choice in
        absurd (omega (arith, f.cover choice (lows_choice vs box b), weigh g c, part_get (in_hand g) c.hands w hand h.has_hand, held_weight g hand path h.has_path, part_of (λ (e : Closed). g e.path) leaf.0 c.closed leaf.1, mine, its))

    -- the path of a hand is closed for a cause
    closed_fits : (c : Core) (w : ℕ) (hand : Hand) (path : ℕ) (box : List Run) (why : Cause) → Holds m c w hand path box → IsClosed m c.kept box why → Fits m c → Fits m (with_closed c w (with_path hand None) path why c.kept)
    closed_fits c w hand path box why h k f =
        let new = with_path hand None in
        let e : Closed = record { worker = w; path = path; cause = why } in
        let own = h.has_hand in
        let r = ranks_same c.kept (owed c.hands) (owed (set c.hands w new)) c.word (of_ranks c f) (flat_put (λ (x : Hand). option_to_list x.owed) c.hands w hand new own refl) in
        let a = entries_moved m (entries c) (entries (with_closed c w new path why c.kept)) (λ g. omega (arith, weigh_closed g c w hand new path why c.kept own, held_weight g hand path h.has_path, free_weight g new refl)) (of_entries c f) in
        record {
          workers = length-set c.hands w new ∙ f.workers;
          cover = a.cover;
          paths = a.are_paths;
          owing = each_put (λ (x : Hand). IsSome x.owed → x.path ≡ None) c.hands w new f.owing (λ s. refl);
          owed_kept = r.owed_kept;
          owed_once = r.owed_once;
          word = r.word_is;
          seen = each_put (λ (x : Hand). IsSeen c.kept c.word x.seen) c.hands w new f.seen (each_get (λ (x : Hand). IsSeen c.kept c.word x.seen) c.hands w hand f.seen own);
          closed = each_push (IsEntry m c.kept) c.closed e f.closed (record { box = box; at = h.has_box; closed = k });
          legal = f.legal;
          kept_once = r.kept_once;
          leaves = each_map (λ x. Member x (leaf_ranks c.closed)) (λ x. Member x (leaf_ranks (c.closed ++ e ∷ []))) c.kept (λ x i. leaves_push c.closed e x i) f.leaves;
          open_above = a.open_above;
        }

    pub cut_fits : (c new : Core) (w : ℕ) → Cuts m c w new → Fits m c → Fits m new
    cut_fits c new w p f =
        let saw : IsSeen c.kept c.word (Some p.rank) = subst (IsSeen c.kept c.word) p.saw (each_get (λ (x : Hand). IsSeen c.kept c.word x.seen) c.hands w p.hand f.seen p.holds.has_hand) in
        subst (Fits m) (sym p.new_is) (closed_fits c w p.hand p.path p.box (cause.Cut p.rank) p.holds (saw.0, p.below) f)

    pub bad_fits : (c new : Core) (w : ℕ) → ClosesBad m c w new → Fits m c → Fits m new
    bad_fits c new w p f =
        subst (Fits m) (sym p.new_is) (closed_fits c w p.hand p.path p.box (cause.Bad p.reason) p.holds (lawful.bad_refutes p.reason p.box (box_is c w p.hand p.path p.box p.holds) p.judged, p.judged) f)

    pub keep_fits : (c new : Core) (w : ℕ) → Keeps m c w new → Fits m c → Fits m new
    keep_fits c new w p f = subst (Fits m) (sym p.new_is) (kept_fits c w p.hand p.path p.box p.rank p.holds p.judged p.rank_is f)
      where
        kept_fits : (c : Core) (w : ℕ) (hand : Hand) (path : ℕ) (box : List Run) (rank : ℕ) → Holds m c w hand path box → m.verdict box ≡ verdict.Legal → rank ≡ low_of m.shape box → Fits m c → Fits m (with_closed c w (record { path = None; seen = hand.seen; owed = Some rank }) path (cause.Leaf rank) (c.kept ++ rank ∷ []))
        kept_fits c w hand path box rank h judged low f =
            let b = box_is c w hand path box h in
            let one = lawful.legal_is_one box b judged in
            let new : Hand = record { path = None; seen = hand.seen; owed = Some rank } in
            let e : Closed = record { worker = w; path = path; cause = cause.Leaf rank } in
            let kept = c.kept ++ rank ∷ [] in
            let own = h.has_hand in
            let debt : Hand → List ℕ = λ x. option_to_list x.owed in
            let weight : (g : ℕ → ℕ) → total g (owed (set c.hands w new)) ≡ total g (owed c.hands) + g rank = λ g. omega (arith, total_flat g debt (set c.hands w new), total_flat g debt c.hands, total_put (λ x. total g (debt x)) c.hands w hand new own, no_debt g hand (owes_nothing c w hand path box h f)) in
            let r = ranks_keep c.kept (owed c.hands) (owed (set c.hands w new)) c.word rank (of_ranks c f) (is_fresh c w hand path box rank h one.0 low f) weight in
            let a = entries_moved m (entries c) (entries (with_closed c w new path (cause.Leaf rank) kept)) (λ g. omega (arith, weigh_closed g c w hand new path (cause.Leaf rank) kept own, held_weight g hand path h.has_path, free_weight g new refl)) (of_entries c f) in
            let more = each_map (λ (x : Hand). IsSeen c.kept c.word x.seen) (λ (x : Hand). IsSeen kept c.word x.seen) c.hands (λ x s. seen_more c.kept (rank ∷ []) c.word x.seen s) f.seen in
            let legal : IsLegalRank m rank = record { choice = lows box; is_choice = lows_choice m.shape box b; is_legal = one.1; rank_is = sym low } in
            record {
              workers = length-set c.hands w new ∙ f.workers;
              cover = a.cover;
              paths = a.are_paths;
              owing = each_put (λ (x : Hand). IsSome x.owed → x.path ≡ None) c.hands w new f.owing (λ s. refl);
              owed_kept = r.owed_kept;
              owed_once = r.owed_once;
              word = r.word_is;
              seen = each_put (λ (x : Hand). IsSeen kept c.word x.seen) c.hands w new more (each_get (λ (x : Hand). IsSeen kept c.word x.seen) c.hands w hand more own);
              closed = each_push (IsEntry m kept) c.closed e (each_map (IsEntry m c.kept) (IsEntry m kept) c.closed (entry_more c.kept (rank ∷ [])) f.closed) (record { box = box; at = h.has_box; closed = (one.0, sym low, member_last rank c.kept) });
              legal = each_push (IsLegalRank m) c.kept rank f.legal legal;
              kept_once = r.kept_once;
              leaves = each_push (λ x. Member x (leaf_ranks (c.closed ++ e ∷ []))) c.kept rank (each_map (λ x. Member x (leaf_ranks c.closed)) (λ x. Member x (leaf_ranks (c.closed ++ e ∷ []))) c.kept (λ x i. leaves_push c.closed e x i) f.leaves) (leaves_last c.closed w path rank);
              open_above = a.open_above;
            }

  pub see_fits : (c new : Core) (w : ℕ) → Sees c w new → Fits m c → Fits m new
  see_fits c new w p f =
      let k : Hand = record { path = p.hand.path; seen = c.word; owed = p.hand.owed } in
      let a = subst (AreEntries m) (sym (entries_same c w p.hand k c.word p.has_hand refl)) (of_entries c f) in
      let r = ranks_same c.kept (owed c.hands) (owed (set c.hands w k)) c.word (of_ranks c f) (flat_put (λ (x : Hand). option_to_list x.owed) c.hands w p.hand k p.has_hand refl) in
      subst (Fits m) (sym p.new_is)
      (record {
        workers = length-set c.hands w k ∙ f.workers;
        cover = a.cover;
        paths = a.are_paths;
        owing = each_put (λ (x : Hand). IsSome x.owed → x.path ≡ None) c.hands w k f.owing (each_get (λ (x : Hand). IsSome x.owed → x.path ≡ None) c.hands w p.hand f.owing p.has_hand);
        owed_kept = r.owed_kept;
        owed_once = r.owed_once;
        word = r.word_is;
        seen = each_put (λ (x : Hand). IsSeen c.kept c.word x.seen) c.hands w k f.seen (seen_word c.kept (owed c.hands) c.word f.word);
        closed = f.closed;
        legal = f.legal;
        kept_once = r.kept_once;
        leaves = f.leaves;
        open_above = a.open_above;
      })

  pub offer_fits : (c new : Core) (w : ℕ) → Offers c w new → Fits m c → Fits m new
  offer_fits c new w p f =
      let k : Hand = record { path = p.hand.path; seen = p.hand.seen; owed = None } in
      let word = least_of c.word p.rank in
      let a = subst (AreEntries m) (sym (entries_same c w p.hand k word p.has_hand refl)) (of_entries c f) in
      let debt : Hand → List ℕ = λ x. option_to_list x.owed in
      let weight : (g : ℕ → ℕ) → total g (owed (set c.hands w k)) + g p.rank ≡ total g (owed c.hands) = λ g. omega (arith, total_flat g debt (set c.hands w k), total_flat g debt c.hands, total_put (λ x. total g (debt x)) c.hands w p.hand k p.has_hand, ap (λ (o : Option ℕ). total g (option_to_list o)) p.owes) in
      let r = ranks_offer c.kept (owed c.hands) (owed (set c.hands w k)) c.word p.rank (of_ranks c f) weight in
      let less = each_map (λ (x : Hand). IsSeen c.kept c.word x.seen) (λ (x : Hand). IsSeen c.kept word x.seen) c.hands (λ x s. seen_less c.kept p.rank c.word x.seen s) f.seen in
      subst (Fits m) (sym p.new_is)
      (record {
        workers = length-set c.hands w k ∙ f.workers;
        cover = a.cover;
        paths = a.are_paths;
        owing = each_put (λ (x : Hand). IsSome x.owed → x.path ≡ None) c.hands w k f.owing (λ s. absurd (not_some None refl s));
        owed_kept = r.owed_kept;
        owed_once = r.owed_once;
        word = r.word_is;
        seen = each_put (λ (x : Hand). IsSeen c.kept word x.seen) c.hands w k less (each_get (λ (x : Hand). IsSeen c.kept word x.seen) c.hands w p.hand less p.has_hand);
        closed = f.closed;
        legal = f.legal;
        kept_once = r.kept_once;
        leaves = f.leaves;
        open_above = a.open_above;
      })
